use Rattle.std.proofs.Common.{◌≡◌, ◌++◌, ◌≤◌, length, take}
use Rattle.std.specs.List.{flat_map}
use Rattle.schedule_model.specs.ReplyText.{pair_line}
use Rattle.schedule_replies.proofs.replies.push_lines.Given as goal

abbrev pub invariant-loop-place : goal.invariant-loop-place
invariant-loop-place l =
    (l.out.items ≡ l.initial.out.items ++ flat_map pair_line (take l.place l.pairs)) × (l.place ≤ length l.pairs)
