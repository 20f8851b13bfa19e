use Rattle.std.proofs.Common.{◌≡◌, ◌++◌, ◌-◌, ◌≤◌, max}
use Rattle.std.specs.List.{flat_map, range_with_len}
use Rattle.schedule_model.specs.ReplyText.{spaced_message}
use Rattle.schedule_replies.proofs.replies.push_answered.Given as goal

abbrev pub invariant-loop-number : goal.invariant-loop-number
invariant-loop-number l =
    (l.out.items ≡ l.initial.out.items ++ flat_map spaced_message (range_with_len l.fn.first (l.number - l.fn.first))) × (l.fn.first ≤ l.number) × (l.number ≤ max l.fn.first l.fn.end)
