use Rattle.std.proofs.Common.{◌≡◌, ◌++◌, take}
use Rattle.schedule_replies.proofs.pieces.push_path.Given as goal

abbrev pub invariant-loop-place : goal.invariant-loop-place
invariant-loop-place l = l.out.items ≡ l.initial.out.items ++ take l.place l.path
