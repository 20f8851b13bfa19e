use Rattle.std.proofs.Common.{length, ◌+◌}
use Rattle.suset.specs.StateJoin.{StaysInJoin}
use Rattle.suset.proofs.Walking.{IsWalking}
use Rattle.suset.proofs.joins.joined.Given as goal

abbrev pub invariant-loop-step : goal.invariant-loop-step
invariant-loop-step l = IsWalking (StaysInJoin l.own.ticks l.fn.mine l.fn.other l.theirs.ticks) l.fn.mine l.fn.other l.mine l.other l.new.items

abbrev pub decreases-loop-step : goal.decreases-loop-step
decreases-loop-step l = length l.mine + length l.other
