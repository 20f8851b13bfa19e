use Rattle.std.proofs.Common.{◌≡◌, take}
use Rattle.mld_ops.specs.Held.{ranges_of}
use Rattle.causal_buffer.proofs.held.ranges_in.Given as goal

abbrev pub invariant-loop-entry : goal.invariant-loop-entry
invariant-loop-entry l = l.ranges ≡ ranges_of (take l.entry-index l.entries)
