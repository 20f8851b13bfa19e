use Rattle.std.proofs.Common.{◌≡◌, take}
use Rattle.mld_ops.specs.Held.{ranges_of}
use Rattle.net_world.proofs.summaries.ranges_of.Given as goal

abbrev pub invariant-loop-entry : goal.invariant-loop-entry
invariant-loop-entry l = l.ranges.items ≡ ranges_of (take l.entry-index l.entries)
