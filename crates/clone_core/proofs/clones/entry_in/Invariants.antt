use Rattle.std.proofs.Common.{take}
use Rattle.clone_core.specs.CloneCalls.{LacksRange}
use Rattle.clone_core.proofs.clones.entry_in.Given as goal

abbrev pub invariant-loop-entry : goal.invariant-loop-entry
invariant-loop-entry l = LacksRange (take l.entry-index l.entries) l.range
