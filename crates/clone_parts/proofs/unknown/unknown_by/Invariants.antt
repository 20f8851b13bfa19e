use Rattle.std.proofs.Common.{take}
use Rattle.clone_parts.specs.Carrying.{CarryUnknown}
use Rattle.clone_parts.proofs.unknown.unknown_by.Given as goal

abbrev pub invariant-loop-entry : goal.invariant-loop-entry
invariant-loop-entry l = CarryUnknown l.known.ticks (take l.entry-index l.entries) l.messages.items
