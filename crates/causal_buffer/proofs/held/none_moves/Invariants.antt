use Rattle.std.proofs.Common.{take}
use Rattle.mld_ops.specs.Picking.{HasNone}
use Rattle.mld_ops.specs.Ready.{IsKnownEntry, IsReadyEntry}
use Rattle.causal_buffer.proofs.held.none_moves.Given as goal

abbrev pub invariant-loop-entry : goal.invariant-loop-entry
invariant-loop-entry l =
    HasNone (IsKnownEntry l.known.ticks) (take l.entry-index l.entries) × HasNone (IsReadyEntry l.known.ticks) (take l.entry-index l.entries)
