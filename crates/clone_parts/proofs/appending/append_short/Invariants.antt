use Rattle.clone_parts.proofs.Appended.{IsAppendingAll}
use Rattle.clone_parts.proofs.appending.append_short.Given as goal

abbrev pub invariant-loop-entry : goal.invariant-loop-entry
invariant-loop-entry g l = IsAppendingAll g.B.Banks.log g.B.Banks.meter l.entries l.initial.journal l.done l.entry-index l.journal l.begun
