use Rattle.clone_history.proofs.TakingLaws.{IsTaking}
use Rattle.clone_history.proofs.taking.take_within.Given as goal

abbrev pub invariant-loop-entry : goal.invariant-loop-entry
invariant-loop-entry l = IsTaking l.clock.ticks l.initial.own.ticks l.initial.pairs.pairs l.entries l.entry-index l.own.ticks l.pairs.pairs
