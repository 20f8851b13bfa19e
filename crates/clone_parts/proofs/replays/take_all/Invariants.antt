use Rattle.clone_parts.proofs.Replaying.{IsReplaying}
use Rattle.clone_parts.proofs.replays.take_all.Given as goal

abbrev pub invariant-loop-entry : goal.invariant-loop-entry
invariant-loop-entry l = IsReplaying l.initial.clock.ticks l.initial.pairs.pairs l.entries l.entry-index l.clock.ticks l.pairs.pairs
