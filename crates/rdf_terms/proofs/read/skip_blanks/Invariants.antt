use Rattle.std.proofs.Common.{length, ◌≤◌}
use Rattle.rdf_terms.specs.TripleReading.{State, Leads}
use Rattle.rdf_terms.specs.TripleReads.{SkipsBlanks}
use Rattle.rdf_terms.proofs.read.skip_blanks.Given as goal

-- the blanks that were passed change nothing
abbrev pub invariant-loop-i : goal.invariant-loop-i
invariant-loop-i l = record {
  forward : l.at ≤ l.i;
  within : l.i ≤ length l.text;
  leads : (state : State) → SkipsBlanks state → Leads l.text l.at state l.i state;
}
