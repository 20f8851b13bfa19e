use Rattle.rdf_terms.proofs.TagSteps.{IsTagSoFar}
use Rattle.rdf_terms.proofs.read.pass_tag.Given as goal

-- the tag so far, and what may follow it
abbrev pub invariant-loop-i : goal.invariant-loop-i
invariant-loop-i l = IsTagSoFar l.text l.at l.i l.dashed l.full
