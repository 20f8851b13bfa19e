use Rattle.std.proofs.Common.{◌≡◌, ◌∙◌, List, true, not, ap, subst, sym}
use Rattle.rdf_terms.specs.declared.terms.Triple.{Triple}
use Rattle.jrql_eval.proofs.BranchLaws.{ended_none}
use Rattle.watch_laws.specs.Touched.{are_touched}
use Rattle.watch_laws.proofs.FirstTouched.{spares_all}
use Rattle.watch_laws.proofs.touching.are_untouched.Goals as goal

pub returns-then-is_empty : goal.returns-then-is_empty
returns-then-is_empty c =
    subst (λ (triples : List Triple). true ≡ not (are_touched triples c.args.patterns.now c.args.places.now)) (sym (ended_none c.args.triples.now (sym c.is_empty.ensures ∙ c.if-is_empty.true)))
    (sym (ap not (spares_all c.args.patterns.now c.args.places.now)))
