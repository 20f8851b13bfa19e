use Rattle.std.proofs.Common.{◌∙◌, ◌++◌, ◌<◌, ◌≤◌, List, Option, length, map, slice_get, ap, arith, take_all}
use Rattle.std.specs.Option.{option_map, option_to_list}
use Rattle.jrql_rows.specs.mld_ops.declared.tagged.Tagged.{Tagged}
use Rattle.jrql_rows.specs.rdf_terms.declared.terms.Triple.{Triple}
use Rattle.jrql_eval.proofs.TripleScans.{mapped_more}
use Rattle.jrql_eval.proofs.scanning.triples_of.Goals as goal

pub loop-at-preserved : goal.loop-at-preserved
loop-at-preserved c =
    let pairs = c.args.pairs.now in
    let at = c.loop-at.at in
    let l : at < length pairs = omega arith in
    c.in_ok-add_triple.ensures
    ∙ ap (λ (z : List Triple). z ++ option_to_list (option_map (λ (pair : Tagged). pair.triple) (slice_get pairs at))) c.loop-at.invariant
    ∙ mapped_more (λ (pair : Tagged). pair.triple) pairs at l

pub returns : goal.returns
returns c =
    let pairs = c.args.pairs.now in
    let l : length pairs ≤ c.loop-at.at = omega arith in
    c.loop-at.invariant ∙ ap (map (λ (pair : Tagged). pair.triple)) (take_all c.loop-at.at pairs l)
