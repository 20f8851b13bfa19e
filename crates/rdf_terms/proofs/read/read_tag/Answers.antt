use Rattle.std.proofs.Common.{arith}
use Rattle.std.proofs.lemmas.Result.{err_from_is_err_and}
use Rattle.rdf_terms.proofs.BodyLemmas.{boundary_behind}
use Rattle.rdf_terms.proofs.read.read_tag.Goals as goal

pub returns-in_err-next : goal.returns-in_err-next
returns-in_err-next c =
    let p = err_from_is_err_and c.from_residual.result c.from_residual.ensures.1 in
    let stops = c.in_err-next.ensures in
    rw (p.1, p.2) (λ s q. stops s q c.args.lexical)

pub range-requires-clause-end_boundary : goal.range-requires-clause-end_boundary
range-requires-clause-end_boundary c =
    let end = c.in_ok-next.ensures in
    let some = end.forward in
    boundary_behind c.args.text.now c.in_ok-next.next c.utf8.text (omega arith) end.within end.ascii
