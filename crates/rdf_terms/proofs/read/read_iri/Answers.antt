use Rattle.std.proofs.Common.{arith}
use Rattle.std.proofs.lemmas.Result.{err_from_is_err_and}
use Rattle.rdf_terms.proofs.ReadLemmas.{boundary_behind_mark, less_missed, iri_ends}
use Rattle.rdf_terms.proofs.read.read_iri.Goals as goal

pub returns-in_err-begun : goal.returns-in_err-begun
returns-in_err-begun c =
    let p = err_from_is_err_and c.from_residual.result c.from_residual.ensures.1 in
    rw (p.1, p.2) (less_missed c.args.text.now c.args.at c.in_err-begun.field-0.0 c.requires c.in_err-begun.ensures)

pub read_body-requires-clause-boundary : goal.read_body-requires-clause-boundary
read_body-requires-clause-boundary c = boundary_behind_mark c.args.text.now c.args.at 60 c.in_ok-begun.begun c.utf8.text (omega arith) c.in_ok-begun.ensures

pub returns : goal.returns
returns c = iri_ends c.args.text.now c.args.at c.in_ok-begun.begun (λ read. read.0) (λ read. read.1) c.read_body.result c.in_ok-begun.ensures c.read_body.ensures
