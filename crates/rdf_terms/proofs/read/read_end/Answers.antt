use Rattle.std.proofs.lemmas.Result.{err_from_is_err_and}
use Rattle.rdf_terms.proofs.ReadLemmas.{dot_missed, more_behind, end_read}
use Rattle.rdf_terms.proofs.read.read_end.Goals as goal

pub returns-in_err-behind : goal.returns-in_err-behind
returns-in_err-behind c =
    let p = err_from_is_err_and c.from_residual.result c.from_residual.ensures.1 in
    rw (p.1, p.2) (dot_missed c.args.text.now c.args.at c.skip_blanks-dot.result c.in_err-behind.field-0.0 c.skip_blanks-dot.ensures c.in_err-behind.ensures)

pub returns-then-place-text : goal.returns-then-place-text
returns-then-place-text c =
    more_behind c.args.text.now c.args.at c.skip_blanks-dot.result c.in_ok-behind.behind c.skip_blanks-place.result c.skip_blanks-dot.ensures c.in_ok-behind.ensures c.skip_blanks-place.ensures c.if-place-text.true

pub returns : goal.returns
returns c =
    end_read c.args.text.now c.args.at c.skip_blanks-dot.result c.in_ok-behind.behind c.skip_blanks-place.result c.skip_blanks-dot.ensures c.in_ok-behind.ensures c.skip_blanks-place.ensures c.if-place-text.false
