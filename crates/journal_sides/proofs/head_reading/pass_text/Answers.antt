use Rattle.std.proofs.lemmas.Result.{err_from_is_err_and}
use Rattle.journal_sides.proofs.FieldReading.{text_found, text_without_length, text_too_short}
use Rattle.journal_sides.proofs.head_reading.pass_text.Goals as goal

pub returns-in_err-size : goal.returns-in_err-size
returns-in_err-size c =
    let p = err_from_is_err_and c.from_residual.result c.from_residual.ensures.1 in
    rw (p.1, p.2) (text_without_length c.args.input.now c.args.at c.in_err-size.field-0.0 c.in_err-size.ensures.agrees)

pub returns-in_err-stop : goal.returns-in_err-stop
returns-in_err-stop c =
    let p = err_from_is_err_and c.from_residual-in_err-stop.result c.from_residual-in_err-stop.ensures.1 in
    rw (p.1, p.2) (text_too_short c.args.input.now c.args.at c.in_ok-size.size c.in_ok-size.start c.in_err-stop.field-0.0 c.in_ok-size.ensures.agrees c.in_err-stop.ensures.piece)

pub returns : goal.returns
returns c = text_found c.args.input.now c.args.at c.in_ok-size.size c.in_ok-size.start c.in_ok-stop.stop c.in_ok-size.ensures.agrees c.in_ok-stop.ensures.piece c.in_ok-stop.ensures.next
