use Rattle.dot_texts.proofs.DotTexts.{IsStopped, stopped, no_stop, no_letters, no_tick}
use Rattle.dot_texts.proofs.dots.read_dot.Goals as goal

pub returns-in_err-parts : goal.returns-in_err-parts
returns-in_err-parts c =
    rw c.from_residual-in_err-parts.ensures (no_stop c.args.text.now c.in_ok-rest.rest.now c.in_ok-rest.ensures c.in_err-parts.ensures)

pub returns-in_err-path : goal.returns-in_err-path
returns-in_err-path c =
    let letters = c.in_ok-parts.parts.0.now in
    let number = c.in_ok-parts.parts.1.now in
    let cut : IsStopped c.args.text.now letters number = stopped c.args.text.now c.in_ok-rest.rest.now letters number c.in_ok-rest.ensures c.in_ok-parts.ensures in
    rw c.from_residual-in_err-path.ensures (no_letters c.args.text.now letters number cut c.in_err-path.ensures)

pub returns-in_err-tick : goal.returns-in_err-tick
returns-in_err-tick c =
    let letters = c.in_ok-parts.parts.0.now in
    let number = c.in_ok-parts.parts.1.now in
    let cut : IsStopped c.args.text.now letters number = stopped c.args.text.now c.in_ok-rest.rest.now letters number c.in_ok-rest.ensures c.in_ok-parts.ensures in
    rw c.from_residual-in_err-tick.ensures (no_tick c.args.text.now letters number cut c.in_err-tick.ensures)
