use Rattle.mld_bytes.proofs.Numbers.{piece_at, none_behind}
use Rattle.mld_bytes.proofs.take.take_bytes.Goals as goal

pub returns-clause-piece : goal.returns-clause-piece
returns-clause-piece c =
    piece_at c.in_ok-size.size c.args.at c.in_ok-size.start c.args.input.now c.in_ok-size.ensures.fits c.in_ok-size.ensures.number c.if-input-start.false

pub returns-then-input-start-clause-none : goal.returns-then-input-start-clause-none
returns-then-input-start-clause-none c =
    none_behind c.in_ok-size.size c.args.at c.in_ok-size.start c.args.input.now c.in_ok-size.ensures.fits c.in_ok-size.ensures.number c.if-input-start.true
