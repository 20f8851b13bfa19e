use Rattle.std.proofs.Common.{◌∙◌, ◌-◌, ap, min}
use Rattle.reply_rows.specs.Times.{times}
use Rattle.reply_rows.proofs.moves.unknown_among.Goals as goal

pub returns : goal.returns
returns c = record {
  rising = c.unknown_of.ensures.rising;
  often = λ row. c.unknown_of.ensures.often row ∙ ap (λ rows. min 1 (times row rows) - times row c.args.known.now) c.in_ok-copies.ensures;
}
