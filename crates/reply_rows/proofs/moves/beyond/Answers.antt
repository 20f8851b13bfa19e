use Rattle.std.proofs.Common.{◌∙◌, ◌-◌, ap}
use Rattle.reply_rows.specs.Times.{times}
use Rattle.reply_rows.proofs.moves.beyond.Goals as goal

pub returns : goal.returns
returns c = record {
  rising = c.without.ensures.rising;
  often = λ row. c.without.ensures.often row ∙ ap (λ rows. times row rows - times row c.args.others.now) c.in_ok-copies.ensures;
}
