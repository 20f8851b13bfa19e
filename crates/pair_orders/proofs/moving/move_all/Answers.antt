use Rattle.std.proofs.Common.{◌∙◌}
use Rattle.pair_orders.proofs.Emptying.{moved_more, rest_there, rest_other}
use Rattle.pair_orders.proofs.moving.move_all.Goals as goal

pub loop-number-preserved : goal.loop-number-preserved
loop-number-preserved c =
    let numbers = c.args.numbers.now in
    let i = c.loop-number.number-index in
    record {
      list = moved_more c.args.slots.items c.loop-number.rest.items numbers i 0 c.loop-number.list.items c.move_pair.new.list.items c.loop-number-test.true
          (c.loop-number.invariant.rest _ (rest_there numbers i 0 c.loop-number-test.true))
          c.in_ok-move_pair.ensures.list c.loop-number.invariant.list;
      rest = λ other h.
          let o = rest_other numbers i 0 other c.loop-number-test.true c.requires h in
          c.move_pair.ensures.others other o.1 ∙ c.loop-number.invariant.rest other o.0;
    }
