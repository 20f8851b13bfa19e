use Rattle.std.proofs.Common.{map, arith}
use Rattle.hinted_chunks.proofs.HintedSort.{moved_once, moved_twice, shared_twice}
use Rattle.hinted_chunks.proofs.Sharing.{shared_lower}
use Rattle.hinted_chunks.proofs.sorting.take_hints.Goals as goal

pub returns-then-guess-shared-clause-same : goal.returns-then-guess-shared-clause-same
returns-then-guess-shared-clause-same g c = moved_once c.args.elements.now.items c.put_hints-shared.new.hinted.items c.put_hints-shared.ensures.moved

pub returns-then-guess-shared-clause-hinted : goal.returns-then-guess-shared-clause-hinted
returns-then-guess-shared-clause-hinted g c =
    let guess = c.shared_by_some-guess.result in
    let shared = c.put_hints-shared.result in (
      guess,
      record {
        shared =
            shared_lower (g.O.TextOrder.text c.args.order.now) guess shared (map (λ pair. pair.1) c.put_hints-shared.new.hinted.items) (omega (arith, c.if-guess-shared.true))
            c.put_hints-shared.ensures.shared;
        hints = c.put_hints-shared.ensures.hints;
      },
    )

pub returns-clause-same : goal.returns-clause-same
returns-clause-same g c =
    moved_twice c.args.elements.now.items c.put_back.new.elements.items c.put_hints-shared.new.hinted.items c.put_hints-shared-2.new.hinted.items c.put_hints-shared.ensures.moved
    c.put_back.ensures.moved c.put_hints-shared-2.ensures.moved

pub returns-clause-hinted : goal.returns-clause-hinted
returns-clause-hinted g c = (
  c.put_hints-shared.result,
  record {
    shared =
        shared_twice c.args.elements.now.items c.put_back.new.elements.items c.put_hints-shared.new.hinted.items c.put_hints-shared-2.new.hinted.items c.put_hints-shared.ensures.moved
        c.put_back.ensures.moved c.put_hints-shared-2.ensures.moved (g.O.TextOrder.text c.args.order.now) c.put_hints-shared.result c.put_hints-shared.ensures.shared;
    hints = c.put_hints-shared-2.ensures.hints;
  },
)
