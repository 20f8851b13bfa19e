use Rattle.std.proofs.Common.{subst}
use Rattle.hinted_chunks.specs.tree_clock.Lists.{Has}
use Rattle.chunked_list.specs.Joined.{joined_chunks, front_of, back_of}
use Rattle.chunked_list.proofs.Parting.{parted_ascending}
use Rattle.chunked_list.proofs.Placing.{whole}
use Rattle.chunked_list.proofs.Standing.{taken_ascends, taken_has}
use Rattle.chunked_list.proofs.searches.remove_in.Goals as goal

pub find-requires-clause-parted : goal.find-requires-clause-parted
find-requires-clause-parted g c =
    parted_ascending (g.O.Order.order c.args.order.now) (g.met.O.Order.total c.args.order.now) c.args.element.now (joined_chunks c.args.store.now.chunks.items) c.requires.ascending

pub returns-then-is_at-clause-ascending : goal.returns-then-is_at-clause-ascending
returns-then-is_at-clause-ascending g c =
    let chunks = c.args.store.now.chunks.items in
    let k = c.in-Some.place.chunk in
    let at = c.in-Some.place.at in
    let i = c.in-Some.ensures.element in
    taken_ascends (g.O.Order.order c.args.order.now) (g.met.O.Order.total c.args.order.now) (g.met.O.Order.exact c.args.order.now)
    (joined_chunks chunks) (front_of chunks k at) (back_of chunks k at) _ c.take_out.result c.args.element.now
    (whole chunks k at i.chunk_is) c.take_out.ensures.element c.take_out.ensures.elements c.requires.ascending

pub returns-then-is_at-clause-members : goal.returns-then-is_at-clause-members
returns-then-is_at-clause-members g c =
    let chunks = c.args.store.now.chunks.items in
    let k = c.in-Some.place.chunk in
    let at = c.in-Some.place.at in
    let i = c.in-Some.ensures.element in
    let d = c.in-Some.ensures.divides in
    let h = subst (λ zs. Has (joined_chunks zs) c.args.element.now) c.deref.ensures.value (c.is_at.ensures.0 c.if-is_at.true) in
    taken_has (g.O.Order.order c.args.order.now) (g.met.O.Order.total c.args.order.now) (g.met.O.Order.exact c.args.order.now)
    (joined_chunks chunks) (front_of chunks k at) (back_of chunks k at) _ c.take_out.result c.args.element.now
    (whole chunks k at i.chunk_is) c.take_out.ensures.element c.take_out.ensures.elements c.requires.ascending d.front d.back h
