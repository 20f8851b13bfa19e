use Rattle.std.proofs.Common.{◌∙◌, sym, subst}
use Rattle.std.proofs.lemmas.Bool.{false≢true}
use Rattle.hinted_chunks.specs.tree_clock.Lists.{Has}
use Rattle.chunked_list.specs.Joined.{joined_chunks, front_of, back_of}
use Rattle.chunked_list.proofs.Parting.{parted_ascending}
use Rattle.chunked_list.proofs.Standing.{whole_any, put_ascends, put_has}
use Rattle.chunked_list.proofs.searches.insert_in.Goals as goal

pub locate-place-requires-clause-parted : goal.locate-place-requires-clause-parted
locate-place-requires-clause-parted g c =
    parted_ascending (g.O.Order.order c.args.order.now) (g.met.O.Order.total c.args.order.now) c.args.element (joined_chunks c.args.store.now.chunks.items) c.requires.ascending

pub returns-clause-ascending : goal.returns-clause-ascending
returns-clause-ascending g c =
    let chunks = c.args.store.now.chunks.items in
    let k = c.locate-place.result.chunk in
    let at = c.locate-place.result.at in
    let d = c.locate-place.ensures.divides in
    let l = c.locate-place.ensures.chunk in
    let n : ¬ Has (joined_chunks chunks) c.args.element = λ h. false≢true (sym c.if-has_behind.false ∙ c.has_behind.ensures.1 (subst (λ zs. Has (joined_chunks zs) c.args.element) (sym c.deref.ensures.value) h)) in
    put_ascends (g.O.Order.order c.args.order.now) (g.met.O.Order.total c.args.order.now) (g.met.O.Order.exact c.args.order.now)
    (joined_chunks chunks) (front_of chunks k at) (back_of chunks k at) _ c.args.element (whole_any chunks k at l) c.put.ensures.elements c.requires.ascending d.front d.back n

pub returns-clause-members : goal.returns-clause-members
returns-clause-members g c =
    let chunks = c.args.store.now.chunks.items in
    let k = c.locate-place.result.chunk in
    let at = c.locate-place.result.at in
    let l = c.locate-place.ensures.chunk in
    put_has (g.O.Order.order c.args.order.now) (g.met.O.Order.total c.args.order.now) (g.met.O.Order.exact c.args.order.now)
    (joined_chunks chunks) (front_of chunks k at) (back_of chunks k at) _ c.args.element (whole_any chunks k at l) c.put.ensures.elements
