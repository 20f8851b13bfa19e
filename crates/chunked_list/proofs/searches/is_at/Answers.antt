use Rattle.std.proofs.Common.{◌≡◌, ◌∙◌, ◌++◌, sym, ap, subst, [], drop, get_or, inl, refl}
use Rattle.std.proofs.lemmas.List.{get_or_default}
use Rattle.std.specs.Ordering.{is_eq}
use Rattle.hinted_chunks.specs.tree_clock.Lists.{Has}
use Rattle.chunked_list.specs.Joined.{joined_chunks, front_of, back_of}
use Rattle.chunked_list.proofs.Placing.{whole}
use Rattle.chunked_list.proofs.Standing.{stands}
use Rattle.chunked_list.proofs.Storing.{back_first}
use Rattle.chunked_list.proofs.searches.is_at.Goals as goal

pub returns : goal.returns
returns g c =
    let chunks = c.args.chunks.now in
    let at = c.args.place.at in
    let b = c.index-as_slice-place.result in
    let e = c.index-chunks-place.is ∙ get_or_default chunks c.args.place.chunk c.index-chunks-place.result [] c.requires.element.chunk_is in
    let v = subst (λ zs. b ≡ get_or zs at b) (c.as_slice.ensures ∙ e) c.index-as_slice-place.is in
    let f = back_first chunks c.args.place.chunk at b c.requires.element.at_is v in
    let w = whole chunks c.args.place.chunk at c.requires.element.chunk_is ∙ ap (λ zs. front_of chunks c.args.place.chunk at ++ zs) f in
    stands (g.O.Order.order c.args.order.now) (g.met.O.Order.total c.args.order.now) (g.met.O.Order.exact c.args.order.now)
    (joined_chunks chunks) (front_of chunks c.args.place.chunk at) b (drop 1 (back_of chunks c.args.place.chunk at)) c.args.element.now c.is_eq.result w
    c.requires.ascending c.requires.divides.front (c.requires.divides.back b (subst (λ zs. Has zs b) (sym f) (inl refl))) (c.is_eq.ensures ∙ ap is_eq c.compare.ensures)
