use Rattle.std.proofs.Common.{◌≡◌, ◌∙◌, ◌∷◌, ◌+◌, [], subst, ap, get_or, drop}
use Rattle.std.proofs.lemmas.List.{get_or_default}
use Rattle.chunked_list.proofs.Counting.{element_of}
use Rattle.chunked_list.proofs.Storing.{back_first}
use Rattle.chunked_list.proofs.lists.Chunked.at.Goals as goal

pub returns : goal.returns
returns g c =
    let chunks = c.self.inside.store.chunks.items in
    let n = c.args.place in
    let k = c.place_of-place.result.chunk in
    let at = c.place_of-place.result.at in
    let b = c.index-as_slice-place.result in
    let i = c.place_of-place.ensures.element in
    let e = c.index.ensures ∙ get_or_default chunks k c.index.result.now [] i.chunk_is in
    let w = subst (λ zs. b ≡ get_or zs at b) (c.as_slice.ensures ∙ e) c.index-as_slice-place.is in
    let q = element_of chunks k at n b i.chunk_is c.place_of-place.ensures.front (back_first chunks k at b i.at_is w) in
    subst (λ zs. drop n zs ≡ b ∷ drop (n + 1) zs) (ap (λ m. m.elements) c.self.view_is) q
