use Rattle.std.proofs.Common.{◌≡◌, ◌∙◌, ◌++◌, [], sym, subst, ap, get_or, inl, refl, drop, None, Some}
use Rattle.std.proofs.lemmas.List.{get_or_default}
use Rattle.hinted_chunks.specs.tree_clock.Lists.{Has}
use Rattle.chunked_list.specs.Joined.{joined_chunks, front_of, back_of}
use Rattle.chunked_list.specs.Parted.{IsFirstOf}
use Rattle.chunked_list.proofs.Placing.{whole}
use Rattle.chunked_list.proofs.Standing.{first_is, first_none}
use Rattle.chunked_list.proofs.Storing.{back_first}
use Rattle.chunked_list.proofs.lists.Chunked.first_from.Goals as goal

pub returns-in_err-place : goal.returns-in_err-place
returns-in_err-place g c =
    let p = g.B.Bound.before c.args.bound.now in
    let chunks = c.self.inside.store.chunks.items in
    let n = c.in_err-place.ensures.none in
    let v = ap (λ w. w.elements) c.self.view_is in
    rw c.from_residual.ensures (subst (λ zs. IsFirstOf p zs None) v (first_none p (joined_chunks chunks) n))

pub returns : goal.returns
returns g c =
    let p = g.B.Bound.before c.args.bound.now in
    let chunks = c.self.inside.store.chunks.items in
    let k = c.in_ok-place.place.chunk in
    let at = c.in_ok-place.place.at in
    let b = c.index-as_slice-place.result in
    let i = c.in_ok-place.ensures.element in
    let d = c.in_ok-place.ensures.divides in
    let e = c.index.ensures ∙ get_or_default chunks k c.index.result.now [] i.chunk_is in
    let w = subst (λ zs. b ≡ get_or zs at b) (c.as_slice.ensures ∙ e) c.index-as_slice-place.is in
    let f = back_first chunks k at b i.at_is w in
    let q = first_is p (front_of chunks k at) b (drop 1 (back_of chunks k at)) d.front (d.back b (subst (λ zs. Has zs b) (sym f) (inl refl))) in
    let v = ap (λ m. m.elements) c.self.view_is in
    subst (λ zs. IsFirstOf p zs (Some b)) (sym (whole chunks k at i.chunk_is ∙ ap (λ zs. front_of chunks k at ++ zs) f) ∙ v) q
