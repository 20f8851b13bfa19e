use Rattle.std.proofs.Common.{◌≡◌, ◌∙◌, ◌<◌, true, false, length, sym, subst, [], rules}
use Rattle.std.proofs.lemmas.List.{get_or_default}
use Rattle.std.specs.List.Sorted.{IsPartitionPoint, IsPartitionedBy}
use Rattle.chunked_list.specs.Joined.{joined_chunks, chunk_at, front_of, back_of}
use Rattle.hinted_chunks.specs.tree_clock.Lists.{Has}
use Rattle.hinted_chunks.specs.Hinted.{first_passes}
use Rattle.chunked_list.specs.Parted.{IsParted}
use Rattle.chunked_list.proofs.Parting.{heads_parted, partitioned, parted_left, parted_right}
use Rattle.chunked_list.proofs.Placing.{divides, divides_behind, joined_at}
use Rattle.chunked_list.proofs.places.locate.Goals as goal

pub returns-then-chunk-len-clause-divides : goal.returns-then-chunk-len-clause-divides
returns-then-chunk-len-clause-divides g c =
    let p = g.B.Bound.before c.args.bound.now in
    let chunks = c.args.store.now.chunks.items in
    let k = c.saturating_sub-chunk.result in
    let l : k < length chunks = search rules in
    let begun = subst (λ zs. IsPartitionedBy (first_passes p) zs) (sym c.deref-2.ensures.value) (partitioned (first_passes p) chunks (heads_parted p chunks c.requires.is.sized c.requires.parted)) in
    let heads = subst (λ zs. IsPartitionPoint (λ ch. first_passes p ch ≡ true) (λ ch. first_passes p ch ≡ false) zs c.count_hinted-begun.result) c.deref-2.ensures.value (c.count_hinted-begun.ensures.place begun) in
    let e = c.index.ensures ∙ get_or_default chunks k c.index.result.now [] l in
    let whole = subst (IsParted p) (joined_at chunks k l) c.requires.parted in
    let own = parted_left p (chunk_at chunks k) _ (parted_right p _ _ whole) in
    let place = c.count_before-at.ensures.place (partitioned p c.index.result.now (subst (IsParted p) (sym e) own)) in
    let point = subst (λ zs. IsPartitionPoint (λ x. p x ≡ true) (λ x. p x ≡ false) zs c.count_before-at.result) e place in
    divides p chunks c.requires.is.sized c.requires.parted c.count_hinted-begun.result k c.count_before-at.result c.saturating_sub-chunk.ensures l heads point

pub returns-then-is_behind-clause-divides : goal.returns-then-is_behind-clause-divides
returns-then-is_behind-clause-divides g c =
    let p = g.B.Bound.before c.args.bound.now in
    let chunks = c.args.store.now.chunks.items in
    let place = c.end_of.result in
    let e = c.deref-then-is_behind.ensures.value in
    divides_behind p chunks place.chunk place.at
    (subst (λ zs. front_of zs place.chunk place.at ≡ joined_chunks zs) e c.end_of.ensures.front)
    (subst (λ zs. back_of zs place.chunk place.at ≡ []) e c.end_of.ensures.back)
    (λ x k. c.is_behind.ensures c.if-is_behind.true x (subst (λ zs. Has (joined_chunks zs) x) (sym c.deref.ensures.value) k))
