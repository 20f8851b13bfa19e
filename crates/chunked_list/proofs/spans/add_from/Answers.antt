use Rattle.std.proofs.Common.{◌∙◌, ◌++◌, ◌+◌, sym, ap, subst, map, drop}
use Rattle.std.proofs.lemmas.List.{take_rest}
use Rattle.std.specs.List.{filter}
use Rattle.chunked_list.specs.Joined.{joined_chunks, chunk_at}
use Rattle.chunked_list.specs.Parted.{IsParted, HasFailing}
use Rattle.chunked_list.proofs.Between.{rest_at, filter_front}
use Rattle.chunked_list.proofs.Parting.{parted_left, parted_right}
use Rattle.chunked_list.proofs.spans.add_from.Goals as goal

pub add_elements-requires : goal.add_elements-requires
add_elements-requires g c =
    let p = g.B.Bound.before c.args.bound.now in
    let chunks = c.args.chunks.now in
    let k = c.args.place.chunk in
    let at = c.args.place.at in
    let e = rest_at chunks k at c.index-chunks-place.result c.as_slice.result.now c.requires.element.chunk_is c.index-chunks-place.is c.as_slice.ensures in
    subst (IsParted p) (sym e) (parted_left p (drop at (chunk_at chunks k)) (joined_chunks (drop (k + 1) chunks)) c.requires.parted)

pub add_chunks-requires : goal.add_chunks-requires
add_chunks-requires g c =
    let p = g.B.Bound.before c.args.bound.now in
    let chunks = c.args.chunks.now in
    let k = c.args.place.chunk in
    subst (λ zs. IsParted p (joined_chunks zs)) (sym (take_rest chunks (k + 1)))
    (parted_right p (drop c.args.place.at (chunk_at chunks k)) (joined_chunks (drop (k + 1) chunks)) c.requires.parted)

pub returns : goal.returns
returns g c =
    let p = g.B.Bound.before c.args.bound.now in
    let chunks = c.args.chunks.now in
    let k = c.args.place.chunk in
    let at = c.args.place.at in
    let e = rest_at chunks k at c.index-chunks-place.result c.as_slice.result.now c.requires.element.chunk_is c.index-chunks-place.is c.as_slice.ensures in
    let f = subst (HasFailing p) e (c.in_ok-add_elements.ensures.ended c.if-branch.false) in
    c.in_ok-add_elements.ensures.items
    ∙ ap (λ zs. map (λ x. x.now) c.args.found.now.items ++ zs)
    (ap (filter p) e ∙ sym (filter_front p (drop at (chunk_at chunks k)) (joined_chunks (drop (k + 1) chunks)) c.requires.parted f))
