use Rattle.std.proofs.Common.{◌∙◌, ◌<◌, ◌≤◌, ◌+◌, subst, ap, arith, get_or, length}
use Rattle.std.proofs.lemmas.List.{get_or_default}
use Rattle.chunked_list.proofs.Starting.{is_inside, is_front}
use Rattle.chunked_list.proofs.counted.place_of.Goals as goal

pub returns-clause-element : goal.returns-clause-element
returns-clause-element g c =
    let chunks = c.args.store.now.chunks.items in
    let starts = c.args.store.now.starts.items in
    let s = c.requires.is.starts in
    let k = c.last_at_most-chunk.result in
    let v = c.deref.ensures.value in
    let n = ap length v in
    let l : k < length chunks = omega (arith, c.last_at_most-chunk.ensures.within, n, s.len) in
    let e = c.index.ensures ∙ get_or_default starts k c.index.result.now 0 (omega (arith, l, s.len)) in
    let m : c.index.result.now ≤ c.args.count = omega (arith, e, ap (λ ns. get_or ns k 0) v, c.last_at_most-chunk.ensures.most) in
    let next : k + 1 < length chunks → c.args.count < get_or starts (k + 1) 0 =
    λ p. subst (λ ns. c.args.count < get_or ns (k + 1) 0) v (c.last_at_most-chunk.ensures.next (omega (arith, p, n, s.len))) in
    record { chunk_is = l; at_is = is_inside chunks starts s k c.args.count c.index.result.now l e m c.requires.element next }

pub returns-clause-front : goal.returns-clause-front
returns-clause-front g c =
    let chunks = c.args.store.now.chunks.items in
    let starts = c.args.store.now.starts.items in
    let s = c.requires.is.starts in
    let k = c.last_at_most-chunk.result in
    let v = c.deref.ensures.value in
    let l : k < length chunks = omega (arith, c.last_at_most-chunk.ensures.within, ap length v, s.len) in
    let e = c.index.ensures ∙ get_or_default starts k c.index.result.now 0 (omega (arith, l, s.len)) in
    let m : c.index.result.now ≤ c.args.count = omega (arith, e, ap (λ ns. get_or ns k 0) v, c.last_at_most-chunk.ensures.most) in
    is_front chunks starts s k c.args.count c.index.result.now l e m (returns-clause-element g c).at_is
