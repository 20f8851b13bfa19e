use Rattle.std.proofs.Common.{◌≡◌, ◌∙◌, ◌<◌, ◌-◌, true, [], length, get_or, sym, subst, ap, arith, rules}
use Rattle.std.proofs.lemmas.List.{get_or_default}
use Rattle.chunked_list.specs.Joined.{chunk_at}
use Rattle.chunked_list.proofs.Parting.{sized_at}
use Rattle.chunked_list.proofs.Placing.{all_pass}
use Rattle.chunked_list.proofs.places.is_behind.Goals as goal

pub returns : goal.returns
returns g c t x k =
    let p = g.B.Bound.before c.args.bound.now in
    let chunks = c.args.chunks.now in
    let n = length chunks - 1 in
    let l : n < length chunks = search rules in
    let last = c.as_slice-last.result.now in
    let e : last ≡ chunk_at chunks n = c.as_slice-last.ensures ∙ c.index-chunks-chunks.is ∙ get_or_default chunks n c.index-chunks-chunks.result [] l in
    let sized = sized_at chunks n l c.requires.sized in
    let some = sized.0 in
    let passes : p (get_or last (length last - 1) c.index-last-last.result) ≡ true = ap p (sym c.index-last-last.is) ∙ sym c.is_before.ensures ∙ t in
    all_pass p chunks n (length (chunk_at chunks n) - 1) c.index-last-last.result (omega (arith, l)) (omega (arith, some)) c.requires.parted
    (subst (λ zs. p (get_or zs (length zs - 1) c.index-last-last.result) ≡ true) e passes) x k
