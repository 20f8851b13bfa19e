-- Bytes that lie between two places, given from the front.
use Rattle.std.proofs.Common.{◌≡◌, ℕ, suc, ◌+◌, ◌-◌, ◌<◌, ◌≤◌, min, List, [], ◌∷◌, ◌++◌, length, take, drop, slice_range, slice_set, slice_index_or, sym, ap, ◌∙◌, arith, length-take, take-append-drop}
use Rattle.std.proofs.Math.Seq.{take-append_seam}
use Rattle.std.proofs.lemmas.List.{drop-drop, drop-take, drop_more, length-take-le}

-- what is behind the first n of them
range_behind : (room : List ℕ) (begin end n : ℕ) → n ≤ end - begin → drop n (slice_range room begin end) ≡ slice_range room (begin + n) end
range_behind room begin end n within =
    let whole : end - begin ≡ n + (end - (begin + n)) = omega arith in
    ap (λ k. drop n (take k (drop begin room))) whole
    ∙ drop-take n (end - (begin + n)) (drop begin room)
    ∙ ap (take (end - (begin + n))) (drop-drop n begin room)

-- n of them were copied to the front of `to`, as many as there are and have room
pub some_given : (room out to : List ℕ) (begin end n : ℕ) → n ≡ min (length out) (length (slice_range room begin end))
    → to ≡ take n (slice_range room begin end) ++ drop n out
    → slice_range room begin end ≡ take n to ++ slice_range room (begin + n) end
some_given room out to begin end n count copied =
    let all = slice_range room begin end in
    let cut : length (take n all) ≡ n = length-take-le n all (omega arith) in
    let front : take n to ≡ take n all =
    ap (take n) copied ∙ ap (λ m. take m (take n all ++ drop n out)) (sym cut) ∙ take-append_seam (take n all) (drop n out) in
    let within : n ≤ end - begin = omega (arith, length-take (end - begin) (drop begin room)) in
    sym (take-append-drop n all) ∙ ap (λ l. l ++ drop n all) (sym front) ∙ ap (λ l. take n to ++ l) (range_behind room begin end n within)

-- the first of them was put into `out`, which has room for just one
pub one_given : (room out : List ℕ) (begin end : ℕ) → length out ≡ 1 → begin < end → end ≤ length room
    → slice_range room begin end ≡ take 1 (slice_set out 0 (slice_index_or room begin 0)) ++ slice_range room (begin + 1) end
one_given room [] begin end one some within = absurd (omega arith)
one_given room (x ∷ []) begin end one some within =
    let size : end - begin ≡ suc (end - (begin + 1)) = omega arith in
    ap (λ k. take k (drop begin room)) size ∙ ap (take (suc (end - (begin + 1)))) (drop_more room begin 0 (omega arith))
one_given room (x ∷ y ∷ out) begin end one some within = absurd (omega arith)
