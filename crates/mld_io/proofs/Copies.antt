-- A copy of the front of what is left.
use Rattle.std.proofs.Common.{◌≡◌, ℕ, ◌+◌, ◌-◌, ◌<◌, min, List, [], ◌++◌, length, take, drop, sym, ap, ◌∙◌, arith, length-drop, length-append, take-append-drop, drop_of_length-le}
use Rattle.std.proofs.Math.Seq.{take-append_seam}
use Rattle.std.proofs.lemmas.List.{take_rest, drop-drop, length-take-le}

-- n bytes of what is left were copied to the front of `to`, as many as there are and have room
pub copied_front : (all : List ℕ) (at n : ℕ) (left out to : List ℕ) → left ≡ drop at all
    → n ≡ min (length out) (length (take (length all - at) (drop at all)))
    → to ≡ take n (take (length all - at) (drop at all)) ++ drop n out
    → (left ≡ take n to ++ drop (at + n) all) × (n ≡ 0 → 0 < length to → drop (at + n) all ≡ [])
copied_front all at n left out to is_left count copied =
    let rest = take_rest all at in
    let room : n ≡ min (length out) (length (drop at all)) = rw (← rest) count in
    let filled : to ≡ take n (drop at all) ++ drop n out = rw (← rest) copied in
    let cut : length (take n (drop at all)) ≡ n = length-take-le n (drop at all) (omega arith) in
    let front : take n to ≡ take n (drop at all) =
    ap (take n) filled ∙ ap (λ m. take m (take n (drop at all) ++ drop n out)) (sym cut) ∙ take-append_seam (take n (drop at all)) (drop n out) in
    let long : length to ≡ length (take n (drop at all)) + length (drop n out) = ap length filled ∙ length-append (take n (drop at all)) (drop n out) in (
      is_left ∙ sym (take-append-drop n (drop at all)) ∙ ap (λ l. l ++ drop n (drop at all)) (sym front) ∙ ap (λ l. take n to ++ l) (drop-drop n at all),
      λ none some. drop_of_length-le all (omega (arith, length-drop at all, length-drop n out)),
    )
