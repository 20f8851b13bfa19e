-- Copies and writes within the front of a list.
use Rattle.std.proofs.Common.{◌≡◌, ℕ, ◌+◌, ◌-◌, ◌≤◌, max, List, ◌++◌, length, take, drop, sym, ap, ◌∙◌, arith, length-append, append_assoc, inl, inr, drop_of_length-le}
use Rattle.std.proofs.Math.Seq.{take-append-add}
use Rattle.std.proofs.lemmas.List.{length-take-le, take-append-le, take-append-drop, drop-take}
use Rattle.std.proofs.lemmas.Bool.{cases_lt}
use Rattle.mld_io.specs.Disk.{written}
use Rattle.disk_model.specs.Sides.{ExtendsTo}

-- a front of a front
pub take-take : (k m : ℕ) (xs : List ℕ) → k ≤ m → m ≤ length xs → take k (take m xs) ≡ take k xs
take-take k m xs below within =
    let long : length (take m xs) ≡ m = length-take-le m xs within in
    sym (take-append-le k (take m xs) (drop m xs) (omega arith)) ∙ ap (take k) (take-append-drop m xs)

-- before a write bytes stay
pub written_before : (at k : ℕ) (piece xs : List ℕ) → k ≤ at → at ≤ length xs → take k (written at piece xs) ≡ take k xs
written_before at k piece xs below within =
    let long : length (take at xs) ≡ at = length-take-le at xs within in
    ap (take k) (append_assoc (take at xs) piece (drop (at + length piece) xs))
    ∙ take-append-le k (take at xs) (piece ++ drop (at + length piece) xs) (omega arith) ∙ take-take k at xs below within

-- the front of a list behind a front of that length
drop-take_front : (e size : ℕ) (xs : List ℕ) → size ≤ length xs → drop e (take size xs) ≡ take (size - e) (drop e xs)
drop-take_front e size xs within = elim (cases_lt e size) [
  | inl below ↦
      let back : e + (size - e) ≡ size = omega arith in
      ap (λ k. drop e (take k xs)) (sym back) ∙ drop-take e (size - e) xs
  | inr past ↦
      let long : length (take size xs) ≡ size = length-take-le size xs within in
      let none : size - e ≡ 0 = omega arith in
      drop_of_length-le (take size xs) (omega arith) ∙ sym (ap (λ k. take k (drop e xs)) none)
]

-- the front of a list that was written is what the write makes of its front
pub written_front : (at size : ℕ) (piece xs : List ℕ) → at ≤ size → size ≤ length xs → take (max size (at + length piece)) (written at piece xs) ≡ written at piece (take size xs)
written_front at size piece xs at_in in_xs =
    let e = at + length piece in
    let front = take at xs ++ piece in
    let rest = drop e xs in
    let before : length (take at xs) ≡ at = length-take-le at xs (omega arith) in
    let long : length front ≡ e = omega (arith, length-append (take at xs) piece) in
    let split : max size e ≡ length front + (size - e) = omega arith in
    ap (λ k. take k (front ++ rest)) split ∙ take-append-add front rest (size - e)
    ∙ ap (λ l. front ++ l) (sym (drop-take_front e size xs in_xs))
    ∙ ap (λ l. l ++ piece ++ drop e (take size xs)) (sym (take-take at size xs at_in in_xs))

-- a list that grew keeps its front
pub grown_keeps : (k : ℕ) (old now : List ℕ) → ExtendsTo old now → k ≤ length old → take k now ≡ take k old
grown_keeps k old now grows within = ap (take k) grows.now_is ∙ take-append-le k old grows.more within

-- and its length
pub grown_length : (old now : List ℕ) → ExtendsTo old now → length old ≤ length now
grown_length old now grows = omega (arith, ap length grows.now_is, length-append old grows.more)

-- what a write makes of the front of a list that grew for it
pub grown_written : (at size : ℕ) (piece old grown now : List ℕ) → ExtendsTo old grown → now ≡ written at piece grown → at ≤ size → size ≤ length old
    → take (max size (at + length piece)) now ≡ written at piece (take size old)
grown_written at size piece old grown now grows is at_in in_old =
    ap (take (max size (at + length piece))) is ∙ written_front at size piece grown at_in (omega (arith, grown_length old grown grows))
    ∙ ap (written at piece) (grown_keeps size old grown grows in_old)
