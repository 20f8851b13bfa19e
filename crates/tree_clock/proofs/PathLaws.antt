-- What follows of prefixes, and of paths that are apart.
use Rattle.std.proofs.Common.{◌≡◌, ◌≢◌, ℕ, List, [], ◌∷◌, ◌++◌, ◌⊎◌, length, length-append, refl, sym, ◌∙◌, ap, inl, inr, ⊎_elim, append_assoc, arith}
use Rattle.tree_clock.specs.Path.{IsPrefix, AreApart, zero_letter, one_letter}

-- two fronts of one path: one of them is a prefix of the other
pub one_of_fronts : (p q a b : List ℕ) → p ++ a ≡ q ++ b → IsPrefix p q ⊎ IsPrefix q p
one_of_fronts [] q a b e = inl (q, refl)
one_of_fronts (x ∷ p) [] a b e = inr (x ∷ p, refl)
one_of_fronts (x ∷ p) (y ∷ q) a b e =
    let head : x ≡ y = cc in
    let tail : p ++ a ≡ q ++ b = cc in
    ⊎_elim
    (λ h. inl (h.0, λ i. sym head i ∷ h.1 i))
    (λ h. inr (h.0, λ i. head i ∷ h.1 i))
    (one_of_fronts p q a b tail)

-- apart is said of both paths alike
pub apart_symmetric : (p q : List ℕ) → AreApart p q → AreApart q p
apart_symmetric p q h = record { not_below = h.not_above; not_above = h.not_below }

-- what is apart from a path is apart from each path below it
pub apart_below : (p q rest : List ℕ) → AreApart p q → AreApart p (q ++ rest)
apart_below p q rest h = record {
  not_below = λ k. ⊎_elim h.not_below h.not_above (one_of_fronts p q k.0 rest (sym k.1));
  not_above = λ k. h.not_above (rest ++ k.0, k.1 ∙ append_assoc q rest k.0);
}

-- paths that go on from one path with two letters are apart
pub apart_by_letter : (p : List ℕ) (x y : ℕ) → x ≢ y → (a b : List ℕ) → p ++ x ∷ a ≢ p ++ y ∷ b
apart_by_letter [] x y n a b e = let h : x ≡ y = cc in n h
apart_by_letter (z ∷ p) x y n a b e = let h : p ++ x ∷ a ≡ p ++ y ∷ b = cc in apart_by_letter p x y n a b h

-- the two sons of a fork are apart
pub sons_apart : (p : List ℕ) → AreApart (p ++ zero_letter ∷ []) (p ++ one_letter ∷ [])
sons_apart p = record {
  not_below = λ k. apart_by_letter p one_letter zero_letter (λ e. let f : one_letter ≡ zero_letter = e in absurd (omega arith)) [] k.0 (k.1 ∙ append_assoc p (zero_letter ∷ []) k.0);
  not_above = λ k. apart_by_letter p zero_letter one_letter (λ e. let f : zero_letter ≡ one_letter = e in absurd (omega arith)) [] k.0 (k.1 ∙ append_assoc p (one_letter ∷ []) k.0);
}

-- what is apart from a leaf is apart from a son of it
pub apart_from_son : (p : List ℕ) (letter : ℕ) (other : List ℕ) → AreApart p other → AreApart (p ++ letter ∷ []) other
apart_from_son p letter other h = apart_symmetric other (p ++ letter ∷ []) (apart_below other p (letter ∷ []) (apart_symmetric p other h))

-- no son is its parent, or a prefix of it
pub son_not_above : (p : List ℕ) (letter : ℕ) → ¬ IsPrefix (p ++ letter ∷ []) p
son_not_above p letter k =
    let e = ap length k.1 in
    let f = length-append (p ++ letter ∷ []) k.0 in
    let g = length-append p (letter ∷ []) in
    absurd (omega arith)
