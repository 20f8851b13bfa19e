-- The connections that are open, and the calls that were made.
use Rattle.std.proofs.Common.{suc, ◌≡◌, ℕ, ◌+◌, ◌<◌, ◌≤◌, ◌==◌, not, ◌&&◌, inl, inr, refl, sym, ap, ◌∙◌, arith, List, [], ◌∷◌, length, take, filter, reverse, get_or, IsTrue}
use Rattle.std.specs.List.{list_any}
use Rattle.std.proofs.lemmas.Bool.Decides.{eqb_tells}
use Rattle.std.proofs.lemmas.Bool.{false≢true}
use Rattle.std.proofs.lemmas.List.{reverse-append}
use Rattle.std.proofs.Math.Seq.{take-suc}

-- whether one is left once another was taken out
pub any_without : (on conn : ℕ) (xs : List ℕ) → list_any (λ c. c == conn) (filter (λ c. not (c == on)) xs) ≡ not (on == conn) && list_any (λ c. c == conn) xs
any_without on conn [] = elim (eqb_tells on conn) [ inl t ↦ rw t.0 refl | inr t ↦ rw t.0 refl ]
any_without on conn (x ∷ xs) = elim (eqb_tells x on) [
  | inl same ↦ rw same.0 (any_without on conn xs ∙ elim (eqb_tells on conn) [
    | inl t ↦ rw t.0 refl
    | inr t ↦ let other : (x == conn) ≡ (on == conn) = ap (λ (k : ℕ). k == conn) same.1 in rw other (rw t.0 refl)
  ])
  | inr other ↦ rw other.0 (rw (any_without on conn xs) (elim (eqb_tells on conn) [
    | inl t ↦ let no_match : (x == conn) ≡ (x == on) = ap (λ (k : ℕ). x == k) (sym t.1) in rw no_match (rw other.0 (rw t.0 refl))
    | inr t ↦ rw t.0 refl
  ]))
]

-- no more are left
pub few_without : (on : ℕ) (xs : List ℕ) → length (filter (λ c. not (c == on)) xs) ≤ length xs
few_without on [] = omega arith
few_without on (x ∷ xs) = elim (eqb_tells x on) [
  | inl same ↦ rw same.0 (omega (arith, few_without on xs))
  | inr other ↦ rw other.0 (omega (arith, few_without on xs))
]

-- fewer are left where it was there
pub fewer_without : (on : ℕ) (xs : List ℕ) → IsTrue (list_any (λ c. c == on) xs) → length (filter (λ c. not (c == on)) xs) < length xs
fewer_without on [] there = absurd (false≢true there)
fewer_without on (x ∷ xs) there = elim (eqb_tells x on) [
  | inl same ↦ rw same.0 (omega (arith, few_without on xs))
  | inr other ↦ let rest : IsTrue (list_any (λ c. c == on) xs) = rw other.0 at there in rw other.0 (omega (arith, fewer_without on xs rest))
]

-- the first calls and one more, the newest first
pub reverse_more : {A : Type 0} (xs : List A) (i : ℕ) (x : A) → i < length xs → x ≡ get_or xs i x → reverse (take (i + 1) xs) ≡ x ∷ reverse (take i xs)
reverse_more xs i x within is_x =
    let e : i + 1 ≡ suc i = omega arith in
    rw e (ap reverse (take-suc xs i x within) ∙ reverse-append (take i xs) (get_or xs i x ∷ []) ∙ ap (λ y. y ∷ reverse (take i xs)) (sym is_x))
