-- The texts of two numbers compare as the numbers do, the first ones first. Orders of elements that have such a text name it.
use Rattle.std.specs.Prelude.{◌≡◌, ℕ, ◌/◌, ◌%◌, ◌^◌, List, [], ◌∷◌, ◌++◌, refl}
use Rattle.std.proofs.Common.{◌∙◌, sym, ap, inl, inr, arith}
use Rattle.std.proofs.lemmas.Bool.{cases_lt}
use Rattle.std.specs.Cmp.{nat_cmp_is}
use Rattle.std.specs.Cmp.Lexicographic.{slice_cmp}
use Rattle.std.specs.Ordering.{nat_cmp, ordering_then}
use Rattle.std.specs.declared.cmp.Ordering.{Ordering}
use Rattle.std.specs.declared.cmp.Ordering.TheVariants.{Less, Equal, Greater}
use Rattle.chunked_list.specs.NumberTexts.{number_text, numbers_text}

-- the last byte of a number decides where what is in front of it is the same
by_bytes : (x y : ℕ) → nat_cmp x y ≡ ordering_then (nat_cmp (x / 256) (y / 256)) (nat_cmp (x % 256) (y % 256))
by_bytes x y = elim (cases_lt (x / 256) (y / 256)) [
  | inl l ↦ sym (nat_cmp_is x y Less (omega (arith, l))) ∙ ap (λ o. ordering_then o last) (nat_cmp_is (x / 256) (y / 256) Less l)
  | inr l ↦ elim (cases_lt (y / 256) (x / 256)) [
    | inl m ↦ sym (nat_cmp_is x y Greater (omega (arith, m))) ∙ ap (λ o. ordering_then o last) (nat_cmp_is (x / 256) (y / 256) Greater m)
    | inr m ↦ same (omega (arith, l, m))
  ]
]
  where
    last : Ordering
    last = nat_cmp (x % 256) (y % 256)

    front : x / 256 ≡ y / 256 → last ≡ ordering_then (nat_cmp (x / 256) (y / 256)) last
    front e = ap (λ o. ordering_then o last) (nat_cmp_is (x / 256) (y / 256) Equal e)

    same : x / 256 ≡ y / 256 → nat_cmp x y ≡ ordering_then (nat_cmp (x / 256) (y / 256)) (nat_cmp (x % 256) (y % 256))
    same e = elim (cases_lt (x % 256) (y % 256)) [
      | inl l ↦ sym (nat_cmp_is x y Less (omega (arith, e, l))) ∙ nat_cmp_is (x % 256) (y % 256) Less l ∙ front e
      | inr l ↦ elim (cases_lt (y % 256) (x % 256)) [
        | inl m ↦ sym (nat_cmp_is x y Greater (omega (arith, e, m))) ∙ nat_cmp_is (x % 256) (y % 256) Greater m ∙ front e
        | inr m ↦ sym (nat_cmp_is x y Equal (omega (arith, e, l, m))) ∙ nat_cmp_is (x % 256) (y % 256) Equal (omega (arith, l, m)) ∙ front e
      ]
    ]

then_behind : (o p q : Ordering) → ordering_then (ordering_then o p) q ≡ ordering_then o (ordering_then p q)
then_behind Less p q = refl
then_behind Equal p q = refl
then_behind Greater p q = refl

four_then : (o p q r s : Ordering) → ordering_then (ordering_then (ordering_then (ordering_then o p) q) r) s ≡ ordering_then o (ordering_then p (ordering_then q (ordering_then r s)))
four_then o p q r s = then_behind (ordering_then (ordering_then o p) q) r s ∙ then_behind (ordering_then o p) q (ordering_then r s) ∙ then_behind o p (ordering_then q (ordering_then r s))

-- a number's bytes, one after another
cut : ℕ → List ℕ
cut a = a / 256 / 256 / 256 ∷ a / 256 / 256 % 256 ∷ a / 256 % 256 ∷ a % 256 ∷ []

cut_is : (a : ℕ) → number_text a ≡ cut a
unfolding cut
cut_is a =
    let p : a / 2 ^ 24 ≡ a / 256 / 256 / 256 = omega arith in
    let q : a / 2 ^ 16 % 256 ≡ a / 256 / 256 % 256 = omega arith in
    let r : a / 2 ^ 8 % 256 ≡ a / 256 % 256 = omega arith in
    let s : a / 2 ^ 0 % 256 ≡ a % 256 = omega arith in
    λ i. p i ∷ q i ∷ r i ∷ s i ∷ []

cut_compared : (a b : ℕ) (xs ys : List ℕ) → slice_cmp nat_cmp (cut a ++ xs) (cut b ++ ys) ≡ ordering_then (nat_cmp a b) (slice_cmp nat_cmp xs ys)
unfolding cut
cut_compared a b xs ys =
    sym (four_then (nat_cmp (a / 256 / 256 / 256) (b / 256 / 256 / 256)) (nat_cmp (a / 256 / 256 % 256) (b / 256 / 256 % 256)) (nat_cmp (a / 256 % 256) (b / 256 % 256)) (nat_cmp (a % 256) (b % 256)) (slice_cmp nat_cmp xs ys))
    ∙ ap (λ o. ordering_then (ordering_then (ordering_then o (nat_cmp (a / 256 % 256) (b / 256 % 256))) (nat_cmp (a % 256) (b % 256))) (slice_cmp nat_cmp xs ys)) (sym (by_bytes (a / 256 / 256) (b / 256 / 256)))
    ∙ ap (λ o. ordering_then (ordering_then o (nat_cmp (a % 256) (b % 256))) (slice_cmp nat_cmp xs ys)) (sym (by_bytes (a / 256) (b / 256)))
    ∙ ap (λ o. ordering_then o (slice_cmp nat_cmp xs ys)) (sym (by_bytes a b))

-- the text of a number, and what is behind it
number_compared : (a b : ℕ) (xs ys : List ℕ) → slice_cmp nat_cmp (number_text a ++ xs) (number_text b ++ ys) ≡ ordering_then (nat_cmp a b) (slice_cmp nat_cmp xs ys)
number_compared a b xs ys = (λ i. slice_cmp nat_cmp (cut_is a i ++ xs) (cut_is b i ++ ys)) ∙ cut_compared a b xs ys

last_compared : (a b : ℕ) → slice_cmp nat_cmp (number_text a) (number_text b) ≡ nat_cmp a b
last_compared a b = number_compared a b [] [] ∙ then_end (nat_cmp a b)
  where
    then_end : (o : Ordering) → ordering_then o Equal ≡ o
    then_end Less = refl
    then_end Equal = refl
    then_end Greater = refl

-- the texts of two numbers compare as these do
pub numbers_compared : (a b c d : ℕ) → slice_cmp nat_cmp (numbers_text a b) (numbers_text c d) ≡ ordering_then (nat_cmp a c) (nat_cmp b d)
numbers_compared a b c d = number_compared a c (number_text b) (number_text d) ∙ ap (ordering_then (nat_cmp a c)) (last_compared b d)
