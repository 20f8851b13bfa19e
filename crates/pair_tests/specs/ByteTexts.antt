-- Numbers as texts of four bytes.
use Rattle.std.specs.Prelude.{◌≡◌, ℕ, ◌<◌, ◌/◌, ◌%◌, ◌∷◌, [], List}
use Rattle.std.proofs.Common.{◌∙◌, refl, sym, ap, inl, inr, arith}
use Rattle.std.proofs.lemmas.Bool.{cases_lt}
use Rattle.std.specs.Cmp.{nat_cmp_is}
use Rattle.std.specs.Cmp.Lexicographic.{slice_cmp}
use Rattle.std.specs.Ordering.{nat_cmp, ordering_then}
use Rattle.std.specs.declared.cmp.Ordering.{Ordering}
use Rattle.std.specs.declared.cmp.Ordering.TheVariants.{Less, Equal, Greater}

-- the bytes of a number, the highest first
abbrev pub four_bytes : ℕ → List ℕ
four_bytes n = n / 256 / 256 / 256 ∷ n / 256 / 256 % 256 ∷ n / 256 % 256 ∷ n % 256 ∷ []

-- the last byte decides where the others are the same
last_compared : (a b : ℕ) → ordering_then (nat_cmp (a / 256) (b / 256)) (nat_cmp (a % 256) (b % 256)) ≡ nat_cmp a b
last_compared a b = elim (cases_lt (a / 256) (b / 256)) [
  | inl l ↦
      let h : a < b = omega (arith, l) in
      ap (λ o. ordering_then o (nat_cmp (a % 256) (b % 256))) (sym (nat_cmp_is (a / 256) (b / 256) Less l)) ∙ nat_cmp_is a b Less h
  | inr l ↦ elim (cases_lt (b / 256) (a / 256)) [
    | inl m ↦
        let h : b < a = omega (arith, m) in
        ap (λ o. ordering_then o (nat_cmp (a % 256) (b % 256))) (sym (nat_cmp_is (a / 256) (b / 256) Greater m)) ∙ nat_cmp_is a b Greater h
    | inr m ↦
        let e : a / 256 ≡ b / 256 = omega (arith, l, m) in
        ap (λ o. ordering_then o (nat_cmp (a % 256) (b % 256))) (sym (nat_cmp_is (a / 256) (b / 256) Equal e)) ∙ by_last e
  ]
]
  where
    by_last : a / 256 ≡ b / 256 → nat_cmp (a % 256) (b % 256) ≡ nat_cmp a b
    by_last e = elim (cases_lt (a % 256) (b % 256)) [
      | inl l ↦ let h : a < b = omega (arith, l, e) in sym (nat_cmp_is (a % 256) (b % 256) Less l) ∙ nat_cmp_is a b Less h
      | inr l ↦ elim (cases_lt (b % 256) (a % 256)) [
        | inl m ↦ let h : b < a = omega (arith, m, e) in sym (nat_cmp_is (a % 256) (b % 256) Greater m) ∙ nat_cmp_is a b Greater h
        | inr m ↦
            let k : a % 256 ≡ b % 256 = omega (arith, l, m) in
            let h : a ≡ b = omega (arith, k, e) in
            sym (nat_cmp_is (a % 256) (b % 256) Equal k) ∙ nat_cmp_is a b Equal h
      ]
    ]

grouped : (o p q : Ordering) → ordering_then o (ordering_then p q) ≡ ordering_then (ordering_then o p) q
grouped Less p q = refl
grouped Equal p q = refl
grouped Greater p q = refl

ended : (o : Ordering) → ordering_then o Equal ≡ o
ended Less = refl
ended Equal = refl
ended Greater = refl

-- numbers compare as their bytes do
pub bytes_compared : (a b : ℕ) → slice_cmp nat_cmp (four_bytes a) (four_bytes b) ≡ nat_cmp a b
bytes_compared a b =
    let o = nat_cmp (a / 256 / 256 / 256) (b / 256 / 256 / 256) in
    let p = nat_cmp (a / 256 / 256 % 256) (b / 256 / 256 % 256) in
    let q = nat_cmp (a / 256 % 256) (b / 256 % 256) in
    let r = nat_cmp (a % 256) (b % 256) in
    ap (λ t. ordering_then o (ordering_then p (ordering_then q t))) (ended r)
    ∙ grouped o p (ordering_then q r)
    ∙ ap (λ t. ordering_then t (ordering_then q r)) (last_compared (a / 256 / 256) (b / 256 / 256))
    ∙ grouped (nat_cmp (a / 256 / 256) (b / 256 / 256)) q r
    ∙ ap (λ t. ordering_then t r) (last_compared (a / 256) (b / 256))
    ∙ last_compared a b
