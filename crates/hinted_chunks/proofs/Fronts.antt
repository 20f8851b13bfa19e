-- What fronts of terms share, and what they are made of.
use Rattle.std.proofs.Common.{◌≡◌, ℕ, suc, ◌+◌, ◌<◌, ◌≤◌, List, [], ◌∷◌, ◌++◌, true, false, length, take, drop, get_or, refl, sym, subst, ap, inl, inr, arith}
use Rattle.std.proofs.lemmas.Bool.{cases_eq, eq-eqb, ne_eqb}
use Rattle.std.proofs.lemmas.List.{drop_all, drop_more}
use Rattle.text_rules.specs.Compare.{common}
use Rattle.hinted_chunks.specs.FrontLaws.{Put, alone, behind, front_alone, front_put, put_of}
use Rattle.hinted_chunks.specs.TermFronts.{is_put_behind, plain_front, plain_length}
use Rattle.hinted_chunks.proofs.Sharing.{same_at_none, same_before}

-- what two lexical forms have in common, their fronts share
shared_fronts : (a b : List ℕ) → take (common a b) (plain_front a) ≡ take (common a b) (plain_front b)
shared_fronts [] b = same_at_none (plain_front []) (plain_front b)
shared_fronts (x ∷ a) [] = same_at_none (plain_front (x ∷ a)) (plain_front [])
shared_fronts (x ∷ a) (y ∷ b) = elim (cases_eq x y) [
  | inl e ↦ rw (eq-eqb x y e) (subst (λ z. take (suc (common a b)) (plain_front (x ∷ a)) ≡ take (suc (common a b)) (plain_front (z ∷ b))) e (same (shared_fronts a b) (put_of x)))
  | inr n ↦ rw (ne_eqb x y n) (same_at_none (plain_front (x ∷ a)) (plain_front (y ∷ b)))
]
  where
    same : take (common a b) (plain_front a) ≡ take (common a b) (plain_front b) → Put x → take (suc (common a b)) (plain_front (x ∷ a)) ≡ take (suc (common a b)) (plain_front (x ∷ b))
    same more (alone p q f g) = rw (front_alone x a f, front_alone x b f) (ap (λ l. x ∷ l) more)
    same more (behind k f g) = rw (front_put x a f, front_put x b f) refl

pub fronts_shared : (n : ℕ) (a b : List ℕ) → n ≡ common a b → take n (plain_front a) ≡ take n (plain_front b)
fronts_shared n a b e = rw e (shared_fronts a b)

-- behind a byte that both have
pub front_behind : (n shared x : ℕ) (a b : List ℕ) → n ≤ shared + 1 → take shared a ≡ take shared b → take n (x ∷ a) ≡ take n (x ∷ b)
front_behind n shared x a b l e =
    let s : shared + 1 ≡ suc shared = omega arith in
    same_before n (suc shared) (x ∷ a) (x ∷ b) (omega (arith, l)) (ap (λ zs. x ∷ zs) e)

-- ---- the bytes before the first escape

pub plain_more : (xs : List ℕ) (i : ℕ) → i < length xs → is_put_behind (get_or xs i 0) ≡ false → plain_length (drop i xs) ≡ suc (plain_length (drop (i + 1) xs))
plain_more xs i l e = rw (drop_more xs i 0 l, e) refl

pub plain_stop : (xs : List ℕ) (i : ℕ) → i < length xs → is_put_behind (get_or xs i 0) ≡ true → plain_length (drop i xs) ≡ 0
plain_stop xs i l e = rw (drop_more xs i 0 l, e) refl

pub plain_end : (xs : List ℕ) (i : ℕ) → length xs ≤ i → plain_length (drop i xs) ≡ 0
plain_end xs i l = rw (drop_all i xs l) refl

plain_after : (x : ℕ) (xs : List ℕ) → is_put_behind x ≡ false → plain_length (x ∷ xs) ≡ suc (plain_length xs)
plain_after x xs e = rw e refl

-- what comes behind them
cut_plain : (xs : List ℕ) → plain_length xs < length xs → plain_front xs ≡ take (plain_length xs) xs ++ 92 ∷ []
cut_plain [] l = absurd (omega (arith, l))
cut_plain (x ∷ xs) l = by (cut_plain xs) (put_of x)
  where
    by : (plain_length xs < length xs → plain_front xs ≡ take (plain_length xs) xs ++ 92 ∷ []) → Put x → plain_front (x ∷ xs) ≡ take (plain_length (x ∷ xs)) (x ∷ xs) ++ 92 ∷ []
    by more (alone p q f g) = let n = plain_after x xs f in rw f (ap (λ zs. x ∷ zs) (more (omega (arith, l, n))))
    by more (behind k f g) = rw f refl

whole_plain : (xs : List ℕ) → length xs ≤ plain_length xs → plain_front xs ≡ take (plain_length xs) xs ++ 34 ∷ []
whole_plain [] l = refl
whole_plain (x ∷ xs) l = by (whole_plain xs) (put_of x)
  where
    none : is_put_behind x ≡ true → plain_length (x ∷ xs) ≡ 0
    none e = rw e refl

    by : (length xs ≤ plain_length xs → plain_front xs ≡ take (plain_length xs) xs ++ 34 ∷ []) → Put x → plain_front (x ∷ xs) ≡ take (plain_length (x ∷ xs)) (x ∷ xs) ++ 34 ∷ []
    by more (alone p q f g) = let n = plain_after x xs f in rw f (ap (λ zs. x ∷ zs) (more (omega (arith, l, n))))
    by more (behind k f g) = let n = none f in absurd (omega (arith, l, n))

pub plain_cut : (n : ℕ) (xs : List ℕ) → n ≡ plain_length xs → n < length xs → plain_front xs ≡ take n xs ++ 92 ∷ []
plain_cut n xs e l = subst (λ k. plain_front xs ≡ take k xs ++ 92 ∷ []) (sym e) (cut_plain xs (omega (arith, l, e)))

pub plain_whole : (n : ℕ) (xs : List ℕ) → n ≡ plain_length xs → length xs ≤ n → plain_front xs ≡ take n xs ++ 34 ∷ []
plain_whole n xs e l = subst (λ k. plain_front xs ≡ take k xs ++ 34 ∷ []) (sym e) (whole_plain xs (omega (arith, l, e)))
