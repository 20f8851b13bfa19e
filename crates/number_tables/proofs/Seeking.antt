-- What is sought by a key in a list that ascends by that key first, and then by number.
use Rattle.std.proofs.Common.{◌≡◌, ◌∙◌, ◌⊎◌, ℕ, zero, suc, ◌+◌, List, [], ◌∷◌, ◌++◌, Bool, true, false, ◌||◌, length, Option, None, Some, cond, refl, sym, ap, inl, inr, arith}
use Rattle.std.specs.Prelude.{position}
use Rattle.std.proofs.lemmas.Bool.{cases_Bool, true≢false, false≢true}
use Rattle.std.proofs.lemmas.Cmp.{alike_right}
use Rattle.std.proofs.lemmas.Iterator.Adapters.{position_from-zero}
use Rattle.std.specs.Cmp.{IsTotalOrder}
use Rattle.std.specs.List.{AllByRecursion, list_any, position_from, slice_get}
use Rattle.std.specs.Ordering.{nat_cmp, ordering_then, is_lt}
use Rattle.std.specs.declared.cmp.Ordering.{Ordering}
use Rattle.std.specs.declared.cmp.Ordering.TheVariants.{Less, Equal, Greater}
use Rattle.tree_clock.specs.Lists.{Has, IsAscending}
use Rattle.chunked_list.proofs.of_hinted_chunks.of_mld_ops.AscendingLaws.{below_member}
use Rattle.chunked_list.specs.Parted.{IsParted, IsFirstOf}

pub one_inside : {X : Type 0} (a b : X) → Some a ≡ Some b → a ≡ b
one_inside a b e = cc

-- ---- a list that ascends by a key first, and one key

lower : (o : Ordering) → is_lt o ≡ true → o ≡ Less
lower Less h = refl
lower Equal h = absurd (false≢true h)
lower Greater h = absurd (false≢true h)

-- what two orders in a row put before, the first doesn't put behind
data Upto (o : Ordering) : Type 0 where
  less : o ≡ Less → Upto o
  same : o ≡ Equal → Upto o

upto : (o p : Ordering) → ordering_then o p ≡ Less → Upto o
upto Less p h = less refl
upto Equal p h = same refl
upto Greater p h = cc

module _ {K : Type 0} (R : K → K → Ordering) (total : IsTotalOrder R) where
  -- what is not behind one that is before a third, is before that too
  upto_less : (x y k : K) → Upto (R x y) → R y k ≡ Less → R x k ≡ Less
  upto_less x y k (less e) h = total.trans x y k e h
  upto_less x y k (same e) h = total.congr x y k e ∙ h

  -- and what is not before one that another isn't before, is alike with it
  upto_same : (x y k : K) → Upto (R x y) → R y k ≡ Equal → is_lt (R x k) ≡ false → R x k ≡ Equal
  upto_same x y k (less e) h f = absurd (true≢false (sym (ap is_lt (sym (alike_right total y k x h) ∙ e)) ∙ f))
  upto_same x y k (same e) h f = total.congr x y k e ∙ h

module _ {X K : Type 0} (compare : K → K → Ordering) (total : IsTotalOrder compare) (key : X → K) (number : X → ℕ) (sought : K) where
  abbrev keyed_then : X → X → Ordering
  keyed_then a b = ordering_then (compare (key a) (key b)) (nat_cmp (number a) (number b))

  abbrev is_before : X → Bool
  is_before a = is_lt (compare (key a) sought)

  ordered : (a b : X) → keyed_then a b ≡ Less → Upto (compare (key a) (key b))
  ordered a b h = upto (compare (key a) (key b)) (nat_cmp (number a) (number b)) h

  fails : (a b : X) → keyed_then a b ≡ Less → is_before a ≡ false → is_before b ≡ false
  fails a b h e = elim (cases_Bool (is_before b)) [
    | inl t ↦ absurd (true≢false (sym (ap is_lt (upto_less compare total (key a) (key b) sought (ordered a b h) (lower (compare (key b) sought) t))) ∙ e))
    | inr f ↦ f
  ]

  all_fail : (a : X) (places : List X) → ((b : X) → Has places b → keyed_then a b ≡ Less) → is_before a ≡ false → AllByRecursion (λ b. is_before b ≡ false) places
  all_fail a [] h e = tt
  all_fail a (b ∷ places) h e = (fails a b (h b (inl refl)) e, all_fail a places (λ c k. h c (inr k)) e)

  -- what is sought divides the list
  pub sought_divides : (places : List X) → IsAscending keyed_then places → IsParted is_before places
  sought_divides [] a = tt
  sought_divides (x ∷ places) a = (λ e. all_fail x places (λ b k. below_member keyed_then x places b a.0 k) e, sought_divides places a.1)

  -- and where one has just that key, the first that isn't before it has
  pub first_has : (places : List X) (first : Option X) (place : X) → IsAscending keyed_then places → IsFirstOf is_before places first → Has places place
      → compare (key place) sought ≡ Equal → (found : X) × (first ≡ Some found) × (compare (key found) sought ≡ Equal)
  first_has [] first place a f h e = absurd h
  first_has (x ∷ places) first place a (inl f) (inl h) e = absurd (true≢false (sym f.0 ∙ ap is_before h ∙ ap is_lt e))
  first_has (x ∷ places) first place a (inl f) (inr h) e = first_has places first place a.1 f.1 h e
  first_has (x ∷ places) first place a (inr f) (inl h) e = (x, f.1, ap (λ (w : X). compare (key w) sought) h ∙ e)
  first_has (x ∷ places) first place a (inr f) (inr h) e =
      (x, f.1, upto_same compare total (key x) (key place) sought (ordered x place (below_member keyed_then x places place a.0 h)) e f.0)

-- the first that fails is a member
pub first_member : {X : Type 0} (p : X → Bool) (xs : List X) (first : X) → IsFirstOf p xs (Some first) → Has xs first
first_member {X = X} p [] first f = absurd (none first f)
  where
    none : (first : X) → Some first ≡ None → ⊥
    none first e = cc
first_member p (x ∷ xs) first (inl f) = inr (first_member p xs first f.1)
first_member p (x ∷ xs) first (inr f) = inl (sym (one_inside first x f.1))

-- ---- places and tests

absent_from : {X : Type 0} (p : X → Bool) (i : ℕ) (xs : List X) → position_from p i xs ≡ None → list_any p xs ≡ false
absent_from p i [] h = refl
absent_from p i (x ∷ xs) h = by (p x) (absent_from p (i + 1) xs) h
  where
    by : (b : Bool) → (position_from p (i + 1) xs ≡ None → list_any p xs ≡ false) → cond b (Some i) (position_from p (i + 1) xs) ≡ None → (b || list_any p xs) ≡ false
    by true f g = cc
    by false f g = f g

pub absent_any : {X : Type 0} (p : X → Bool) (xs : List X) → position p xs ≡ None → list_any p xs ≡ false
absent_any p xs h = absent_from p 0 xs (sym (position_from-zero p xs) ∙ h)

found_from : {X : Type 0} (p : X → Bool) (i : ℕ) (xs : List X) (n : ℕ) → position_from p i xs ≡ Some n → list_any p xs ≡ true
found_from p i [] n h = cc
found_from p i (x ∷ xs) n h = by (p x) (found_from p (i + 1) xs n) h
  where
    by : (b : Bool) → (position_from p (i + 1) xs ≡ Some n → list_any p xs ≡ true) → cond b (Some i) (position_from p (i + 1) xs) ≡ Some n → (b || list_any p xs) ≡ true
    by true f g = refl
    by false f g = f g

pub found_any : {X : Type 0} (p : X → Bool) (xs : List X) (n : ℕ) → position p xs ≡ Some n → list_any p xs ≡ true
found_any p xs n h = found_from p 0 xs n (sym (position_from-zero p xs) ∙ h)

pub none_by : (o : Option ℕ) → ((number : ℕ) → o ≡ Some number → ⊥) → None ≡ o
none_by None f = refl
none_by (Some number) f = absurd (f number refl)

-- ---- a value more

pub get_push : {X : Type 0} (xs : List X) (x : X) → slice_get (xs ++ x ∷ []) (length xs) ≡ Some x
get_push [] x = refl
get_push (y ∷ xs) x = get_push xs x

pub get_old : {X : Type 0} (xs : List X) (x own : X) (number : ℕ) → slice_get xs number ≡ Some own → slice_get (xs ++ x ∷ []) number ≡ Some own
get_old [] x own number h = cc
get_old (y ∷ xs) x own zero h = h
get_old (y ∷ xs) x own (suc number) h = get_old xs x own number h

pub get_new : {X : Type 0} (xs : List X) (x own : X) (number : ℕ) → slice_get (xs ++ x ∷ []) number ≡ Some own → (slice_get xs number ≡ Some own) ⊎ ((number ≡ length xs) × (own ≡ x))
get_new [] x own zero h = inr (refl, sym (one_inside x own h))
get_new [] x own (suc number) h = cc
get_new (y ∷ xs) x own zero h = inl h
get_new (y ∷ xs) x own (suc number) h = elim (get_new xs x own number h) [
  | inl k ↦ inl k
  | inr k ↦ let e : suc number ≡ suc (length xs) = omega (arith, k.0) in inr (e, k.1)
]
