-- Searches by halves in lists of rows and of triples in order.
use Rattle.std.proofs.Common.{◌≡◌, ◌∙◌, ℕ, zero, suc, ◌+◌, ◌<◌, ◌≤◌, ◌↔◌, List, [], ◌∷◌, ◌++◌, length, take, drop, get_or, Bool, true, false, IsTrue, Option, Result, Ok, Err, refl, sym, ap, subst, inl, inr, true≢false, arith}
use Rattle.std.specs.List.{AllByRecursion, AllWithin, Contains, HoldsAt}
use Rattle.std.specs.List.Sorted.{IsBinarySearchResult, IsPartitionPoint, IsPartitionedBy, IsSearchInRange, IsSorted}
use Rattle.std.specs.Ordering.{is_eq, is_lt, ordering_reverse}
use Rattle.std.specs.Result.{is_ok}
use Rattle.std.specs.declared.cmp.Ordering.{Ordering}
use Rattle.std.specs.declared.cmp.Ordering.TheVariants.{Less, Equal, Greater}
use Rattle.std.proofs.lemmas.Bool.{cases_lt, false≢true}
use Rattle.std.proofs.lemmas.Cmp.{tied_itself}
use Rattle.std.proofs.lemmas.List.Sorted.{ranks_by, searchable_from_sorted, sorted_far}
use Rattle.rdf_terms.specs.declared.terms.Term.{Term}
use Rattle.tree_clock.specs.Lists.{Has}
use Rattle.reply_rows.specs.Times.{is_same_row}
use Rattle.reply_rows.specs.Rising.{IsRowPlace, IsRising, IsUpto, row_order}
use Rattle.reply_rows.proofs.Risen.{sorted_from_rising}
use Rattle.reply_rows.proofs.RowLaws.{rows_decide, rows_exact, rows_total, told_equal}
use Rattle.std.specs.Cmp.{IsTotalOrder}
use Rattle.std.proofs.lemmas.Map.Lookups.{CmpEqualImpliesEq}

abbrev pub Row : Type 0
Row = List (Option Term)

-- ---- what a search finds in a sorted list

-- a member's place, and the member at a place
contains_from_has : {X : Type 0} (xs : List X) (x : X) → Has xs x → Contains xs x
contains_from_has [] x h = absurd h
contains_from_has (y ∷ xs) x (inl e) = (0, omega arith, e)
contains_from_has (y ∷ xs) x (inr h) = let c = contains_from_has xs x h in (suc c.0, omega (arith, c.1), c.2)

has_at : {X : Type 0} (xs : List X) (k : ℕ) (d : X) → k < length xs → Has xs (get_or xs k d)
has_at [] k d h = absurd (omega (arith, h))
has_at (x ∷ xs) zero d h = inl refl
has_at (x ∷ xs) (suc k) d h = inr (has_at xs k d (omega (arith, h)))

module _ {X : Type 0} (R : X → X → Ordering) (total : IsTotalOrder R) (exact : CmpEqualImpliesEq R) where
  not_less : (x : X) → R x x ≡ Less → ⊥
  not_less x h = let e = tied_itself total x in cc

  not_greater : (x : X) → R x x ≡ Greater → ⊥
  not_greater x h = let e = tied_itself total x in cc

  not_in_gap : (xs : List X) (x : X) (i : ℕ) → AllWithin (λ y. R y x ≡ Less) xs 0 i → AllWithin (λ y. R y x ≡ Greater) xs i (length xs) → Has xs x → ⊥
  not_in_gap xs x i before behind h =
      let c = contains_from_has xs x h in
      elim (cases_lt c.0 i) [
        | inl l ↦ not_less x (subst (λ y. R y x ≡ Less) c.2 (before c.0 x (omega arith) l))
        | inr l ↦ not_greater x (subst (λ y. R y x ≡ Greater) c.2 (behind c.0 x l c.1))
      ]

  pub sorted_search : (xs : List X) (x : X) (r : Result ℕ ℕ) (b : Bool) → IsSorted R xs → IsSearchInRange r (length xs) → IsBinarySearchResult (λ y. R y x) xs r → b ≡ is_ok r → IsTrue b ↔ Has xs x
  sorted_search xs x (Ok i) b s l h e = (λ _. subst (λ y. Has xs y) (exact (get_or xs i x) x (h x)) (has_at xs i x l), λ _. e)
  sorted_search xs x (Err i) b s l h e = (
    λ t. absurd (false≢true (sym e ∙ t)),
    λ k. let p = h (searchable_from_sorted total (λ y. y) xs x s) in absurd (not_in_gap xs x i p.0 p.1 k),
  )

-- rows
pub row_found : (xs : List Row) (x : Row) (r : Result ℕ ℕ) (b : Bool) → IsRising row_order xs → IsSearchInRange r (length xs) → IsBinarySearchResult (λ y. row_order y x) xs r → b ≡ is_ok r
    → IsTrue b ↔ Has xs x
row_found xs x r b up l h e =
    sorted_search row_order rows_total rows_exact xs x r b (sorted_from_rising is_same_row rows_decide row_order rows_total rows_exact xs up) l h e

-- ---- the place of a row

-- from places to elements
within_take : {X : Type 0} (P : X → Type 0) (xs : List X) (i : ℕ) → AllWithin P xs 0 i → i ≤ length xs → AllByRecursion P (take i xs)
within_take P xs zero h l = tt
within_take P [] (suc i) h l = tt
within_take P (x ∷ xs) (suc i) h l = (h 0 x (omega arith) (omega arith), within_take P xs i (λ k d a b. h (suc k) d (omega arith) (omega (arith, b))) (omega (arith, l)))

within_drop : {X : Type 0} (P : X → Type 0) (xs : List X) (i : ℕ) → AllWithin P xs i (length xs) → AllByRecursion P (drop i xs)
within_drop P [] zero h = tt
within_drop P [] (suc i) h = tt
within_drop P (x ∷ xs) zero h = (h 0 x (omega arith) (omega arith), within_drop P xs zero (λ k d a b. h (suc k) d (omega arith) (omega (arith, b))))
within_drop P (x ∷ xs) (suc i) h = within_drop P xs i (λ k d a b. h (suc k) d (omega (arith, a)) (omega (arith, b)))

less_told : (o : Ordering) → is_lt o ≡ true → o ≡ Less
less_told Less h = refl
less_told Equal h = absurd (false≢true h)
less_told Greater h = absurd (false≢true h)

weaker : {X : Type 0} (P Q : X → Type 0) → ((x : X) → P x → Q x) → (xs : List X) → AllByRecursion P xs → AllByRecursion Q xs
weaker P Q w [] a = tt
weaker P Q w (x ∷ xs) a = (w x a.0, weaker P Q w xs a.1)

-- rows below a row are in front
pub row_parted : (xs : List Row) (x : Row) → IsRising row_order xs → IsPartitionedBy (λ y. is_lt (row_order y x)) xs
row_parted xs x up i j d l m h =
    let s = sorted_from_rising is_same_row rows_decide row_order rows_total rows_exact xs up in
    let far = sorted_far (λ a b. is_lt (row_order a b)) (ranks_by rows_total (λ a. a)) xs s i j d l m in
    by (row_order (get_or xs i d) x) refl far
  where
    by : (o : Ordering) → row_order (get_or xs i d) x ≡ o → is_lt (row_order (get_or xs j d) (get_or xs i d)) ≡ false → is_lt o ≡ true
    by Less e f = refl
    by Equal e f =
        absurd (true≢false (sym (subst (λ z. is_lt (row_order (get_or xs j d) z) ≡ true) (sym (rows_exact (get_or xs i d) x e)) h) ∙ f))
    by Greater e f =
        let turned : row_order x (get_or xs i d) ≡ Less = rows_total.antisymm x (get_or xs i d) ∙ ap ordering_reverse e in
        let less : row_order (get_or xs j d) (get_or xs i d) ≡ Less = rows_total.trans (get_or xs j d) x (get_or xs i d) (less_told (row_order (get_or xs j d) x) h) turned in
        absurd (true≢false (sym (ap is_lt less) ∙ f))

not_below : (x y : Row) → is_lt (row_order y x) ≡ false → IsUpto row_order x y
not_below x y h = h

pub place_found : (xs : List Row) (x : Row) (i : ℕ) → i ≤ length xs → IsPartitionPoint (λ y. is_lt (row_order y x) ≡ true) (λ y. is_lt (row_order y x) ≡ false) xs i → IsRowPlace row_order x xs i
place_found xs x i l p = record {
  within = l;
  below = weaker (λ y. is_lt (row_order y x) ≡ true) (λ y. row_order y x ≡ Less) (λ y h. less_told (row_order y x) h) (take i xs) (within_take (λ y. is_lt (row_order y x) ≡ true) xs i p.0 l);
  not_below = within_drop (λ y. is_lt (row_order y x) ≡ false) xs i p.1;
}

-- ---- equal rows

pub eq_told : (x y : Row) (b : Bool) → b ≡ is_eq (row_order x y) → IsTrue b ↔ (x ≡ y)
eq_told x y b e = (
  λ t. rows_exact x y (told_equal (row_order x y) (sym e ∙ t)),
  λ s. e ∙ ap is_eq (ap (row_order x) (sym s) ∙ tied_itself rows_total x),
)
