-- What a binary search tells of an ascending list of pairs.
use Rattle.std.proofs.Common.{◌≡◌, ◌∙◌, ℕ, ◌<◌, Bool, IsTrue, List, length, get_or, take, ◌+◌, ◌⊎◌, ◌↔◌, Result, Ok, Err, sym, subst, inl, inr, arith}
use Rattle.std.proofs.lemmas.Bool.{cases_lt, false≢true}
use Rattle.std.specs.List.{AllWithin, HoldsAt, insert, remove}
use Rattle.std.specs.List.Sorted.{IsBinarySearchResult, IsSearchInRange}
use Rattle.std.specs.Result.{is_ok}
use Rattle.std.specs.declared.cmp.Ordering.TheVariants.{Less, Equal, Greater}
use Rattle.tree_clock.specs.Lists.{Has, IsAscending}
use Rattle.mld_ops.specs.declared.tagged.Tagged.{Tagged}
use Rattle.mld_ops.specs.Tagged.{tagged_cmp}
use Rattle.mld_ops.proofs.TaggedLaws.{tagged_total, tagged_exact}
use Rattle.mld_ops.proofs.AscendingLaws.{has_take_more, has_at, contains_from_has, not_below_itself, searchable, ascending_insert, has_insert, ascending_remove, has_remove}

-- a place that compares as equal has the pair
pub found_at : (xs : List Tagged) (x : Tagged) (i : ℕ) → HoldsAt (λ y. tagged_cmp y x ≡ Equal) xs i → get_or xs i x ≡ x
found_at xs x i h = tagged_exact (get_or xs i x) x (h x)

pub has_found : (xs : List Tagged) (x : Tagged) (i : ℕ) → i < length xs → HoldsAt (λ y. tagged_cmp y x ≡ Equal) xs i → Has xs x
has_found xs x i l h = subst (λ y. Has xs y) (found_at xs x i h) (has_at xs i x l)

-- between what is below the pair and what is above it, it isn't there
pub not_has_gap : (xs : List Tagged) (x : Tagged) (i : ℕ) → AllWithin (λ y. tagged_cmp y x ≡ Less) xs 0 i → AllWithin (λ y. tagged_cmp y x ≡ Greater) xs i (length xs) → ¬ Has xs x
not_has_gap xs x i before behind h =
    let c = contains_from_has xs x h in
    elim (cases_lt c.0 i) [
      | inl l ↦ not_below_itself tagged_cmp tagged_total x (subst (λ y. tagged_cmp y x ≡ Less) c.2 (before c.0 x (omega arith) l))
      | inr l ↦ not_above x (subst (λ y. tagged_cmp y x ≡ Greater) c.2 (behind c.0 x l c.1))
    ]
  where
    not_above : (x : Tagged) → tagged_cmp x x ≡ Greater → ⊥
    not_above x h = let e = tagged_total.antisymm x x in cc

-- the search finds a pair exactly where it is a member
pub search_decides : (xs : List Tagged) (x : Tagged) (r : Result ℕ ℕ) (b : Bool) → IsAscending tagged_cmp xs → IsSearchInRange r (length xs) → IsBinarySearchResult (λ y. tagged_cmp y x) xs r → b ≡ is_ok r → IsTrue b ↔ Has xs x
search_decides xs x (Ok i) b a l h e = (λ _. has_found xs x i l h, λ _. e)
search_decides xs x (Err i) b a l h e = (
  λ t. absurd (false≢true (sym e ∙ t)),
  λ k. let p = h (searchable tagged_cmp tagged_total xs x a) in absurd (not_has_gap xs x i p.0 p.1 k),
)

-- a pair put where the search says
pub inserted_ascends : (xs ys : List Tagged) (x : Tagged) (i : ℕ) → ys ≡ insert xs i x → IsAscending tagged_cmp xs → IsBinarySearchResult (λ y. tagged_cmp y x) xs (Err i) → IsAscending tagged_cmp ys
inserted_ascends xs ys x i e a h =
    let p = h (searchable tagged_cmp tagged_total xs x a) in
    rw e (ascending_insert tagged_cmp tagged_total xs i x a p.0 p.1)

pub inserted_has : (xs ys : List Tagged) (x : Tagged) (i : ℕ) → ys ≡ insert xs i x → (y : Tagged) → Has ys y ↔ (Has xs y ⊎ (y ≡ x))
inserted_has xs ys x i e y = rw e (has_insert xs i x y)

-- a pair that is there already
pub stays_has : (xs : List Tagged) (x : Tagged) (i : ℕ) → i < length xs → HoldsAt (λ y. tagged_cmp y x ≡ Equal) xs i → (y : Tagged) → Has xs y ↔ (Has xs y ⊎ (y ≡ x))
stays_has xs x i l h y = (λ k. inl k, λ k. elim k [ inl m ↦ m | inr e ↦ subst (λ z. Has xs z) (sym e) (has_found xs x i l h) ])

-- a pair taken out where the search found it
pub removed_ascends : (xs ys : List Tagged) (x : Tagged) (i : ℕ) → ys ≡ remove xs i → IsAscending tagged_cmp xs → i < length xs → HoldsAt (λ y. tagged_cmp y x ≡ Equal) xs i → IsAscending tagged_cmp ys
removed_ascends xs ys x i e a l h = rw e (ascending_remove tagged_cmp tagged_total xs i x l (found_at xs x i h) a)

pub removed_has : (xs ys : List Tagged) (x : Tagged) (i : ℕ) → ys ≡ remove xs i → IsAscending tagged_cmp xs → i < length xs → HoldsAt (λ y. tagged_cmp y x ≡ Equal) xs i → (y : Tagged) → Has ys y ↔ (Has xs y × ¬ (y ≡ x))
removed_has xs ys x i e a l h y = rw e (has_remove tagged_cmp tagged_total xs i x y l (found_at xs x i h) a)

-- a pair that isn't there
pub absent_has : (xs : List Tagged) (x : Tagged) (i : ℕ) → IsAscending tagged_cmp xs → IsBinarySearchResult (λ y. tagged_cmp y x) xs (Err i) → (y : Tagged) → Has xs y ↔ (Has xs y × ¬ (y ≡ x))
absent_has xs x i a h y =
    let p = h (searchable tagged_cmp tagged_total xs x a) in
    (λ k. (k, λ e. not_has_gap xs x i p.0 p.1 (subst (λ z. Has xs z) e k)), λ k. k.0)

-- one more of the pairs to take out
pub removed_more : (olds xs ys deletes : List Tagged) (i : ℕ) (d : Tagged) → i < length deletes → d ≡ get_or deletes i d
    → ((y : Tagged) → Has xs y ↔ (Has olds y × ¬ Has (take i deletes) y)) → ((y : Tagged) → Has ys y ↔ (Has xs y × ¬ (y ≡ d)))
    → (y : Tagged) → Has ys y ↔ (Has olds y × ¬ Has (take (i + 1) deletes) y)
removed_more olds xs ys deletes i d l e before after y = (
  λ h. let g = (after y).0 h in let f = (before y).0 g.0 in (
    f.0,
    λ k. elim ((has_take_more deletes i d y l).0 k) [ inl m ↦ f.1 m | inr n ↦ g.1 (sym n ∙ sym e) ],
  ),
  λ h. (after y).1 (
    (before y).1 (h.0, λ m. h.1 ((has_take_more deletes i d y l).1 (inl m))),
    λ n. h.1 ((has_take_more deletes i d y l).1 (inr (sym e ∙ sym n))),
  ),
)
