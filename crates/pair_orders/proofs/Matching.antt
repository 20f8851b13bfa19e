-- What is found in an order, as it is told of the pairs.
use Rattle.std.proofs.Common.{◌≡◌, List, [], ◌∷◌, ◌↔◌, Bool, cond, IsTrue, length, map, sym, subst, ap, inl, inr}
use Rattle.std.proofs.lemmas.Bool.{cases_Bool}
use Rattle.std.specs.List.{filter}
use Rattle.mld_ops.specs.declared.pair_lists.PairRow.{PairRow}
use Rattle.mld_ops.proofs.AscendingLaws.{has_filter}
use Rattle.tree_clock.specs.Lists.{Has}
use Rattle.pair_orders.specs.PairEntries.{StandOnce, StandTogether, FindsEntries, numbers_of_terms}
use Rattle.pair_orders.specs.declared.keys.Numbers.{Numbers}
use Rattle.pair_orders.proofs.Once.{length_same}

has_made : {X Y : Type 0} (f : X → Y) (xs : List X) (x : X) → Has xs x → Has (map f xs) (f x)
has_made f [] x h = absurd h
has_made f (y ∷ xs) x (inl e) = inl (ap f e)
has_made f (y ∷ xs) x (inr h) = inr (has_made f xs x h)

-- what a test leaves of a list in which nothing stands twice
once_members : {X Y : Type 0} (f : X → Y) (xs : List X) → StandOnce (map f xs) → StandOnce xs
once_members f [] once = tt
once_members f (x ∷ xs) once = (λ h. once.0 (has_made f xs x h), once_members f xs once.1)

has_kept : {X Y : Type 0} (f : X → Y) (test : X → Bool) (xs : List X) (y : Y) → Has (map f (filter test xs)) y → Has (map f xs) y
has_kept f test [] y h = absurd h
has_kept f test (x ∷ xs) y h = elim (cases_Bool (test x)) [
  | inl t ↦ elim (subst (λ (b : Bool). Has (map f (cond b (x ∷ filter test xs) (filter test xs))) y) t h) [ inl e ↦ inl e | inr k ↦ inr (has_kept f test xs y k) ]
  | inr g ↦ inr (has_kept f test xs y (subst (λ (b : Bool). Has (map f (cond b (x ∷ filter test xs) (filter test xs))) y) g h))
]

once_kept : {X Y : Type 0} (f : X → Y) (test : X → Bool) (xs : List X) → StandOnce (map f xs) → StandOnce (map f (filter test xs))
once_kept f test [] once = tt
once_kept f test (x ∷ xs) once = elim (cases_Bool (test x)) [
  | inl t ↦ rw t (λ h. once.0 (has_kept f test xs (f x) h), once_kept f test xs once.1)
  | inr g ↦ rw g (once_kept f test xs once.1)
]

-- a list has the same pairs as another, and in neither two have the same numbers
module _ (test : Numbers → Bool) (pairs entries : List (Numbers × PairRow)) (same : (entry : Numbers × PairRow) → Has entries entry ↔ Has pairs entry)
    (once : StandOnce (map (λ entry. entry.0) entries)) where
  same_kept : (entry : Numbers × PairRow) → Has (filter (λ entry. test entry.0) entries) entry ↔ (Has pairs entry × IsTrue (test entry.0))
  same_kept entry =
      let f = has_filter (λ entry. test entry.0) entries entry in
      (λ h. let m = f.0 h in ((same entry).0 m.0, m.1), λ h. f.1 ((same entry).1 h.0, h.1))

  pub finds_entries : StandTogether (λ entry. numbers_of_terms entry.0) (filter (λ entry. test entry.0) entries) → (found : List PairRow)
      → found ≡ map (λ entry. entry.1) (filter (λ entry. test entry.0) entries) → FindsEntries test pairs found
  finds_entries together found e = record {
    entries = filter (λ entry. test entry.0) entries;
    are = sym e;
    members = same_kept;
    once = once_kept (λ entry. entry.0) (λ entry. test entry.0) entries once;
    together = together;
  }

  -- as many match
  pub length_kept : StandOnce (map (λ entry. entry.0) pairs) → length (filter (λ entry. test entry.0) entries) ≡ length (filter (λ entry. test entry.0) pairs)
  length_kept other =
      length_same (filter (λ entry. test entry.0) entries) (filter (λ entry. test entry.0) pairs)
      (once_members (λ entry. entry.0) (filter (λ entry. test entry.0) entries) (once_kept (λ entry. entry.0) (λ entry. test entry.0) entries once))
      (once_members (λ entry. entry.0) (filter (λ entry. test entry.0) pairs) (once_kept (λ entry. entry.0) (λ entry. test entry.0) pairs other))
      (λ entry. let f = has_filter (λ entry. test entry.0) pairs entry in (λ h. f.1 ((same_kept entry).0 h), λ h. (same_kept entry).1 (f.0 h)))
