-- In an order whose leading numbers are those of the terms, pairs of one triple are neighbours.
use Rattle.std.proofs.Common.{◌≡◌, ◌∙◌, ℕ, List, [], ◌∷◌, Bool, Option, IsSome, map, take, get_or, sym, ap, subst, inl, inr}
use Rattle.std.proofs.lemmas.Cmp.{nat_list_cmp_total, tied_itself}
use Rattle.std.proofs.lemmas.Map.Lookups.{exact_bytes}
use Rattle.std.specs.Cmp.Lexicographic.{slice_cmp}
use Rattle.std.specs.List.{filter}
use Rattle.std.specs.Ordering.{nat_cmp}
use Rattle.std.specs.declared.cmp.Ordering.TheVariants.{Less, Equal}
use Rattle.mld_ops.specs.declared.pair_lists.PairRow.{PairRow}
use Rattle.mld_ops.proofs.AscendingLaws.{ascending_filter, below_member, has_filter}
use Rattle.tree_clock.specs.Lists.{Has, IsAscending}
use Rattle.pair_orders.specs.Keys.{ranks, shape_cmp, key_numbers, slot_at, LeadsByTerms}
use Rattle.pair_orders.specs.Orders.{IsOrder}
use Rattle.pair_orders.specs.PairEntries.{BeginsAlike, StandTogether, numbers_of_terms, entries_of}
use Rattle.pair_orders.specs.declared.keys.Key.{Key}
use Rattle.pair_orders.specs.declared.keys.Numbers.{Numbers}
use Rattle.pair_orders.specs.declared.keys.Shape.{Shape}
use Rattle.pair_orders.specs.declared.keys.Shape.TheVariants.{Dot, Subject, Predicate, Object}
use Rattle.pair_orders.proofs.Fronting.{front_ascends}
use Rattle.pair_orders.proofs.Holding.{entries_filter, entries_numbers, has_map}

-- the three numbers that lead, and those of the terms, tell each other
abbrev leading : Shape → Key → List ℕ
leading shape key = take 3 (ranks shape key)

abbrev terms_of : Key → ℕ × ℕ × ℕ
terms_of key = numbers_of_terms (key_numbers key)

same_terms : (shape : Shape) → LeadsByTerms shape → (a b : Key) → leading shape a ≡ leading shape b → terms_of a ≡ terms_of b
same_terms Dot l a b e = absurd l
same_terms Subject l a b e = ap (λ (r : List ℕ). (get_or r 0 0, get_or r 1 0, get_or r 2 0)) e
same_terms Predicate l a b e = ap (λ (r : List ℕ). (get_or r 2 0, get_or r 0 0, get_or r 1 0)) e
same_terms Object l a b e = ap (λ (r : List ℕ). (get_or r 1 0, get_or r 2 0, get_or r 0 0)) e

same_leading : (shape : Shape) → LeadsByTerms shape → (a b : Key) → terms_of a ≡ terms_of b → leading shape a ≡ leading shape b
same_leading Dot l a b e = absurd l
same_leading Subject l a b e = ap (λ (t : ℕ × ℕ × ℕ). t.0 ∷ t.1 ∷ t.2 ∷ []) e
same_leading Predicate l a b e = ap (λ (t : ℕ × ℕ × ℕ). t.1 ∷ t.2 ∷ t.0 ∷ []) e
same_leading Object l a b e = ap (λ (t : ℕ × ℕ × ℕ). t.2 ∷ t.0 ∷ t.1 ∷ []) e

module _ (shape : Shape) (leads : LeadsByTerms shape) where
  -- behind one with other terms stands none with these terms
  apart : (x y other : Key) → slice_cmp nat_cmp (leading shape x) (leading shape y) ≡ Less → shape_cmp shape y other ≡ Less → ¬ (terms_of other ≡ terms_of x)
  apart x y other l m e =
      let same = same_leading shape leads other x e in
      let below : slice_cmp nat_cmp (leading shape x) (leading shape other) ≡ Less = elim (front_ascends 3 (ranks shape y) (ranks shape other) m) [
        | inl n ↦ nat_list_cmp_total.trans (leading shape x) (leading shape y) (leading shape other) l n
        | inr q ↦ ap (λ w. slice_cmp nat_cmp (leading shape x) w) (sym (exact_bytes (leading shape y) (leading shape other) q)) ∙ l
      ] in
      let tied : slice_cmp nat_cmp (leading shape x) (leading shape other) ≡ Equal =
      ap (λ w. slice_cmp nat_cmp (leading shape x) w) same ∙ tied_itself nat_list_cmp_total (leading shape x) in
      cc

  next_apart : (x y : Key) → slice_cmp nat_cmp (leading shape x) (leading shape y) ≡ Less → ¬ (terms_of y ≡ terms_of x)
  next_apart x y l e =
      let tied : slice_cmp nat_cmp (leading shape x) (leading shape y) ≡ Equal =
      ap (λ w. slice_cmp nat_cmp (leading shape x) w) (same_leading shape leads y x e) ∙ tied_itself nat_list_cmp_total (leading shape x) in
      cc

  pub keys_together : (keys : List Key) → IsAscending (shape_cmp shape) keys → StandTogether terms_of keys
  keys_together [] a = tt
  keys_together (x ∷ []) a = (inr (λ other h. absurd h), tt)
  keys_together (x ∷ y ∷ keys) a = (
    elim (front_ascends 3 (ranks shape x) (ranks shape y) a.0.0) [
      | inl l ↦ inr (λ other h. elim h [
        | inl e ↦ subst (λ (k : Key). ¬ (terms_of k ≡ terms_of x)) e (next_apart x y l)
        | inr k ↦ apart x y other l (below_member (shape_cmp shape) y keys other a.1.0 k)
      ])
      | inr q ↦ inl (sym (same_terms shape leads x y (exact_bytes (leading shape x) (leading shape y) q)))
    ],
    keys_together (y ∷ keys) a.1,
  )

-- ---- what stands together after a map does so before it, and the other way round

pub has_image : {X Y : Type 0} (f : X → Y) (xs : List X) (x : X) → Has xs x → Has (map f xs) (f x)
has_image f [] x h = absurd h
has_image f (y ∷ xs) x (inl e) = inl (ap f e)
has_image f (y ∷ xs) x (inr h) = inr (has_image f xs x h)

alike_mapped : {X Y Z : Type 0} (f : X → Y) (g : Y → Z) (x : X) (xs : List X) → BeginsAlike (λ x. g (f x)) x xs → BeginsAlike g (f x) (map f xs)
alike_mapped f g x [] b = b
alike_mapped f g x (y ∷ xs) b = b

mapped_alike : {X Y Z : Type 0} (f : X → Y) (g : Y → Z) (x : X) (xs : List X) → BeginsAlike g (f x) (map f xs) → BeginsAlike (λ x. g (f x)) x xs
mapped_alike f g x [] b = b
mapped_alike f g x (y ∷ xs) b = b

together_mapped : {X Y Z : Type 0} (f : X → Y) (g : Y → Z) (xs : List X) → StandTogether (λ x. g (f x)) xs → StandTogether g (map f xs)
together_mapped f g [] t = tt
together_mapped f g (x ∷ xs) t = (
  elim t.0 [
    | inl b ↦ inl (alike_mapped f g x xs b)
    | inr n ↦ inr (λ other h e. let r = has_map f xs other h in n r.0 r.1 (ap g r.2 ∙ e))
  ],
  together_mapped f g xs t.1,
)

pub mapped_together : {X Y Z : Type 0} (f : X → Y) (g : Y → Z) (xs : List X) → StandTogether g (map f xs) → StandTogether (λ x. g (f x)) xs
mapped_together f g [] t = tt
mapped_together f g (x ∷ xs) t = (
  elim t.0 [
    | inl b ↦ inl (mapped_alike f g x xs b)
    | inr n ↦ inr (λ other h. n (f other) (has_image f xs other h))
  ],
  mapped_together f g xs t.1,
)

-- of the pairs of such an order, those whose numbers pass a test stand together
pub kept_together : (slots : List (Option PairRow)) (shape : Shape) (keys : List Key) (test : Numbers → Bool) → LeadsByTerms shape → IsOrder shape keys slots
    → StandTogether (λ entry. numbers_of_terms entry.0) (filter (λ entry. test entry.0) (entries_of slots keys))
kept_together slots shape keys test leads is =
    let kept = filter (λ key. test (key_numbers key)) keys in
    let occupied : (key : Key) → Has kept key → IsSome (slot_at slots key.slot) = λ key h. is.occupied key ((has_filter (λ key. test (key_numbers key)) keys key).0 h).0 in
    let by_key = keys_together shape leads kept (ascending_filter (shape_cmp shape) (λ key. test (key_numbers key)) keys is.ascending) in
    let by_numbers = together_mapped key_numbers numbers_of_terms kept by_key in
    let of_entries = subst (λ ns. StandTogether numbers_of_terms ns) (sym (entries_numbers slots kept occupied)) by_numbers in
    subst (λ (es : List (Numbers × PairRow)). StandTogether (λ entry. numbers_of_terms entry.0) es) (entries_filter slots test keys)
    (mapped_together (λ entry. entry.0) numbers_of_terms (entries_of slots kept) of_entries)
