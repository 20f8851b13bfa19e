-- Pairs that are put in all at once.
use Rattle.std.proofs.Common.{◌≡◌, ◌∙◌, ◌+◌, ◌≤◌, ℕ, [], List, ◌∷◌, ◌++◌, ◌⊎◌, ◌↔◌, Option, None, Some, length, map, vec_len, vec_capacity, refl, sym, ap, subst, inl, inr, arith}
use Rattle.std.proofs.lemmas.List.{map-append}
use Rattle.chunked_list.specs.Room.{ChunkedValue}
use Rattle.mld_ops.specs.declared.pair_lists.PairRow.{PairRow}
use Rattle.mld_ops.proofs.AscendingLaws.{has_append, has_left, has_right}
use Rattle.tree_clock.specs.Lists.{Has}
use Rattle.pair_orders.specs.Keys.{slotted_key, key_numbers, keys_by, slot_at}
use Rattle.pair_orders.specs.PairEntries.{StandOnce, entries_of}
use Rattle.pair_orders.specs.KeptPairs.{AreSlots, AreFilled, AreKeysOf, AreLists, IsPairs, PutsAt, dots_in}
use Rattle.pair_orders.specs.declared.keys.Key.{Key}
use Rattle.pair_orders.specs.declared.keys.Numbers.{Numbers}
use Rattle.pair_orders.specs.declared.keys.RankedKey.{RankedKey}
use Rattle.pair_orders.specs.declared.keys.Shape.TheVariants.{Dot, Subject, Predicate, Object}
use Rattle.pair_orders.specs.declared.lists.Lists.{Lists}
use Rattle.pair_orders.specs.declared.slots.Slots.{Slots}
use Rattle.pair_orders.proofs.Changing.{once_by_dot, put_entries}
use Rattle.pair_orders.proofs.Holding.{held_same, inserted_held, same_entries}
use Rattle.pair_orders.proofs.Once.{length_same, once_front, once_last, once_more}

-- one more behind the others
behind : {X : Type 0} (xs : List X) (x y : X) → Has (xs ++ x ∷ []) y ↔ (Has xs y ⊎ (y ≡ x))
behind xs x y = (
  λ h. elim (has_append xs (x ∷ []) y h) [ inl k ↦ inl k | inr k ↦ elim k [ inl e ↦ inr (sym e) | inr n ↦ absurd n ] ],
  λ h. elim h [ inl k ↦ has_left xs (x ∷ []) y k | inr e ↦ has_right xs (x ∷ []) y (inl (sym e)) ],
)

module _ (slots new : Slots) (keys more : List Key) (numbers : Numbers) (pair : PairRow) (slot : ℕ) (key : Key) (filled : AreFilled slots keys) (none : (other : ℕ) → ¬ Has keys (slotted_key numbers other))
    (empty : slot_at slots.pairs.items slot ≡ None) (put : PutsAt slots.pairs.items new.pairs.items slot (Some pair)) (e : key ≡ slotted_key numbers slot) (m : more ≡ keys ++ key ∷ []) where
  members : (other : Key) → Has more other ↔ (Has keys other ⊎ (other ≡ key))
  members other = subst (λ (ks : List Key). Has ks other ↔ (Has keys other ⊎ (other ≡ key))) (sym m) (behind keys key other)

  pub filled_more : AreSlots new → vec_len new.pairs ≡ vec_len slots.pairs → vec_len slots.free ≡ vec_len new.free + 1 → vec_capacity slots.free ≤ vec_capacity new.free → length more ≡ length keys + 1 → AreFilled new more
  filled_more are pairs len capacity longer =
      let none_lost = filled.none_lost in
      let room = filled.free_room in
      record {
        slots_are = are;
        held = inserted_held slots.pairs.items new.pairs.items keys more numbers pair slot filled.held put empty none
            (subst (λ (k : Key). (other : Key) → Has more other ↔ (Has keys other ⊎ (other ≡ k))) e members);
        once = subst (λ (ks : List Key). StandOnce ks) (sym m) (once_more keys key filled.once (λ h. none slot (subst (Has keys) e h)));
        none_lost = omega arith;
        free_room = omega arith;
      }

  pub entries_more : (entry : Numbers × PairRow) → Has (entries_of new.pairs.items more) entry ↔ (Has (entries_of slots.pairs.items keys) entry ⊎ (entry ≡ (numbers, pair)))
  entries_more = put_entries slots.pairs.items new.pairs.items keys more numbers pair slot key filled.held empty put none members e

  pub numbers_more : (other : Key) → Has more other → Has keys other ⊎ (key_numbers other ≡ numbers)
  numbers_more other h = elim ((members other).0 h) [ inl k ↦ inl k | inr q ↦ inr (ap key_numbers (q ∙ e)) ]

-- ---- what is left of the entries, and what was put in

pub record IsFilling (all rest : List (Numbers × PairRow)) (slots : List (Option PairRow)) (keys : List Key) : Type 0 where
  pub members : (entry : Numbers × PairRow) → Has all entry ↔ (Has (entries_of slots keys) entry ⊎ Has rest entry)
  pub apart : (entry : Numbers × PairRow) → Has rest entry → (slot : ℕ) → ¬ Has keys (slotted_key entry.0 slot)
  pub once : StandOnce (map (λ entry. entry.0) rest)

pub filling_begun : (all : List (Numbers × PairRow)) (slots : List (Option PairRow)) (keys : List Key) → keys ≡ [] → StandOnce (map (λ entry. entry.0) all) → IsFilling all all slots keys
filling_begun all slots keys e once = subst (λ (ks : List Key). IsFilling all all slots ks) (sym e) (record {
  members = λ entry. (λ h. inr h, λ h. elim h [ inl k ↦ absurd k | inr k ↦ k ]);
  apart = λ entry h slot k. k;
  once = once;
})

has_first : {X Y : Type 0} (f : X → Y) (xs : List X) (x : X) → Has xs x → Has (map f xs) (f x)
has_first f [] x h = absurd h
has_first f (y ∷ xs) x (inl e) = inl (ap f e)
has_first f (y ∷ xs) x (inr h) = inr (has_first f xs x h)

module _ (all rest less : List (Numbers × PairRow)) (entry : Numbers × PairRow) (slots new : List (Option PairRow)) (keys more : List Key) (filling : IsFilling all rest slots keys) (e : rest ≡ less ++ entry ∷ []) where
  pub last_apart : (slot : ℕ) → ¬ Has keys (slotted_key entry.0 slot)
  last_apart = filling.apart entry (subst (λ (es : List (Numbers × PairRow)). Has es entry) (sym e) ((behind less entry entry).1 (inr refl)))

  once_both : StandOnce (map (λ entry. entry.0) less ++ entry.0 ∷ [])
  once_both =
      subst (λ (ns : List Numbers). StandOnce ns) (map-append (λ entry. entry.0) less (entry ∷ []))
      (subst (λ (es : List (Numbers × PairRow)). StandOnce (map (λ entry. entry.0) es)) e filling.once)

  in_rest : (other : Numbers × PairRow) → Has rest other ↔ (Has less other ⊎ (other ≡ entry))
  in_rest other = subst (λ (es : List (Numbers × PairRow)). Has es other ↔ (Has less other ⊎ (other ≡ entry))) (sym e) (behind less entry other)

  pub filling_more : ((other : Numbers × PairRow) → Has (entries_of new more) other ↔ (Has (entries_of slots keys) other ⊎ (other ≡ entry)))
      → ((other : Key) → Has more other → Has keys other ⊎ (key_numbers other ≡ entry.0)) → IsFilling all less new more
  filling_more added numbers = record {
    members = λ other. (
      λ h. elim ((filling.members other).0 h) [
        | inl k ↦ inl ((added other).1 (inl k))
        | inr k ↦ elim ((in_rest other).0 k) [ inl m ↦ inr m | inr q ↦ inl ((added other).1 (inr q)) ]
      ],
      λ h. (filling.members other).1 (elim h [
        | inl k ↦ elim ((added other).0 k) [ inl m ↦ inl m | inr q ↦ inr ((in_rest other).1 (inr q)) ]
        | inr k ↦ inr ((in_rest other).1 (inl k))
      ]),
    );
    apart = λ other h slot k. elim (numbers (slotted_key other.0 slot) k) [
      | inl m ↦ filling.apart other ((in_rest other).1 (inl h)) slot m
      | inr q ↦ once_last (map (λ entry. entry.0) less) entry.0 once_both (subst (Has (map (λ entry. entry.0) less)) q (has_first (λ entry. entry.0) less other h))
    ];
    once = once_front (map (λ entry. entry.0) less) entry.0 once_both;
  }

pub filling_ended : (all rest : List (Numbers × PairRow)) (slots : List (Option PairRow)) (keys : List Key) → IsFilling all rest slots keys → rest ≡ []
    → (entry : Numbers × PairRow) → Has (entries_of slots keys) entry ↔ Has all entry
filling_ended all rest slots keys filling e entry = (
  λ h. (filling.members entry).1 (inl h),
  λ h. elim ((filling.members entry).0 h) [ inl k ↦ k | inr k ↦ absurd (subst (λ (es : List (Numbers × PairRow)). Has es entry) e k) ],
)

pub nothing_left : {X : Type 0} (xs : List X) → length xs ≡ 0 → xs ≡ []
nothing_left [] e = refl
nothing_left (x ∷ xs) e = absurd (omega arith)

-- ---- the whole

-- where no slot is used yet
pub filled_none : (slots : Slots) (keys : List Key) → keys ≡ [] → AreSlots slots → vec_len slots.free ≡ vec_len slots.pairs → vec_len slots.pairs ≤ vec_capacity slots.free → AreFilled slots keys
filled_none slots keys e are none room = subst (λ (ks : List Key). AreFilled slots ks) (sym e) (record {
  slots_are = are;
  held = record { occupied = λ key h. absurd h; slots_apart = λ a b h k. absurd h; numbers_apart = λ a b h k. absurd h };
  once = tt;
  none_lost = omega (arith, none);
  free_room = room;
})

-- lists in each order, of the same keys
module _ (lists : Lists) (d s p o : ChunkedValue RankedKey) (keys : List Key) (e : lists.keys ≡ d ∷ s ∷ p ∷ o ∷ []) (dot : AreKeysOf Dot d.elements keys) (subject : AreKeysOf Subject s.elements keys)
    (predicate : AreKeysOf Predicate p.elements keys) (object : AreKeysOf Object o.elements keys) where
  over : (xs : List Key) → ((key : Key) → Has xs key ↔ Has keys key) → (key : Key) → Has xs key ↔ Has (keys_by Dot d.elements) key
  over xs same key = (λ h. (dot.same key).1 ((same key).0 h), λ h. (same key).1 ((dot.same key).0 h))

  pub lists_are : AreLists lists
  lists_are = subst (λ (xs : List (ChunkedValue RankedKey)). AreLists (record { keys = xs })) (sym e) (record {
    four = refl;
    dot = dot.ascending;
    subject = record { ascending = subject.ascending; same = over (keys_by Subject s.elements) subject.same };
    predicate = record { ascending = predicate.ascending; same = over (keys_by Predicate p.elements) predicate.same };
    object = record { ascending = object.ascending; same = over (keys_by Object o.elements) object.same };
  })

  pub lists_same : (key : Key) → Has (dots_in lists) key ↔ Has keys key
  lists_same key = subst (λ (xs : List (ChunkedValue RankedKey)). Has (dots_in (record { keys = xs })) key ↔ Has keys key) (sym e) (dot.same key)

pub built_is : (slots : Slots) (lists : Lists) (keys : List Key) → AreFilled slots keys → AreLists lists → ((key : Key) → Has (dots_in lists) key ↔ Has keys key) → IsPairs slots lists
built_is slots lists keys filled are same =
    let none_lost = filled.none_lost in
    let l = length_same (dots_in lists) keys (once_by_dot lists are) filled.once same in
    record {
      slots_are = filled.slots_are;
      lists_are = are;
      held = held_same slots.pairs.items keys (dots_in lists) same filled.held;
      none_lost = omega arith;
      free_room = filled.free_room;
    }

pub built_members : (slots : Slots) (lists : Lists) (keys : List Key) (all : List (Numbers × PairRow)) → ((key : Key) → Has (dots_in lists) key ↔ Has keys key)
    → ((entry : Numbers × PairRow) → Has (entries_of slots.pairs.items keys) entry ↔ Has all entry) → (entry : Numbers × PairRow) → Has (entries_of slots.pairs.items (dots_in lists)) entry ↔ Has all entry
built_members slots lists keys all same members entry =
    let s = same_entries slots.pairs.items (dots_in lists) keys same entry in
    (λ h. (members entry).0 (s.0 h), λ h. s.1 ((members entry).1 h))
