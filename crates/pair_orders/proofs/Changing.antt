-- What numbered pairs keep when room is made, a pair comes, and a pair goes.
use Rattle.std.proofs.Common.{◌≡◌, ◌∙◌, ◌+◌, ◌≤◌, ◌<◌, ℕ, [], List, ◌∷◌, ◌⊎◌, ◌↔◌, Bool, true, false, Option, None, Some, IfSome, IfNone, IsTrue, length, map, vec_len, vec_capacity, refl, sym, ap, subst, inl, inr, arith}
use Rattle.std.proofs.lemmas.Bool.{false≢true, cases_lt}
use Rattle.std.specs.Option.{is_some}
use Rattle.mld_ops.specs.declared.pair_lists.PairRow.{PairRow}
use Rattle.tree_clock.specs.Lists.{Has}
use Rattle.pair_orders.specs.Keys.{slotted_key, key_numbers, slot_at}
use Rattle.pair_orders.specs.PairEntries.{StandOnce, HasNumbers, HasTerms, PairsValue, entries_of}
use Rattle.pair_orders.specs.KeptPairs.{AreSlots, PutsAt, AreLists, AreHeld, IsPairs, pairs_value, list_at, dots_in}
use Rattle.pair_orders.specs.declared.keys.Key.{Key}
use Rattle.pair_orders.specs.declared.keys.Numbers.{Numbers}
use Rattle.pair_orders.specs.declared.keys.Shape.TheVariants.{Dot}
use Rattle.pair_orders.specs.declared.lists.Lists.{Lists}
use Rattle.pair_orders.specs.declared.slots.Slots.{Slots}
use Rattle.pair_orders.proofs.Once.{length_more}
use Rattle.pair_orders.proofs.Ranking.{once_keys}
use Rattle.pair_orders.proofs.Holding.{has_entry, has_numbers, some_of, held_kept, once_entries, inserted_held, inserted_entries, removed_held}

pub once_by_dot : (lists : Lists) → AreLists lists → StandOnce (dots_in lists)
once_by_dot lists are = once_keys Dot (list_at lists 0).elements are.dot

-- no two pairs have the same numbers
pub numbers_once : (slots : Slots) (lists : Lists) (pairs : PairsValue) → pairs_value slots lists ≡ pairs → IsPairs slots lists → StandOnce (map (λ entry. entry.0) pairs.pairs)
numbers_once slots lists pairs e is =
    subst (λ (v : PairsValue). StandOnce (map (λ entry. entry.0) v.pairs)) e (once_entries slots.pairs.items (dots_in lists) is.held (once_by_dot lists is.lists_are))

-- room is made
pub prepared_is : (slots new : Slots) (lists wider : Lists) → IsPairs slots lists → AreSlots new → ((slot : ℕ) → slot_at new.pairs.items slot ≡ slot_at slots.pairs.items slot)
    → vec_len new.pairs + vec_len slots.free ≡ vec_len slots.pairs + vec_len new.free → vec_len new.pairs ≤ vec_capacity new.free → AreLists wider → (dots_in wider) ≡ (dots_in lists) → IsPairs new wider
prepared_is slots new lists wider is are same made room lists_are e =
    let none_lost = is.none_lost in
    let l = ap (λ (keys : List Key). length keys) e in
    record {
      slots_are = are;
      lists_are = lists_are;
      held = subst (AreHeld new.pairs.items) (sym e) (held_kept slots.pairs.items new.pairs.items same (dots_in lists) is.held);
      none_lost = omega arith;
      free_room = room;
    }

-- a pair comes
pub put_is : (slots new : Slots) (lists more : Lists) (numbers : Numbers) (pair : PairRow) (slot : ℕ) (key : Key) → IsPairs slots lists → AreSlots new → slot_at slots.pairs.items slot ≡ None
    → PutsAt slots.pairs.items new.pairs.items slot (Some pair) → vec_len new.pairs ≡ vec_len slots.pairs → vec_len slots.free ≡ vec_len new.free + 1 → vec_capacity slots.free ≤ vec_capacity new.free
    → ((other : ℕ) → ¬ Has (dots_in lists) (slotted_key numbers other)) → AreLists more → ((other : Key) → Has (dots_in more) other ↔ (Has (dots_in lists) other ⊎ (other ≡ key))) → key ≡ slotted_key numbers slot → IsPairs new more
put_is slots new lists more numbers pair slot key is are empty put pairs len capacity none lists_are members e =
    let ms = subst (λ (k : Key). (other : Key) → Has (dots_in more) other ↔ (Has (dots_in lists) other ⊎ (other ≡ k))) e members in
    let l = length_more (dots_in lists) (dots_in more) (slotted_key numbers slot) (once_by_dot lists is.lists_are) (once_by_dot more lists_are) (none slot) ms in
    let none_lost = is.none_lost in
    let room = is.free_room in
    record {
      slots_are = are;
      lists_are = lists_are;
      held = inserted_held slots.pairs.items new.pairs.items (dots_in lists) (dots_in more) numbers pair slot is.held put empty none ms;
      none_lost = omega arith;
      free_room = omega arith;
    }

pub put_entries : (slots new : List (Option PairRow)) (keys more : List Key) (numbers : Numbers) (pair : PairRow) (slot : ℕ) (key : Key) → AreHeld slots keys → slot_at slots slot ≡ None → PutsAt slots new slot (Some pair)
    → ((other : ℕ) → ¬ Has keys (slotted_key numbers other)) → ((other : Key) → Has more other ↔ (Has keys other ⊎ (other ≡ key))) → key ≡ slotted_key numbers slot
    → (entry : Numbers × PairRow) → Has (entries_of new more) entry ↔ (Has (entries_of slots keys) entry ⊎ (entry ≡ (numbers, pair)))
put_entries slots new keys more numbers pair slot key held empty put none members e =
    inserted_entries slots new keys more numbers pair slot held put empty none (subst (λ (k : Key). (other : Key) → Has more other ↔ (Has keys other ⊎ (other ≡ k))) e members)

-- a pair goes
pub taken_is : (slots new : Slots) (lists less : Lists) (key : Key) → IsPairs slots lists → AreSlots new → PutsAt slots.pairs.items new.pairs.items key.slot None → vec_len new.pairs ≡ vec_len slots.pairs
    → vec_len new.free ≡ vec_len slots.free + 1 → vec_capacity slots.free ≤ vec_capacity new.free → Has (dots_in lists) key → AreLists less
    → ((other : Key) → Has (dots_in less) other ↔ (Has (dots_in lists) other × ¬ (other ≡ key))) → IsPairs new less
taken_is slots new lists less key is are put pairs len capacity member lists_are members =
    let l = length_more (dots_in less) (dots_in lists) key (once_by_dot less lists_are) (once_by_dot lists is.lists_are) (λ h. ((members key).0 h).1 refl)
    (λ other. (
      λ h. elim (same_or_not other.slot key.slot) [ inl e ↦ inr (is.held.slots_apart other key h member e) | inr n ↦ inl ((members other).1 (h, λ e. n (ap (λ k. k.slot) e))) ],
      λ h. elim h [ inl k ↦ ((members other).0 k).0 | inr e ↦ subst (Has (dots_in lists)) (sym e) member ],
    )) in
    let none_lost = is.none_lost in
    let room = is.free_room in
    record {
      slots_are = are;
      lists_are = lists_are;
      held = removed_held slots.pairs.items new.pairs.items (dots_in lists) (dots_in less) key is.held put member members;
      none_lost = omega arith;
      free_room = omega arith;
    }
  where
    same_or_not : (a b : ℕ) → (a ≡ b) ⊎ (¬ (a ≡ b))
    same_or_not a b = elim (cases_lt a b) [
      | inl l ↦ inr (λ e. omega arith)
      | inr g ↦ elim (cases_lt b a) [ inl l ↦ inr (λ e. omega arith) | inr h ↦ inl (omega arith) ]
    ]

-- where a key is, not all slots are free
pub some_used : (slots : Slots) (lists : Lists) (key : Key) → IsPairs slots lists → Has (dots_in lists) key → vec_len slots.free < vec_capacity slots.free
some_used slots lists key is member = let p = positive (dots_in lists) member in let none_lost = is.none_lost in let room = is.free_room in omega arith
  where
    positive : (keys : List Key) → Has keys key → 0 < length keys
    positive [] h = absurd h
    positive (k ∷ keys) h = omega arith

-- ---- whether a pair is there

-- a pair with the numbers isn't put in again
pub inserted_none : (slots : List (Option PairRow)) (keys : List Key) (numbers : Numbers) (pair : PairRow) → AreHeld slots keys → ((slot : ℕ) × Has keys (slotted_key numbers slot))
    → (entry : Numbers × PairRow) → Has (entries_of slots keys) entry ↔ (Has (entries_of slots keys) entry ⊎ ((entry ≡ (numbers, pair)) × ¬ HasNumbers (entries_of slots keys) numbers))
inserted_none slots keys numbers pair held there entry = (
  λ h. inl h,
  λ h. elim h [ inl k ↦ k | inr k ↦ absurd (k.1 ((has_numbers slots keys numbers held).1 there)) ],
)

pub inserted_one : (slots : List (Option PairRow)) (keys : List Key) (numbers : Numbers) (pair : PairRow) (after : List (Numbers × PairRow)) → AreHeld slots keys → ((slot : ℕ) → ¬ Has keys (slotted_key numbers slot))
    → ((entry : Numbers × PairRow) → Has after entry ↔ (Has (entries_of slots keys) entry ⊎ (entry ≡ (numbers, pair))))
    → (entry : Numbers × PairRow) → Has after entry ↔ (Has (entries_of slots keys) entry ⊎ ((entry ≡ (numbers, pair)) × ¬ HasNumbers (entries_of slots keys) numbers))
inserted_one slots keys numbers pair after held none members entry = (
  λ h. elim ((members entry).0 h) [ inl k ↦ inl k | inr e ↦ inr (e, λ k. let s = (has_numbers slots keys numbers held).0 k in none s.0 s.1) ],
  λ h. (members entry).1 (elim h [ inl k ↦ inl k | inr k ↦ inr k.0 ]),
)

-- where no pair has the numbers, none is to go
pub removed_none : (slots : List (Option PairRow)) (keys : List Key) (numbers : Numbers) → AreHeld slots keys → ((slot : ℕ) → ¬ Has keys (slotted_key numbers slot))
    → (entry : Numbers × PairRow) → Has (entries_of slots keys) entry ↔ (Has (entries_of slots keys) entry × ¬ (entry.0 ≡ numbers))
removed_none slots keys numbers held none entry = (
  λ h. (h, λ e. let s = (has_numbers slots keys numbers held).0 (entry.1, subst (λ (n : Numbers). Has (entries_of slots keys) (n, entry.1)) e h) in none s.0 s.1),
  λ h. h.0,
)

-- what was found tells
pub found_tells : (slots : List (Option PairRow)) (keys : List Key) (numbers : Numbers) (found : Option ℕ) (answer : Bool) → AreHeld slots keys → IfSome found (λ slot. Has keys (slotted_key numbers slot))
    → IfNone found ((slot : ℕ) → ¬ Has keys (slotted_key numbers slot)) → answer ≡ is_some found → IsTrue answer ↔ HasNumbers (entries_of slots keys) numbers
found_tells slots keys numbers None answer held some none e = (λ h. absurd (false≢true (sym e ∙ h)), λ h. let s = (has_numbers slots keys numbers held).0 h in absurd (none s.0 s.1))
found_tells slots keys numbers (Some slot) answer held some none e = (λ h. (has_numbers slots keys numbers held).1 (slot, some), λ h. e)

pub terms_tell : (slots : List (Option PairRow)) (keys : List Key) (s p o : ℕ) (answer : Bool) → AreHeld slots keys
    → (IsTrue answer ↔ ((key : Key) × Has keys key × (key.s ≡ s) × (key.p ≡ p) × (key.o ≡ o))) → IsTrue answer ↔ HasTerms (entries_of slots keys) s p o
terms_tell slots keys s p o answer held tells = (
  λ h.
      let k = tells.0 h in
      let c = some_of (slot_at slots k.0.slot) (held.occupied k.0 k.1) in
      ((key_numbers k.0, c.0), (has_entry slots keys (key_numbers k.0, c.0)).1 (record { key = k.0; member = k.1; pair_is = c.1; numbers_are = refl }), k.2, k.3, k.4),
  λ h.
      let t = (has_entry slots keys h.0).0 h.1 in
      let n = t.numbers_are in
      tells.1 (t.key, t.member, ap (λ n. n.s) n ∙ h.2, ap (λ n. n.p) n ∙ h.3, ap (λ n. n.o) n ∙ h.4),
)

pub found_there : (keys : List Key) (numbers : Numbers) (found : Option ℕ) → IfSome found (λ slot. Has keys (slotted_key numbers slot)) → true ≡ is_some found → (slot : ℕ) × Has keys (slotted_key numbers slot)
found_there keys numbers None some e = absurd (false≢true (sym e))
found_there keys numbers (Some slot) some e = (slot, some)

pub found_none : (keys : List Key) (numbers : Numbers) (found : Option ℕ) → IfNone found ((slot : ℕ) → ¬ Has keys (slotted_key numbers slot)) → false ≡ is_some found → (slot : ℕ) → ¬ Has keys (slotted_key numbers slot)
found_none keys numbers None none e = none
found_none keys numbers (Some slot) none e = absurd (false≢true e)
