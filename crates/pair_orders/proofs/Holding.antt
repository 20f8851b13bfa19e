-- Keys with pairs in slots: what stands for them, and what an insert and a removal make of it.
use Rattle.std.proofs.Common.{◌≡◌, ◌∙◌, ◌+◌, ℕ, List, [], ◌∷◌, ◌⊎◌, ◌↔◌, Bool, true, false, Option, None, Some, IsSome, length, map, filter_map, refl, sym, ap, subst, inl, inr, arith}
use Rattle.std.proofs.lemmas.Bool.{cases_Bool, false≢true}
use Rattle.std.specs.List.{filter, cons_option}
use Rattle.std.specs.Option.{option_map}
use Rattle.mld_ops.specs.declared.pair_lists.PairRow.{PairRow}
use Rattle.tree_clock.specs.Lists.{Has}
use Rattle.pair_orders.specs.Keys.{slotted_key, key_numbers, slot_at}
use Rattle.pair_orders.specs.PairEntries.{StandOnce, HasNumbers, keyed_entry, entries_of}
use Rattle.pair_orders.specs.KeptPairs.{AreHeld, PutsAt}
use Rattle.pair_orders.specs.declared.keys.Key.{Key}
use Rattle.pair_orders.specs.declared.keys.Numbers.{Numbers}
use Rattle.pair_orders.proofs.Slotting.{none_or_some}

-- ---- what is made of the members of a list, where something is

from_front : {Y : Type 0} (o : Option Y) (rest : List Y) (y : Y) → Has (cons_option o rest) y → (o ≡ Some y) ⊎ Has rest y
from_front None rest y h = inr h
from_front (Some z) rest y (inl e) = inl (ap Some e)
from_front (Some z) rest y (inr h) = inr h

to_front : {Y : Type 0} (o : Option Y) (rest : List Y) (y : Y) → o ≡ Some y → Has (cons_option o rest) y
to_front None rest y e = cc
to_front (Some z) rest y e = let q : z ≡ y = cc in inl q

to_rest : {Y : Type 0} (o : Option Y) (rest : List Y) (y : Y) → Has rest y → Has (cons_option o rest) y
to_rest None rest y h = h
to_rest (Some z) rest y h = inr h

has_filter_map : {X Y : Type 0} (f : X → Option Y) (xs : List X) (y : Y) → Has (filter_map f xs) y ↔ ((x : X) × Has xs x × (f x ≡ Some y))
has_filter_map f [] y = (λ h. absurd h, λ h. absurd h.1)
has_filter_map f (x ∷ xs) y = (
  λ h. elim (from_front (f x) (filter_map f xs) y h) [
    | inl e ↦ (x, inl refl, e)
    | inr k ↦ let r = (has_filter_map f xs y).0 k in (r.0, inr r.1, r.2)
  ],
  λ h. elim h.1 [
    | inl e ↦ to_front (f x) (filter_map f xs) y (ap f e ∙ h.2)
    | inr k ↦ to_rest (f x) (filter_map f xs) y ((has_filter_map f xs y).1 (h.0, k, h.2))
  ],
)

-- ---- entries

-- a key of the list stands for the entry
pub record StandsFor (slots : List (Option PairRow)) (keys : List Key) (entry : Numbers × PairRow) : Type 0 where
  pub key : Key
  pub member : Has keys key
  pub pair_is : slot_at slots key.slot ≡ Some entry.1
  pub numbers_are : key_numbers key ≡ entry.0

entry_is : (o : Option PairRow) (numbers : Numbers) (entry : Numbers × PairRow) → option_map (λ pair. (numbers, pair)) o ≡ Some entry → (o ≡ Some entry.1) × (numbers ≡ entry.0)
entry_is None numbers entry e = cc
entry_is (Some pair) numbers entry e = let q : (numbers, pair) ≡ entry = cc in (ap (λ w. Some w.1) q, ap (λ w. w.0) q)

is_entry : (o : Option PairRow) (numbers : Numbers) (entry : Numbers × PairRow) → o ≡ Some entry.1 → numbers ≡ entry.0 → option_map (λ pair. (numbers, pair)) o ≡ Some entry
is_entry None numbers entry e q = cc
is_entry (Some pair) numbers entry e q = let p : pair ≡ entry.1 = cc in λ i. Some (q i, p i)

pub has_entry : (slots : List (Option PairRow)) (keys : List Key) (entry : Numbers × PairRow) → Has (entries_of slots keys) entry ↔ StandsFor slots keys entry
has_entry slots keys entry =
    let f = has_filter_map (keyed_entry slots) keys entry in (
      λ h. let k = f.0 h in let e = entry_is (slot_at slots k.0.slot) (key_numbers k.0) entry k.2 in record { key = k.0; member = k.1; pair_is = e.0; numbers_are = e.1 },
      λ s. f.1 (s.key, s.member, is_entry (slot_at slots s.key.slot) (key_numbers s.key) entry s.pair_is s.numbers_are),
    )

-- a key with these numbers
pub with_numbers : (keys : List Key) (key : Key) (numbers : Numbers) → Has keys key → key_numbers key ≡ numbers → Has keys (slotted_key numbers key.slot)
with_numbers keys key numbers h e = subst (Has keys) (ap (λ n. slotted_key n key.slot) e) h

pub some_of : {A : Type 0} (content : Option A) → IsSome content → (value : A) × (content ≡ Some value)
some_of None h = absurd (false≢true h)
some_of (Some value) h = (value, refl)

-- some pair has the numbers exactly where some key has them
pub has_numbers : (slots : List (Option PairRow)) (keys : List Key) (numbers : Numbers) → AreHeld slots keys → HasNumbers (entries_of slots keys) numbers ↔ ((slot : ℕ) × Has keys (slotted_key numbers slot))
has_numbers slots keys numbers held = (
  λ h. let s = (has_entry slots keys (numbers, h.0)).0 h.1 in (s.key.slot, with_numbers keys s.key numbers s.member s.numbers_are),
  λ h. let o = some_of (slot_at slots h.0) (held.occupied (slotted_key numbers h.0) h.1) in
      (o.0, (has_entry slots keys (numbers, o.0)).1 (record { key = slotted_key numbers h.0; member = h.1; pair_is = o.1; numbers_are = refl })),
)

-- the same keys stand for the same entries
pub same_entries : (slots : List (Option PairRow)) (keys others : List Key) → ((key : Key) → Has keys key ↔ Has others key) → (entry : Numbers × PairRow) → Has (entries_of slots keys) entry ↔ Has (entries_of slots others) entry
same_entries slots keys others same entry = (
  λ h. let s = (has_entry slots keys entry).0 h in
      (has_entry slots others entry).1 (record { key = s.key; member = (same s.key).0 s.member; pair_is = s.pair_is; numbers_are = s.numbers_are }),
  λ h. let s = (has_entry slots others entry).0 h in
      (has_entry slots keys entry).1 (record { key = s.key; member = (same s.key).1 s.member; pair_is = s.pair_is; numbers_are = s.numbers_are }),
)

-- slots that show the same have the same entries
pub entries_kept : (slots new : List (Option PairRow)) → ((slot : ℕ) → slot_at new slot ≡ slot_at slots slot) → (keys : List Key) → entries_of new keys ≡ entries_of slots keys
entries_kept slots new same [] = refl
entries_kept slots new same (key ∷ keys) =
    ap (λ o. cons_option (option_map (λ pair. (key_numbers key, pair)) o) (entries_of new keys)) (same key.slot)
    ∙ ap (λ es. cons_option (keyed_entry slots key) es) (entries_kept slots new same keys)

pub held_kept : (slots new : List (Option PairRow)) → ((slot : ℕ) → slot_at new slot ≡ slot_at slots slot) → (keys : List Key) → AreHeld slots keys → AreHeld new keys
held_kept slots new same keys held = record {
  occupied = λ key h. subst (λ o. IsSome o) (sym (same key.slot)) (held.occupied key h);
  slots_apart = held.slots_apart;
  numbers_apart = held.numbers_apart;
}

-- the entries whose numbers pass a test are those of the keys whose numbers do
pub entries_filter : (slots : List (Option PairRow)) (test : Numbers → Bool) (keys : List Key) → entries_of slots (filter (λ key. test (key_numbers key)) keys) ≡ filter (λ entry. test entry.0) (entries_of slots keys)
entries_filter slots test [] = refl
entries_filter slots test (key ∷ keys) = by (slot_at slots key.slot) refl (cases_Bool (test (key_numbers key))) (entries_filter slots test keys)
  where
    by : (o : Option PairRow) → slot_at slots key.slot ≡ o → (test (key_numbers key) ≡ true) ⊎ (test (key_numbers key) ≡ false)
        → entries_of slots (filter (λ key. test (key_numbers key)) keys) ≡ filter (λ entry. test entry.0) (entries_of slots keys)
        → entries_of slots (filter (λ key. test (key_numbers key)) (key ∷ keys)) ≡ filter (λ entry. test entry.0) (entries_of slots (key ∷ keys))
    by None e (inl t) rest = rw (t, e) rest
    by None e (inr f) rest = rw (f, e) rest
    by (Some pair) e (inl t) rest = rw (t, e, t) (ap (λ es. (key_numbers key, pair) ∷ es) rest)
    by (Some pair) e (inr f) rest = rw (f, e, f) rest

-- ---- how many there are, and that each is there once

module _ (slots : List (Option PairRow)) where
  numbers_front : (o : Option PairRow) (numbers : Numbers) (rest : List (Numbers × PairRow)) → IsSome o → map (λ entry. entry.0) (cons_option (option_map (λ pair. (numbers, pair)) o) rest) ≡ numbers ∷ map (λ entry. entry.0) rest
  numbers_front None numbers rest h = absurd (false≢true h)
  numbers_front (Some pair) numbers rest h = refl

  -- the numbers of the entries are those of the keys
  pub entries_numbers : (keys : List Key) → ((key : Key) → Has keys key → IsSome (slot_at slots key.slot)) → map (λ entry. entry.0) (entries_of slots keys) ≡ map key_numbers keys
  entries_numbers [] occupied = refl
  entries_numbers (key ∷ keys) occupied =
      numbers_front (slot_at slots key.slot) (key_numbers key) (entries_of slots keys) (occupied key (inl refl))
      ∙ ap (λ ns. key_numbers key ∷ ns) (entries_numbers keys (λ other h. occupied other (inr h)))

  length_front : (o : Option PairRow) (numbers : Numbers) (rest : List (Numbers × PairRow)) → IsSome o → length (cons_option (option_map (λ pair. (numbers, pair)) o) rest) ≡ length rest + 1
  length_front None numbers rest h = absurd (false≢true h)
  length_front (Some pair) numbers rest h = omega arith

  -- there are as many
  pub length_entries : (keys : List Key) → ((key : Key) → Has keys key → IsSome (slot_at slots key.slot)) → length (entries_of slots keys) ≡ length keys
  length_entries [] occupied = refl
  length_entries (key ∷ keys) occupied =
      let l = length_front (slot_at slots key.slot) (key_numbers key) (entries_of slots keys) (occupied key (inl refl)) in
      let m = length_entries keys (λ other h. occupied other (inr h)) in
      l ∙ ap (λ n. n + 1) m ∙ omega arith

pub has_map : {X Y : Type 0} (f : X → Y) (xs : List X) (y : Y) → Has (map f xs) y → (x : X) × Has xs x × (f x ≡ y)
has_map f [] y h = absurd h
has_map f (x ∷ xs) y (inl e) = (x, inl refl, e)
has_map f (x ∷ xs) y (inr h) = let r = has_map f xs y h in (r.0, inr r.1, r.2)

-- what tells the members apart stands once
pub once_map : {X Y : Type 0} (f : X → Y) (xs : List X) → StandOnce xs → ((a b : X) → Has xs a → Has xs b → f a ≡ f b → a ≡ b) → StandOnce (map f xs)
once_map f [] once apart = tt
once_map f (x ∷ xs) once apart = (
  λ h. let r = has_map f xs (f x) h in once.0 (subst (Has xs) (apart r.0 x (inr r.1) (inl refl) r.2) r.1),
  once_map f xs once.1 (λ a b h k. apart a b (inr h) (inr k)),
)

-- no two entries have the same numbers
pub once_entries : (slots : List (Option PairRow)) (keys : List Key) → AreHeld slots keys → StandOnce keys → StandOnce (map (λ entry. entry.0) (entries_of slots keys))
once_entries slots keys held once = subst (λ ns. StandOnce ns) (sym (entries_numbers slots keys held.occupied)) (once_map key_numbers keys once held.numbers_apart)

-- what is held under some keys is so under the same in another order
pub held_same : (slots : List (Option PairRow)) (keys others : List Key) → ((key : Key) → Has others key ↔ Has keys key) → AreHeld slots keys → AreHeld slots others
held_same slots keys others same held = record {
  occupied = λ key h. held.occupied key ((same key).0 h);
  slots_apart = λ a b h k. held.slots_apart a b ((same a).0 h) ((same b).0 k);
  numbers_apart = λ a b h k. held.numbers_apart a b ((same a).0 h) ((same b).0 k);
}

-- ---- a pair that comes

module _ (slots new : List (Option PairRow)) (keys more : List Key) (numbers : Numbers) (pair : PairRow) (slot : ℕ) (held : AreHeld slots keys) (put : PutsAt slots new slot (Some pair))
    (empty : slot_at slots slot ≡ None) (none : (other : ℕ) → ¬ Has keys (slotted_key numbers other)) (members : (key : Key) → Has more key ↔ (Has keys key ⊎ (key ≡ slotted_key numbers slot))) where
  elsewhere : (key : Key) → Has keys key → ¬ (key.slot ≡ slot)
  elsewhere key h e = none_or_some (slot_at slots slot) empty (subst (λ s. IsSome (slot_at slots s)) e (held.occupied key h))

  others : (key : Key) → Has keys key → ¬ (key_numbers key ≡ numbers)
  others key h e = none key.slot (with_numbers keys key numbers h e)

  kept : (key : Key) → Has keys key → slot_at new key.slot ≡ slot_at slots key.slot
  kept key h = put.elsewhere key.slot (elsewhere key h)

  pub inserted_held : AreHeld new more
  inserted_held = record {
    occupied = λ key h. elim ((members key).0 h) [
      | inl k ↦ subst (λ o. IsSome o) (sym (kept key k)) (held.occupied key k)
      | inr e ↦ subst (λ (k : Key). IsSome (slot_at new k.slot)) (sym e) (subst (λ o. IsSome o) (sym put.here) refl)
    ];
    slots_apart = λ a b h k e. elim ((members a).0 h) [
      | inl m ↦ elim ((members b).0 k) [ inl n ↦ held.slots_apart a b m n e | inr q ↦ absurd (elsewhere a m (e ∙ ap (λ w. w.slot) q)) ]
      | inr p ↦ elim ((members b).0 k) [ inl n ↦ absurd (elsewhere b n (sym e ∙ ap (λ w. w.slot) p)) | inr q ↦ p ∙ sym q ]
    ];
    numbers_apart = λ a b h k e. elim ((members a).0 h) [
      | inl m ↦ elim ((members b).0 k) [ inl n ↦ held.numbers_apart a b m n e | inr q ↦ absurd (others a m (e ∙ ap key_numbers q)) ]
      | inr p ↦ elim ((members b).0 k) [ inl n ↦ absurd (others b n (sym e ∙ ap key_numbers p)) | inr q ↦ p ∙ sym q ]
    ];
  }

  new_entry : (entry : Numbers × PairRow) (key : Key) → key ≡ slotted_key numbers slot → slot_at new key.slot ≡ Some entry.1 → key_numbers key ≡ entry.0 → entry ≡ (numbers, pair)
  new_entry entry key e p q =
      let s : Some entry.1 ≡ Some pair = sym p ∙ ap (λ (k : Key). slot_at new k.slot) e ∙ put.here in
      let t : entry.1 ≡ pair = cc in
      let n : entry.0 ≡ numbers = sym q ∙ ap key_numbers e in
      λ i. (n i, t i)

  pub inserted_entries : (entry : Numbers × PairRow) → Has (entries_of new more) entry ↔ (Has (entries_of slots keys) entry ⊎ (entry ≡ (numbers, pair)))
  inserted_entries entry = (
    λ h. let s = (has_entry new more entry).0 h in elim ((members s.key).0 s.member) [
      | inl k ↦ inl ((has_entry slots keys entry).1 (record { key = s.key; member = k; pair_is = sym (kept s.key k) ∙ s.pair_is; numbers_are = s.numbers_are }))
      | inr e ↦ inr (new_entry entry s.key e s.pair_is s.numbers_are)
    ],
    λ h. elim h [
      | inl k ↦
          let s = (has_entry slots keys entry).0 k in
          (has_entry new more entry).1 (record { key = s.key; member = (members s.key).1 (inl s.member); pair_is = kept s.key s.member ∙ s.pair_is; numbers_are = s.numbers_are })
      | inr e ↦ subst (Has (entries_of new more)) (sym e)
          ((has_entry new more (numbers, pair)).1 (record { key = slotted_key numbers slot; member = (members (slotted_key numbers slot)).1 (inr refl); pair_is = put.here; numbers_are = refl }))
    ],
  )

-- ---- a pair that goes

module _ (slots new : List (Option PairRow)) (keys less : List Key) (key : Key) (held : AreHeld slots keys) (put : PutsAt slots new key.slot None) (member : Has keys key)
    (members : (other : Key) → Has less other ↔ (Has keys other × ¬ (other ≡ key))) where
  left : (other : Key) → Has keys other → ¬ (other ≡ key) → slot_at new other.slot ≡ slot_at slots other.slot
  left other h n = put.elsewhere other.slot (λ e. n (held.slots_apart other key h member e))

  pub removed_held : AreHeld new less
  removed_held = record {
    occupied = λ other h. let m = (members other).0 h in subst (λ o. IsSome o) (sym (left other m.0 m.1)) (held.occupied other m.0);
    slots_apart = λ a b h k. held.slots_apart a b ((members a).0 h).0 ((members b).0 k).0;
    numbers_apart = λ a b h k. held.numbers_apart a b ((members a).0 h).0 ((members b).0 k).0;
  }

  pub removed_entries : (entry : Numbers × PairRow) → Has (entries_of new less) entry ↔ (Has (entries_of slots keys) entry × ¬ (entry.0 ≡ key_numbers key))
  removed_entries entry = (
    λ h. let s = (has_entry new less entry).0 h in let m = (members s.key).0 s.member in (
      (has_entry slots keys entry).1 (record { key = s.key; member = m.0; pair_is = sym (left s.key m.0 m.1) ∙ s.pair_is; numbers_are = s.numbers_are }),
      λ e. m.1 (held.numbers_apart s.key key m.0 member (s.numbers_are ∙ e)),
    ),
    λ h.
        let s = (has_entry slots keys entry).0 h.0 in
        let n : ¬ (s.key ≡ key) = λ e. h.1 (sym s.numbers_are ∙ ap key_numbers e) in
        (has_entry new less entry).1 (record { key = s.key; member = (members s.key).1 (s.member, n); pair_is = left s.key s.member n ∙ s.pair_is; numbers_are = s.numbers_are }),
  )
