-- Looks at the slots of a bucket, one after another.
use Rattle.std.proofs.Common.{◌≡◌, ◌∙◌, ◌⊎◌, ℕ, ◌+◌, ◌*◌, ◌/◌, ◌<◌, ◌≤◌, List, Some, length, get_or, min, sym, ap, inl, inr, arith}
use Rattle.std.proofs.lemmas.Bool.{cases_lt}
use Rattle.std.proofs.lemmas.Option.{get_or_from_slice_get, slice_get_within}
use Rattle.std.specs.List.{slice_get}
use Rattle.rdf_terms.specs.declared.terms.Term.{Term}
use Rattle.number_tables.specs.declared.hashed.HashedNumber.{HashedNumber}
use Rattle.number_tables.specs.HashBuckets.{bucket_of, vacant_number, HasSlot, IsFull}

-- a place in a bucket is between where the bucket begins and where it ends
within_bucket : (slots hash start end place at : ℕ) → start ≡ 8 * bucket_of slots hash → end ≡ min slots (start + 8) → end ≤ place → at / 8 ≡ bucket_of slots hash → at < slots
    → (start ≤ at) × (at < place)
within_bucket slots hash start end place at e f g h l = (omega (arith, e, h), omega (arith, e, f, g, h, l))

last_or_before : (place at : ℕ) → at < place + 1 → (at < place) ⊎ (at ≡ place)
last_or_before place at l = elim (cases_lt at place) [
  | inl k ↦ inl k
  | inr k ↦ let f : at ≡ place = omega (arith, l, k) in inr f
]

module _ (slots : List HashedNumber) (start : ℕ) where
  -- no slot from the start to before a place has the hash and the term's number
  abbrev pub NoneFound : List Term → Term → ℕ → ℕ → Type 0
  NoneFound terms term hash place =
      (at number : ℕ) → start ≤ at → at < place → slice_get slots at ≡ Some (record { hash = hash; number = number }) → ¬ (slice_get terms number ≡ Some term)

  -- none of them is vacant
  abbrev pub NoneVacant : ℕ → Type 0
  NoneVacant place = (at : ℕ) (slot : HashedNumber) → start ≤ at → at < place → slice_get slots at ≡ Some slot → ¬ (slot.number ≡ vacant_number)

  module _ (place : ℕ) (slot : HashedNumber) where
    same_slot : (at : ℕ) (other : HashedNumber) → at ≡ place → slice_get slots at ≡ Some other → get_or slots place slot ≡ other
    same_slot at other f h = get_or_from_slice_get slots place other slot (ap (λ n. slice_get slots n) (sym f) ∙ h)

    pub none_found_hash : (terms : List Term) (term : Term) (hash : ℕ) → NoneFound terms term hash place → ¬ ((get_or slots place slot).hash ≡ hash) → NoneFound terms term hash (place + 1)
    none_found_hash terms term hash none other at number s l h = elim (last_or_before place at l) [
      | inl k ↦ none at number s k h
      | inr f ↦ absurd (other (ap (λ (w : HashedNumber). w.hash) (same_slot at (record { hash = hash; number = number }) f h)))
    ]

    pub none_found_term : (terms : List Term) (term : Term) (hash : ℕ) → NoneFound terms term hash place → ¬ (slice_get terms (get_or slots place slot).number ≡ Some term)
        → NoneFound terms term hash (place + 1)
    none_found_term terms term hash none other at number s l h = elim (last_or_before place at l) [
      | inl k ↦ none at number s k h
      | inr f ↦ λ own. other (ap (λ (w : HashedNumber). slice_get terms w.number) (same_slot at (record { hash = hash; number = number }) f h) ∙ own)
    ]

    pub none_vacant_more : NoneVacant place → ¬ ((get_or slots place slot).number ≡ vacant_number) → NoneVacant (place + 1)
    none_vacant_more none other at own s l h = elim (last_or_before place at l) [
      | inl k ↦ none at own s k h
      | inr f ↦ λ e. other (ap (λ (w : HashedNumber). w.number) (same_slot at own f h) ∙ e)
    ]

  module _ (hash end place : ℕ) (e : start ≡ 8 * bucket_of (length slots) hash) (f : end ≡ min (length slots) (start + 8)) (g : end ≤ place) where
    pub none_standing_here : (terms : List Term) (term : Term) → NoneFound terms term hash place
        → (number : ℕ) → HasSlot slots hash number → ¬ (slice_get terms number ≡ Some term)
    none_standing_here terms term none number h =
        let l = slice_get_within slots h.0 (record { hash = hash; number = number }) h.1.found in
        let w = within_bucket (length slots) hash start end place h.0 e f g h.1.bucket l in
        none h.0 number w.0 w.1 h.1.found

    pub none_vacant : NoneVacant place → IsFull slots hash
    none_vacant none at vacancy =
        let l = slice_get_within slots at vacancy.0 vacancy.1.found in
        let w = within_bucket (length slots) hash start end place at e f g vacancy.1.bucket l in
        none at vacancy.0 w.0 w.1 vacancy.1.found vacancy.2

none_before : (start at : ℕ) → start ≤ at → at < start → ⊥
none_before start at s l = omega (arith, s, l)

pub none_found_yet : (slots : List HashedNumber) (start : ℕ) (terms : List Term) (term : Term) (hash : ℕ) → NoneFound slots start terms term hash start
none_found_yet slots start terms term hash at number s l h = absurd (none_before start at s l)

pub none_vacant_yet : (slots : List HashedNumber) (start : ℕ) → NoneVacant slots start start
none_vacant_yet slots start at slot s l h = absurd (none_before start at s l)
