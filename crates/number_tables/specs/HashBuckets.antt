-- Where the numbers of terms stand: in buckets of eight slots, by the terms' hashes, or in order. The private table of terms cites it.
use Rattle.std.specs.Prelude.{◌≡◌, ℕ, ◌-◌, ◌/◌, ◌^◌, ◌<◌, ◌⊎◌, List, Some, length, map, bit_and}
use Rattle.std.specs.List.{IsDistinct, slice_get}
use Rattle.std.specs.Ordering.{eq_by_cmp}
use Rattle.rdf_terms.specs.declared.terms.Term.{Term}
use Rattle.rdf_terms.specs.Order.{term_cmp}
use Rattle.tree_clock.specs.Lists.{Has, IsAscending}
use Rattle.number_tables.specs.declared.hashed.HashedNumber.{HashedNumber}
use Rattle.number_tables.specs.HashedTerms.{hashed_cmp, term_hash, IsHashed}

-- the number that stands in a slot where none stands
abbrev pub vacant_number : ℕ
vacant_number = 4294967295

-- which bucket a hash has, among so many slots: that of the hash's lower bits
abbrev pub bucket_of : ℕ → ℕ → ℕ
bucket_of slots hash = bit_and hash (slots / 8 - 1)

-- the slot is at a place in the bucket of a hash
pub record IsSlotAt (slots : List HashedNumber) (hash place : ℕ) (slot : HashedNumber) : Type 0 where
  pub bucket : place / 8 ≡ bucket_of (length slots) hash
  pub found : slice_get slots place ≡ Some slot

-- a number stands in the bucket of a hash, with that hash
abbrev pub HasSlot : List HashedNumber → ℕ → ℕ → Type 0
HasSlot slots hash number = (place : ℕ) × IsSlotAt slots hash place (record { hash = hash; number = number })

-- a place in the bucket of a hash where no number stands
abbrev pub IsVacancy : List HashedNumber → ℕ → ℕ → Type 0
IsVacancy slots hash place = (slot : HashedNumber) × IsSlotAt slots hash place slot × (slot.number ≡ vacant_number)

-- the bucket of a hash has no such place
abbrev pub IsFull : List HashedNumber → ℕ → Type 0
IsFull slots hash = (place : ℕ) → ¬ IsVacancy slots hash place

-- the numbers of the first so many terms stand in the buckets of their hashes or in order; what stands in order stands with its own
-- hash, and only where the bucket of that is full
pub record AreStanding (terms : List Term) (count : ℕ) (slots : List HashedNumber) (places : List HashedNumber) : Type 0 where
  pub stands : (number : ℕ) (term : Term) → number < count → slice_get terms number ≡ Some term
      → HasSlot slots (term_hash term) number ⊎ Has places (record { hash = term_hash term; number = number })
  pub hashed : (place : HashedNumber) → Has places place → IsHashed terms place
  pub ascending : IsAscending (hashed_cmp terms) places
  pub full : (place : HashedNumber) → Has places place → IsFull slots place.hash

-- what a table of terms keeps: no term stands twice, the numbers of all can be found, and the hashes of all are at hand
pub record IsTermTable (terms : List Term) (hashes : List ℕ) (slots : List HashedNumber) (places : List HashedNumber) : Type 0 where
  pub apart : IsDistinct (eq_by_cmp term_cmp) terms
  pub few : length terms < 2 ^ 32
  pub all_hashed : hashes ≡ map term_hash terms
  pub standing : AreStanding terms (length terms) slots places
