-- What numbered pairs keep: slots, and keys in four orders. The invariant of `NumberedPairs`, and the private calls, cite it.
use Rattle.std.specs.Prelude.{◌≡◌, ℕ, ◌+◌, ◌<◌, ◌≤◌, List, [], ◌↔◌, Option, None, IsSome, length, min, vec_len, vec_capacity}
use Rattle.std.specs.List.{slice_index_or}
use Rattle.chunked_list.specs.Room.{ChunkedValue}
use Rattle.mld_ops.specs.declared.pair_lists.PairRow.{PairRow}
use Rattle.tree_clock.specs.Lists.{Has, IsAscending}
use Rattle.pair_orders.specs.Keys.{ranked_cmp, keys_by, key_numbers, slot_at}
use Rattle.pair_orders.specs.PairEntries.{StandOnce, PairsValue, entries_of}
use Rattle.pair_orders.specs.SlotLimit.{slots_limit}
use Rattle.pair_orders.specs.declared.keys.Key.{Key}
use Rattle.pair_orders.specs.declared.keys.RankedKey.{RankedKey}
use Rattle.pair_orders.specs.declared.keys.Shape.{Shape}
use Rattle.pair_orders.specs.declared.keys.Shape.TheVariants.{Dot, Subject, Predicate, Object}
use Rattle.pair_orders.specs.declared.lists.Lists.{Lists}
use Rattle.pair_orders.specs.declared.slots.Slots.{Slots}

-- the numbers are those of empty slots, each once
pub record AreFree (slots : List (Option PairRow)) (free : List ℕ) : Type 0 where
  pub within : (slot : ℕ) → Has free slot → slot < length slots
  pub empty : (slot : ℕ) → Has free slot → slot_at slots slot ≡ None
  pub once : StandOnce free

-- slots that a number has room for, of which the free ones are known
pub record AreSlots (slots : Slots) : Type 0 where
  pub free_are : AreFree slots.pairs.items slots.free.items
  pub few : vec_len slots.pairs ≤ slots_limit

-- one slot was given another content
pub record PutsAt (old new : List (Option PairRow)) (slot : ℕ) (content : Option PairRow) : Type 0 where
  pub here : slot_at new slot ≡ content
  pub elsewhere : (other : ℕ) → ¬ (other ≡ slot) → slot_at new other ≡ slot_at old other

-- keys stand in an order, the same that stand by dot
pub record AreKeysOf (shape : Shape) (keys : List RankedKey) (dots : List Key) : Type 0 where
  pub ascending : IsAscending ranked_cmp keys
  pub same : (key : Key) → Has (keys_by shape keys) key ↔ Has dots key

-- no keys, and no room
abbrev pub no_list : ChunkedValue RankedKey
no_list = record { elements = []; room = 0 }

-- one of the lists, by its place
abbrev pub list_at : Lists → ℕ → ChunkedValue RankedKey
list_at lists place = slice_index_or lists.keys place no_list

-- the keys by dot
abbrev pub dots_in : Lists → List Key
dots_in lists = keys_by Dot (list_at lists 0).elements

-- there are four lists, and each has those keys in its order
pub record AreLists (lists : Lists) : Type 0 where
  pub four : length lists.keys ≡ 4
  pub dot : IsAscending ranked_cmp (list_at lists 0).elements
  pub subject : AreKeysOf Subject (list_at lists 1).elements (dots_in lists)
  pub predicate : AreKeysOf Predicate (list_at lists 2).elements (dots_in lists)
  pub object : AreKeysOf Object (list_at lists 3).elements (dots_in lists)

-- how many keys can come into each without memory
abbrev pub lists_room : Lists → ℕ
lists_room lists = min (min (list_at lists 0).room (list_at lists 1).room) (min (list_at lists 2).room (list_at lists 3).room)

-- the keys have pairs in slots, no two in one slot, and no two have the same numbers
pub record AreHeld (slots : List (Option PairRow)) (keys : List Key) : Type 0 where
  pub occupied : (key : Key) → Has keys key → IsSome (slot_at slots key.slot)
  pub slots_apart : (a b : Key) → Has keys a → Has keys b → a.slot ≡ b.slot → a ≡ b
  pub numbers_apart : (a b : Key) → Has keys a → Has keys b → key_numbers a ≡ key_numbers b → a ≡ b

-- so many keys have pairs in slots, each once, of which none is lost
pub record AreFilled (slots : Slots) (keys : List Key) : Type 0 where
  pub slots_are : AreSlots slots
  pub held : AreHeld slots.pairs.items keys
  pub once : StandOnce keys
  pub none_lost : length keys + vec_len slots.free ≡ vec_len slots.pairs
  pub free_room : vec_len slots.pairs ≤ vec_capacity slots.free

-- what numbered pairs keep: each slot is a key's or a free one, and each can be let go without memory
pub record IsPairs (slots : Slots) (lists : Lists) : Type 0 where
  pub slots_are : AreSlots slots
  pub lists_are : AreLists lists
  pub held : AreHeld slots.pairs.items (dots_in lists)
  pub none_lost : length (dots_in lists) + vec_len slots.free ≡ vec_len slots.pairs
  pub free_room : vec_len slots.pairs ≤ vec_capacity slots.free

-- their value
abbrev pub pairs_value : Slots → Lists → PairsValue
pairs_value slots lists = record { pairs = entries_of slots.pairs.items (dots_in lists); room = min (vec_len slots.free) (lists_room lists) }
