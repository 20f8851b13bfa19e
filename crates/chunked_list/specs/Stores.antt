-- What the parts of a list in chunks keep.
use Rattle.std.specs.Prelude.{◌≡◌, ℕ, ◌+◌, ◌<◌, ◌≤◌, List, [], length, take, vec_len, vec_capacity}
use Rattle.std.specs.List.{AllByRecursion, slice_index_or}
use Rattle.chunked_list.specs.declared.stores.Store.{Store}
use Rattle.hinted_chunks.specs.Hinted.{IsHinted, top_key}
use Rattle.chunked_list.specs.Joined.{joined_chunks}
use Rattle.hinted_chunks.specs.ChunkLimits.{chunk_limit, chunks_limit}
use Rattle.chunked_list.specs.Room.{excess_of, load_of, room_of}

-- a chunk of the list has an element, and is not full
abbrev pub IsSized : {X : Type 0} → List X → Type 0
IsSized chunk = (0 < length chunk) × (length chunk < chunk_limit)

abbrev pub AreSized : {X : Type 0} → List (List X) → Type 0
AreSized chunks = AllByRecursion IsSized chunks

-- how many elements stand before each chunk
pub record AreStarts {X : Type 0} (chunks : List (List X)) (starts : List ℕ) : Type 0 where
  pub len : length starts ≡ length chunks
  pub each : (i : ℕ) → i < length chunks → slice_index_or starts i 0 ≡ length (joined_chunks (take i chunks))

-- what a list in chunks keeps
pub record IsStore {X : Type 0} (key : X → List ℕ) (store : Store X) : Type 0 where
  pub sized : AreSized store.chunks.items
  pub spare : AllByRecursion (λ chunk. chunk ≡ []) store.spare.items
  pub excess : store.excess ≡ excess_of store.chunks.items
  pub count : store.count ≡ length (joined_chunks store.chunks.items)
  pub chunk_room : vec_len store.chunks + vec_len store.spare ≤ vec_capacity store.chunks
  pub spare_room : vec_len store.chunks + vec_len store.spare ≤ vec_capacity store.spare
  pub tops : IsHinted (top_key key) store.chunks.items store.tops
  pub tops_room : vec_len store.chunks + vec_len store.spare ≤ vec_capacity store.tops.numbers
  pub starts : AreStarts store.chunks.items store.starts.items
  pub starts_room : vec_len store.chunks + vec_len store.spare ≤ vec_capacity store.starts
  pub few : vec_len store.chunks + vec_len store.spare ≤ chunks_limit

-- its elements
abbrev pub elements_in : {X : Type 0} → Store X → List X
elements_in store = joined_chunks store.chunks.items

-- how many elements can come in
abbrev pub room_in : {X : Type 0} → Store X → ℕ
room_in store = room_of (vec_len store.spare) (load_of store.chunks.items)
