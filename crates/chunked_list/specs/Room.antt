-- How many elements can come in without memory.
use Rattle.std.specs.Prelude.{ℕ, ◌+◌, ◌-◌, ◌*◌, List, [], ◌∷◌, length, max, min}
use Rattle.hinted_chunks.specs.ChunkLimits.{half_limit}

-- by how many elements the chunks pass their halves, summed up
abbrev pub excess_of : {X : Type 0} → List (List X) → ℕ
excess_of [] = 0
excess_of (chunk ∷ chunks) = (length chunk - half_limit) + excess_of chunks

-- how many elements the last chunk has, as far as they come to a half; the given number where there is no chunk
abbrev pub last_half : {X : Type 0} → ℕ → List (List X) → ℕ
last_half given [] = given
last_half given (chunk ∷ chunks) = last_half (min half_limit (length chunk)) chunks

-- the excess, and the last chunk's half too; that is a whole one where there is no chunk, since the first element needs one to spare
abbrev pub load_of : {X : Type 0} → List (List X) → ℕ
load_of chunks = excess_of chunks + last_half half_limit chunks

-- as many elements can come in, wherever they go: each takes one chunk to spare at most, and a chunk is split only once its
-- excess comes to a half, and one comes behind the last only once that has a half
abbrev pub room_of : ℕ → ℕ → ℕ
room_of spare load = max spare (half_limit * spare + (half_limit - 1) - load)

-- what contracts see of a list in chunks
pub record ChunkedValue (X : Type 0) : Type 0 where
  pub elements : List X
  pub room : ℕ
