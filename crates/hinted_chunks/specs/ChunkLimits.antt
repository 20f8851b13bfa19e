-- The limits of lists in chunks.
use Rattle.std.specs.Prelude.{ℕ}

-- the elements that a chunk may have
abbrev pub chunk_limit : ℕ
chunk_limit = 64

-- the elements that each half has of a chunk that is split
abbrev pub half_limit : ℕ
half_limit = 32

-- the chunks that a list may have, with those to spare: 2 ^ 40
abbrev pub chunks_limit : ℕ
chunks_limit = 1099511627776
