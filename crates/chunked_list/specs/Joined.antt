-- A list in chunks, and a place in it.
use Rattle.std.specs.Prelude.{◌≡◌, ℕ, ◌+◌, List, [], ◌∷◌, ◌++◌, take, drop}
use Rattle.std.specs.List.{slice_index_or}

-- the elements of all chunks, in order
abbrev pub joined_chunks : {X : Type 0} → List (List X) → List X
joined_chunks [] = []
joined_chunks (chunk ∷ chunks) = chunk ++ joined_chunks chunks

-- the chunk of that number, and no element where there is none
abbrev pub chunk_at : {X : Type 0} → List (List X) → ℕ → List X
chunk_at chunks chunk = slice_index_or chunks chunk []

-- the elements in front of a place: of that chunk, so many of its elements are in front
abbrev pub front_of : {X : Type 0} → List (List X) → ℕ → ℕ → List X
front_of chunks chunk at = joined_chunks (take chunk chunks) ++ take at (chunk_at chunks chunk)

-- the elements behind a place
abbrev pub back_of : {X : Type 0} → List (List X) → ℕ → ℕ → List X
back_of chunks chunk at = drop at (chunk_at chunks chunk) ++ joined_chunks (drop (chunk + 1) chunks)

-- the elements, with one more at a place
abbrev pub with_element : {X : Type 0} → List (List X) → ℕ → ℕ → X → List X
with_element chunks chunk at x = front_of chunks chunk at ++ x ∷ back_of chunks chunk at

-- and without the one behind the place
abbrev pub without_element : {X : Type 0} → List (List X) → ℕ → ℕ → List X
without_element chunks chunk at = front_of chunks chunk at ++ drop 1 (back_of chunks chunk at)

-- that one is the given element
abbrev pub IsRightBehind : {X : Type 0} → List (List X) → ℕ → ℕ → X → Type 0
IsRightBehind chunks chunk at x = back_of chunks chunk at ≡ x ∷ drop 1 (back_of chunks chunk at)
