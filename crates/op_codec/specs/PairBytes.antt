-- Pairs and lists of pairs as bytes. A pair is its triple and its dot.
use Rattle.std.specs.Prelude.{ℕ, Bool, true, ◌&&◌, List, ◌++◌, Option, Some, None, nat_le}
use Rattle.mld_ops.specs.Tagged.{tagged_cmp}
use Rattle.mld_ops.specs.declared.tagged.Tagged.{Tagged}
use Rattle.tree_clock.specs.Clock.{ticks_of}
use Rattle.tree_clock.specs.declared.dots.Dot.{Dot}
use Rattle.op_codec.specs.Clocks.{dot_bytes, read_dot}
use Rattle.op_codec.specs.StoredLists.{list_bytes, is_above, read_list}
use Rattle.op_codec.specs.Reading.{Reading, Found, chain}
use Rattle.op_codec.specs.Triples.{stored_triple, read_stored}

-- a pair as it is written
abbrev pub pair_bytes : Tagged → List ℕ
pair_bytes pair = stored_triple pair.triple ++ dot_bytes pair.dot

-- a pair
unfoldable pub read_pair : ℕ → List ℕ → Reading Tagged
read_pair place bytes =
    chain (read_stored place bytes) (λ triple next rest.
    chain (read_dot next rest) (λ dot end left. Found (record { triple = triple; dot = dot }) end left))

-- the dot is one of those of a clock
abbrev pub is_dot_of : List (List ℕ × ℕ) → Dot → Bool
is_dot_of ticks dot = nat_le 1 dot.tick && nat_le dot.tick (ticks_of ticks dot.path)

-- the ticks of a clock, where one is given
abbrev pub cover_of : {C : Type 0} → (C → List (List ℕ × ℕ)) → Option C → Option (List (List ℕ × ℕ))
cover_of ticks None = None
cover_of ticks (Some clock) = Some (ticks clock)

-- the dot is one of those of a clock, where a clock is given
abbrev pub is_covered : Option (List (List ℕ × ℕ)) → Dot → Bool
is_covered None dot = true
is_covered (Some ticks) dot = is_dot_of ticks dot

-- the pair is above those before it, and is covered by a clock, where one is given
abbrev pub fits_pairs : Option (List (List ℕ × ℕ)) → List Tagged → Tagged → Bool
fits_pairs cover pairs pair = is_above tagged_cmp pairs pair && is_covered cover pair.dot

-- a list of pairs as it is written
unfoldable pub pairs_bytes : List Tagged → List ℕ
pairs_bytes pairs = list_bytes pair_bytes pairs

-- a list of pairs, which a clock covers, where one is given
unfoldable pub read_pairs : Option (List (List ℕ × ℕ)) → ℕ → List ℕ → Reading (List Tagged)
read_pairs cover place bytes = read_list read_pair (fits_pairs cover) place bytes
