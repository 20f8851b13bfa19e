-- The first member with the most of what is counted, looked for from the front.
use Rattle.std.proofs.Common.{ℕ, ◌<◌, ◌≤◌, List, length, slice_index_or}

-- of the members in front of a place none has more than so many, those before the best one have fewer, and it has as many
pub record IsMostSoFar {X : Type 0} (count : X → ℕ) (items : List X) (behind best most : ℕ) : Type 0 where
  pub there : best < length items
  pub reached : (default : X) → most ≤ count (slice_index_or items best default)
  pub most_of : (default : X) (other : ℕ) → other < behind → count (slice_index_or items other default) ≤ most
  pub first : (default : X) (other : ℕ) → other < best → count (slice_index_or items other default) < most
