-- The cut of an entry: what has to leave the pairs, and what has to come to them, where the entry is taken
-- (optimised OR-Set).
use Rattle.std.specs.Prelude.{ℕ, List, ◌⊎◌, ◌↔◌}
use Rattle.tree_clock.specs.Lists.{Has, IsAscending}
use Rattle.mld_ops.specs.declared.tagged.Tagged.{Tagged}
use Rattle.mld_ops.specs.Tagged.{tagged_cmp}
use Rattle.mld_ops.specs.Entry.{EntryValue}
use Rattle.mld_ops.specs.Cut.{IsSuperseded, IsAdded}

-- the entry makes the pair go where it is present: it deletes or supersedes it; the number is the last tick that was known of the
-- entry's path
abbrev pub Goes : EntryValue → ℕ → Tagged → Type 0
Goes entry known pair = Has entry.deletes pair ⊎ IsSuperseded entry known pair

-- the pair is present, and the entry makes it go
pub record IsDropped (entry : EntryValue) (known : ℕ) (state : List Tagged) (pair : Tagged) : Type 0 where
  pub present : Has state pair
  pub goes : Goes entry known pair

-- the drops and the adds are those of the entry for these pairs
pub record AreCuts (entry : EntryValue) (known : ℕ) (state drops adds : List Tagged) : Type 0 where
  pub drops_ascend : IsAscending tagged_cmp drops
  pub dropped : (pair : Tagged) → Has drops pair ↔ IsDropped entry known state pair
  pub adds_ascend : IsAscending tagged_cmp adds
  pub added : (pair : Tagged) → Has adds pair ↔ IsAdded entry known pair

-- the drops and the adds are those of an earlier change of these pairs and of the entry behind it, both as one: what the earlier change
-- drops, and what the entry drops of the pairs before both; what the earlier change adds, but for what the entry makes go, and what
-- the entry adds
pub record AreCutsBehind (entry : EntryValue) (known : ℕ) (state drops adds more_drops more_adds : List Tagged) : Type 0 where
  pub drops_ascend : IsAscending tagged_cmp more_drops
  pub dropped : (pair : Tagged) → Has more_drops pair ↔ (Has drops pair ⊎ IsDropped entry known state pair)
  pub adds_ascend : IsAscending tagged_cmp more_adds
  pub added : (pair : Tagged) → Has more_adds pair ↔ ((Has adds pair × ¬ Goes entry known pair) ⊎ IsAdded entry known pair)
