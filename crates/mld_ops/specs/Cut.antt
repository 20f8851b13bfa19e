-- What taking an entry does to the pairs of one who may know a front of its range (optimised OR-Set).
use Rattle.std.specs.Prelude.{◌≡◌, ℕ, ◌<◌, ◌≤◌, List, ◌⊎◌, ◌↔◌}
use Rattle.tree_clock.specs.Lists.{Has, IsAscending}
use Rattle.mld_ops.specs.declared.tagged.Tagged.{Tagged}
use Rattle.mld_ops.specs.Tagged.{tagged_cmp}
use Rattle.mld_ops.specs.Entry.{EntryValue}

-- the pair has a dot of the entry's range up to the last known tick, and the entry lacks it: a later operation of the range
-- deleted it
pub record IsSuperseded (entry : EntryValue) (known : ℕ) (pair : Tagged) : Type 0 where
  pub path : pair.dot.path ≡ entry.range.path
  pub above : entry.range.first ≤ pair.dot.tick
  pub below : pair.dot.tick ≤ known
  pub lacks : ¬ Has entry.inserts (pair.triple, pair.dot.tick)

-- the entry inserts the pair, and its tick is above the last known one
pub record IsAdded (entry : EntryValue) (known : ℕ) (pair : Tagged) : Type 0 where
  pub path : pair.dot.path ≡ entry.range.path
  pub above : known < pair.dot.tick
  pub inserts : Has entry.inserts (pair.triple, pair.dot.tick)

-- the pairs behind an entry: those before it that it neither deletes nor supersedes, and those that it adds; the number is the
-- last tick that was known of its path
pub record IsCutOf (entry : EntryValue) (known : ℕ) (old new : List Tagged) : Type 0 where
  pub ascending : IsAscending tagged_cmp new
  pub members : (pair : Tagged) → Has new pair
      ↔ ((Has old pair × ¬ Has entry.deletes pair × ¬ IsSuperseded entry known pair) ⊎ IsAdded entry known pair)
