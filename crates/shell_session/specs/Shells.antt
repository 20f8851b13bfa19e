-- What a shell has: banks on which no clone runs, or a live clone and what its banks keep.
use Rattle.std.specs.Prelude.{ℕ, ◌+◌, List, [], ◌∷◌, ◌++◌, Option, None, Some}
use Rattle.mld_io.specs.declared.banks.Side.{Side}
use Rattle.tree_clock.specs.Path.{zero_letter}
use Rattle.mld_ops.specs.Entry.{EntryValue}
use Rattle.crash_laws.specs.journal_sides.Heads.{HeadValue}
use Rattle.crash_laws.specs.journal_sides.Pairs.{PairReading, KeepsNone, Keeps, Damages}
use Rattle.mld_model.specs.Local.{LocalClone}
use Rattle.crash_laws.specs.clone_parts.KeptSteps.{KeptStep, Created, Appended, Forked, Swapped}
use Rattle.crash_laws.specs.clone_core.Banked.{head_of}

-- what is found on banks, whichever of their sides counts
pub data FoundOnBanks : Type 0 where
  -- they keep nothing
  Nothing : FoundOnBanks
  -- they keep a clone: the generation of that, its head, and the entries of its journal
  Stored : ℕ → HeadValue → List EntryValue → FoundOnBanks
  -- this side is damaged, at this place
  Damage : Side → ℕ → FoundOnBanks

-- what is found on banks that read to this
abbrev pub found_in : PairReading → FoundOnBanks
found_in KeepsNone = Nothing
found_in (Keeps kept) = Stored kept.generation kept.head kept.entries
found_in (Damages side place) = Damage side place

-- what is found after a durable step
abbrev pub found_after_step : KeptStep → FoundOnBanks → FoundOnBanks
found_after_step (Created head) found = Stored 1 head []
found_after_step (Appended entry) (Stored generation head entries) = Stored generation head (entries ++ entry ∷ [])
found_after_step Forked (Stored generation head entries) = Stored generation (record head { path = head.path ++ zero_letter ∷ [] }) entries
found_after_step (Swapped head others) (Stored generation old entries) = Stored (generation + 1) head others
found_after_step step found = found

-- and after several, the first one first
abbrev pub found_after : List KeptStep → FoundOnBanks → FoundOnBanks
found_after [] found = found
found_after (step ∷ steps) found = found_after steps (found_after_step step found)

pub data Shell : Type 0 where
  -- no clone is live, and this is found on the banks
  Shut : FoundOnBanks → Shell
  -- the clone is live, and what its banks keep has this generation
  Live : ℕ → LocalClone → Shell

-- the domain of the live clone, if one is live: lines are read in it
abbrev pub domain_of : Shell → Option (List ℕ)
domain_of (Shut found) = None
domain_of (Live generation clone) = Some clone.domain

-- what is found on the banks of a shell
abbrev pub found_of : Shell → FoundOnBanks
found_of (Shut found) = found
found_of (Live generation clone) = Stored generation (head_of clone) clone.entries

-- the generation of what banks keep after durable steps: each swap is one more
abbrev pub generation_after : List KeptStep → ℕ → ℕ
generation_after [] generation = generation
generation_after (Swapped head entries ∷ steps) generation = generation_after steps (generation + 1)
generation_after (step ∷ steps) generation = generation_after steps generation
