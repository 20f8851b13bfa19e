-- Small cases, by computing: what is carried by one change, and what stands after a caught call.
use Rattle.std.proofs.Common.{◌≡◌, ℕ, List, [], ◌∷◌, refl, arith, Bool, true, false, Option, Some, None}
use Rattle.mld_io.specs.Disk.{Sides}
use Rattle.mld_io.specs.declared.banks.Side.{Side}
use Rattle.tree_clock.specs.declared.dots.Range.{Range}
use Rattle.mld_ops.specs.Entry.{EntryValue}
use Rattle.mld_ops.specs.History.{Operation}
use Rattle.clone_core.specs.journal_sides.Heads.{HeadValue}
use Rattle.clone_core.specs.journal_sides.Pairs.{Kept, PairReading, Keeps, Damages, read_banks, with_entry, with_fork}
use Rattle.mld_model.specs.Clone.{Stored, with_range}
use Rattle.mld_model.specs.CloneStep.{left_half}
use Rattle.mld_model.specs.Durable.{AppendsMade, AppendsTaken, AppendsFork, Creates}
use Rattle.mld_model.specs.CrashFronts.{standing_front}
use Rattle.mld_ops.specs.Effect.{range_of}
use Rattle.clone_core.specs.clone_parts.KeptSteps.{Created, Appended, Forked}
use Rattle.crash_laws.specs.CarriedSteps.{Owner, IsKeptFor, StandsRead, Carries, StandsAfter}

module _ (owner : Owner) (history : List Operation) (kept : Kept) (stored : Stored) (head : HeadValue) (entry : EntryValue) (operation : Operation) (first second : Range)
    (choice : Bool) (image : Sides) where
  -- a damaged side stands for nothing, and what is kept doesn't stand for nothing
  damaged_none : (side : Side) (place : ℕ) → StandsRead owner history (Damages side place) None ≡ ⊥
  damaged_none side place = refl

  damaged_some : (side : Side) (place : ℕ) → StandsRead owner history (Damages side place) (Some stored) ≡ ⊥
  damaged_some side place = refl

  kept_none : StandsRead owner history (Keeps kept) None ≡ ⊥
  kept_none = refl

  -- a fork carries a fork
  fork_carries : Carries owner history (Keeps kept) (Some stored) (Forked ∷ []) (AppendsFork ∷ [])
      ≡ (IsKeptFor owner history kept stored × ◌≡◌ {A = ℕ} 4 4 × IsKeptFor owner history (with_fork kept) (left_half stored))
  fork_carries = refl

  -- an append of an operation's entry is behind it in the longer history
  made_carries : Carries owner history (Keeps kept) (Some stored) (Appended entry ∷ []) (AppendsMade operation ∷ [])
      ≡ (IsKeptFor owner history kept stored × ◌≡◌ {A = ℕ} 4 4
      × IsKeptFor owner (operation ∷ history) (with_entry entry kept) (with_range stored (range_of operation.dot)))
  made_carries = refl

  -- changes that make other numbers of calls carry nothing, nor do more of them
  counts_differ : (reading : PairReading) (before : Option Stored) → ¬ Carries owner history reading before (Created head ∷ []) (AppendsFork ∷ [])
  counts_differ reading before c = omega (arith, c.1)

  lengths_differ : (reading : PairReading) (before : Option Stored) → Carries owner history reading before (Forked ∷ []) [] ≡ ⊥
  lengths_differ reading before = refl

  -- a create that was caught before the write of its gate leaves nothing, whatever the choice is; behind it the choice says
  early_create : StandsAfter owner history None (standing_front choice 3 (Creates stored ∷ [])) image ≡ StandsRead owner history (read_banks image) None
  early_create = refl

  late_create : StandsAfter owner history None (standing_front true 4 (Creates stored ∷ [])) image ≡ StandsRead owner history (read_banks image) (Some stored)
  late_create = refl

  -- of two ranges the first stands where a call of the second was caught, in the same history
  one_range : StandsAfter owner history (Some stored) (standing_front choice 5 (AppendsTaken first ∷ AppendsTaken second ∷ [])) image
      ≡ StandsRead owner history (read_banks image) (Some (with_range stored first))
  one_range = refl

  -- an operation whose append stands is one of the history
  made_stands : StandsAfter owner history (Some stored) (standing_front true 2 (AppendsMade operation ∷ [])) image
      ≡ StandsRead owner (operation ∷ history) (read_banks image) (Some (with_range stored (range_of operation.dot)))
  made_stands = refl

  made_falls : StandsAfter owner history (Some stored) (standing_front false 3 (AppendsMade operation ∷ [])) image
      ≡ StandsRead owner history (read_banks image) (Some stored)
  made_falls = refl
