-- What banks read to and what the model's clone keeps, side by side: at one moment, and along changes of the banks and the durable steps that
-- they carry.
use Rattle.std.specs.Prelude.{◌≡◌, ℕ, ◌≤◌, List, [], ◌∷◌, ◌++◌, Bool, Option, Some, None}
use Rattle.mld_io.specs.Disk.{Sides}
use Rattle.mld_ops.specs.History.{Operation}
use Rattle.clone_core.specs.journal_sides.Pairs.{Kept, PairReading, KeepsNone, Keeps, Damages, read_banks}
use Rattle.mld_model.specs.Clone.{Stored}
use Rattle.mld_model.specs.Durable.{DurableStep, kept_after_step, kept_after, history_after}
use Rattle.mld_model.specs.CrashFronts.{step_calls, standing_front}
use Rattle.mld_model.specs.Local.{LocalStored}
use Rattle.mld_model.specs.StandsFor.{StoredStandsFor, id_of}
use Rattle.mld_model.specs.World.{World}
use Rattle.clone_core.specs.clone_parts.KeptSteps.{KeptStep, Appended, Forked, after_step, calls_of}

-- ---- at one moment

-- the part of what banks keep that is the clone's own
abbrev pub stored_in : Kept → LocalStored
stored_in kept = record { path = kept.head.path; base = kept.head.base.ticks; base_pairs = kept.head.base.pairs; entries = kept.entries }

-- who a clone is: its id, its domain and its single-valued properties
pub record Owner : Type 0 where
  pub id : List ℕ
  pub domain : List ℕ
  pub properties : List (List ℕ)

-- the clone of this number in a world
abbrev pub owner_at : World → ℕ → Owner
owner_at world number = record { id = id_of number; domain = world.domain; properties = world.properties }

-- banks keep this for the owner, and it stands for what the model's clone keeps
pub record IsKeptFor (owner : Owner) (history : List Operation) (kept : Kept) (stored : Stored) : Type 0 where
  pub id : kept.head.id ≡ owner.id
  pub domain : kept.head.domain ≡ owner.domain
  pub properties : kept.head.properties ≡ owner.properties
  pub stands : StoredStandsFor history (stored_in kept) stored

-- what banks read to stands for what the model's clone keeps, if anything
abbrev pub StandsRead : Owner → List Operation → PairReading → Option Stored → Type 0
StandsRead owner history KeepsNone None = Unit {0}
StandsRead owner history (Keeps kept) (Some stored) = IsKeptFor owner history kept stored
StandsRead owner history reading kept = ⊥

-- ---- along changes

-- changes of banks and durable steps go together, one by one: each pair makes as many calls, and before, between and behind them what is read
-- stands for what is kept
abbrev pub Carries : Owner → List Operation → PairReading → Option Stored → List KeptStep → List DurableStep → Type 0
Carries owner history reading kept [] [] = StandsRead owner history reading kept
Carries owner history reading kept (step ∷ steps) (durable ∷ others) =
    StandsRead owner history reading kept × (calls_of step ≡ step_calls durable)
    × Carries owner (history_after history (durable ∷ [])) (after_step step reading) (kept_after_step kept durable) steps others
Carries owner history reading kept steps durable = ⊥

-- what sides read to stands for what is kept after these durable steps, in the history behind them
abbrev pub StandsAfter : Owner → List Operation → Option Stored → List DurableStep → Sides → Type 0
StandsAfter owner history kept steps image = StandsRead owner (history_after history steps) (read_banks image) (kept_after kept steps)

-- so it is after some front of them
pub record StandsSome (owner : Owner) (history : List Operation) (kept : Option Stored) (steps : List DurableStep) (image : Sides) : Type 0 where
  pub front : List DurableStep
  pub rest : List DurableStep
  pub whole : front ++ rest ≡ steps
  pub stands : StandsAfter owner history kept front image

-- and after the one that stands by some choice where the call of this number was caught
pub record StandsCaught (owner : Owner) (history : List Operation) (kept : Option Stored) (call : ℕ) (steps : List DurableStep) (image : Sides) : Type 0 where
  pub choice : Bool
  pub stands : StandsAfter owner history kept (standing_front choice call steps) image

-- ---- generations

-- what is read has at most this generation
abbrev pub IsUpTo : ℕ → PairReading → Type 0
IsUpTo limit KeepsNone = Unit {0}
IsUpTo limit (Keeps kept) = kept.generation ≤ limit
IsUpTo limit (Damages side place) = Unit {0}

-- changes that put something behind what is kept
abbrev pub AreAppends : List KeptStep → Type 0
AreAppends [] = Unit {0}
AreAppends (Appended entry ∷ steps) = AreAppends steps
AreAppends (Forked ∷ steps) = AreAppends steps
AreAppends (step ∷ steps) = ⊥

-- only the first change may write a side anew
abbrev pub WritesOnce : List KeptStep → Type 0
WritesOnce [] = Unit {0}
WritesOnce (step ∷ steps) = AreAppends steps
