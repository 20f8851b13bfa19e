-- What a clone keeps on its device, and the durable steps that change it. A crash leaves a front of a list of them (`CrashFronts.antt`).
-- `FoundingSteps` is made of it, and the durable steps of each line of a schedule.
use Rattle.std.specs.Prelude.{List, [], ◌∷◌, Option, Some, None}
use Rattle.tree_clock.specs.declared.dots.Range.{Range}
use Rattle.mld_ops.specs.History.{Operation}
use Rattle.mld_ops.specs.Effect.{range_of}
use Rattle.mld_model.specs.Clone.{Stored, with_range}
use Rattle.mld_model.specs.CloneStep.{left_half}

-- one durable step of a clone, on its device
pub data DurableStep : Type 0 where
  -- the entry of an operation that the clone makes is appended
  AppendsMade : Operation → DurableStep
  -- the entry of a range that the clone takes is appended
  AppendsTaken : Range → DurableStep
  -- a fork of its leaf is appended
  AppendsFork : DurableStep
  -- what it keeps is created
  Creates : Stored → DurableStep
  -- what it keeps is swapped for something else
  Swaps : Stored → DurableStep

-- what is kept after one durable step; where nothing is kept, there is nothing to append to
abbrev pub kept_after_step : Option Stored → DurableStep → Option Stored
kept_after_step kept (Creates stored) = Some stored
kept_after_step kept (Swaps stored) = Some stored
kept_after_step None step = None
kept_after_step (Some stored) (AppendsMade operation) = Some (with_range stored (range_of operation.dot))
kept_after_step (Some stored) (AppendsTaken range) = Some (with_range stored range)
kept_after_step (Some stored) AppendsFork = Some (left_half stored)

-- what is kept after durable steps, one after another
abbrev pub kept_after : Option Stored → List DurableStep → Option Stored
kept_after kept [] = kept
kept_after kept (step ∷ steps) = kept_after (kept_after_step kept step) steps

-- the history after durable steps: the append of an entry that the clone made makes its operation
abbrev pub history_after : List Operation → List DurableStep → List Operation
history_after history [] = history
history_after history (AppendsMade operation ∷ steps) = history_after (operation ∷ history) steps
history_after history (step ∷ steps) = history_after history steps
