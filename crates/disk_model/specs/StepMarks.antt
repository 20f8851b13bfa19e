-- How steps are kept: a mark for each, or one for a write with the sync behind it, the oldest first, and the pieces of all writes behind each other.
-- Private calls cite it.
use Rattle.std.specs.Prelude.{ℕ, ◌+◌, List, [], ◌∷◌, take, drop}
use Rattle.disk_model.specs.DeviceSteps.{DeviceStep}
use Rattle.disk_model.specs.DeviceSteps as step
use Rattle.disk_model.specs.declared.steps.Mark.{Mark}
use Rattle.disk_model.specs.declared.steps.Mark.TheVariants as mark

-- the steps of these marks, whose pieces are at the front of these bytes
abbrev pub steps_of_marks : List Mark → List ℕ → List DeviceStep
steps_of_marks [] bytes = []
steps_of_marks (mark.Wrote side at size ∷ marks) bytes = step.Wrote side at (take size bytes) ∷ steps_of_marks marks (drop size bytes)
steps_of_marks (mark.WroteThrough side at size ∷ marks) bytes = step.Wrote side at (take size bytes) ∷ step.Synced side ∷ steps_of_marks marks (drop size bytes)
steps_of_marks (mark.Synced side ∷ marks) bytes = step.Synced side ∷ steps_of_marks marks bytes
steps_of_marks (mark.Cut leave ∷ marks) bytes = step.Cut leave ∷ steps_of_marks marks bytes

-- how many bytes the pieces of these marks have
abbrev pub pieces_size : List Mark → ℕ
pieces_size [] = 0
pieces_size (mark.Wrote side at size ∷ marks) = size + pieces_size marks
pieces_size (mark.WroteThrough side at size ∷ marks) = size + pieces_size marks
pieces_size (mark.Synced side ∷ marks) = pieces_size marks
pieces_size (mark.Cut leave ∷ marks) = pieces_size marks
