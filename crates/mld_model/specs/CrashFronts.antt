-- What a crash at a call of the device leaves of durable steps, and of the world. Calls that write or sync are counted, from 0; reads aren't.
-- The step by a crash line is made of it.
use Rattle.std.specs.Prelude.{ℕ, ◌+◌, ◌-◌, List, [], ◌∷◌, Bool, ◌&&◌, nat_le, if◌then◌else◌, Option, Some, None}
use Rattle.mld_model.specs.Clone.{Clone, Empty, Down, Stored, kept_of}
use Rattle.mld_model.specs.World.{World, clone_at, with_clone}
use Rattle.mld_model.specs.Durable.{DurableStep, AppendsMade, AppendsTaken, AppendsFork, Creates, Swaps, kept_after, history_after}

-- how many calls a durable step makes
abbrev pub step_calls : DurableStep → ℕ
step_calls (AppendsMade operation) = 4
step_calls (AppendsTaken range) = 4
step_calls AppendsFork = 4
step_calls (Creates stored) = 6
step_calls (Swaps stored) = 6

-- the last but one of them writes its gate, with which the step stands: so many come before that one
abbrev pub calls_before_gate : DurableStep → ℕ
calls_before_gate step = step_calls step - 2

-- how many calls durable steps make, one after another
abbrev pub durable_calls : List DurableStep → ℕ
durable_calls [] = 0
durable_calls (step ∷ steps) = step_calls step + durable_calls steps

-- The durable steps that stand where the call of this number was caught. Each of which all calls come before that one stands. The step that
-- was under way may stand only if the write of its gate was issued, as it was if that is the caught one; then the choice says whether it
-- does. No later one stands.
abbrev pub standing_front : Bool → ℕ → List DurableStep → List DurableStep
standing_front choice call [] = []
standing_front choice call (step ∷ steps) =
    if nat_le (step_calls step) call then step ∷ standing_front choice (call - step_calls step) steps
    else (if nat_le (calls_before_gate step) call && choice then step ∷ [] else [])

-- a clone that is down with what it keeps, if anything
abbrev pub down_with : Option Stored → Clone
down_with None = Empty
down_with (Some stored) = Down stored

-- the world where the clone of the number is down with what it keeps there
abbrev pub with_clone_down : World → ℕ → World
with_clone_down world number = with_clone world number (down_with (kept_of (clone_at world number)))

-- the world after a crash of the clone of the number that left these durable steps standing: nothing was sent
abbrev pub after_crash : World → ℕ → List DurableStep → World
after_crash world number steps =
    record (with_clone world number (down_with (kept_after (kept_of (clone_at world number)) steps))) { history = history_after world.history steps }
