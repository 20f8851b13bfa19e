-- Each world that a schedule reaches is sound, and no two of its clones hold one leaf.
use Rattle.std.specs.Prelude.{ℕ, List, [], ◌∷◌}
use Rattle.std.proofs.Common.{sym, subst}
use Rattle.schedule_model.specs.declared.Command.TheVariants.{Crash}
use Rattle.mld_model.specs.World.{World}
use Rattle.mld_model.specs.Sound.{IsSound}
use Rattle.mld_model.proofs.FoundedLaws.{founded_sound}
use Rattle.mld_model.proofs.LeafLaws.{apart_differ}
use Rattle.schedule_model.specs.Step.{Step}
use Rattle.schedule_model.specs.Runs.{Stage, Waiting, SetUp, Running, IsWorldOf, Commands, Acts, says_nothing, sets_up, sets_property, commands, Runs}
use Rattle.schedule_model.specs.Laws.{StepIsSound, RunsAreSound, OneLeaf}
use Rattle.schedule_model.proofs.ScheduleLaws.{spells_numbers}
use Rattle.schedule_model.proofs.PlainSound.{plain_sound}
use Rattle.schedule_model.proofs.CrashedSteps.{crash_sound}

-- a step of a sound world, by a command whose clones there are, leads to a sound world
pub step_sound : StepIsSound
unfolding Step
step_sound world (Crash call leave task) reply next small sound p = crash_sound p.0 call world task p.1 reply next small sound p.2
step_sound world command reply next small sound p = plain_sound world command reply next small sound p

-- ---- runs

-- the world that runs at a stage is sound
abbrev IsSoundStage : Stage → Type 0
IsSoundStage Waiting = Unit {0}
IsSoundStage (SetUp setup) = Unit {0}
IsSoundStage (Running world) = IsSound world

-- and so is the world that the clones of such a stage are founded in
world_sound : (stage : Stage) (world : World) → IsSoundStage stage → IsWorldOf stage world → IsSound world
world_sound Waiting world sound is = absurd is
world_sound (SetUp setup) world sound founds = subst IsSound (sym founds.is) (founded_sound setup.domain founds.kept setup.count)
world_sound (Running now) world sound is = subst IsSound (sym is) sound

-- a command leads from such a stage to another
commands_sound : (stage : Stage) (line text : List ℕ) (next : Stage) → IsSoundStage stage → Commands stage line text next → IsSoundStage next
commands_sound stage line text next sound p =
    subst IsSoundStage (sym p.changes)
    (step_sound p.world p.command p.reply p.after (spells_numbers p.world.domain line p.command p.spells) (world_sound stage p.world sound p.founds) p.steps)

-- and so does each line
acts_sound : (stage : Stage) (line text : List ℕ) (next : Stage) → IsSoundStage stage → Acts stage line text next → IsSoundStage next
acts_sound stage line text next sound (says_nothing h none is) = subst IsSoundStage (sym is) sound
acts_sound stage line text next sound (sets_up p) = subst IsSoundStage (sym p.changes) tt
acts_sound stage line text next sound (sets_property p) = subst IsSoundStage (sym p.changes) tt
acts_sound stage line text next sound (commands p) = commands_sound stage line text next sound p

-- and so do lines
lines_sound : (stage : Stage) (lines : List (List ℕ)) (text : List ℕ) (next : Stage) → IsSoundStage stage → Runs stage lines text next → IsSoundStage next
lines_sound stage [] text next sound p = subst IsSoundStage (sym p.1) sound
lines_sound stage (line ∷ lines) text next sound p = lines_sound p.2 lines p.1 next (acts_sound stage line p.0 p.2 sound p.3) p.4

-- each world that a schedule reaches is sound
pub runs_sound : RunsAreSound
runs_sound lines text stage world runs founds = world_sound stage world (lines_sound Waiting lines text stage tt runs) founds

-- no two clones of a sound world hold one leaf
pub one_leaf : OneLeaf
one_leaf world sound number other stored kept differ here there =
    apart_differ stored.path kept.path (sound.apart number other stored kept differ here there)
