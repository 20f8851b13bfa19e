-- What a step changes: of the clones the command's own alone, neither the domain nor the properties, and of the history nothing but that
-- an operation may have joined it.
use Rattle.std.specs.Prelude.{◌≡◌, ◌≢◌, ℕ, List}
use Rattle.std.proofs.Common.{sym, subst}
use Rattle.mld_ops.specs.History.{Operation}
use Rattle.schedule_model.specs.declared.Command.{Command}
use Rattle.schedule_model.specs.declared.Command.TheVariants.{Crash}
use Rattle.mld_model.specs.Clone.{Stored}
use Rattle.mld_model.specs.World.{World, clone_at}
use Rattle.mld_model.specs.Local.{LocalStored}
use Rattle.mld_model.specs.Reply.{Reply}
use Rattle.mld_model.specs.Sound.{Keeps, IsSoundClone, IsSound}
use Rattle.mld_model.specs.StandsFor.{StoredStandsFor}
use Rattle.mld_model.proofs.StoredLaws.{stored_still_stands}
use Rattle.schedule_model.specs.Step.{Step, number_of_clone}
use Rattle.schedule_model.proofs.CrashedSteps.{crash_changes}
pub use Rattle.schedule_model.proofs.PlainChanges.{Grows, stays, grows_by, Changes, plain_changes}

-- each step
pub step_changes : (world : World) (command : Command) (reply : Reply) (next : World) → Step world command reply next → Changes world next (number_of_clone command)
unfolding Step
step_changes world (Crash call leave task) reply next p = crash_changes p.0 call world task p.1 reply next p.2
step_changes world command reply next p = plain_changes world command reply next p

-- ---- the laws

-- a step changes neither the domain nor the properties
pub step_keeps_domain : (world : World) (command : Command) (reply : Reply) (next : World) → Step world command reply next
    → (next.domain ≡ world.domain) × (next.properties ≡ world.properties)
step_keeps_domain world command reply next steps =
    let changes : Changes world next (number_of_clone command) = step_changes world command reply next steps in
    (changes.domain, changes.properties)

-- a step changes no clone but the one that its command says of
pub step_keeps_others : (world : World) (command : Command) (reply : Reply) (next : World) → Step world command reply next
    → (number : ℕ) → number ≢ number_of_clone command → clone_at next number ≡ clone_at world number
step_keeps_others world command reply next steps = (step_changes world command reply next steps).others

-- what a device has still stands for what is kept in such a history
grown_stands : (history after : List Operation) (running : LocalStored) (stored : Stored) → Grows history after → IsSoundClone history stored
    → StoredStandsFor history running stored → StoredStandsFor after running stored
grown_stands history after running stored (stays same) whole stands = subst (λ (h : List Operation). StoredStandsFor h running stored) (sym same) stands
grown_stands history after running stored (grows_by operation is_next same) whole stands =
    subst (λ (h : List Operation). StoredStandsFor h running stored) (sym same) (stored_still_stands history operation running stored is_next whole stands)

-- a step leaves what a device has of a clone standing for what is kept, if it is the same clone that keeps it
pub kept_still_stands : (world : World) (command : Command) (reply : Reply) (next : World) → IsSound world → Step world command reply next
    → (number : ℕ) (stored : Stored) → Keeps (clone_at world number) stored → (running : LocalStored)
    → StoredStandsFor world.history running stored → StoredStandsFor next.history running stored
kept_still_stands world command reply next sound steps number stored keeps running =
    grown_stands world.history next.history running stored ((step_changes world command reply next steps).grows sound) (sound.clones number stored keeps)
