-- What is told of a world as it runs is told of each world of the model that it stands for.
use Rattle.std.proofs.Common.{◌≡◌, ℕ, suc, List, [], ◌∷◌, ◌↔◌, refl, sym, subst, ◌∙◌, length, get_or, Some, arith}
use Rattle.std.specs.Prelude.{slice_get}
use Rattle.tree_clock.specs.declared.dots.Dot.{Dot}
use Rattle.tree_clock.specs.Dot.{Knows}
use Rattle.tree_clock.specs.Clock.{IsClock, Covers}
use Rattle.mld_ops.specs.Meaning.{IsMeaning}
use Rattle.mld_ops.specs.declared.tagged.Tagged.{Tagged}
use Rattle.mld_model.specs.declared.CloneState.TheVariants as states
use Rattle.mld_model.specs.Clone.{Clone, Absent, Asking, Empty, Down, Live, known_of}
use Rattle.mld_model.specs.World.{World}
use Rattle.mld_model.specs.StandsFor.{RunningClone, RunningWorld, LocalStandsFor, CloneStandsFor}
use Rattle.mld_model.proofs.CompactedStands.{same_ranges}
use Rattle.net_world.specs.declared.summaries.CloneSummary.{CloneSummary}
use Rattle.net_world.specs.declared.summaries.Summary.{Summary}
use Rattle.net_world.specs.WorldSummary.{TellsOfClone, TellsOfClones, Summarizes, SummarizesAll, Tells}

-- what is told of a clone that runs is told of the clone that it stands for
clone_told : (world : World) (number : ℕ) (running : RunningClone) (clone : Clone) (summary : CloneSummary)
    → CloneStandsFor world number running clone → Summarizes running summary → TellsOfClone world.history clone summary
clone_told world number (states.Absent blank) Absent summary stands told = told
clone_told world number (states.Asking asker) Asking summary stands told = told
clone_told world number (states.Down device) Empty summary stands told = told
clone_told world number (states.Down device) (Down stored) summary stands told = told
clone_told world number (states.Live live) (Live stored held) summary stands told =
    let at : LocalStandsFor world.history live stored held = stands.1 in
    let P : List (List ℕ × ℕ) → Type 0 = λ ticks. (dot : Dot) → Covers ticks dot ↔ Knows (known_of stored) dot in
    let B : List (List ℕ × ℕ) → Type 0 = λ ticks. (dot : Dot) → Covers ticks dot ↔ Knows stored.base dot in
    let Q : List (List ℕ × ℕ) → Type 0 = λ ticks. IsClock ticks in
    let R : List Tagged → Type 0 = λ pairs. IsMeaning world.history (known_of stored) pairs in
    record {
      state = told.state;
      path = told.path ∙ (λ i. Some (at.kept.path i));
      known_clock = subst Q (sym told.known) told.clock;
      known = subst P (sym told.known) at.known;
      base_clock = subst Q (sym told.base) told.base_clock;
      base = subst B (sym told.base) at.kept.base;
      journal = told.journal ∙ same_ranges world.history live.entries stored.journal at.kept.entries;
      tagged = subst R (sym told.tagged) at.pairs;
    }
clone_told world number running clone summary stands told = absurd stands

-- at each place a clone stands for one of the model, whichever number it has there
clones_told : (world : World) (running : List RunningClone) (clones : List Clone) (summaries : List CloneSummary)
    → ((place : ℕ) (state : RunningClone) → slice_get running place ≡ Some state → (number : ℕ) × CloneStandsFor world number state (get_or clones place Absent)) → length running ≡ length clones
    → SummarizesAll running summaries → TellsOfClones world.history clones summaries
clones_told world [] [] [] stands count told = tt
clones_told world [] [] (summary ∷ summaries) stands count told = absurd told
clones_told world (live ∷ running) (clone ∷ clones) (summary ∷ summaries) stands count told = (
  clone_told world (stands 0 live refl).0 live clone summary (stands 0 live refl).1 told.0,
  clones_told world running clones summaries (λ place state is. stands (suc place) state is) (omega (arith, count)) told.1,
)
clones_told world (live ∷ running) (clone ∷ clones) [] stands count told = absurd told
clones_told world [] (clone ∷ clones) summaries stands count told = absurd (omega (arith, count))
clones_told world (live ∷ running) [] summaries stands count told = absurd (omega (arith, count))

-- what is told of a world as it runs is told of each sound world that it stands for
pub world_told : (running : RunningWorld) (summary : Summary) → SummarizesAll running.clones summary.clones.items → Tells running summary
world_told running summary told world stands sound =
    clones_told world running.clones world.clones summary.clones.items (λ place state is. (place, stands.clones place state is)) (stands.count ∙ sym sound.count) told
