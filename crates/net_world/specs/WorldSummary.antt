-- What a run tells of its world.
use Rattle.std.specs.Prelude.{◌≡◌, ◌↔◌, List, [], ◌∷◌, ◌++◌, None, Some}
use Rattle.tree_clock.specs.declared.dots.Dot.{Dot}
use Rattle.tree_clock.specs.Dot.{Knows}
use Rattle.tree_clock.specs.Clock.{IsClock, Covers}
use Rattle.mld_ops.specs.History.{Operation}
use Rattle.mld_ops.specs.Meaning.{IsMeaning}
use Rattle.mld_model.specs.Clone.{Clone, Absent, Asking, Empty, Down, Live, Stored, known_of}
use Rattle.mld_model.specs.Local.{LocalClone}
use Rattle.mld_ops.specs.Held.{ranges_of}
use Rattle.mld_model.specs.World.{World}
use Rattle.mld_model.specs.Sound.{IsSound}
use Rattle.mld_model.specs.StandsFor.{RunningClone, RunningWorld, StandsFor}
use Rattle.mld_model.specs.declared.CloneState.TheVariants as running
use Rattle.net_world.specs.declared.summaries.Summary.{Summary}
use Rattle.net_world.specs.declared.summaries.State.{State}
use Rattle.net_world.specs.declared.summaries.State.TheVariants as states
use Rattle.net_world.specs.declared.summaries.CloneSummary.{CloneSummary}

-- nothing but its state is told of a clone that isn't live
pub record IsBlank (summary : CloneSummary) (state : State) : Type 0 where
  pub state_is : summary.state ≡ state
  pub path : summary.path ≡ None
  pub known : summary.known.items ≡ []
  pub base : summary.base.items ≡ []
  pub journal : summary.journal.items ≡ []
  pub tagged : summary.tagged.items ≡ []

-- of a live clone: its path, the dots that it knows and those of its base as ticks by path, its journal, and the meaning of
-- what it knows
pub record TellsOfLive (history : List Operation) (stored : Stored) (summary : CloneSummary) : Type 0 where
  pub state : summary.state ≡ states.Live
  pub path : summary.path ≡ Some stored.path
  pub known_clock : IsClock summary.known.items
  pub known : (dot : Dot) → Covers summary.known.items dot ↔ Knows (known_of stored) dot
  pub base_clock : IsClock summary.base.items
  pub base : (dot : Dot) → Covers summary.base.items dot ↔ Knows stored.base dot
  pub journal : summary.journal.items ≡ stored.journal
  pub tagged : IsMeaning history (known_of stored) summary.tagged.items

-- what is told of a clone
abbrev pub TellsOfClone : List Operation → Clone → CloneSummary → Type 0
TellsOfClone history Absent summary = IsBlank summary states.Absent
TellsOfClone history Asking summary = IsBlank summary states.Asking
TellsOfClone history Empty summary = IsBlank summary states.Down
TellsOfClone history (Down stored) summary = IsBlank summary states.Down
TellsOfClone history (Live stored held) summary = TellsOfLive history stored summary

-- what is told of clones, one by one
abbrev pub TellsOfClones : List Operation → List Clone → List CloneSummary → Type 0
TellsOfClones history [] [] = Unit {0}
TellsOfClones history (clone ∷ clones) (summary ∷ summaries) = TellsOfClone history clone summary × TellsOfClones history clones summaries
TellsOfClones history clones summaries = ⊥

-- what is told of a clone as it runs, beside its pairs
pub record TellsBesidePairs (live : LocalClone) (summary : CloneSummary) : Type 0 where
  pub state : summary.state ≡ states.Live
  pub path : summary.path ≡ Some live.path
  pub clock : IsClock live.ticks
  pub known : summary.known.items ≡ live.ticks
  pub base_clock : IsClock live.base
  pub base : summary.base.items ≡ live.base
  pub journal : summary.journal.items ≡ ranges_of live.entries

-- what is told of a clone as it runs
pub record IsSummaryOf (live : LocalClone) (summary : CloneSummary) : Type 0 where
  pub state : summary.state ≡ states.Live
  pub path : summary.path ≡ Some live.path
  pub clock : IsClock live.ticks
  pub known : summary.known.items ≡ live.ticks
  pub base_clock : IsClock live.base
  pub base : summary.base.items ≡ live.base
  pub journal : summary.journal.items ≡ ranges_of live.entries
  pub tagged : summary.tagged.items ≡ live.pairs

-- what is told of a clone as it runs, by its state
abbrev pub Summarizes : RunningClone → CloneSummary → Type 0
Summarizes (running.Absent blank) summary = IsBlank summary states.Absent
Summarizes (running.Asking asker) summary = IsBlank summary states.Asking
Summarizes (running.Down device) summary = IsBlank summary states.Down
Summarizes (running.Live live) summary = IsSummaryOf live summary

-- what is told of clones as they run, one by one
abbrev pub SummarizesAll : List RunningClone → List CloneSummary → Type 0
SummarizesAll [] [] = Unit {0}
SummarizesAll (clone ∷ clones) (summary ∷ summaries) = Summarizes clone summary × SummarizesAll clones summaries
SummarizesAll clones summaries = ⊥

-- a clone is told of behind others
pub record TellsNext (clone : RunningClone) (before after : List CloneSummary) : Type 0 where
  pub summary : CloneSummary
  pub grows : after ≡ before ++ summary ∷ []
  pub told : Summarizes clone summary

-- what is told of a world as it runs is told of each sound world of the model that it stands for
abbrev pub Tells : RunningWorld → Summary → Type 0
Tells now summary = (world : World) → StandsFor now world → IsSound world → TellsOfClones world.history world.clones summary.clones.items
