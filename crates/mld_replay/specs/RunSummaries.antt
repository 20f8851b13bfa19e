-- What a run tells of the world that it ends with: `says_of` says it for `run`, and `end_of` and `end_of_world` cite it.
use Rattle.std.specs.Prelude.{Option, None, Some}
use Rattle.schedule_text.specs.schedule_model.Runs.{Stage, Waiting, SetUp, Running}
use Rattle.net_world.specs.declared.summaries.Summary.{Summary}
use Rattle.net_world.specs.WorldSummary.{TellsOfClones}

-- what is told of the stage that a schedule leads to: nothing while no clone is founded, and then each clone of the world
abbrev pub TellsOf : Option Summary → Stage → Type 0
TellsOf None Waiting = Unit {0}
TellsOf None (SetUp setup) = Unit {0}
TellsOf (Some summary) (Running world) = TellsOfClones world.history world.clones summary.clones.items
TellsOf summary stage = ⊥
