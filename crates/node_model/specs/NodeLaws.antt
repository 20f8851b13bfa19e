-- The laws of nodes, as the contracts of the crate state them.
use Rattle.std.specs.Prelude.{◌≡◌, List}
use Rattle.mld_io.specs.declared.events.Event.{Event}
use Rattle.mld_io.specs.Wires.{WireLog}
use Rattle.shell_session.specs.clone_parts.KeptSteps.{KeptStep}
use Rattle.shell_session.specs.Shells.{found_after}
use Rattle.node_model.specs.Keepers.{keeper_found}
use Rattle.node_model.specs.Events.{NodeValue, NodeRuns}

-- what is found on the banks after a run is what its durable steps make of what was found there before
abbrev pub NodeStepsLead : Type 0
NodeStepsLead = (node : NodeValue) (events : List Event) (log : WireLog) (steps : List KeptStep) (next : NodeValue) (after : WireLog)
    → NodeRuns node events log steps next after → keeper_found next.keeper ≡ found_after steps (keeper_found node.keeper)
