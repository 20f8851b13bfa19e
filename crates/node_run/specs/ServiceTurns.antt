-- How many turns a run of the node took, and how it ended, whatever its banks tell. `serve` and `take_turns` cite `KeepsTurns` and `HasServed`.
use Rattle.std.specs.Prelude.{◌≡◌, ℕ, ◌≤◌, Bool, true, false, List, [], length, Option, None, Some, option_map, unwrap_or}
use Rattle.mld_io.specs.declared.events.Event.{Event}
use Rattle.mld_io.specs.Wires.{WireLog}
use Rattle.node_core.specs.clone_parts.KeptSteps.{KeptStep}
use Rattle.node_core.specs.node_model.Keepers.{Keeper}
use Rattle.node_core.specs.node_model.Events.{NodeValue, NodeRuns}
use Rattle.node_run.specs.Start.{fresh_node}
use Rattle.node_run.specs.declared.stops.NodeStop.{NodeStop}
use Rattle.node_run.specs.declared.stops.NodeStop.TheVariants as stops

-- the turns that were taken are at most those of the words, and as many where that is why the run ended
pub record KeepsTurns (fault : Option NodeStop) (taken turns : ℕ) : Type 0 where
  pub few : taken ≤ turns
  pub all : fault ≡ Some stops.OutOfTurns → taken ≡ turns

-- so many events are a run of the model's node, whatever it had at first; this is the node then, and a wire that told its log tells that of the run
pub record HasTaken (node : NodeValue) (taken : ℕ) (before now : Option WireLog) : Type 0 where
  pub keeper : Keeper
  pub events : List Event
  pub counted : taken ≡ length events
  pub steps : List KeptStep
  pub after : WireLog
  pub runs : NodeRuns (fresh_node keeper) events (unwrap_or before []) steps node after
  pub logged : now ≡ option_map (λ log. after) before

-- by the last of them the node has ended, or it hasn't
pub record RunsUntil (halted : Bool) (taken : ℕ) (before now : Option WireLog) : Type 0 where
  pub node : NodeValue
  pub run : HasTaken node taken before now
  pub so : node.halted ≡ halted

-- where there is no fault it has: `End` came, or a request to halt was answered; and where the turns ran out it hasn't
abbrev pub HasServed : Option NodeStop → ℕ → Option WireLog → Option WireLog → Type 0
HasServed None taken before now = RunsUntil true taken before now
HasServed (Some stops.OutOfTurns) taken before now = RunsUntil false taken before now
HasServed fault taken before now = Unit {0}
