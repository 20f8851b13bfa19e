use Rattle.std.proofs.Common.{◌≡◌, ℕ, ◌-◌, ◌≤◌, List, Option}
use Rattle.mld_io.specs.Disk.{Log}
use Rattle.node_core.specs.shell_session.Shells.{FoundOnBanks}
use Rattle.node_core.specs.shell_session.SessionLines.{Meters}
use Rattle.node_run.specs.declared.node.NodeWords.{NodeWords}
use Rattle.node_run.specs.Words.{AreWords}
use Rattle.node_core.specs.NodeStates.{IsOpen}
use Rattle.node_core.specs.NodeStates as states
use Rattle.node_core.specs.Nodes.{node_banks, node_value}
use Rattle.node_run.specs.NodeBegun.{BeginsOn}
use Rattle.node_run.specs.ServiceTurns.{HasTaken}
use Rattle.node_run.specs.ServiceUnderWay.{IsServiceUnderWay}
use Rattle.node_run.proofs.turns.take_turns.Given as goal

abbrev pub invariant-loop-alloc : goal.invariant-loop-alloc
invariant-loop-alloc g l = record {
  way : (texts : List (List ℕ)) (words : NodeWords) (found : FoundOnBanks) (old : Option Log) → AreWords texts words → words.turns ≡ l.turns
      → BeginsOn g.B.Banks.log words found old l.fn.state
      → IsServiceUnderWay g.B.Banks.log found old texts l.turns (g.W.Wire.log l.fn.wire) (g.W.Wire.log l.wire) l.node l.taken;
  so_far : HasTaken (node_value l.node) l.taken (g.W.Wire.log l.fn.wire) (g.W.Wire.log l.wire);
  opened : IsOpen l.node.state;
  meters : Meters (g.B.Banks.meter (states.state_banks l.fn.state)) (g.B.Banks.meter (node_banks l.node)) ⊥;
  counted : g.W.Wire.taken l.wire ≡ l.taken;
  few : l.taken ≤ l.turns;
  quiet : g.W.Wire.faults l.wire ≡ g.W.Wire.faults l.fn.wire;
}

abbrev pub decreases-loop-alloc : goal.decreases-loop-alloc
decreases-loop-alloc g l = l.turns - l.taken
