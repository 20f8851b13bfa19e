-- What one begins with who joins by a snapshot. `begun_with` cites it.
use Rattle.std.specs.Prelude.{◌≡◌}
use Rattle.graph_index.specs.Graphs.{GraphValue}
use Rattle.tree_clock.specs.Clock.{ClockValue, IsClock}
use Rattle.mld_ops.specs.declared.messages.Snapshot.{Snapshot}
use Rattle.mld_ops.specs.Messages.{snapshot_value}

-- a copy of a snapshot for the base of a clone, and its clock and its pairs for the clone
pub record AreBegunWith (snapshot : Snapshot) (parts : Snapshot × ClockValue × GraphValue) : Type 0 where
  pub base : snapshot_value parts.0 ≡ snapshot_value snapshot
  pub clock : parts.1.ticks ≡ parts.0.clock.ticks
  pub pairs : parts.2.pairs ≡ parts.0.tagged
  pub is_clock : IsClock parts.0.clock.ticks
