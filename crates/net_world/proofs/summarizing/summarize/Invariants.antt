use Rattle.std.proofs.Common.{◌≡◌, ◌++◌, map, length}
use Rattle.world_commands.specs.WorldBanks.{in_memory, banks_of_state}
use Rattle.world_commands.specs.WorldEnds.{KeepAll}
use Rattle.net_world.proofs.SummarizingLaws.{TellsSoFar}
use Rattle.net_world.proofs.summarizing.summarize.Given as goal

abbrev pub invariant-loop-clone : goal.invariant-loop-clone
invariant-loop-clone g l = record {
  told : TellsSoFar (map in_memory l.clone-iterator.rest.items) l.summaries.items (map in_memory l.fn.clones.items);
  banks : l.banks.items ++ map banks_of_state l.clone-iterator.rest.items ≡ map banks_of_state l.fn.clones.items;
  kept : KeepAll g.B.Banks.log l.clone-iterator.rest.items → KeepAll g.B.Banks.log l.fn.clones.items;
}
