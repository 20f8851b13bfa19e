use Rattle.std.proofs.Common.{◌≡◌, ◌++◌, ◌+◌, ◌≤◌, map, length, vec_len, vec_capacity}
use Rattle.world_commands.specs.WorldBanks.{banks_of_state}
use Rattle.world_commands.specs.WorldEnds.{KeepAll}
use Rattle.world_commands.proofs.stopping.stop_all.Given as goal

abbrev pub invariant-loop-clone : goal.invariant-loop-clone
invariant-loop-clone g l =
    (l.banks.items ++ map banks_of_state l.clone-iterator.rest.items ≡ l.fn.banks.items ++ map banks_of_state l.fn.clones.items)
    × (vec_len l.banks + length l.clone-iterator.rest.items ≤ vec_capacity l.banks)
    × (KeepAll g.B.Banks.log l.clone-iterator.rest.items → KeepAll g.B.Banks.log l.fn.clones.items)
