use Rattle.std.proofs.Common.{◌≤◌, map}
use Rattle.net_world.specs.Founding.{AreFoundedTo, StayFrom}
use Rattle.schedule_text.specs.ReadLines.{setup_of}
use Rattle.world_commands.specs.WorldBanks.{banks_of_state, MetersGoOn, HadNoFaults}
use Rattle.net_world.proofs.founding.found_each.Given as goal

abbrev pub invariant-loop-number : goal.invariant-loop-number
invariant-loop-number g l =
    AreFoundedTo (setup_of l.setup) l.number l.clones.items
    × MetersGoOn g.B.Banks.meter (map banks_of_state l.fn.clones.items) (map banks_of_state l.clones.items)
    × HadNoFaults g.B.Banks.meter (map banks_of_state l.fn.clones.items) (map banks_of_state l.clones.items)
    × (1 ≤ l.number) × (l.number ≤ l.setup.clones) × StayFrom l.number l.fn.clones.items l.clones.items
