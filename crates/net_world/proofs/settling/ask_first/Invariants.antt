use Rattle.std.proofs.Common.{◌<◌, ◌≤◌, ℕ}
use Rattle.net_world.specs.SettledWorlds.{LiveKept}
use Rattle.net_world.proofs.settling.ask_first.Given as goal

abbrev pub invariant-loop-number : goal.invariant-loop-number
invariant-loop-number g l = ((place : ℕ) → place < l.number → LiveKept g.B.Banks.log place l.clones) × (l.number ≤ l.count)
