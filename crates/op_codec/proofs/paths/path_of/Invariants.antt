use Rattle.std.proofs.Common.{◌≡◌, ◌-◌, ◌/◌, ◌^◌}
use Rattle.tree_clock.specs.Path.{letters}
use Rattle.op_codec.proofs.paths.path_of.Given as goal

abbrev pub invariant-loop-i : goal.invariant-loop-i
invariant-loop-i l = l.path ≡ letters l.i (l.bits / 2 ^ (l.count - l.i))
