use Rattle.std.proofs.Common.{◌≡◌, ◌<◌, ◌^◌, take}
use Rattle.tree_clock.specs.Letters.{number_of}
use Rattle.op_codec.proofs.paths.number_of.Given as goal

abbrev pub invariant-loop-i : goal.invariant-loop-i
invariant-loop-i l = record { value : l.bits ≡ number_of (take l.i l.fn.path); fits : l.bits < 2 ^ l.i }
