use Rattle.std.proofs.Common.{◌≡◌, take}
use Rattle.mld_ops.proofs.entries.copy_inserts.Given as goal

abbrev pub invariant-loop-triple : goal.invariant-loop-triple
invariant-loop-triple l = l.copy.items ≡ take l.triple-index l.inserts
