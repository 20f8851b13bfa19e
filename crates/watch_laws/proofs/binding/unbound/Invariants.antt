use Rattle.std.proofs.Common.{◌≡◌, None, replicate}
use Rattle.watch_laws.proofs.binding.unbound.Given as goal

abbrev pub invariant-loop : goal.invariant-loop
invariant-loop l = l.row.items ≡ replicate l.counter None
