use Rattle.std.proofs.Common.{◌≡◌, ◌++◌}
use Rattle.jrql_patterns.proofs.open_groups.put_behind.Given as goal

abbrev pub invariant-loop-triple : goal.invariant-loop-triple
invariant-loop-triple l = l.triples.items ++ l.triple-iterator.rest.items ≡ l.fn.triples.items ++ l.fn.more.items
