use Rattle.std.proofs.Common.{◌≡◌, take}
use Rattle.jrql_ast.specs.Templates.{made_from}
use Rattle.jrql_ast.specs.FreshNames.{fresh_name}
use Rattle.jrql_ast.proofs.making.made_triples.Given as goal

abbrev pub invariant-loop-number : goal.invariant-loop-number
invariant-loop-number l = l.triples.items ≡ made_from (fresh_name l.domain l.dot l.fresh) l.templates 0 (take l.number l.rows)
