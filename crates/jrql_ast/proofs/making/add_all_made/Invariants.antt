use Rattle.std.proofs.Common.{◌≡◌, ◌++◌, filter_map, take}
use Rattle.jrql_ast.specs.Templates.{made_for}
use Rattle.jrql_ast.specs.Naming.{names_of}
use Rattle.jrql_ast.proofs.making.add_all_made.Given as goal

abbrev pub invariant-loop-template : goal.invariant-loop-template
invariant-loop-template l =
    l.triples.items ≡ l.initial.triples.items ++ filter_map (made_for (names_of l.solution) l.solution.row.now) (take l.template-index l.templates)
