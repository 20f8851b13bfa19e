use Rattle.std.proofs.Common.{◌≡◌, ◌++◌, List, map, drop}
use Rattle.jrql_rows.specs.mld_ops.Present.{present}
use Rattle.jrql_rows.specs.jrql_ast.declared.patterns.PatternTriple.{PatternTriple}
use Rattle.jrql_rows.specs.jrql_ast.Solutions.{matches_from}
use Rattle.jrql_eval.proofs.scanning.are_present.Given as goal

-- what is behind has the matches of all
abbrev pub invariant-loop-pattern : goal.invariant-loop-pattern
invariant-loop-pattern l =
    (rest : List PatternTriple) → matches_from (present l.row.graph.pairs) (map (λ x. x.now) l.patterns ++ rest) l.row.row
    ≡ matches_from (present l.row.graph.pairs) (map (λ x. x.now) (drop l.pattern-index l.patterns) ++ rest) l.row.row
