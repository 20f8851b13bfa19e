use Rattle.std.proofs.Common.{◌≡◌, ◌++◌, map}
use Rattle.jsonld_subjects.specs.jsonld_values.Numbering.{numbered_triple}
use Rattle.jrql_patterns.proofs.open_groups.numbered_branches.Given as goal

abbrev pub invariant-loop-branch : goal.invariant-loop-branch
invariant-loop-branch l =
    l.all.items ++ map (map (numbered_triple l.named)) l.branch-iterator.rest.items ≡ map (map (numbered_triple l.named)) l.fn.branches.items
