use Rattle.std.proofs.Common.{◌≡◌, ◌++◌, map, take, drop}
use Rattle.jsonld_values.specs.Numbering.{numbered_triple}
use Rattle.jsonld_values.proofs.numbering.number_triples.Given as goal

abbrev pub invariant-loop-triple : goal.invariant-loop-triple
invariant-loop-triple l =
    l.triples ≡ map (numbered_triple l.named) (take l.triple-index l.fn.triples) ++ drop l.triple-index l.fn.triples
