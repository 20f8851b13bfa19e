use Rattle.std.specs.Prelude.{◌≡◌, IsTrue, map, take}
use Rattle.std.specs.List.{All}
use Rattle.text_rules.specs.Iri.{is_absolute}
use Rattle.node_run.proofs.spelled.read_iris.Given as goal

abbrev pub invariant-loop-text : goal.invariant-loop-text
invariant-loop-text l = (l.iris.items ≡ map (λ text. text.now) (take l.text-index l.texts)) × All (λ iri. IsTrue (is_absolute iri)) l.iris.items
