use Rattle.std.proofs.Common.{◌≡◌, ◌++◌, map, take}
use Rattle.std.specs.List.{filter}
use Rattle.chunked_list.proofs.spans.add_filtered.Given as goal

abbrev pub invariant-loop-element : goal.invariant-loop-element
invariant-loop-element g l = map (λ x. x.now) l.found.items ≡ map (λ x. x.now) l.initial.found.items ++ filter (g.P.Test.passes l.test) (take l.element-index l.elements)
