use Rattle.std.proofs.Common.{◌≡◌, ◌≤◌, ◌+◌, ◌++◌, map, reverse, vec_len, vec_capacity}
use Rattle.std.specs.List.{All}
use Rattle.hinted_chunks.specs.Hinted.{ShareText, hint_of}
use Rattle.hinted_chunks.proofs.sorting.put_hints.Given as goal

abbrev pub invariant-loop-element : goal.invariant-loop-element
invariant-loop-element g l = record {
  moved : l.initial.elements.items ≡ l.elements.items ++ reverse (map (λ pair. pair.1) l.hinted.items);
  hints : All (λ pair. pair.0 ≡ hint_of (g.O.TextOrder.text l.order) l.mark pair.1) l.hinted.items;
  shared : ShareText (g.O.TextOrder.text l.order) l.shared (map (λ pair. pair.1) l.hinted.items);
  room : vec_len l.elements + vec_len l.hinted ≤ vec_capacity l.hinted;
  back : vec_len l.elements + vec_len l.hinted ≤ vec_capacity l.elements;
}

abbrev pub decreases-loop-element : goal.decreases-loop-element
decreases-loop-element g l = vec_len l.elements
