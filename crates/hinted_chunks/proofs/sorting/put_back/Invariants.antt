use Rattle.std.proofs.Common.{◌≡◌, ◌≤◌, ◌+◌, ◌++◌, map, reverse, vec_len, vec_capacity}
use Rattle.hinted_chunks.proofs.sorting.put_back.Given as goal

abbrev pub invariant-loop-element : goal.invariant-loop-element
invariant-loop-element g l = record {
  moved : map (λ pair. pair.1) l.initial.hinted.items ≡ map (λ pair. pair.1) l.hinted.items ++ reverse l.elements.items;
  room : vec_len l.hinted + vec_len l.elements ≤ vec_capacity l.elements;
  back : vec_len l.hinted + vec_len l.elements ≤ vec_capacity l.hinted;
}

abbrev pub decreases-loop-element : goal.decreases-loop-element
decreases-loop-element g l = vec_len l.hinted
