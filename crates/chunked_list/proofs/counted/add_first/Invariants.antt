use Rattle.std.proofs.Common.{◌≡◌, ◌≤◌, ◌++◌, map, take, vec_len, vec_capacity}
use Rattle.chunked_list.proofs.counted.add_first.Given as goal

abbrev pub invariant-loop-element : goal.invariant-loop-element
invariant-loop-element g l = record {
  items : map (λ x. x.now) l.found.items ≡ map (λ x. x.now) l.initial.found.items ++ take l.element-index l.elements;
  few : vec_len l.found ≤ l.count;
  room : vec_capacity l.found ≡ vec_capacity l.initial.found;
}
