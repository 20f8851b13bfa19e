use Rattle.std.proofs.Common.{◌≡◌, map, take, vec_capacity}
use Rattle.hinted_chunks.specs.Hinted.{hint_of}
use Rattle.hinted_chunks.proofs.hints.renew.Given as goal

abbrev pub invariant-loop-element : goal.invariant-loop-element
invariant-loop-element g l = record {
  mark : l.hints.mark ≡ l.mark;
  items : l.hints.numbers.items ≡ map (hint_of g.T.Keyed.key l.mark) (take l.element-index l.elements);
  room : vec_capacity l.hints.numbers ≡ vec_capacity l.fn.hints.numbers;
}
