use Rattle.std.proofs.Common.{◌≡◌, ◌≤◌, ◌++◌, reverse, vec_len}
use Rattle.chunked_list.specs.Stores.{IsStore, elements_in, room_in}
use Rattle.chunked_list.proofs.stores.push_all.Given as goal

abbrev pub invariant-loop-element : goal.invariant-loop-element
invariant-loop-element g l = record {
  is : IsStore g.T.Keyed.key l.store;
  room : vec_len l.rest ≤ room_in l.store;
  elements : elements_in l.initial.store ++ reverse l.initial.rest.items ≡ elements_in l.store ++ reverse l.rest.items;
}

abbrev pub decreases-loop-element : goal.decreases-loop-element
decreases-loop-element g l = vec_len l.rest
