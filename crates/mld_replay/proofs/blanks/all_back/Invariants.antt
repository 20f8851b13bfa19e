use Rattle.std.proofs.Common.{◌≡◌, ◌≤◌, ◌+◌, ◌++◌, ◌∷◌, length, vec_len, vec_capacity}
use Rattle.mld_replay.proofs.blanks.all_back.Given as goal

abbrev pub invariant-loop-blank : goal.invariant-loop-blank
invariant-loop-blank g l = record {
  items : l.back.items ++ l.blank-iterator.rest.items ≡ l.fn.blanks.items;
  room : vec_len l.back + length l.blank-iterator.rest.items + 1 + length l.rest.items ≤ vec_capacity l.back;
}

abbrev pub invariant-loop-next : goal.invariant-loop-next
invariant-loop-next g l = record {
  items : l.back.items ++ l.next-iterator.rest.items ≡ l.fn.blanks.items ++ l.fn.one ∷ l.fn.rest.items;
  room : vec_len l.back + length l.next-iterator.rest.items ≤ vec_capacity l.back;
}
