use Rattle.std.proofs.Common.{◌≡◌, ◌+◌, ◌++◌, drop, take, vec_len, vec_capacity}
use Rattle.reply_rows.proofs.merging.move_rows.Given as goal

abbrev pub invariant-loop : goal.invariant-loop
invariant-loop l = record {
  rest : l.rest.items ≡ drop l.counter l.initial.rest.items;
  kept : l.kept.items ≡ l.initial.kept.items ++ take l.counter l.initial.rest.items;
  len : vec_len l.kept ≡ vec_len l.initial.kept + l.counter;
  capacity : vec_capacity l.kept ≡ vec_capacity l.initial.kept;
}
