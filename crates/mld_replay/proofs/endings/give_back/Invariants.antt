use Rattle.std.proofs.Common.{◌≡◌, ◌++◌, ◌+◌, ◌≤◌, length, vec_len, vec_capacity}
use Rattle.mld_replay.specs.KeptBanks.{AllKeepNone}
use Rattle.mld_replay.proofs.endings.give_back.Given as goal

abbrev pub invariant-loop-blank : goal.invariant-loop-blank
invariant-loop-blank g l = record {
  items : l.banks.items ++ l.blank-iterator.rest.items ≡ l.fn.banks.items ++ l.fn.blanks.items;
  room : vec_len l.banks + length l.blank-iterator.rest.items ≤ vec_capacity l.banks;
  none : AllKeepNone g.B.Banks.log l.fn.banks.items → AllKeepNone g.B.Banks.log l.banks.items;
}
