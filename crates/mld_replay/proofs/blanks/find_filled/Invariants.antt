use Rattle.std.proofs.Common.{◌≡◌, ◌≤◌, ◌-◌, vec_len}
use Rattle.mld_replay.proofs.BlankLemmas.{HasLooked}
use Rattle.mld_replay.proofs.blanks.find_filled.Given as goal

abbrev pub invariant-loop-number : goal.invariant-loop-number
invariant-loop-number g l = record {
  count : vec_len l.banks ≡ vec_len l.fn.banks;
  within : l.number ≤ vec_len l.banks;
  looked : HasLooked g.B.Banks.log g.B.Banks.meter l.fn.banks.items l.banks.items l.number;
}

abbrev pub decreases-loop-number : goal.decreases-loop-number
decreases-loop-number g l = vec_len l.banks - l.number
