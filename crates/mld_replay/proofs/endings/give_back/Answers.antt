use Rattle.std.proofs.Common.{rules, append_assoc}
use Rattle.mld_replay.proofs.EndLemmas.{blank_keeps, none_more}
use Rattle.mld_replay.proofs.endings.give_back.Goals as goal

pub loop-blank-preserved : goal.loop-blank-preserved
loop-blank-preserved g c = record {
  items = search (rules, append_assoc);
  room = search rules;
  none = λ none.
      rw c.push_reserved.ensures.items (none_more g.B.Banks.log c.loop-blank.banks.items c.into_banks.result (blank_keeps (g.B.Banks.log c.into_banks.result) (g.met.B.CrashBanks.tells c.into_banks.result) c.into_banks.ensures.blank)
      (c.loop-blank.invariant.none none));
}
