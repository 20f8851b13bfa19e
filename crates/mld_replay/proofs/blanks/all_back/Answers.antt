use Rattle.std.proofs.Common.{rules, append_assoc}
use Rattle.mld_replay.proofs.blanks.all_back.Goals as goal

pub loop-blank-preserved : goal.loop-blank-preserved
loop-blank-preserved g c = record { items = search (rules, append_assoc); room = search rules }

pub loop-next-preserved : goal.loop-next-preserved
loop-next-preserved g c = record { items = search (rules, append_assoc); room = search rules }
