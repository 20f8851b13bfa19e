use Rattle.mld_replay.proofs.Counting.{one_more}
use Rattle.mld_replay.proofs.counts.push_clones.Goals as goal

pub loop-number-preserved : goal.loop-number-preserved
loop-number-preserved c =
    one_more c.loop-number.text.items c.push_clone.new.text.items _ c.args.clones.now c.loop-number.number c.index-clones-number.result _ c.loop-number-test.true c.index-clones-number.is
    c.loop-number.invariant c.in_ok-push_clone.ensures
