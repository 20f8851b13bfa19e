-- What a side that is written anew has, with the place behind it.
use Rattle.journal_sides.specs.Heads.{head_value}
use Rattle.journal_sides.specs.WrittenRecords.{volume_of}
use Rattle.journal_store.specs.WrittenSides.{HasVolume}
use Rattle.journal_store.proofs.CallEndLaws.{kept_end}
use Rattle.journal_store.proofs.appending.swap_at.Goals as goal

pub returns-clause-done : goal.returns-clause-done
returns-clause-done g c l e settled =
    kept_end c.args.stop.now c.args.closed.now c.write_side-put.result c.keep_end.new.stop c.keep_end.new.closed c.keep_end.result
    (λ end. HasVolume c.args.side (volume_of c.args.generation (head_value c.args.head.now) c.args.entries.now) end l (g.B.Banks.log c.write_side-put.new.banks)) c.keep_end.ensures
    (c.write_side-put.ensures.done l e settled)
