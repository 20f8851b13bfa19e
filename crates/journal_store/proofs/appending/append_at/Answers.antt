-- What an append leaves, with the place behind it.
use Rattle.journal_sides.specs.WrittenRecords.{with_record}
use Rattle.journal_store.specs.WrittenSides.{HasVolume}
use Rattle.journal_store.proofs.CallEndLaws.{kept_end}
use Rattle.journal_store.proofs.appending.append_at.Goals as goal

pub returns-clause-done : goal.returns-clause-done
returns-clause-done g c l volume next at body_is =
    kept_end c.args.stop.now c.args.closed.now c.put_record-put.result c.keep_end.new.stop c.keep_end.new.closed c.keep_end.result
    (λ end. HasVolume c.args.side (with_record next volume) end l (g.B.Banks.log c.put_record-put.new.banks)) c.keep_end.ensures
    (c.put_record-put.ensures.done l volume next at body_is)
