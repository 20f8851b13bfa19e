-- A record is put on a side: what is read at each moment, and once it is done.
use Rattle.std.proofs.Common.{◌+◌, length}
use Rattle.mld_io.specs.Disk.{bytes_of, seen}
use Rattle.journal_sides.specs.WrittenRecords.{with_record}
use Rattle.journal_store.specs.Device.{IsAppending, appended}
use Rattle.journal_store.specs.WrittenSides.{IsAppendingTo}
use Rattle.journal_store.proofs.DeviceLaws.{weaken_moments}
use Rattle.journal_store.proofs.ReadLaws.{appending_reads, appended_ends, volume_from_bytes}
use Rattle.journal_store.proofs.appending.put_record.Goals as goal

pub returns-in_err-append_body-clause-moments : goal.returns-in_err-append_body-clause-moments
returns-in_err-append_body-clause-moments g c l volume next at body_is is more =
    weaken_moments l (g.B.Banks.log c.append_body.new.banks) (IsAppending (g.B.Banks.meter c.args.banks.now).arm c.args.side c.args.stop c.args.body.now (seen l)) (IsAppendingTo (g.B.Banks.meter c.args.banks.now).arm c.args.side c.args.stop volume next (seen l))
    (λ calls image left. appending_reads (g.B.Banks.meter c.args.banks.now).arm c.args.side volume next c.args.stop c.args.body.now (seen l) calls image is more at.ends body_is left)
    (c.append_body.ensures.moments l at.now_is at.settled)

pub returns-clause-moments : goal.returns-clause-moments
returns-clause-moments g c l volume next at body_is is more =
    weaken_moments l (g.B.Banks.log c.append_body.new.banks) (IsAppending (g.B.Banks.meter c.args.banks.now).arm c.args.side c.args.stop c.args.body.now (seen l)) (IsAppendingTo (g.B.Banks.meter c.args.banks.now).arm c.args.side c.args.stop volume next (seen l))
    (λ calls image left. appending_reads (g.B.Banks.meter c.args.banks.now).arm c.args.side volume next c.args.stop c.args.body.now (seen l) calls image is more at.ends body_is left)
    (c.append_body.ensures.moments l at.now_is at.settled)

pub returns-clause-done : goal.returns-clause-done
returns-clause-done g c l volume next at body_is =
    volume_from_bytes c.args.side (with_record next volume) (c.args.stop + length c.args.body.now) (appended c.args.stop c.args.body.now (bytes_of c.args.side (seen l))) l (g.B.Banks.log c.append_body.new.banks)
    (c.in_ok-append_body.ensures.done l at.now_is at.settled)
    (appended_ends volume next c.args.stop c.args.body.now (bytes_of c.args.side (seen l)) at.ends body_is)
