use Rattle.std.proofs.Common.{[], drop}
use Rattle.std.proofs.lemmas.Result.{err_from_is_err_and}
use Rattle.journal_sides.specs.RecordBytes.{read_records}
use Rattle.journal_sides.proofs.RecordReading.{reading_more, reading_missed, reading_done, reading_ended}
use Rattle.journal_sides.proofs.record_reading.take_records.Goals as goal

pub returns-in_err-is_open-clause-agrees : goal.returns-in_err-is_open-clause-agrees
returns-in_err-is_open-clause-agrees c head steps shows few =
    let p = err_from_is_err_and c.from_residual.result c.from_residual.ensures.1 in
    rw (p.1, p.2) (reading_ended head (read_records steps head [] c.args.at (drop c.args.at c.args.input.now)) c.args.input.now c.loop-progress.progress.entries.items c.loop-progress.progress.path c.loop-progress.progress.known.ticks c.loop-progress.place
    (c.loop-progress.invariant.reads head steps shows few) c.in_err-is_open.field-0.0 c.loop-progress.invariant.within c.in_err-is_open.ensures)

pub returns-in_err-place-clause-agrees : goal.returns-in_err-place-clause-agrees
returns-in_err-place-clause-agrees c head steps shows few =
    let p = err_from_is_err_and c.from_residual-in_err-place.result c.from_residual-in_err-place.ensures.1 in
    let r = c.loop-progress.invariant.reads head steps shows few in
    rw (p.1, p.2) (reading_missed head (read_records steps head [] c.args.at (drop c.args.at c.args.input.now)) c.args.input.now c.loop-progress.progress.entries.items c.loop-progress.progress.path c.loop-progress.progress.known.ticks c.loop-progress.place
    r c.in_ok-is_open.field-0 c.in_err-place.field-0.0 c.in_ok-is_open.ensures c.if-branch.true (c.in_err-place.ensures.agrees head r.records r.shows))

pub loop-progress-preserved : goal.loop-progress-preserved
loop-progress-preserved c = record {
  within = c.in_ok-place.ensures.within;
  reads = λ head steps shows few.
      let r = c.loop-progress.invariant.reads head steps shows few in
      reading_more head (read_records steps head [] c.args.at (drop c.args.at c.args.input.now)) c.args.input.now c.loop-progress.progress.entries.items c.loop-progress.progress.path c.loop-progress.progress.known.ticks c.loop-progress.place
      r c.in_ok-is_open.field-0 c.take_record.new.progress.entries.items c.take_record.new.progress.path c.take_record.new.progress.known.ticks c.in_ok-place.place c.in_ok-is_open.ensures c.if-branch.true c.in_ok-place.ensures.further
      (c.in_ok-place.ensures.agrees head r.records r.shows);
}

pub returns-clause-agrees : goal.returns-clause-agrees
returns-clause-agrees c head steps shows few =
    reading_done head (read_records steps head [] c.args.at (drop c.args.at c.args.input.now)) c.args.input.now c.loop-progress.progress.entries.items c.loop-progress.progress.path c.loop-progress.progress.known.ticks c.loop-progress.place
    (c.loop-progress.invariant.reads head steps shows few) c.in_ok-is_open.field-0 c.in_ok-is_open.ensures c.if-branch.false
