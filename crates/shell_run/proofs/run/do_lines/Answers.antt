use Rattle.std.proofs.Common.{◌∙◌, refl, sym, ap, arith, inl}
use Rattle.mld_io.specs.Disk.{seen}
use Rattle.shell_session.specs.journal_sides.Pairs.{read_banks}
use Rattle.input_lines.proofs.HowFarLemmas.{into_first}
use Rattle.input_lines.proofs.TakenLemmas.{end_first, end_more, end_none, takes_some, end_of_line, advanced, err_same, read_well}
use Rattle.shell_session.specs.Shells.{found_in}
use Rattle.shell_session.specs.Sessions.{session_banks}
use Rattle.shell_run.specs.Inputs.{AreAllLines, AreReadLines, AreLinesBefore}
use Rattle.shell_run.specs.ShellEnds.{between}
use Rattle.shell_run.proofs.FaultLemmas.{read_rose, write_rose, reading_not_writing, line_not_reading, line_not_writing, writing_not_reading, meters_same, meters_then}
use Rattle.shell_run.proofs.InputLemmas.{none_taken, one_taken, read_whole, read_short, read_up_to, said_line, said_writing}
use Rattle.shell_run.proofs.WayLemmas.{way_first, way_more, are_none, are_all, are_read, are_before, stops_between, stops_within, stops_writing, ends_reading, ends_line, ends_writing}
use Rattle.shell_run.proofs.run.do_lines.Goals as goal

-- ---- there was no room for lines

pub returns-in-Err-clause-ends : goal.returns-in-Err-clause-ends
returns-in-Err-clause-ends g c = λ log told.
    let way = way_first g.B.Banks.log c.args.banks c.new-session.result (g.S.Source.left c.args.source.now) (g.K.Sink.held c.args.sink.now) 0 log c.new-session.ensures refl told in
    rw (c.end_run.ensures.fault, c.end_run.ensures.banks ∙ c.into_banks.ensures)
    (between (stops_between g.B.Banks.log (AreReadLines (g.S.Source.left c.args.source.now)) (found_in (read_banks (seen log))) (g.B.Banks.log c.args.banks) (g.S.Source.left c.args.source.now) (g.S.Source.left c.args.source.now) (g.K.Sink.held c.args.sink.now) (g.K.Sink.held c.args.sink.now) 0 c.new-session.result 0 way
    (are_none g.B.Banks.log (found_in (read_banks (seen log))) (g.B.Banks.log c.args.banks) (g.S.Source.left c.args.source.now) (g.K.Sink.held c.args.sink.now) (g.K.Sink.held c.args.sink.now) 0 c.new-session.result way)))

-- ---- the lines go on

pub loop-line-init : goal.loop-line-init
loop-line-init g c = record {
  way = λ log told. way_first g.B.Banks.log c.args.banks c.new-session.result (g.S.Source.left c.args.source.now) (g.K.Sink.held c.args.sink.now) c.in-Ok.lines.taken log c.new-session.ensures (ap (λ l. l.taken) c.in-Ok.ensures) told;
  standing = rw c.new-session.ensures tt;
  meters = rw c.new-session.ensures (meters_same (g.B.Banks.meter c.args.banks));
  so_far = none_taken (g.S.Source.left c.args.source.now) c.in-Ok.lines.taken (ap (λ l. l.taken) c.in-Ok.ensures);
  ends = end_first (g.S.Source.left c.args.source.now) c.in-Ok.lines.ended (ap (λ l. l.ended) c.in-Ok.ensures);
  good = ap (λ l. l.good) c.in-Ok.ensures;
  limits = record { in_line = ap (λ l. l.line) c.in-Ok.ensures; in_all = ap (λ l. l.all) c.in-Ok.ensures };
  few = omega arith;
  within = omega (arith, ap (λ l. l.taken) c.in-Ok.ensures);
  reads = refl;
  writes = refl;
}

pub loop-line-preserved : goal.loop-line-preserved
loop-line-preserved g c = record {
  way = λ log told. way_more g.B.Banks.log (found_in (read_banks (seen log))) (g.B.Banks.log c.args.banks) (g.S.Source.left c.args.source.now) (g.S.Source.left c.loop-line.source) (g.S.Source.left c.next_line.new.source) (g.K.Sink.held c.args.sink.now) (g.K.Sink.held c.loop-line.sink) (g.K.Sink.held c.write_all.new.sink) c.loop-line.lines.taken c.next_line.new.lines.taken c.loop-line.session c.in-Ok-line.session c.loop-line.done
      c.as_slice.result.now c.clear.new.self.items c.line-in-loop-line.new.out.items
      (c.loop-line.invariant.way log told)
      (takes_some (g.S.Source.left c.loop-line.source) (g.S.Source.left c.next_line.new.source) c.in-Ok-Some.field-0 c.loop-line.lines.taken c.next_line.new.lines.taken c.in-Ok-Some.line c.as_slice.result.now c.in-Ok-Some.field-0-is c.as_slice.ensures c.in-Ok-Some.ensures.line)
      c.in-Ok-line.ensures.done c.clear.ensures.items
      (rw (sym c.as_slice-in-loop-line.ensures.value) c.in_default.ensures.ok);
  standing = c.in-Ok-line.ensures.standing;
  meters = meters_then (g.B.Banks.meter c.args.banks) (g.B.Banks.meter (session_banks c.loop-line.session)) (g.B.Banks.meter (session_banks c.in-Ok-line.session)) c.loop-line.invariant.meters c.in-Ok-line.ensures.fault;
  so_far = one_taken (g.S.Source.left c.args.source.now) (g.S.Source.left c.loop-line.source) c.loop-line.lines.taken c.loop-line.done c.loop-line.invariant.so_far (g.S.Source.left c.next_line.new.source)
      c.next_line.new.lines.taken c.in-Ok-Some.line
      (takes_some (g.S.Source.left c.loop-line.source) (g.S.Source.left c.next_line.new.source) c.in-Ok-Some.field-0 c.loop-line.lines.taken c.next_line.new.lines.taken c.in-Ok-Some.line c.in-Ok-Some.line c.in-Ok-Some.field-0-is refl c.in-Ok-Some.ensures.line);
  ends = end_more (g.S.Source.left c.args.source.now) (g.S.Source.left c.loop-line.source) (g.S.Source.left c.next_line.new.source) c.loop-line.lines.taken c.next_line.new.lines.taken c.loop-line.done
      c.loop-line.invariant.so_far.lines c.in-Ok-Some.line c.loop-line.lines.ended c.next_line.new.lines.ended c.loop-line.invariant.ends c.loop-line.invariant.so_far.left_of
      (takes_some (g.S.Source.left c.loop-line.source) (g.S.Source.left c.next_line.new.source) c.in-Ok-Some.field-0 c.loop-line.lines.taken c.next_line.new.lines.taken c.in-Ok-Some.line c.in-Ok-Some.line c.in-Ok-Some.field-0-is refl c.in-Ok-Some.ensures.line)
      (λ bytes left. end_of_line c.next_line.new.lines.ended bytes c.in-Ok-Some.field-0 c.in-Ok-Some.line c.in-Ok-Some.field-0-is (c.in-Ok-Some.ensures.ended bytes left));
  good = c.in-Ok-Some.ensures.good;
  limits = c.next_line.ensures.limits;
  few = omega (arith, c.loop-line.invariant.few, (advanced c.loop-line.lines.taken c.next_line.new.lines.taken c.in-Ok-Some.field-0 c.in-Ok-Some.line c.in-Ok-Some.field-0-is c.in-Ok-Some.ensures.progress).0);
  within = omega (arith, c.next_line.ensures.limits.in_all, (advanced c.loop-line.lines.taken c.next_line.new.lines.taken c.in-Ok-Some.field-0 c.in-Ok-Some.line c.in-Ok-Some.field-0-is c.in-Ok-Some.ensures.progress).1);
  reads = read_well _ _ _ c.in-Ok-Some.ensures.cause ∙ c.loop-line.invariant.reads;
  writes = c.in_default.ensures.cause.good ∙ c.loop-line.invariant.writes;
}

pub loop-line-smaller : goal.loop-line-smaller
loop-line-smaller g c =
    let step = advanced c.loop-line.lines.taken c.next_line.new.lines.taken c.in-Ok-Some.field-0 c.in-Ok-Some.line c.in-Ok-Some.field-0-is c.in-Ok-Some.ensures.progress in
    omega (arith, step.0, step.1)

-- ---- there were no more lines

pub returns-in-Ok-None-clause-ends : goal.returns-in-Ok-None-clause-ends
returns-in-Ok-None-clause-ends g c = λ log told.
    rw (c.end_run-in-Ok-None.ensures.fault, c.end_run-in-Ok-None.ensures.banks ∙ c.into_banks-in-Ok-None.ensures)
    (stops_between g.B.Banks.log (AreAllLines (g.S.Source.left c.next_line.new.source)) (found_in (read_banks (seen log))) (g.B.Banks.log c.args.banks) (g.S.Source.left c.args.source.now) (g.S.Source.left c.loop-line.source) (g.K.Sink.held c.args.sink.now) (g.K.Sink.held c.loop-line.sink) c.loop-line.lines.taken c.loop-line.session c.loop-line.done (c.loop-line.invariant.way log told)
    (are_all g.B.Banks.log (found_in (read_banks (seen log))) (g.B.Banks.log c.args.banks) (g.S.Source.left c.args.source.now) (g.S.Source.left c.loop-line.source) (g.S.Source.left c.next_line.new.source) (g.K.Sink.held c.args.sink.now) (g.K.Sink.held c.loop-line.sink) c.loop-line.lines.taken c.loop-line.session c.loop-line.done (c.loop-line.invariant.way log told)
    (end_none (g.S.Source.left c.args.source.now) (g.S.Source.left c.loop-line.source) (g.S.Source.left c.next_line.new.source) c.in-Ok-None.field-0 c.loop-line.lines.taken c.next_line.new.lines.taken c.loop-line.done c.loop-line.lines.ended c.loop-line.invariant.ends
    c.in-Ok-None.field-0-is c.in-Ok-None.ensures.line c.in-Ok-None.ensures.at_end)))

-- ---- a line could not be read

pub returns-in-Err-next_line-clause-ends : goal.returns-in-Err-next_line-clause-ends
returns-in-Err-next_line-clause-ends g c = λ log told.
    rw (c.end_run-in-Err-next_line.ensures.fault, c.input_fault.ensures, c.end_run-in-Err-next_line.ensures.banks ∙ c.into_banks-in-Err-next_line.ensures)
    (ends_reading c.in-Err-next_line.fault (found_in (read_banks (seen log))) (g.S.Source.left c.next_line.new.source) _
    (λ fits. stops_between g.B.Banks.log (AreReadLines (g.S.Source.left c.next_line.new.source)) (found_in (read_banks (seen log))) (g.B.Banks.log c.args.banks) (g.S.Source.left c.args.source.now) (g.S.Source.left c.loop-line.source) (g.K.Sink.held c.args.sink.now) (g.K.Sink.held c.loop-line.sink) c.loop-line.lines.taken c.loop-line.session c.loop-line.done (c.loop-line.invariant.way log told)
    (are_read g.B.Banks.log (found_in (read_banks (seen log))) (g.B.Banks.log c.args.banks) (g.S.Source.left c.args.source.now) (g.S.Source.left c.loop-line.source) (g.S.Source.left c.next_line.new.source) (g.K.Sink.held c.args.sink.now) (g.K.Sink.held c.loop-line.sink) c.loop-line.lines.taken c.loop-line.session c.loop-line.done c.loop-line.lines.ended c.in-Err-next_line.fault (c.loop-line.invariant.way log told)
    c.loop-line.invariant.ends c.in-Err-next_line.ensures.failed c.in-Err-next_line.ensures.broken_off fits))
    (λ at is.
    let large = c.in-Err-next_line.ensures.large at (err_same _ _ is) in
    stops_between g.B.Banks.log (AreLinesBefore at) (found_in (read_banks (seen log))) (g.B.Banks.log c.args.banks) (g.S.Source.left c.args.source.now) (g.S.Source.left c.loop-line.source) (g.K.Sink.held c.args.sink.now) (g.K.Sink.held c.loop-line.sink) c.loop-line.lines.taken c.loop-line.session c.loop-line.done (c.loop-line.invariant.way log told)
    (are_before g.B.Banks.log (found_in (read_banks (seen log))) (g.B.Banks.log c.args.banks) (g.S.Source.left c.args.source.now) (g.S.Source.left c.loop-line.source) (g.K.Sink.held c.args.sink.now) (g.K.Sink.held c.loop-line.sink) c.loop-line.lines.taken c.loop-line.session c.loop-line.done at (c.loop-line.invariant.way log told) large.0 large.1)))

-- ---- a line was not done

pub returns-in-Err-line-clause-ends : goal.returns-in-Err-line-clause-ends
returns-in-Err-line-clause-ends g c = λ log told.
    rw (c.end_run-in-Err-line.ensures.fault, c.line_fault.ensures, c.end_run-in-Err-line.ensures.banks)
    (ends_line c.in-Err-line.fault (found_in (read_banks (seen log))) (g.S.Source.left c.next_line.new.source) _
    (stops_within g.B.Banks.log (found_in (read_banks (seen log))) (g.B.Banks.log c.args.banks) log (g.S.Source.left c.args.source.now) (g.S.Source.left c.loop-line.source) (g.S.Source.left c.next_line.new.source) (g.K.Sink.held c.args.sink.now) (g.K.Sink.held c.loop-line.sink) c.loop-line.lines.taken c.next_line.new.lines.taken c.loop-line.session c.loop-line.done c.as_slice.result.now c.in-Err-line.banks
    told (c.loop-line.invariant.way log told)
    (takes_some (g.S.Source.left c.loop-line.source) (g.S.Source.left c.next_line.new.source) c.in-Ok-Some.field-0 c.loop-line.lines.taken c.next_line.new.lines.taken c.in-Ok-Some.line c.as_slice.result.now c.in-Ok-Some.field-0-is c.as_slice.ensures c.in-Ok-Some.ensures.line)
    c.in-Err-line.ensures.stopped))

-- ---- its reply could not be written

pub returns-in-Err-write_all-clause-ends : goal.returns-in-Err-write_all-clause-ends
returns-in-Err-write_all-clause-ends g c = λ log told.
    rw (c.end_run-in-Err-write_all.ensures.fault, c.write_fault.ensures, c.end_run-in-Err-write_all.ensures.banks ∙ c.into_banks-in-Err-write_all.ensures)
    (ends_writing c.in-Err-write_all.fault (found_in (read_banks (seen log))) (g.S.Source.left c.next_line.new.source) _
    (stops_writing g.B.Banks.log (found_in (read_banks (seen log))) (g.B.Banks.log c.args.banks) (g.S.Source.left c.args.source.now) (g.S.Source.left c.loop-line.source) (g.S.Source.left c.next_line.new.source) (g.K.Sink.held c.args.sink.now) (g.K.Sink.held c.loop-line.sink) (g.K.Sink.held c.write_all.new.sink) c.loop-line.lines.taken c.next_line.new.lines.taken c.loop-line.session c.in-Ok-line.session c.loop-line.done
    c.as_slice.result.now c.clear.new.self.items c.line-in-loop-line.new.out.items c.in-Err-write_all.ensures.err.0 (c.loop-line.invariant.way log told)
    (takes_some (g.S.Source.left c.loop-line.source) (g.S.Source.left c.next_line.new.source) c.in-Ok-Some.field-0 c.loop-line.lines.taken c.next_line.new.lines.taken c.in-Ok-Some.line c.as_slice.result.now c.in-Ok-Some.field-0-is c.as_slice.ensures c.in-Ok-Some.ensures.line)
    c.in-Ok-line.ensures.done c.clear.ensures.items (rw (sym c.as_slice-in-loop-line.ensures.value) c.in-Err-write_all.ensures.err.1)))

-- ---- how far the source was read

pub returns-in-Err-clause-input : goal.returns-in-Err-clause-input
returns-in-Err-clause-input g c = λ bytes told. rw c.end_run.ensures.fault (inl (0, into_first bytes (g.S.Source.left c.args.source.now) told))

pub returns-in-Ok-None-clause-input : goal.returns-in-Ok-None-clause-input
returns-in-Ok-None-clause-input g c =
    rw c.end_run-in-Ok-None.ensures.fault
    (read_whole (g.S.Source.left c.args.source.now) (g.S.Source.left c.loop-line.source) c.loop-line.lines.taken c.loop-line.done c.loop-line.invariant.so_far (g.S.Source.left c.next_line.new.source)
    (end_none (g.S.Source.left c.args.source.now) (g.S.Source.left c.loop-line.source) (g.S.Source.left c.next_line.new.source) c.in-Ok-None.field-0 c.loop-line.lines.taken c.next_line.new.lines.taken c.loop-line.done c.loop-line.lines.ended c.loop-line.invariant.ends
    c.in-Ok-None.field-0-is c.in-Ok-None.ensures.line c.in-Ok-None.ensures.at_end))

pub returns-in-Err-next_line-clause-input : goal.returns-in-Err-next_line-clause-input
returns-in-Err-next_line-clause-input g c =
    rw (c.end_run-in-Err-next_line.ensures.fault, c.input_fault.ensures)
    (read_short (g.S.Source.left c.args.source.now) (g.S.Source.left c.loop-line.source) c.loop-line.lines.taken c.loop-line.done c.loop-line.invariant.so_far c.in-Err-next_line.fault (g.S.Source.left c.next_line.new.source) c.loop-line.lines.ended
    c.loop-line.invariant.ends c.in-Err-next_line.ensures.failed c.in-Err-next_line.ensures.broken_off (λ at is. c.in-Err-next_line.ensures.large at (err_same _ _ is)))

pub returns-in-Err-line-clause-input : goal.returns-in-Err-line-clause-input
returns-in-Err-line-clause-input g c = λ bytes told.
    rw (c.end_run-in-Err-line.ensures.fault, c.line_fault.ensures)
    (said_line c.in-Err-line.fault (g.S.Source.left c.next_line.new.source) bytes
    (read_up_to (g.S.Source.left c.args.source.now) (g.S.Source.left c.loop-line.source) c.loop-line.lines.taken c.loop-line.done c.loop-line.invariant.so_far (g.S.Source.left c.next_line.new.source) c.next_line.new.lines.taken c.in-Ok-Some.line
    (takes_some (g.S.Source.left c.loop-line.source) (g.S.Source.left c.next_line.new.source) c.in-Ok-Some.field-0 c.loop-line.lines.taken c.next_line.new.lines.taken c.in-Ok-Some.line c.in-Ok-Some.line c.in-Ok-Some.field-0-is refl c.in-Ok-Some.ensures.line) bytes told))

pub returns-in-Err-write_all-clause-input : goal.returns-in-Err-write_all-clause-input
returns-in-Err-write_all-clause-input g c = λ bytes told.
    rw (c.end_run-in-Err-write_all.ensures.fault, c.write_fault.ensures)
    (said_writing c.in-Err-write_all.fault (g.S.Source.left c.next_line.new.source) bytes
    (read_up_to (g.S.Source.left c.args.source.now) (g.S.Source.left c.loop-line.source) c.loop-line.lines.taken c.loop-line.done c.loop-line.invariant.so_far (g.S.Source.left c.next_line.new.source) c.next_line.new.lines.taken c.in-Ok-Some.line
    (takes_some (g.S.Source.left c.loop-line.source) (g.S.Source.left c.next_line.new.source) c.in-Ok-Some.field-0 c.loop-line.lines.taken c.next_line.new.lines.taken c.in-Ok-Some.line c.in-Ok-Some.line c.in-Ok-Some.field-0-is refl c.in-Ok-Some.ensures.line) bytes told))

-- ---- the counts of faults

pub returns-in-Err-clause-reads : goal.returns-in-Err-clause-reads
returns-in-Err-clause-reads g c = rw c.end_run.ensures.fault (record { failed = λ is. absurd (cc (is)); quiet = λ _. refl })

pub returns-in-Err-clause-writes : goal.returns-in-Err-clause-writes
returns-in-Err-clause-writes g c = rw c.end_run.ensures.fault (record { failed = λ is. absurd (cc (is)); quiet = λ _. refl })

pub returns-in-Ok-None-clause-reads : goal.returns-in-Ok-None-clause-reads
returns-in-Ok-None-clause-reads g c =
    rw c.end_run-in-Ok-None.ensures.fault (record { failed = λ is. absurd (cc (is)); quiet = λ _. read_well _ _ _ c.in-Ok-None.ensures.cause ∙ c.loop-line.invariant.reads })

pub returns-in-Ok-None-clause-writes : goal.returns-in-Ok-None-clause-writes
returns-in-Ok-None-clause-writes g c = rw c.end_run-in-Ok-None.ensures.fault (record { failed = λ is. absurd (cc (is)); quiet = λ _. c.loop-line.invariant.writes })

pub returns-in-Err-next_line-clause-reads : goal.returns-in-Err-next_line-clause-reads
returns-in-Err-next_line-clause-reads g c =
    rw (c.end_run-in-Err-next_line.ensures.fault, c.input_fault.ensures) (read_rose c.in-Err-next_line.fault _ _ _ c.in-Err-next_line.ensures.cause c.loop-line.invariant.reads)

pub returns-in-Err-next_line-clause-writes : goal.returns-in-Err-next_line-clause-writes
returns-in-Err-next_line-clause-writes g c =
    rw (c.end_run-in-Err-next_line.ensures.fault, c.input_fault.ensures) (record { failed = λ is. absurd (reading_not_writing c.in-Err-next_line.fault is); quiet = λ _. c.loop-line.invariant.writes })

pub returns-in-Err-line-clause-reads : goal.returns-in-Err-line-clause-reads
returns-in-Err-line-clause-reads g c =
    rw (c.end_run-in-Err-line.ensures.fault, c.line_fault.ensures)
    (record { failed = λ is. absurd (line_not_reading c.in-Err-line.fault is); quiet = λ _. read_well _ _ _ c.in-Ok-Some.ensures.cause ∙ c.loop-line.invariant.reads })

pub returns-in-Err-line-clause-writes : goal.returns-in-Err-line-clause-writes
returns-in-Err-line-clause-writes g c =
    rw (c.end_run-in-Err-line.ensures.fault, c.line_fault.ensures) (record { failed = λ is. absurd (line_not_writing c.in-Err-line.fault is); quiet = λ _. c.loop-line.invariant.writes })

pub returns-in-Err-write_all-clause-reads : goal.returns-in-Err-write_all-clause-reads
returns-in-Err-write_all-clause-reads g c =
    rw (c.end_run-in-Err-write_all.ensures.fault, c.write_fault.ensures)
    (record { failed = λ is. absurd (writing_not_reading c.in-Err-write_all.fault is); quiet = λ _. read_well _ _ _ c.in-Ok-Some.ensures.cause ∙ c.loop-line.invariant.reads })

pub returns-in-Err-write_all-clause-writes : goal.returns-in-Err-write_all-clause-writes
returns-in-Err-write_all-clause-writes g c =
    rw (c.end_run-in-Err-write_all.ensures.fault, c.write_fault.ensures) (write_rose c.in-Err-write_all.fault _ _ _ c.in-Err-write_all.ensures.cause c.loop-line.invariant.writes)
