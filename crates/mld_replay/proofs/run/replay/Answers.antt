use Rattle.std.proofs.Common.{◌≡◌, ◌∙◌, ◌∷◌, ◌++◌, List, ℕ, refl, sym, ap, arith, inl, Some}
use Rattle.std.specs.Result.{result_err}
use Rattle.std.proofs.lemmas.Result.{err_from_is_err_and}
use Rattle.input_lines.proofs.TakenLemmas as input
use Rattle.input_lines.proofs.TakenLemmas.{end_first, end_more, end_none, takes_some, end_of_line, advanced, read_well}
use Rattle.input_lines.proofs.HowFarLemmas.{into_first}
use Rattle.input_lines.specs.HowFar.{ReadsToNext}
use Rattle.mld_replay.proofs.RunLemmas.{under_way_first, under_way_more, whole_first, whole_of_way, line_there, none_there, just_more, just_none, front_of_reply, stops_bad_at, stops_large, breaks_off, part_read, finishes, ends_waiting_at, on_ok, err_same, ends_reading, ends_stopped, ends_writing, ends_lines, reading_replays, line_replays, writing_replays, end_replays, reads_counted, writes_counted, reads_same, writes_same, not_of_reading, not_of_writing, reading_not_writing, line_not_reading, line_not_writing, writing_not_reading, end_not_reading, end_not_writing}
use Rattle.mld_io.specs.Lines.{lines_of}
use Rattle.schedule_text.specs.schedule_model.Runs.{Stage, Waiting}
use Rattle.mld_replay.specs.BanksLeft.{AreLeftAmid}
use Rattle.mld_replay.specs.Ran.{short_amid}
use Rattle.mld_replay.specs.Replaying.{says_by, run_fault_of_input, run_fault_of_write}
use Rattle.mld_replay.proofs.StoppedLemmas.{still_left}
use Rattle.mld_replay.specs.Stages.{StageStands, EndsWell, banks_of_stage}
use Rattle.mld_replay.specs.declared.run.RunFault.TheVariants as faults
use Rattle.mld_replay.proofs.MeterLemmas.{unarmed_later, well_same, well_then, back_same, back_later, back_well}
use Rattle.mld_replay.proofs.run.replay.Given as given
use Rattle.mld_replay.proofs.run.replay.Goals as goal

pub loop-reply-init : goal.loop-reply-init
loop-reply-init g c = record {
  way = under_way_first g.B.Banks.log (g.S.Source.left c.args.source.now) (g.K.Sink.held c.args.sink.now) c.in_ok-lines.lines.taken c.args.stage.now (ap (λ l. l.taken) c.in_ok-lines.ensures) c.requires.waits;
  well = well_same g.B.Banks.meter (banks_of_stage c.args.stage.now);
  ends = end_first (g.S.Source.left c.args.source.now) c.in_ok-lines.lines.ended (ap (λ l. l.ended) c.in_ok-lines.ensures);
  good = ap (λ l. l.good) c.in_ok-lines.ensures;
  limits = record { in_line = ap (λ l. l.line) c.in_ok-lines.ensures; in_all = ap (λ l. l.all) c.in_ok-lines.ensures };
  few = omega arith;
  within = omega (arith, ap (λ l. l.taken) c.in_ok-lines.ensures);
  reads = refl;
  writes = refl;
}

pub loop-reply-preserved : goal.loop-reply-preserved
loop-reply-preserved g c = record {
  way = under_way_more g.B.Banks.log (g.S.Source.left c.args.source.now) (g.S.Source.left c.loop-reply.source) (g.S.Source.left c.next_line.new.source)
      (g.K.Sink.held c.args.sink.now) (g.K.Sink.held c.loop-reply.sink) (g.K.Sink.held c.write_all.new.sink) c.loop-reply.lines.taken c.next_line.new.lines.taken c.loop-reply.stage c.do_line.new.stage c.loop-reply.done c.as_slice.result.now c.do_line.new.reply.items
      c.loop-reply.invariant.way
      (takes_some (g.S.Source.left c.loop-reply.source) (g.S.Source.left c.next_line.new.source) c.in_ok-line.field-0 c.loop-reply.lines.taken c.next_line.new.lines.taken c.in-Some.line c.as_slice.result.now c.in-Some.is c.as_slice.ensures c.in_ok-line.ensures.line)
      c.in_ok-do_line.ensures.ok c.in_ok-do_line.ensures.steps
      (rw (sym c.as_slice-in-Some.ensures.value) c.in_ok-write_all.ensures.ok);
  well = well_then g.B.Banks.meter (banks_of_stage c.args.stage.now) (banks_of_stage c.loop-reply.stage) (banks_of_stage c.do_line.new.stage) c.loop-reply.invariant.well c.in_ok-do_line.ensures.back;
  ends = end_more (g.S.Source.left c.args.source.now) (g.S.Source.left c.loop-reply.source) (g.S.Source.left c.next_line.new.source) c.loop-reply.lines.taken c.next_line.new.lines.taken c.loop-reply.done
      c.loop-reply.invariant.way.lines c.in-Some.line c.loop-reply.lines.ended c.next_line.new.lines.ended c.loop-reply.invariant.ends c.loop-reply.invariant.way.left_of
      (takes_some (g.S.Source.left c.loop-reply.source) (g.S.Source.left c.next_line.new.source) c.in_ok-line.field-0 c.loop-reply.lines.taken c.next_line.new.lines.taken c.in-Some.line c.in-Some.line c.in-Some.is refl c.in_ok-line.ensures.line)
      (λ bytes told. end_of_line c.next_line.new.lines.ended bytes c.in_ok-line.field-0 c.in-Some.line c.in-Some.is (c.in_ok-line.ensures.ended bytes told));
  good = c.in_ok-line.ensures.good;
  limits = c.next_line.ensures.limits;
  few = omega (arith, c.loop-reply.invariant.few, (advanced c.loop-reply.lines.taken c.next_line.new.lines.taken c.in_ok-line.field-0 c.in-Some.line c.in-Some.is c.in_ok-line.ensures.progress).0);
  reads = read_well _ _ _ c.in_ok-line.ensures.cause ∙ c.loop-reply.invariant.reads;
  writes = c.in_ok-write_all.ensures.cause.good ∙ c.loop-reply.invariant.writes;
  within = omega (arith, c.next_line.ensures.limits.in_all, (advanced c.loop-reply.lines.taken c.next_line.new.lines.taken c.in_ok-line.field-0 c.in-Some.line c.in-Some.is c.in_ok-line.ensures.progress).1);
}

pub loop-reply-smaller : goal.loop-reply-smaller
loop-reply-smaller g c =
    let step = advanced c.loop-reply.lines.taken c.next_line.new.lines.taken c.in_ok-line.field-0 c.in-Some.line c.in-Some.is c.in_ok-line.ensures.progress in
    omega (arith, step.0, step.1)

pub do_line-requires-clause-unarmed : goal.do_line-requires-clause-unarmed
do_line-requires-clause-unarmed g c = λ κs outlives.
    unarmed_later g.B.Banks.meter (banks_of_stage c.args.stage.now) (banks_of_stage c.loop-reply.stage) c.loop-reply.invariant.well.meters c.requires.unarmed

-- ---- there was no room for lines

pub returns-in_err-lines-clause-ends : goal.returns-in_err-lines-clause-ends
returns-in_err-lines-clause-ends g c = λ bytes told.
    let p = err_from_is_err_and c.from_residual.result c.from_residual.ensures.1 in
    rw (p.1, p.2)
    (short_amid (whole_first (AreLeftAmid g.B.Banks.log (banks_of_stage c.args.stage.now)) (ReadsToNext bytes (g.S.Source.left c.args.source.now)) (g.K.Sink.held c.args.sink.now) bytes (still_left g.B.Banks.log c.args.stage.now Waiting (lines_of bytes) c.requires.waits)
    (inl (into_first bytes (g.S.Source.left c.args.source.now) told))))

pub returns-in_err-lines-clause-back : goal.returns-in_err-lines-clause-back
returns-in_err-lines-clause-back g c =
    let p = err_from_is_err_and c.from_residual.result c.from_residual.ensures.1 in
    rw (p.1, p.2) (back_same g.B.Banks.meter (banks_of_stage c.args.stage.now) faults.NoMemory (λ clone is. absurd (cc (is))))

pub returns-in_err-lines-clause-counts : goal.returns-in_err-lines-clause-counts
returns-in_err-lines-clause-counts g c =
    let p = err_from_is_err_and c.from_residual.result c.from_residual.ensures.1 in
    rw (p.1, p.2) (record { read = tt; write = tt })

-- ---- a line could not be read

pub returns-in_err-line-clause-begun : goal.returns-in_err-line-clause-begun
returns-in_err-line-clause-begun g c =
    let p = err_from_is_err_and c.from_residual-in_err-line.result c.from_residual-in_err-line.ensures.1 in
    rw (p.1, p.2) (reading_replays c.in_err-line.field-0.0)

pub returns-in_err-line-clause-ends : goal.returns-in_err-line-clause-ends
returns-in_err-line-clause-ends g c = λ bytes told.
    let p = err_from_is_err_and c.from_residual-in_err-line.result c.from_residual-in_err-line.ensures.1 in
    rw (p.1, p.2)
    (ends_reading (says_by g.B.Banks.log c.loop-reply.stage) c.in_err-line.field-0.0 bytes (g.S.Source.left c.next_line.new.source) (g.K.Sink.held c.args.sink.now) (g.K.Sink.held c.loop-reply.sink) c.loop-reply.done
    (part_read g.B.Banks.log (g.S.Source.left c.args.source.now) (g.S.Source.left c.loop-reply.source) (g.S.Source.left c.next_line.new.source) (g.K.Sink.held c.args.sink.now) (g.K.Sink.held c.loop-reply.sink) c.loop-reply.lines.taken c.loop-reply.stage c.loop-reply.done c.loop-reply.lines.ended c.in_err-line.field-0.0 c.loop-reply.invariant.way
    c.loop-reply.invariant.ends c.in_err-line.ensures.failed c.in_err-line.ensures.broken_off bytes told)
    (breaks_off g.B.Banks.log (g.S.Source.left c.args.source.now) (g.S.Source.left c.loop-reply.source) (g.S.Source.left c.next_line.new.source) (g.K.Sink.held c.args.sink.now) (g.K.Sink.held c.loop-reply.sink) c.loop-reply.lines.taken c.loop-reply.stage c.loop-reply.done c.loop-reply.invariant.way bytes told)
    (λ at is.
    let b = c.in_err-line.ensures.large at (input.err_same _ _ is) in
    stops_large g.B.Banks.log (g.S.Source.left c.args.source.now) (g.S.Source.left c.loop-reply.source) (g.S.Source.left c.next_line.new.source) (g.K.Sink.held c.args.sink.now) (g.K.Sink.held c.loop-reply.sink) c.loop-reply.lines.taken c.loop-reply.stage c.loop-reply.done at c.in_err-line.field-0.0 c.loop-reply.invariant.way is b.0 b.1
    c.in_err-line.ensures.broken_off bytes told)
    (λ read. whole_of_way g.B.Banks.log (AreLeftAmid g.B.Banks.log (banks_of_stage c.loop-reply.stage)) (ReadsToNext bytes (g.S.Source.left c.next_line.new.source)) (g.S.Source.left c.args.source.now) (g.S.Source.left c.loop-reply.source) (g.K.Sink.held c.args.sink.now) (g.K.Sink.held c.loop-reply.sink) c.loop-reply.lines.taken c.loop-reply.stage c.loop-reply.done
    c.loop-reply.invariant.way bytes told
    (λ rest is. still_left g.B.Banks.log c.loop-reply.stage c.loop-reply.invariant.way.stage (lines_of rest) c.loop-reply.invariant.way.stands) (inl read)))

pub returns-in_err-line-clause-back : goal.returns-in_err-line-clause-back
returns-in_err-line-clause-back g c =
    let p = err_from_is_err_and c.from_residual-in_err-line.result c.from_residual-in_err-line.ensures.1 in
    rw (p.1, p.2)
    (back_later g.B.Banks.meter (banks_of_stage c.args.stage.now) (banks_of_stage c.loop-reply.stage) (banks_of_stage c.loop-reply.stage) (Some (run_fault_of_input c.in_err-line.field-0.0)) c.loop-reply.invariant.well
    (back_same g.B.Banks.meter (banks_of_stage c.loop-reply.stage) (run_fault_of_input c.in_err-line.field-0.0) (not_of_reading c.in_err-line.field-0.0)))

pub returns-in_err-line-clause-counts : goal.returns-in_err-line-clause-counts
returns-in_err-line-clause-counts g c = record {
  read =
      let p = err_from_is_err_and c.from_residual-in_err-line.result c.from_residual-in_err-line.ensures.1 in
      rw (p.1, p.2)
      (reads_counted (g.S.Source.faults c.args.source.now) (g.S.Source.faults c.loop-reply.source) (g.S.Source.faults c.next_line.new.source) c.in_err-line.field-0.0
      c.in_err-line.ensures.cause c.loop-reply.invariant.reads);
  write =
      let p = err_from_is_err_and c.from_residual-in_err-line.result c.from_residual-in_err-line.ensures.1 in
      rw (p.1, p.2)
      (writes_same (g.K.Sink.faults c.args.sink.now) (g.K.Sink.faults c.loop-reply.sink) (Some (run_fault_of_input c.in_err-line.field-0.0)) (reading_not_writing c.in_err-line.field-0.0)
      c.loop-reply.invariant.writes);
}

-- ---- a line was not done

pub returns-in_err-do_line-clause-begun : goal.returns-in_err-do_line-clause-begun
returns-in_err-do_line-clause-begun g c =
    let p = err_from_is_err_and c.from_residual-in_err-do_line.result c.from_residual-in_err-do_line.ensures.1 in
    rw (p.1, p.2) (line_replays c.in_err-do_line.field-0.0 c.in_err-do_line.ensures.other)

-- the lines still to come
there : (g : given.Over) (c : goal.After-drop-reply-in_err-do_line g) (bytes : List ℕ) → g.S.Source.left c.args.source.now ≡ Some bytes
    → (others : List (List ℕ)) × (lines_of bytes ≡ c.loop-reply.invariant.way.lines ++ c.as_slice.result.now ∷ others)
there g c bytes told =
    line_there g.B.Banks.log (g.S.Source.left c.args.source.now) (g.S.Source.left c.loop-reply.source) (g.S.Source.left c.next_line.new.source) (g.K.Sink.held c.args.sink.now) (g.K.Sink.held c.loop-reply.sink)
    c.loop-reply.lines.taken c.next_line.new.lines.taken c.loop-reply.stage c.loop-reply.done c.as_slice.result.now c.loop-reply.invariant.way
    (takes_some (g.S.Source.left c.loop-reply.source) (g.S.Source.left c.next_line.new.source) c.in_ok-line.field-0 c.loop-reply.lines.taken c.next_line.new.lines.taken c.in-Some.line c.as_slice.result.now
    c.in-Some.is c.as_slice.ensures c.in_ok-line.ensures.line) bytes told

pub returns-in_err-do_line-clause-ends : goal.returns-in_err-do_line-clause-ends
returns-in_err-do_line-clause-ends g c = λ bytes told.
    let p = err_from_is_err_and c.from_residual-in_err-do_line.result c.from_residual-in_err-do_line.ensures.1 in
    rw (p.1, p.2)
    (ends_stopped g.B.Banks.log (g.S.Source.left c.args.source.now) (g.S.Source.left c.loop-reply.source) (g.K.Sink.held c.args.sink.now) (g.K.Sink.held c.loop-reply.sink)
    c.loop-reply.lines.taken c.loop-reply.stage c.do_line.new.stage c.loop-reply.done c.loop-reply.invariant.way bytes _ (g.S.Source.left c.next_line.new.source) c.in_err-do_line.field-0.0
    (there g c bytes told).1 c.in_err-do_line.ensures.other
    (λ at is.
    let b = c.in_err-do_line.ensures.bad at (err_same _ _ is) in
    stops_bad_at g.B.Banks.log (g.S.Source.left c.args.source.now) (g.S.Source.left c.loop-reply.source) (g.S.Source.left c.next_line.new.source)
    (g.K.Sink.held c.args.sink.now) (g.K.Sink.held c.loop-reply.sink) c.loop-reply.lines.taken c.next_line.new.lines.taken c.loop-reply.stage c.loop-reply.done c.in_ok-line.field-0 c.in-Some.line c.as_slice.result.now at
    c.loop-reply.invariant.way c.in-Some.is c.as_slice.ensures c.in_ok-line.ensures.line b.0 b.1 c.do_line.new.stage (c.in_err-do_line.ensures.kept at (err_same _ _ is)) bytes told)
    (c.in_err-do_line.ensures.left (there g c bytes told).0)
    (just_more g.B.Banks.log (g.S.Source.left c.args.source.now) (g.S.Source.left c.loop-reply.source) (g.S.Source.left c.next_line.new.source) (g.K.Sink.held c.args.sink.now) (g.K.Sink.held c.loop-reply.sink) c.loop-reply.lines.taken c.next_line.new.lines.taken c.loop-reply.stage c.loop-reply.done c.as_slice.result.now c.loop-reply.invariant.way
    (takes_some (g.S.Source.left c.loop-reply.source) (g.S.Source.left c.next_line.new.source) c.in_ok-line.field-0 c.loop-reply.lines.taken c.next_line.new.lines.taken c.in-Some.line c.as_slice.result.now
    c.in-Some.is c.as_slice.ensures c.in_ok-line.ensures.line) bytes told))

pub returns-in_err-do_line-clause-back : goal.returns-in_err-do_line-clause-back
returns-in_err-do_line-clause-back g c =
    let p = err_from_is_err_and c.from_residual-in_err-do_line.result c.from_residual-in_err-do_line.ensures.1 in
    rw (p.1, p.2)
    (back_later g.B.Banks.meter (banks_of_stage c.args.stage.now) (banks_of_stage c.loop-reply.stage) (banks_of_stage c.do_line.new.stage) (Some c.in_err-do_line.field-0.0) c.loop-reply.invariant.well
    c.in_err-do_line.ensures.back)

pub returns-in_err-do_line-clause-counts : goal.returns-in_err-do_line-clause-counts
returns-in_err-do_line-clause-counts g c = record {
  read =
      let p = err_from_is_err_and c.from_residual-in_err-do_line.result c.from_residual-in_err-do_line.ensures.1 in
      rw (p.1, p.2)
      (reads_same (g.S.Source.faults c.args.source.now) (g.S.Source.faults c.next_line.new.source) (Some c.in_err-do_line.field-0.0) (line_not_reading c.in_err-do_line.field-0.0 c.in_err-do_line.ensures.other)
      (read_well _ _ _ c.in_ok-line.ensures.cause ∙ c.loop-reply.invariant.reads));
  write =
      let p = err_from_is_err_and c.from_residual-in_err-do_line.result c.from_residual-in_err-do_line.ensures.1 in
      rw (p.1, p.2)
      (writes_same (g.K.Sink.faults c.args.sink.now) (g.K.Sink.faults c.loop-reply.sink) (Some c.in_err-do_line.field-0.0) (line_not_writing c.in_err-do_line.field-0.0 c.in_err-do_line.ensures.other)
      c.loop-reply.invariant.writes);
}

-- ---- its reply could not be written

pub returns-in_err-write_all-clause-begun : goal.returns-in_err-write_all-clause-begun
returns-in_err-write_all-clause-begun g c =
    let p = err_from_is_err_and c.from_residual-in_err-write_all.result c.from_residual-in_err-write_all.ensures.1 in
    rw (p.1, p.2) (writing_replays c.in_err-write_all.field-0.0)

pub returns-in_err-write_all-clause-ends : goal.returns-in_err-write_all-clause-ends
returns-in_err-write_all-clause-ends g c = λ bytes told.
    let p = err_from_is_err_and c.from_residual-in_err-write_all.result c.from_residual-in_err-write_all.ensures.1 in
    rw (p.1, p.2)
    (ends_writing (says_by g.B.Banks.log c.do_line.new.stage) c.in_err-write_all.field-0.0 bytes (g.S.Source.left c.next_line.new.source) (g.K.Sink.held c.args.sink.now)
    (g.K.Sink.held c.write_all.new.sink)
    (front_of_reply g.B.Banks.log (g.S.Source.left c.args.source.now) (g.S.Source.left c.loop-reply.source) (g.S.Source.left c.next_line.new.source)
    (g.K.Sink.held c.args.sink.now) (g.K.Sink.held c.loop-reply.sink) (g.K.Sink.held c.write_all.new.sink) c.loop-reply.lines.taken c.next_line.new.lines.taken
    c.loop-reply.stage c.do_line.new.stage c.loop-reply.done c.as_slice.result.now c.do_line.new.reply.items c.loop-reply.invariant.way
    (takes_some (g.S.Source.left c.loop-reply.source) (g.S.Source.left c.next_line.new.source) c.in_ok-line.field-0 c.loop-reply.lines.taken c.next_line.new.lines.taken c.in-Some.line c.as_slice.result.now
    c.in-Some.is c.as_slice.ensures c.in_ok-line.ensures.line)
    c.in_ok-do_line.ensures.ok c.in_err-write_all.ensures.err.0 (rw (sym c.as_slice-in-Some.ensures.value) c.in_err-write_all.ensures.err.1) bytes told))

pub returns-in_err-write_all-clause-back : goal.returns-in_err-write_all-clause-back
returns-in_err-write_all-clause-back g c =
    let p = err_from_is_err_and c.from_residual-in_err-write_all.result c.from_residual-in_err-write_all.ensures.1 in
    rw (p.1, p.2)
    (back_later g.B.Banks.meter (banks_of_stage c.args.stage.now) (banks_of_stage c.loop-reply.stage) (banks_of_stage c.do_line.new.stage) (Some (run_fault_of_write c.in_err-write_all.field-0.0)) c.loop-reply.invariant.well
    (back_well g.B.Banks.meter (banks_of_stage c.loop-reply.stage) (banks_of_stage c.do_line.new.stage) (run_fault_of_write c.in_err-write_all.field-0.0)
    (not_of_writing c.in_err-write_all.field-0.0) c.in_ok-do_line.ensures.back))

pub returns-in_err-write_all-clause-counts : goal.returns-in_err-write_all-clause-counts
returns-in_err-write_all-clause-counts g c = record {
  read =
      let p = err_from_is_err_and c.from_residual-in_err-write_all.result c.from_residual-in_err-write_all.ensures.1 in
      rw (p.1, p.2)
      (reads_same (g.S.Source.faults c.args.source.now) (g.S.Source.faults c.next_line.new.source) (Some (run_fault_of_write c.in_err-write_all.field-0.0))
      (writing_not_reading c.in_err-write_all.field-0.0) (read_well _ _ _ c.in_ok-line.ensures.cause ∙ c.loop-reply.invariant.reads));
  write =
      let p = err_from_is_err_and c.from_residual-in_err-write_all.result c.from_residual-in_err-write_all.ensures.1 in
      rw (p.1, p.2)
      (writes_counted (g.K.Sink.faults c.args.sink.now) (g.K.Sink.faults c.loop-reply.sink) (g.K.Sink.faults c.write_all.new.sink) c.in_err-write_all.field-0.0
      c.in_err-write_all.ensures.cause c.loop-reply.invariant.writes);
}

-- ---- there were no more lines

pub returns-clause-begun : goal.returns-clause-begun
returns-clause-begun g c = end_replays c.end_lines.result c.end_lines.ensures.other

pub returns-clause-ends : goal.returns-clause-ends
returns-clause-ends g c = λ bytes told.
    ends_lines g.B.Banks.log (g.S.Source.left c.args.source.now) (g.S.Source.left c.loop-reply.source) (g.K.Sink.held c.args.sink.now) (g.K.Sink.held c.loop-reply.sink)
    c.loop-reply.lines.taken c.loop-reply.stage c.end_lines.new.stage c.loop-reply.done c.loop-reply.invariant.way bytes (g.S.Source.left c.next_line.new.source) c.end_lines.result
    (none_there g.B.Banks.log (g.S.Source.left c.args.source.now) (g.S.Source.left c.loop-reply.source) (g.S.Source.left c.next_line.new.source)
    (g.K.Sink.held c.args.sink.now) (g.K.Sink.held c.loop-reply.sink) c.loop-reply.lines.taken c.loop-reply.stage c.loop-reply.done c.loop-reply.invariant.way
    (end_none (g.S.Source.left c.args.source.now) (g.S.Source.left c.loop-reply.source) (g.S.Source.left c.next_line.new.source) c.in_ok-line.field-0 c.loop-reply.lines.taken c.next_line.new.lines.taken c.loop-reply.done
    c.loop-reply.lines.ended c.loop-reply.invariant.ends c.in_default.is c.in_ok-line.ensures.line c.in_ok-line.ensures.at_end) bytes told)
    c.end_lines.ensures.other
    (on_ok c.end_lines.result (λ (ends : (stage : Stage) → StageStands g.B.Banks.log c.loop-reply.stage stage → EndsWell g.B.Banks.log stage c.end_lines.new.stage).
    finishes g.B.Banks.log (g.S.Source.left c.args.source.now) (g.S.Source.left c.loop-reply.source) (g.S.Source.left c.next_line.new.source)
    (g.K.Sink.held c.args.sink.now) (g.K.Sink.held c.loop-reply.sink) c.loop-reply.lines.taken c.loop-reply.stage c.end_lines.new.stage c.loop-reply.done
    c.loop-reply.invariant.way
    (end_none (g.S.Source.left c.args.source.now) (g.S.Source.left c.loop-reply.source) (g.S.Source.left c.next_line.new.source) c.in_ok-line.field-0 c.loop-reply.lines.taken c.next_line.new.lines.taken c.loop-reply.done
    c.loop-reply.lines.ended c.loop-reply.invariant.ends c.in_default.is c.in_ok-line.ensures.line c.in_ok-line.ensures.at_end) ends bytes told)
    c.end_lines.ensures.ok)
    (λ at is.
    let b = c.end_lines.ensures.bad at is in
    ends_waiting_at g.B.Banks.log (g.S.Source.left c.args.source.now) (g.S.Source.left c.loop-reply.source) (g.S.Source.left c.next_line.new.source)
    (g.K.Sink.held c.args.sink.now) (g.K.Sink.held c.loop-reply.sink) c.loop-reply.lines.taken c.loop-reply.stage c.loop-reply.done at
    c.loop-reply.invariant.way
    (end_none (g.S.Source.left c.args.source.now) (g.S.Source.left c.loop-reply.source) (g.S.Source.left c.next_line.new.source) c.in_ok-line.field-0 c.loop-reply.lines.taken c.next_line.new.lines.taken c.loop-reply.done
    c.loop-reply.lines.ended c.loop-reply.invariant.ends c.in_default.is c.in_ok-line.ensures.line c.in_ok-line.ensures.at_end)
    b.0 b.1 c.end_lines.new.stage (c.end_lines.ensures.kept at is) bytes told)
    c.end_lines.ensures.left
    (just_none g.B.Banks.log (g.S.Source.left c.args.source.now) (g.S.Source.left c.loop-reply.source) (g.S.Source.left c.next_line.new.source) (g.K.Sink.held c.args.sink.now) (g.K.Sink.held c.loop-reply.sink) c.loop-reply.lines.taken c.loop-reply.stage c.loop-reply.done c.loop-reply.invariant.way
    (end_none (g.S.Source.left c.args.source.now) (g.S.Source.left c.loop-reply.source) (g.S.Source.left c.next_line.new.source) c.in_ok-line.field-0 c.loop-reply.lines.taken c.next_line.new.lines.taken c.loop-reply.done
    c.loop-reply.lines.ended c.loop-reply.invariant.ends c.in_default.is c.in_ok-line.ensures.line c.in_ok-line.ensures.at_end) bytes told)

pub returns-clause-back : goal.returns-clause-back
returns-clause-back g c =
    back_later g.B.Banks.meter (banks_of_stage c.args.stage.now) (banks_of_stage c.loop-reply.stage) (banks_of_stage c.end_lines.new.stage) (result_err c.end_lines.result) c.loop-reply.invariant.well
    c.end_lines.ensures.back

pub returns-clause-counts : goal.returns-clause-counts
returns-clause-counts g c = record {
  read =
      reads_same (g.S.Source.faults c.args.source.now) (g.S.Source.faults c.next_line.new.source) (result_err c.end_lines.result) (end_not_reading c.end_lines.result c.end_lines.ensures.other)
      (read_well _ _ _ c.in_ok-line.ensures.cause ∙ c.loop-reply.invariant.reads);
  write =
      writes_same (g.K.Sink.faults c.args.sink.now) (g.K.Sink.faults c.loop-reply.sink) (result_err c.end_lines.result) (end_not_writing c.end_lines.result c.end_lines.ensures.other)
      c.loop-reply.invariant.writes;
}
