use Rattle.std.proofs.Common.{rules, arith, refl}
use Rattle.std.proofs.lemmas.Option.{slice_get_read}
use Rattle.std.proofs.lemmas.Result.{err_from_is_err_and}
use Rattle.mld_replay.proofs.BlankLemmas.{looked_first, looked_meters, looked_logs, looked_more, looked_stops, looked_faults, looked_all}
use Rattle.mld_replay.proofs.blanks.find_filled.Goals as goal

pub loop-number-init : goal.loop-number-init
loop-number-init g c = record {
  count = refl;
  within = omega arith;
  looked = looked_first g.B.Banks.log g.B.Banks.meter c.args.banks.now.items;
}

pub overflow_cast-number : goal.overflow_cast-number
overflow_cast-number g c = search (rules, arith)

pub returns-in_err-look_at-clause-meters : goal.returns-in_err-look_at-clause-meters
returns-in_err-look_at-clause-meters g c =
    looked_meters g.B.Banks.log g.B.Banks.meter c.args.banks.now.items c.loop-number.banks.items c.loop-number.number c.index_mut.result.now c.look_at.new.banks c.loop-number.invariant.looked
    (slice_get_read c.loop-number.banks.items c.len.result c.loop-number.number c.index_mut.result.now (omega (arith, c.len.ensures)) c.loop-number-test.true c.index_mut.ensures.value)
    c.look_at.ensures.meter

pub returns-in_err-look_at-clause-logs : goal.returns-in_err-look_at-clause-logs
returns-in_err-look_at-clause-logs g c =
    looked_logs g.B.Banks.log g.B.Banks.meter c.args.banks.now.items c.loop-number.banks.items c.loop-number.number c.index_mut.result.now c.look_at.new.banks c.loop-number.invariant.looked
    (slice_get_read c.loop-number.banks.items c.len.result c.loop-number.number c.index_mut.result.now (omega (arith, c.len.ensures)) c.loop-number-test.true c.index_mut.ensures.value)
    c.look_at.ensures.log

pub returns-in_err-look_at-clause-back : goal.returns-in_err-look_at-clause-back
returns-in_err-look_at-clause-back g c =
    let p = err_from_is_err_and c.from_residual.result c.from_residual.ensures.1 in
    rw (p.1, p.2)
    (looked_faults g.B.Banks.log g.B.Banks.meter c.args.banks.now.items c.loop-number.banks.items c.loop-number.number c.index_mut.result.now c.look_at.new.banks c.in_err-look_at.field-0.0
    c.loop-number.invariant.looked
    (slice_get_read c.loop-number.banks.items c.len.result c.loop-number.number c.index_mut.result.now (omega (arith, c.len.ensures)) c.loop-number-test.true c.index_mut.ensures.value)
    c.look_at.ensures.meter c.in_err-look_at.ensures.err)

pub returns-in_err-look_at-clause-err : goal.returns-in_err-look_at-clause-err
returns-in_err-look_at-clause-err g c =
    let p = err_from_is_err_and c.from_residual.result c.from_residual.ensures.1 in
    rw (p.1, p.2)
    (looked_stops g.B.Banks.log g.B.Banks.meter c.args.banks.now.items c.loop-number.banks.items c.loop-number.number c.index_mut.result.now c.look_at.new.banks c.in_err-look_at.field-0.0
    c.loop-number.invariant.looked
    (slice_get_read c.loop-number.banks.items c.len.result c.loop-number.number c.index_mut.result.now (omega (arith, c.len.ensures)) c.loop-number-test.true c.index_mut.ensures.value)
    c.in_err-look_at.ensures.err)

pub loop-number-preserved : goal.loop-number-preserved
loop-number-preserved g c = record {
  count = c.loop-number.invariant.count;
  within = omega (arith, c.loop-number-test.true, c.len.ensures);
  looked = looked_more g.B.Banks.log g.B.Banks.meter c.args.banks.now.items c.loop-number.banks.items c.loop-number.number c.index_mut.result.now c.look_at.new.banks c.loop-number.invariant.looked
      (slice_get_read c.loop-number.banks.items c.len.result c.loop-number.number c.index_mut.result.now (omega (arith, c.len.ensures)) c.loop-number-test.true c.index_mut.ensures.value)
      c.look_at.ensures.log c.look_at.ensures.meter c.in_ok-look_at.ensures.quiet c.in_ok-look_at.ensures.empty;
}

pub returns-clause-logs : goal.returns-clause-logs
returns-clause-logs g c = c.loop-number.invariant.looked.logs

pub returns-clause-back : goal.returns-clause-back
returns-clause-back g c = record { meters = c.loop-number.invariant.looked.meters; quiet = c.loop-number.invariant.looked.quiet }

pub returns-clause-ok : goal.returns-clause-ok
returns-clause-ok g c =
    looked_all g.B.Banks.log g.B.Banks.meter c.args.banks.now.items c.loop-number.banks.items c.loop-number.number c.loop-number.invariant.looked (omega (arith, c.loop-number-test.false, c.len.ensures))
