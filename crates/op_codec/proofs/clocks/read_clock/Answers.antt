use Rattle.std.proofs.Common.{drop, arith}
use Rattle.std.proofs.lemmas.Result.{err_from_is_err_and}
use Rattle.tree_clock.specs.Clock.{entry_cmp}
use Rattle.op_codec.specs.Clocks.{read_ticks, clock_bytes, read_clock}
use Rattle.op_codec.specs.StoredLists.{is_above, read_list}
use Rattle.op_codec.specs.Reading.{read_u32}
use Rattle.op_codec.proofs.ListLaws.{under_way_missed, under_way_done, refused_later}
use Rattle.op_codec.specs.Stored.{IsStoredClock}
use Rattle.op_codec.proofs.PairTrips.{clock_one}
use Rattle.op_codec.proofs.ReadWritten.{written_if_read}
use Rattle.op_codec.proofs.clocks.read_clock.Goals as goal

pub returns-in_err-count-clause-agrees : goal.returns-in_err-count-clause-agrees
unfolding read_clock
returns-in_err-count-clause-agrees c =
    let p = err_from_is_err_and c.from_residual.result c.from_residual.ensures.1 in
    rw (p.1, p.2) (refused_later (read_u32 c.args.at (drop c.args.at c.args.input.now)) _ c.in_err-count.field-0.0 c.in_err-count.ensures.agrees)

pub returns-in_err-place-clause-agrees : goal.returns-in_err-place-clause-agrees
unfolding read_clock
returns-in_err-place-clause-agrees c =
    let p = err_from_is_err_and c.from_residual-in_err-place.result c.from_residual-in_err-place.ensures.1 in
    rw (p.1, p.2) (under_way_missed read_ticks (is_above entry_cmp) c.args.input.now (read_list read_ticks (is_above entry_cmp) c.args.at (drop c.args.at c.args.input.now))
    c.in_ok-count.count c.loop-done._done c.loop-done.clock.ticks c.loop-done.place c.in_err-place.field-0.0 c.loop-done.invariant.read c.loop-done-test.true c.in_err-place.ensures.agrees)

pub returns-clause-agrees : goal.returns-clause-agrees
unfolding read_clock
returns-clause-agrees c =
    under_way_done read_ticks (is_above entry_cmp) c.args.input.now (read_list read_ticks (is_above entry_cmp) c.args.at (drop c.args.at c.args.input.now))
    c.in_ok-count.count c.loop-done._done c.loop-done.clock.ticks c.loop-done.place c.loop-done.invariant.read c.loop-done-test.false

pub returns-clause-written : goal.returns-clause-written
returns-clause-written c =
    written_if_read IsStoredClock clock_bytes read_clock clock_one c.args.input.now c.args.at (λ k. omega (arith, c.type_inv.input k)) c.loop-done.clock.ticks c.loop-done.place (returns-clause-agrees c)
