use Rattle.std.proofs.Common.{◌≡◌, ap, sym, ◌∙◌, true, false}
use Rattle.std.proofs.lemmas.Result.{err_from_is_err_and}
use Rattle.tree_clock.specs.Path.{path_cmp}
use Rattle.op_codec.specs.Clocks.{last_path}
use Rattle.op_codec.specs.StoredLists.{is_above_one}
use Rattle.op_codec.proofs.ClockReading.{ticks_taken, ticks_unfit, ticks_refused, last_path_push}
use Rattle.op_codec.proofs.clocks.read_next.Goals as goal

pub returns-in_err-dot-clause-agrees : goal.returns-in_err-dot-clause-agrees
returns-in_err-dot-clause-agrees c =
    let p = err_from_is_err_and c.from_residual.result c.from_residual.ensures.1 in
    rw (p.1, p.2) (ticks_refused c.args.input.now c.args.clock.now.ticks c.args.place c.in_err-dot.field-0.0 c.in_err-dot.ensures.agrees)

pub returns-then-not-is_path_above-clause-agrees : goal.returns-then-not-is_path_above-clause-agrees
returns-then-not-is_path_above-clause-agrees c =
    let h : is_above_one path_cmp (last_path c.args.clock.now.ticks) c.in_ok-dot.dot.path ≡ false =
    ap (λ last. is_above_one path_cmp last c.in_ok-dot.dot.path) (sym c.requires.last) ∙ sym c.is_path_above.ensures ∙ c.if-not-is_path_above.true in
    ticks_unfit c.args.input.now c.args.clock.now.ticks c.args.place c.in_ok-dot.dot c.in_ok-dot.next c.in_ok-dot.ensures.agrees h

pub returns-clause-agrees : goal.returns-clause-agrees
returns-clause-agrees c =
    let h : is_above_one path_cmp (last_path c.args.clock.now.ticks) c.in_ok-dot.dot.path ≡ true =
    ap (λ last. is_above_one path_cmp last c.in_ok-dot.dot.path) (sym c.requires.last) ∙ sym c.is_path_above.ensures ∙ c.if-not-is_path_above.false in
    rw c.in_ok-add_last.ensures (ticks_taken c.args.input.now c.args.clock.now.ticks c.args.place c.in_ok-dot.dot c.in_ok-dot.next c.in_ok-dot.ensures.agrees h)

pub returns-clause-last : goal.returns-clause-last
returns-clause-last c =
    rw c.in_ok-add_last.ensures (last_path_push c.args.clock.now.ticks c.in_ok-dot.dot.path c.in_ok-dot.dot.tick)
