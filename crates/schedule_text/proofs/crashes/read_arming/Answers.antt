use Rattle.schedule_text.proofs.LinesCrashes.{no_arming_split, no_arming_call, no_arming_word, no_arming_leave}
use Rattle.schedule_text.proofs.crashes.read_arming.Goals as goal

pub returns-in_err-call : goal.returns-in_err-call
returns-in_err-call c = rw c.from_residual.ensures (no_arming_split c.args.rest.now c.in_err-call.ensures)

pub returns-in_err-call-2 : goal.returns-in_err-call-2
returns-in_err-call-2 c =
    rw c.from_residual-in_err-call-2.ensures
    (no_arming_call c.args.rest.now c.in_ok-call.call.now c.in_ok-call.behind.now c.in_ok-call.ensures.0 c.in_ok-call.ensures.1 c.in_err-call-2.ensures)

pub returns-in_err-word : goal.returns-in_err-word
returns-in_err-word c =
    rw c.from_residual-in_err-word.ensures
    (no_arming_word c.args.rest.now c.in_ok-call.call.now c.in_ok-call.behind.now c.in_ok-call.ensures.0 c.in_ok-call.ensures.1 c.in_err-word.ensures)

pub returns-in_err-leave : goal.returns-in_err-leave
returns-in_err-leave c =
    rw c.from_residual-in_err-leave.ensures
    (no_arming_leave c.args.rest.now c.in_ok-call.call.now c.in_ok-word.word.now c.in_ok-word.text.now
    (record { behind = c.in_ok-call.behind.now; first = c.in_ok-call.ensures.0; spaceless = c.in_ok-call.ensures.1; second = c.in_ok-word.ensures.0; wordless = c.in_ok-word.ensures.1 })
    c.in_err-leave.ensures)
