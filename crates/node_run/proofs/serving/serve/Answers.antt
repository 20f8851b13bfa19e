use Rattle.std.proofs.Common.{arith, map, refl}
use Rattle.std.specs.String.{string_bytes}
use Rattle.node_run.specs.Words.{AreRefused, never_both}
use Rattle.node_run.specs.NodeBegun.{found_on}
use Rattle.node_run.proofs.ServeLaws.{words_usage, tells_turns, tells_first, short_ends}
use Rattle.node_run.specs.ServiceStatuses.{stop_of_words}
use Rattle.node_run.proofs.TakenLaws.{keeps_of_words, keeps_other, served_other, not_by_words, not_at_first}
use Rattle.node_run.proofs.serving.serve.Goals as goal

pub returns-in-Err-clause-usage : goal.returns-in-Err-clause-usage
returns-in-Err-clause-usage g c =
    rw (c.end_run.ensures.fault, c.words_stop.ensures) (words_usage c.in-Err.fault (AreRefused (map (λ w. string_bytes w) c.args.words.now.items)) c.in-Err.ensures.usage)

pub returns-in-Ok-begin-clause-ends : goal.returns-in-Ok-begin-clause-ends
returns-in-Ok-begin-clause-ends g c = λ log told.
    c.take_turns.ensures.ends (map (λ w. string_bytes w) c.args.words.now.items) c.in-Ok.words (found_on log) (g.B.Banks.log c.args.banks) log told c.in-Ok.ensures.ok refl
    (c.in-Ok-begin.ensures.begun log told)

pub returns-in-Err-begin-clause-ends : goal.returns-in-Err-begin-clause-ends
returns-in-Err-begin-clause-ends g c = λ log told.
    rw (c.end_run-in-Err-begin.ensures.fault, c.end_run-in-Err-begin.ensures.turns, c.end_run-in-Err-begin.ensures.banks)
    (short_ends c.in-Err-begin.stop c.in-Ok.words (found_on log) (map (λ w. string_bytes w) c.args.words.now.items) (g.W.Wire.log c.args.wire.now) (g.B.Banks.log c.args.banks)
    (g.B.Banks.log c.in-Err-begin.banks) c.in-Ok.ensures.ok (c.in-Err-begin.ensures.short log told))

pub returns-in-Ok-begin-clause-usage : goal.returns-in-Ok-begin-clause-usage
returns-in-Ok-begin-clause-usage g c =
    let texts = map (λ w. string_bytes w) c.args.words.now.items in
    tells_turns c.take_turns.result.fault (AreRefused texts) c.take_turns.ensures.kind (never_both texts c.in-Ok.words c.in-Ok.ensures.ok)

pub returns-in-Err-begin-clause-usage : goal.returns-in-Err-begin-clause-usage
returns-in-Err-begin-clause-usage g c =
    let texts = map (λ w. string_bytes w) c.args.words.now.items in
    rw c.end_run-in-Err-begin.ensures.fault (tells_first c.in-Err-begin.stop (AreRefused texts) c.in-Err-begin.ensures.kind (never_both texts c.in-Ok.words c.in-Ok.ensures.ok))

pub returns-in-Err-clause-bounded : goal.returns-in-Err-clause-bounded
returns-in-Err-clause-bounded g c = λ node are.
    rw (c.end_run.ensures.fault, c.words_stop.ensures, c.end_run.ensures.turns)
    (keeps_other (stop_of_words c.in-Err.fault) 0 node.turns (not_by_words c.in-Err.fault) (omega arith))

pub returns-in-Err-clause-served : goal.returns-in-Err-clause-served
returns-in-Err-clause-served g c =
    rw (c.end_run.ensures.fault, c.words_stop.ensures, c.end_run.ensures.turns)
    (served_other (stop_of_words c.in-Err.fault) 0 (g.W.Wire.log c.args.wire.now) (g.W.Wire.log c.args.wire.now) (not_by_words c.in-Err.fault))

pub returns-in-Ok-begin-clause-bounded : goal.returns-in-Ok-begin-clause-bounded
returns-in-Ok-begin-clause-bounded g c = λ node are.
    keeps_of_words c.take_turns.result.fault c.take_turns.result.turns (map (λ w. string_bytes w) c.args.words.now.items) c.in-Ok.words node c.in-Ok.ensures.ok are
    c.take_turns.ensures.bounded

pub returns-in-Err-begin-clause-bounded : goal.returns-in-Err-begin-clause-bounded
returns-in-Err-begin-clause-bounded g c = λ node are.
    rw (c.end_run-in-Err-begin.ensures.fault, c.end_run-in-Err-begin.ensures.turns)
    (keeps_other c.in-Err-begin.stop 0 node.turns (not_at_first c.in-Err-begin.stop c.in-Err-begin.ensures.kind) (omega arith))

pub returns-in-Err-begin-clause-served : goal.returns-in-Err-begin-clause-served
returns-in-Err-begin-clause-served g c =
    rw (c.end_run-in-Err-begin.ensures.fault, c.end_run-in-Err-begin.ensures.turns)
    (served_other c.in-Err-begin.stop 0 (g.W.Wire.log c.args.wire.now) (g.W.Wire.log c.args.wire.now) (not_at_first c.in-Err-begin.stop c.in-Err-begin.ensures.kind))
