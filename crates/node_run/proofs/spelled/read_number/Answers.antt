use Rattle.std.proofs.Common.{rules, ◌≡◌, ◌<◌, ◌∙◌, ℕ, List, get_or, length, ap, arith}
use Rattle.node_run.proofs.TurnNumerals.{not_empty, not_low, read_so, unread}
use Rattle.node_run.proofs.spelled.read_number.Goals as goal

pub returns-then-is_empty : goal.returns-then-is_empty
returns-then-is_empty c = let empty : ¬ (0 < length c.args.text.now) = search rules in not_empty c.args.text.now empty

pub returns-then-first-eq43 : goal.returns-then-first-eq43
returns-then-first-eq43 c =
    let same : get_or c.as_bytes.result.now 0 0 ≡ get_or c.args.text.now 0 0 = ap (λ (t : List ℕ). get_or t 0 0) c.as_bytes.ensures.value in
    not_low c.args.text.now (omega (arith, same, c.then-first-eq43.either))

pub returns-in-Ok : goal.returns-in-Ok
returns-in-Ok c =
    let same : get_or c.as_bytes.result.now 0 0 ≡ get_or c.args.text.now 0 0 = ap (λ (t : List ℕ). get_or t 0 0) c.as_bytes.ensures.value in
    read_so c.args.text.now c.parse.result c.in-Ok.turns (λ e. c.if-first-eq43.false (same ∙ e)) (λ e. c.if-first-eq48.false (same ∙ e)) c.in-Ok.is
    c.parse.ensures.value.0

pub returns-in-Err : goal.returns-in-Err
returns-in-Err c = unread c.args.text.now c.parse.result c.in-Err.field-0 c.in-Err.is c.parse.ensures.value.0
