use Rattle.std.proofs.Common.{◌+◌, ◌-◌, ◌*◌, ◌<◌, sym, ap, ◌∙◌}
use Rattle.rdf_terms.proofs.EscapeLemmas.{small_code, on_true}
use Rattle.rdf_terms.proofs.escapes.may_begin.Goals as goal

pub returns-clause-small : goal.returns-clause-small
returns-clause-small c =
    let low = c.from.result * c.width-width.result in
    on_true c.may_hold.result (c.args.code < 1114112)
    (λ h. small_code c.args.spot c.args.code c.width-width.result low (low + (c.width-width.result - 1)) (ap (λ n. n * c.width-width.result) c.from.ensures) c.width-width.ensures.some (sym c.may_hold.ensures ∙ h))
