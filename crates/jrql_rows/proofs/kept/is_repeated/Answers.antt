use Rattle.std.proofs.Common.{◌∙◌, sym}
use Rattle.jrql_rows.proofs.Keeping.{same_numbers}
use Rattle.jrql_rows.proofs.kept.is_repeated.Goals as goal

pub returns-clause-same : goal.returns-clause-same
returns-clause-same c = λ h.
    sym c.numbers_in-last.ensures ∙ same_numbers c.numbers_in-last.result.now c.numbers_in.result.now (sym c.eq.ensures ∙ h) ∙ c.numbers_in.ensures
