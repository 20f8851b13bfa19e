use Rattle.std.proofs.Common.{◌≡◌, ◌∙◌, ◌↔◌, IsTrue, None, Some, sym, subst}
use Rattle.mld_ops.specs.PairLists.{pair_lent}
use Rattle.mld_ops.specs.declared.tagged.Tagged.{Tagged}
use Rattle.single_value.specs.OtherValues.{IsSparedOther}
use Rattle.single_value.proofs.Standing.{none_there, some_there}
use Rattle.single_value.proofs.values.is_spared_at.Goals as goal

pub returns-in-Some : goal.returns-in-Some
returns-in-Some c = λ pair e.
    subst (λ (p : Tagged). IsTrue c.is_spared_other.result ↔ IsSparedOther c.args.effect.now c.args.triple.now p)
    (some_there (pair_lent c.in-Some.pair) pair (c.in-Some.ensures ∙ e)) c.is_spared_other.ensures

pub returns-in-None : goal.returns-in-None
returns-in-None c = λ pair e. absurd (none_there pair (c.in-None.ensures ∙ e))
