use Rattle.std.proofs.Common.{◌∙◌, ap, sym, subst}
use Rattle.world_commands.specs.WorldEnds.{KeepsState}
use Rattle.world_commands.proofs.stopping.banks_of_state.Goals as goal

pub returns-in-Live-clause-kept : goal.returns-in-Live-clause-kept
returns-in-Live-clause-kept g c =
    subst (λ state. KeepsState g.B.Banks.log state) (sym c.in-Live.is)
    (λ opened now told. c.stop-in-Live.ensures.kept opened now (ap g.B.Banks.log c.stop-in-Live.ensures.banks ∙ told))
