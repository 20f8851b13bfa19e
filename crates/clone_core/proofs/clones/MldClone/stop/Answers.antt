use Rattle.std.proofs.Common.{◌∙◌, sym, ap, subst}
use Rattle.clone_core.specs.Banked.{BankedClone, KeepsClone}
use Rattle.clone_core.proofs.clones.MldClone.stop.Goals as goal

pub returns-clause-kept : goal.returns-clause-kept
returns-clause-kept g c = λ is_open log told.
    let journal = c.self.inside.journal in
    let same = ap g.B.Banks.log c.into_banks.ensures in
    subst (λ (clone : BankedClone _). KeepsClone clone.local clone.generation log) c.self.view_is
    (journal.side, c.self.invariant.1.keeps (ap (λ (v : BankedClone _). v.closed) c.self.view_is ∙ is_open) log (sym same ∙ told))
