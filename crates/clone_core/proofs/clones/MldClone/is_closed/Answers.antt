use Rattle.std.proofs.Common.{◌≡◌, ◌∙◌, Some, ap, subst}
use Rattle.mld_io.specs.Disk.{Log}
use Rattle.clone_core.specs.Banked.{BankedClone, KeepsClone}
use Rattle.clone_core.proofs.clones.MldClone.is_closed.Goals as goal

pub returns-clause-kept : goal.returns-clause-kept
returns-clause-kept g c = λ is_open log told.
    let journal = c.self.inside.journal in
    subst (λ (clone : BankedClone _). (l : Log) → g.B.Banks.log clone.banks ≡ Some l → KeepsClone clone.local clone.generation l) c.self.view_is
    (λ l is. (journal.side, c.self.invariant.1.keeps (ap (λ (v : BankedClone _). v.closed) c.self.view_is ∙ is_open) l is)) log told
