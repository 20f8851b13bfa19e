use Rattle.std.proofs.Common.{subst}
use Rattle.std.proofs.lemmas.Result.{err_from_is_err_and}
use Rattle.mld_model.specs.Local.{LocallyHolds}
use Rattle.clone_core.specs.Banked.{BankedClone}
use Rattle.clone_core.specs.CallParts.{IsFullAt}
use Rattle.clone_core.specs.View.{local_of}
use Rattle.clone_core.proofs.Taking.{full_at, holds_as}
use Rattle.clone_core.proofs.clones.MldClone.hold.Goals as goal

pub returns-in_err-add-clause-full : goal.returns-in_err-add-clause-full
returns-in_err-add-clause-full g c =
    let fault = c.in_err-add.field-0.0 in
    let full = full_at (local_of c.self.inside) c.args.entry.now c.add.result fault c.in_err-add.was c.add.ensures.full in
    let p = err_from_is_err_and c.from_residual.result c.from_residual.ensures.1 in
    rw (p.1, p.2) (subst (λ (clone : BankedClone _). IsFullAt clone.local c.args.entry.now fault) c.self.view_is full)

pub returns-clause-ok : goal.returns-clause-ok
returns-clause-ok g c =
    let old = local_of c.self.inside in
    subst (λ (clone : BankedClone _). LocallyHolds clone.local c.args.entry.now (record old { held = c.add.new.self })) c.self.view_is
    (holds_as old c.args.entry.now c.add.new.self c.add.result c.in_ok-add.field-0 c.in_ok-add.was c.add.ensures.added c.add.ensures.already c.add.ensures.unchanged)
