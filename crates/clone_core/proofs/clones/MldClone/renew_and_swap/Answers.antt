use Rattle.std.proofs.Common.{◌≡◌, ◌∙◌, ◌<◌, [], List, length, inl, refl, sym, ap, subst, OnOk, IfErr, IsOk, IsErrOf}
use Rattle.std.proofs.lemmas.Result.{err_from_is_err_and}
use Rattle.mld_model.specs.Local.{LocallyTruncates}
use Rattle.clone_parts.specs.KeptSteps.{KeptStep}
use Rattle.clone_parts.specs.declared.faults.KeepFault.TheVariants as keep
use Rattle.clone_core.specs.Banked.{BankedClone}
use Rattle.clone_core.specs.CallParts.{StopsClone}
use Rattle.clone_core.specs.CloneClosing.{IsSwappedOpen, keep_stop}
use Rattle.clone_core.specs.DurableCalls.{Changes, KeepSteps}
use Rattle.clone_core.specs.Due.{IsDueSwap}
use Rattle.clone_core.proofs.DurableLaws.{changes_none}
use Rattle.clone_core.proofs.clones.MldClone.renew_and_swap.Goals as goal

pub swap_truncated-requires-clause-opened : goal.swap_truncated-requires-clause-opened
swap_truncated-requires-clause-opened g c = ap (λ (v : BankedClone _). v.closed) c.in_ok-renew_pairs.ensures ∙ c.requires.opened

pub swap_truncated-requires-clause-due : goal.swap_truncated-requires-clause-due
swap_truncated-requires-clause-due g c =
    subst (λ (v : BankedClone _). IsDueSwap (c.args.keep < length v.local.entries) v.generation) (sym c.renew_pairs.ensures) c.requires.due

pub returns-in_err-renew_pairs-clause-durable : goal.returns-in_err-renew_pairs-clause-durable
returns-in_err-renew_pairs-clause-durable g c =
    let p = err_from_is_err_and c.from_residual.result c.from_residual.ensures.1 in
    rw (p.1, p.2) ([], inl refl, changes_none g.B.Banks.log g.B.Banks.meter c.args.self.now c.renew_pairs.new.self.banks (ap (λ (v : BankedClone _). v.banks) c.renew_pairs.ensures) (λ f. absurd cc))

pub returns-clause-ok : goal.returns-clause-ok
returns-clause-ok g c =
    subst (λ (v : BankedClone _). OnOk c.swap_truncated.result (LocallyTruncates v.local c.args.keep c.swap_truncated.new.self.local)) c.renew_pairs.ensures c.swap_truncated.ensures.ok

pub returns-clause-opened : goal.returns-clause-opened
returns-clause-opened g c =
    subst (λ (v : BankedClone _). OnOk c.swap_truncated.result (IsSwappedOpen v c.swap_truncated.new.self)) c.renew_pairs.ensures c.swap_truncated.ensures.opened

pub returns-clause-left : goal.returns-clause-left
returns-clause-left g c =
    subst (λ (v : BankedClone _). IfErr c.swap_truncated.result (λ fault.
    StopsClone g.B.Banks.log g.B.Banks.meter (IsDueSwap (c.args.keep < length v.local.entries) v.generation) ⊥ v c.swap_truncated.new.self (keep_stop fault))) c.renew_pairs.ensures c.swap_truncated.ensures.left

pub returns-clause-durable : goal.returns-clause-durable
returns-clause-durable g c =
    subst (λ (v : BankedClone _). (steps : List KeptStep)
    × KeepSteps (c.args.keep < length v.local.entries) (LocallyTruncates v.local c.args.keep) c.swap_truncated.new.self.local c.swap_truncated.result steps
    × Changes g.B.Banks.log g.B.Banks.meter steps v c.swap_truncated.new.self.banks (IsOk c.swap_truncated.result) (IsErrOf c.swap_truncated.result keep.Device)) c.renew_pairs.ensures c.swap_truncated.ensures.durable
