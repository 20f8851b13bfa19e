use Rattle.std.proofs.Common.{ap}
use Rattle.std.proofs.lemmas.Result.{err_from_is_err_and}
use Rattle.clone_core.proofs.DurableLaws.{held_steps}
use Rattle.clone_core.proofs.clones.MldClone.receive_entry.Goals as goal

pub returns-in_err-hold-clause-durable : goal.returns-in_err-hold-clause-durable
returns-in_err-hold-clause-durable g c =
    let p = err_from_is_err_and c.from_residual.result c.from_residual.ensures.1 in
    rw (p.1, p.2)
    (held_steps g.B.Banks.log g.B.Banks.meter c.args.self.now c.hold.new.self.banks (ap (λ v. v.banks) c.hold.ensures.same) c.args.entry.now c.in_err-hold.field-0.0)
