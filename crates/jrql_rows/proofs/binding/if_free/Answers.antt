use Rattle.std.proofs.Common.{Bool, None, Some, if◌then◌else◌, sym, ap}
use Rattle.jrql_rows.specs.Unbinding.{if_free}
use Rattle.jrql_rows.proofs.binding.if_free.Goals as goal

pub returns-in-Some : goal.returns-in-Some
returns-in-Some c = ap (λ (b : Bool). if b then None else Some c.args.variable) (sym c.in-Some.ensures.some)

pub returns-in-None : goal.returns-in-None
returns-in-None c = ap (if_free c.args.variable) c.in-None.ensures.value
