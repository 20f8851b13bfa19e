use Rattle.std.proofs.Common.{◌∙◌, ◌∷◌, [], Bool, if◌then◌else◌, ap}
use Rattle.jrql_rows.specs.mld_ops.Present.{present}
use Rattle.jrql_eval.proofs.Scanned.{one_checked}
use Rattle.jrql_eval.proofs.scanning.are_present.Goals as goal

pub loop-pattern-preserved : goal.loop-pattern-preserved
loop-pattern-preserved c = λ rest.
    let here = c.is_present.ensures ∙ ap (λ (b : Bool). if b then c.args.row.now.row ∷ [] else []) c.if-not-is_present.false in
    c.loop-pattern.invariant rest
    ∙ one_checked (present c.args.row.now.graph.pairs) c.args.patterns.now c.loop-pattern.pattern-index c.pattern-item.result rest c.args.row.now.row c.loop-pattern-test.true c.pattern-item.is here
