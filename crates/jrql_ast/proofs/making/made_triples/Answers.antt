use Rattle.std.proofs.Common.{ℕ, ◌*◌, ap}
use Rattle.jrql_ast.proofs.MadeLaws.{one_solution_more}
use Rattle.jrql_ast.proofs.making.made_triples.Goals as goal

pub loop-number-preserved : goal.loop-number-preserved
loop-number-preserved c =
    let number = c.loop-number.number in
    one_solution_more c.args.domain.now c.args.dot.now c.args.fresh (number * c.from.result) c.args.templates.now c.args.rows.now number c.index-rows-number.result
    c.as_slice-row.result.now c.loop-number.triples.items c.add_all_made.new.triples.items c.loop-number-test.true c.index-rows-number.is c.as_slice-row.ensures
    (ap (λ (n : ℕ). number * n) c.from.ensures) c.loop-number.invariant c.in_ok-add_all_made.ensures
