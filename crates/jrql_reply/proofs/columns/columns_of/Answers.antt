use Rattle.std.proofs.Common.{arith, rules}
use Rattle.jrql_reply.proofs.ColumnOrder.{columns_next}
use Rattle.jrql_reply.proofs.columns.columns_of.Goals as goal

pub loop-place-preserved : goal.loop-place-preserved
loop-place-preserved c =
    columns_next c.args.names.now c.args.variables.now c.loop-place.place (record { name = c.name_of-name.result.now; place = c.loop-place.place }) c.loop-place.columns.items c.push.new.self.items
    (omega (arith, c.loop-place-test.true)) (search rules) (search rules) c.loop-place.invariant (search rules)
