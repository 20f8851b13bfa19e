use Rattle.jrql_rows.proofs.ColumnLaws.{one_more_named}
use Rattle.jrql_rows.proofs.columns.named.Goals as goal

pub loop-number-preserved : goal.loop-number-preserved
loop-number-preserved c =
    one_more_named c.args.names.now c.loop-number.list.items c.push.new.self.items c.one_named.result c.loop-number.number c.in_ok-push.ensures.items c.one_named.ensures.number c.one_named.ensures.name
    c.loop-number.invariant.0 c.loop-number.invariant.1
