use Rattle.std.proofs.Common.{◌∙◌}
use Rattle.graph_index.proofs.RowDots.{dots_by_ticks}
use Rattle.graph_index.proofs.row_order.cmp_dots.Goals as goal

pub returns-then-a-b : goal.returns-then-a-b
returns-then-a-b c = c.cmp.ensures ∙ dots_by_ticks c.args.paths.now c.args.a.now c.args.b.now c.if-a-b.true
