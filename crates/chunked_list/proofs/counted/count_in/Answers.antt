use Rattle.chunked_list.proofs.Counting.{counted_point, counted_most}
use Rattle.chunked_list.proofs.counted.count_in.Goals as goal

pub returns-clause-end : goal.returns-clause-end
returns-clause-end g c =
    counted_most c.args.store.now.chunks.items c.locate.result.chunk c.locate.result.at c.count_at.result c.locate.ensures.chunk c.locate.ensures.at c.count_at.ensures

pub returns-clause-place : goal.returns-clause-place
returns-clause-place g c =
    counted_point (g.B.Bound.before c.args.bound.now) c.args.store.now.chunks.items c.locate.result.chunk c.locate.result.at c.count_at.result c.locate.ensures.chunk c.locate.ensures.at
    c.locate.ensures.divides c.count_at.ensures
