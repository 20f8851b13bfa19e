use Rattle.mld_ops.specs.PairLists.{pair_lent}
use Rattle.single_value.proofs.Standing.{alike, differs_and_stands}
use Rattle.single_value.proofs.values.is_spared_other.Goals as goal

pub returns-then-ne : goal.returns-then-ne
returns-then-ne c =
    differs_and_stands c.args.effect.now c.args.triple.now (pair_lent c.args.pair.now) c.deletes.result.now c.ne.result c.has_lent.result
    c.ne.ensures c.if-ne.true c.deletes.ensures.value c.has_lent.ensures

pub returns-else-ne : goal.returns-else-ne
returns-else-ne c = alike c.args.effect.now c.args.triple.now (pair_lent c.args.pair.now) c.ne.result c.ne.ensures c.if-ne.false
