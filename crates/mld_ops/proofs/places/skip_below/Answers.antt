use Rattle.std.proofs.Common.{rules, arith}
use Rattle.mld_ops.specs.Tagged.{tagged_cmp}
use Rattle.mld_ops.proofs.PlaceLaws.{below_more, less_from}
use Rattle.mld_ops.proofs.places.skip_below.Goals as goal

pub loop-place-preserved : goal.loop-place-preserved
loop-place-preserved c = record {
  within = omega arith;
  below = below_more c.args.others.now c.loop-place.place c.args.pair.now c.index-others-place.result c.loop-place-test.true c.index-others-place.is
      (less_from (tagged_cmp c.index-others-place.result c.args.pair.now) (search rules)) c.loop-place.invariant.below;
}
