use Rattle.std.proofs.Common.{length, ◌-◌, ◌≤◌}
use Rattle.mld_ops.specs.AscendingPlaces.{AreBelow}
use Rattle.mld_ops.proofs.places.skip_below.Given as goal

abbrev pub invariant-loop-place : goal.invariant-loop-place
invariant-loop-place l = record {
  within : l.place ≤ length l.others;
  below : AreBelow l.others l.place l.pair;
}

abbrev pub decreases-loop-place : goal.decreases-loop-place
decreases-loop-place l = length l.others - l.place
