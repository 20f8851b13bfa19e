use Rattle.std.proofs.Common.{◌≡◌, ◌≤◌, length, take, vec_len}
use Rattle.disk_model.specs.Covered.{AreChained, first_size, lost_by}
use Rattle.disk_model.proofs.unsynced.take_back.Given as goal

-- what is left to be taken back gives what all of it gives
abbrev pub invariant-loop-write : goal.invariant-loop-write
invariant-loop-write l = record {
  len : vec_len l.seen ≡ vec_len l.initial.seen;
  chained : AreChained l.rest l.left;
  in_seen : l.left ≤ vec_len l.seen;
  first_is : first_size l.rest l.left ≡ first_size l.writes l.size;
  lost : lost_by l.rest (take l.left l.seen.items) ≡ lost_by l.writes (take l.size l.initial.seen.items);
}

abbrev pub decreases-loop-write : goal.decreases-loop-write
decreases-loop-write l = length l.rest
