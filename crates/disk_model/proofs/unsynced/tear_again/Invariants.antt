use Rattle.std.proofs.Common.{◌≡◌, length, take, vec_len}
use Rattle.disk_model.specs.Covered.{AreChained, first_size, torn_by}
use Rattle.disk_model.proofs.unsynced.tear_again.Given as goal

-- what is left to be torn leads to what all of it leads to
abbrev pub invariant-loop-write : goal.invariant-loop-write
invariant-loop-write l = record {
  len : vec_len l.seen ≡ vec_len l.initial.seen;
  chained : AreChained l.rest l.size;
  torn : torn_by l.rest (take (first_size l.rest l.size) l.seen.items) ≡ torn_by l.writes (take (first_size l.writes l.size) l.initial.seen.items);
}

abbrev pub decreases-loop-write : goal.decreases-loop-write
decreases-loop-write l = length l.rest
