use Rattle.std.proofs.Common.{◌≡◌, ◌<◌, ◌≤◌, ◌-◌, ℕ, length, slice_index_or}
use Rattle.jsonld_subjects.specs.SubjectWriting.{KeyedTerm}
use Rattle.jsonld_subjects.proofs.writing.run_end.Given as goal

abbrev pub invariant-loop-place : goal.invariant-loop-place
invariant-loop-place l = record {
  within : l.place ≤ length l.values;
  same : (at : ℕ) (other : KeyedTerm) → at < l.place → (slice_index_or l.values at other).key ≡ l.key;
}

abbrev pub decreases-loop-place : goal.decreases-loop-place
decreases-loop-place l = length l.values - l.place
