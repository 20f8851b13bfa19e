use Rattle.number_tables.proofs.BucketLooks.{NoneVacant}
use Rattle.number_tables.proofs.buckets.vacancy.Given as goal

abbrev pub invariant-loop-place : goal.invariant-loop-place
invariant-loop-place l = NoneVacant l.slots l.start l.place
