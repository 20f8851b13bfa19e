use Rattle.number_tables.specs.HashedTerms.{wanted_term}
use Rattle.number_tables.proofs.BucketLooks.{NoneFound}
use Rattle.number_tables.proofs.buckets.find_in_bucket.Given as goal

abbrev pub invariant-loop-place : goal.invariant-loop-place
invariant-loop-place l = NoneFound l.slots l.start l.terms (wanted_term l.wanted) l.hash l.place
