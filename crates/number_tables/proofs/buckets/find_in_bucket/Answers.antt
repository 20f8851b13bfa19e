use Rattle.std.proofs.Common.{◌∙◌, sym}
use Rattle.std.proofs.lemmas.Bool.{true≢false}
use Rattle.number_tables.specs.HashedTerms.{wanted_term}
use Rattle.number_tables.proofs.BucketLooks.{none_found_term, none_found_hash, none_found_yet, none_standing_here}
use Rattle.number_tables.proofs.buckets.find_in_bucket.Goals as goal
use Rattle.number_tables.proofs.buckets.find_in_bucket.Goals.{else-slot-hash-via-then-slot-hash+else-is_at, else-slot-hash-via-else-slot-hash}

pub loop-place-init : goal.loop-place-init
loop-place-init c = none_found_yet c.args.slots.now c.bucket_start-start.result c.args.terms.now (wanted_term c.args.wanted.now) c.args.hash

pub loop-place-preserved : goal.loop-place-preserved
loop-place-preserved c = elim c.else-slot-hash.branch [
  | else-slot-hash-via-then-slot-hash+else-is_at w ↦
      none_found_term c.args.slots.now c.bucket_start-start.result c.loop-place.place (record { hash = 0; number = 0 }) c.args.terms.now (wanted_term c.args.wanted.now)
      c.args.hash c.loop-place.invariant (λ own. true≢false (sym (w.is_at.ensures.1 own) ∙ w.if-is_at.false))
  | else-slot-hash-via-else-slot-hash w ↦
      none_found_hash c.args.slots.now c.bucket_start-start.result c.loop-place.place (record { hash = 0; number = 0 }) c.args.terms.now (wanted_term c.args.wanted.now)
      c.args.hash c.loop-place.invariant w.if-slot-hash.false
]

pub returns : goal.returns
returns c =
    none_standing_here c.args.slots.now c.bucket_start-start.result c.args.hash c.min-end.result c.loop-place.place c.bucket_start-start.ensures.start c.min-end.ensures
    c.loop-place-test.false c.args.terms.now (wanted_term c.args.wanted.now) c.loop-place.invariant
