use Rattle.number_tables.proofs.BucketLooks.{none_vacant_more, none_vacant_yet, none_vacant}
use Rattle.number_tables.proofs.buckets.vacancy.Goals as goal

pub loop-place-init : goal.loop-place-init
loop-place-init c = none_vacant_yet c.args.slots.now c.bucket_start-start.result

pub loop-place-preserved : goal.loop-place-preserved
loop-place-preserved c =
    none_vacant_more c.args.slots.now c.bucket_start-start.result c.loop-place.place (record { hash = 0; number = 0 }) c.loop-place.invariant c.if-slots-place.false

pub returns-clause-none : goal.returns-clause-none
returns-clause-none c =
    none_vacant c.args.slots.now c.bucket_start-start.result c.args.hash c.min-end.result c.loop-place.place c.bucket_start-start.ensures.start c.min-end.ensures
    c.loop-place-test.false c.loop-place.invariant
