use Rattle.jrql_rows.proofs.FreeLaws.{object_back, predicate_back, subject_back}
use Rattle.jrql_rows.proofs.binding.bind_pattern.Goals as goal

pub returns-then-not-subject-clause-back : goal.returns-then-not-subject-clause-back
returns-then-not-subject-clause-back c =
    let bound = subject_back c.args.pattern.now c.args.row.now.row c.bind_slot-subject.new.row.row c.bind_slot-subject.ensures.free in bound.back

pub returns-then-not-predicate-clause-back : goal.returns-then-not-predicate-clause-back
returns-then-not-predicate-clause-back c =
    let pattern = c.args.pattern.now in
    let row = c.args.row.now.row in
    let subject = c.bind_slot-subject.new.row.row in
    let predicate = c.bind_slot-predicate.new.row.row in
    let bound = predicate_back pattern row subject predicate (subject_back pattern row subject c.bind_slot-subject.ensures.free) c.bind_slot-predicate.ensures.free in bound.back

pub returns-clause-back : goal.returns-clause-back
returns-clause-back c =
    let pattern = c.args.pattern.now in
    let row = c.args.row.now.row in
    let subject = c.bind_slot-subject.new.row.row in
    let predicate = c.bind_slot-predicate.new.row.row in
    let object = c.bind_slot.new.row.row in
    let bound = object_back pattern row predicate object
    (predicate_back pattern row subject predicate (subject_back pattern row subject c.bind_slot-subject.ensures.free) c.bind_slot-predicate.ensures.free)
    c.bind_slot.ensures.free in bound.back
