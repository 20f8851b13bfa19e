use Rattle.std.proofs.Common.{◌∙◌}
use Rattle.clone_history.proofs.TellingLaws.{first_unknown, all_known, is_part, is_no_part, first_split, none_split, first_open, none_open}
use Rattle.clone_history.proofs.checks.can_tell.Goals as goal

pub returns-in-Some-clause-err : goal.returns-in-Some-clause-err
returns-in-Some-clause-err g c =
    first_unknown c.args.clone.now.local c.args.clock.now.ticks c.known.result.now.ticks c.deref.result.now c.known.ensures.ticks
    (c.deref.ensures.value ∙ c.in_ok-ends.ensures.ok) c.in-Some.dot c.in-Some.ensures

pub returns-then-not-leq-clause-err : goal.returns-then-not-leq-clause-err
returns-then-not-leq-clause-err g c = (
  all_known c.args.clone.now.local c.args.clock.now.ticks c.known.result.now.ticks c.deref.result.now c.known.ensures.ticks
      (c.deref.ensures.value ∙ c.in_ok-ends.ensures.ok) c.in_default.ensures,
  is_no_part c.args.clone.now.local.base c.base.result.now.ticks c.args.clock.now.ticks c.leq.result c.base.ensures c.leq.ensures.dots c.if-not-leq.true,
)

pub returns-in-Some-2-clause-err : goal.returns-in-Some-2-clause-err
returns-in-Some-2-clause-err g c = (
  all_known c.args.clone.now.local c.args.clock.now.ticks c.known.result.now.ticks c.deref.result.now c.known.ensures.ticks
      (c.deref.ensures.value ∙ c.in_ok-ends.ensures.ok) c.in_default.ensures,
  is_part c.args.clone.now.local.base c.base.result.now.ticks c.args.clock.now.ticks c.leq.result c.base.ensures c.leq.ensures.dots c.if-not-leq.false,
  first_split c.args.clone.now.local c.args.clock.now.ticks c.base-2.result.now.ticks c.journal.result.now c.base-2.ensures c.journal.ensures c.in-Some-2.dot
      (rw c.in-Some-2.is at c.in_ok-dot.ensures),
)

pub returns-in-Some-first_open-clause-err : goal.returns-in-Some-first_open-clause-err
returns-in-Some-first_open-clause-err g c =
    let first = first_open c.args.clone.now.local c.args.clock.now.ticks c.journal-2.result.now c.journal-2.ensures c.in-Some-first_open.range c.in-Some-first_open.ensures in (
      all_known c.args.clone.now.local c.args.clock.now.ticks c.known.result.now.ticks c.deref.result.now c.known.ensures.ticks
          (c.deref.ensures.value ∙ c.in_ok-ends.ensures.ok) c.in_default.ensures,
      is_part c.args.clone.now.local.base c.base.result.now.ticks c.args.clock.now.ticks c.leq.result c.base.ensures c.leq.ensures.dots c.if-not-leq.false,
      none_split c.args.clone.now.local c.args.clock.now.ticks c.base-2.result.now.ticks c.journal.result.now c.base-2.ensures c.journal.ensures
          (rw c.in_default-2.is at c.in_ok-dot.ensures),
      first.0,
      first.1,
      first.2,
    )

pub returns-clause-ok : goal.returns-clause-ok
returns-clause-ok g c = record {
  known = all_known c.args.clone.now.local c.args.clock.now.ticks c.known.result.now.ticks c.deref.result.now c.known.ensures.ticks
      (c.deref.ensures.value ∙ c.in_ok-ends.ensures.ok) c.in_default.ensures;
  base = is_part c.args.clone.now.local.base c.base.result.now.ticks c.args.clock.now.ticks c.leq.result c.base.ensures c.leq.ensures.dots c.if-not-leq.false;
  between = none_split c.args.clone.now.local c.args.clock.now.ticks c.base-2.result.now.ticks c.journal.result.now c.base-2.ensures c.journal.ensures
      (rw c.in_default-2.is at c.in_ok-dot.ensures);
  closed = none_open c.args.clone.now.local c.args.clock.now.ticks c.journal-2.result.now c.journal-2.ensures c.in_default-first_open.ensures;
}
