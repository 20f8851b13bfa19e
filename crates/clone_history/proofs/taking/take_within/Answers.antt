use Rattle.std.proofs.Common.{◌≡◌, ◌∙◌, true, false, sym, subst}
use Rattle.tree_clock.specs.Clock.{Covers}
use Rattle.clone_history.proofs.TakingLaws.{taking_none, taking_same, taking_more, taking_all}
use Rattle.clone_history.proofs.taking.take_within.Goals.{then-covers+in_ok-take, else-covers}
use Rattle.clone_history.proofs.taking.take_within.Goals as goal

pub loop-entry-init : goal.loop-entry-init
loop-entry-init c = taking_none c.args.clock.now.ticks c.args.own.now.ticks c.args.pairs.now.pairs c.args.entries.now c.requires

pub loop-entry-preserved : goal.loop-entry-preserved
loop-entry-preserved c =
    let clock = c.args.clock.now.ticks in
    let base = c.args.own.now.ticks in
    let first = c.args.pairs.now.pairs in
    let entries = c.args.entries.now in
    let i = c.loop-entry.entry-index in
    let entry = c.entry-item.result in
    let own = c.loop-entry.own.ticks in
    let pairs = c.loop-entry.pairs.pairs in
    elim c.if-covers.branch [
      | then-covers+in_ok-take w ↦
          let known = subst (Covers clock) c.last_dot.ensures (c.covers.ensures.0 w.if-covers.true) in
          rw (w.own-is, w.pairs-is)
          (taking_more clock base first entries i own pairs entry c.loop-entry-test.true c.entry-item.is c.loop-entry.invariant w.take.new.own.ticks w.take.new.pairs.pairs known
          w.in_ok-take.ensures.raised w.in_ok-take.ensures.cut)
      | else-covers w ↦ rw (w.own-is, w.pairs-is)
          (taking_same clock base first entries i own pairs entry c.loop-entry-test.true c.entry-item.is c.loop-entry.invariant
          (λ k. let no : false ≡ true = sym w.if-covers.false ∙ c.covers.ensures.1 (subst (Covers clock) (sym c.last_dot.ensures) k) in cc))
    ]

pub returns : goal.returns
returns c =
    taking_all c.args.clock.now.ticks c.args.own.now.ticks c.args.pairs.now.pairs c.args.entries.now c.loop-entry.entry-index c.loop-entry.own.ticks c.loop-entry.pairs.pairs
    c.loop-entry-test.false c.loop-entry.invariant
