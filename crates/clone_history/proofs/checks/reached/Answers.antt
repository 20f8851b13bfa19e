use Rattle.std.proofs.Common.{◌≡◌, ◌∙◌, true, false, ℕ, List, sym, subst}
use Rattle.tree_clock.specs.declared.dots.Dot.{Dot}
use Rattle.tree_clock.specs.Clock.{ClockValue, Covers, RaisesTo}
use Rattle.clone_history.specs.PastParts.{ReachesWithin}
use Rattle.std.proofs.Common.{take, ◌+◌}
use Rattle.clone_history.proofs.PastSteps.{reaches_none, reaches_same, reaches_more, reaches_all}
use Rattle.clone_history.proofs.checks.reached.Goals.{then-covers+in_ok-reserve, else-covers}
use Rattle.clone_history.proofs.checks.reached.Goals as goal

pub loop-entry-init : goal.loop-entry-init
loop-entry-init c = reaches_none c.args.clock.now.ticks c.args.base.now.ticks c.args.entries.now c.in_ok-reached.reached.ticks c.in_ok-reached.ensures.ok

pub loop-entry-preserved : goal.loop-entry-preserved
loop-entry-preserved c =
    let clock = c.args.clock.now.ticks in
    let base = c.args.base.now.ticks in
    let entries = c.args.entries.now in
    let i = c.loop-entry.entry-index in
    let entry = c.entry-item.result in
    let before = c.loop-entry.reached.ticks in
    elim c.if-covers.branch [
      | then-covers+in_ok-reserve w ↦
          let known = subst (Covers clock) c.last_dot-last.ensures (c.covers.ensures.0 w.if-covers.true) in
          let raised = subst (λ (d : Dot). RaisesTo before w.raise.new.self.ticks d) c.last_dot-last.ensures
          (subst (λ (ts : List (List ℕ × ℕ)). RaisesTo ts w.raise.new.self.ticks c.last_dot-last.result) w.reserve.ensures.ticks w.raise.ensures.raised) in
          subst (λ (r : ClockValue). ReachesWithin clock base (take (i + 1) entries) r.ticks) (sym w.reached-is)
          (reaches_more clock base entries i entry before w.raise.new.self.ticks c.loop-entry-test.true c.entry-item.is c.loop-entry.invariant known raised)
      | else-covers w ↦
          subst (λ (r : ClockValue). ReachesWithin clock base (take (i + 1) entries) r.ticks) (sym w.reached-is)
          (reaches_same clock base entries i entry before c.loop-entry-test.true c.entry-item.is c.loop-entry.invariant
          (λ k. let no : false ≡ true = sym w.if-covers.false ∙ c.covers.ensures.1 (subst (Covers clock) (sym c.last_dot-last.ensures) k) in cc))
    ]

pub returns : goal.returns
returns c =
    reaches_all c.args.clock.now.ticks c.args.base.now.ticks c.args.entries.now c.loop-entry.entry-index c.loop-entry.reached.ticks c.loop-entry-test.false
    c.loop-entry.invariant
