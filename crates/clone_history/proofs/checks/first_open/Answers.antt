use Rattle.std.proofs.Common.{◌≡◌, ◌∙◌, true, false, sym}
use Rattle.clone_history.proofs.PastSteps.{open_found, open_more, open_none}
use Rattle.clone_history.proofs.checks.first_open.Goals as goal

pub returns-then-is_open : goal.returns-then-is_open
returns-then-is_open c =
    open_found c.args.clock.now.ticks c.args.entries.now c.loop-entry.entry-index c.entry-item.result c.range.result c.loop-entry-test.true c.entry-item.is
    c.loop-entry.invariant (c.is_open.ensures.0 c.if-is_open.true) c.range.ensures.value

pub loop-entry-preserved : goal.loop-entry-preserved
loop-entry-preserved c =
    open_more c.args.clock.now.ticks c.args.entries.now c.loop-entry.entry-index c.entry-item.result c.loop-entry-test.true c.entry-item.is c.loop-entry.invariant
    (λ k. let no : false ≡ true = sym c.if-is_open.false ∙ c.is_open.ensures.1 k in cc)

pub returns : goal.returns
returns c = open_none c.args.clock.now.ticks c.args.entries.now c.loop-entry.entry-index c.loop-entry-test.false c.loop-entry.invariant
