use Rattle.std.proofs.Common.{◌≢◌, ◌∷◌, codes, option_map, rules, ◌∙◌, sym}
use Rattle.std.proofs.lemmas.Bool.{false≢true}
use Rattle.dot_texts.specs.DotForms.{IsAboveLast, comma}
use Rattle.dot_texts.proofs.ClockTexts.{ReadsClock, clock_more, no_next_dot, no_dot_above}
use Rattle.dot_texts.proofs.dots.read_clock.Goals as goal

pub returns-in_default-read_dot : goal.returns-in_default-read_dot
returns-in_default-read_dot c =
    let other : c.args.text.now ≢ codes "-" = search rules in
    let reads : ReadsClock c.args.text.now (comma ∷ c.in-Some.text.now) c.loop-left.clock.ticks c.loop-left.last = rw c.in-Some.is at c.loop-left.invariant in
    no_next_dot c.args.text.now c.in-Some.text.now c.first_part.result.0.now (option_map (λ rest. rest.now) c.first_part.result.1) c.loop-left.clock.ticks c.loop-left.last
    other reads c.first_part.ensures c.in_default-read_dot.ensures

pub returns-then-not-is_above_last : goal.returns-then-not-is_above_last
returns-then-not-is_above_last c =
    let other : c.args.text.now ≢ codes "-" = search rules in
    let reads : ReadsClock c.args.text.now (comma ∷ c.in-Some.text.now) c.loop-left.clock.ticks c.loop-left.last = rw c.in-Some.is at c.loop-left.invariant in
    no_dot_above c.args.text.now c.in-Some.text.now c.first_part.result.0.now (option_map (λ rest. rest.now) c.first_part.result.1) c.loop-left.clock.ticks c.loop-left.last
    c.in-Some-read_dot.dot other reads c.first_part.ensures c.in-Some-read_dot.ensures
    (λ above. false≢true (sym c.if-not-is_above_last.true ∙ c.is_above_last.ensures.1 above))

pub loop-left-preserved : goal.loop-left-preserved
loop-left-preserved c =
    let reads : ReadsClock c.args.text.now (comma ∷ c.in-Some.text.now) c.loop-left.clock.ticks c.loop-left.last = rw c.in-Some.is at c.loop-left.invariant in
    let above : IsAboveLast c.loop-left.last c.in-Some-read_dot.dot.path = c.is_above_last.ensures.0 c.if-not-is_above_last.false in
    clock_more c.args.text.now c.in-Some.text.now c.first_part.result.0.now (option_map (λ rest. rest.now) c.first_part.result.1) c.loop-left.clock.ticks c.raise.new.clock.ticks
    c.loop-left.last c.in-Some-read_dot.dot reads c.first_part.ensures c.in-Some-read_dot.ensures above c.in_ok-raise.ensures.raised c.in_ok-raise.ensures.clock
