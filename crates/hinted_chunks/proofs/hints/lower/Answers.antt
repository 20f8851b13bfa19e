use Rattle.hinted_chunks.proofs.Sharing.{same_before, shared_with_all, hinted_without, none_has}
use Rattle.hinted_chunks.proofs.hints.lower.Goals as goal

pub returns-in-Some-clause-shared : goal.returns-in-Some-clause-shared
returns-in-Some-clause-shared g c =
    let key = g.T.Keyed.key in
    let first = c.in-Some.first.now in
    let mark = c.lower_to.new.hints.mark in
    shared_with_all key mark c.args.elements.now first c.args.element.now c.in-Some.ensures.value c.lower_to.ensures.is.shared
    (same_before mark c.shared.result (key first) (key c.args.element.now) c.lower_to.ensures.mark c.shared.ensures)

pub returns-in-None-clause-is : goal.returns-in-None-clause-is
returns-in-None-clause-is g c = hinted_without g.T.Keyed.key c.args.hints.now.mark _ c.args.elements.now c.args.hints.now.numbers.items c.in-None.ensures.value c.requires.is

pub returns-in-None-clause-shared : goal.returns-in-None-clause-shared
returns-in-None-clause-shared g c x h = absurd (none_has c.args.elements.now x c.in-None.ensures.value h)
