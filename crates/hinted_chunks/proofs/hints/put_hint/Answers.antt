use Rattle.std.proofs.Common.{insert, refl}
use Rattle.hinted_chunks.proofs.Sharing.{put_hinted}
use Rattle.hinted_chunks.proofs.hints.put_hint.Goals as goal

pub returns-clause-is : goal.returns-clause-is
returns-clause-is g c =
    let old = c.args.elements.now in
    let x = c.args.element.now in
    put_hinted g.T.Keyed.key c.lower.new.hints.mark c.args.at old (insert old c.args.at x) c.lower.new.hints.numbers.items c.put_in.new.elements.items
    x c.hint-hint.result c.lower.ensures.is c.lower.ensures.shared c.hint-hint.ensures refl c.put_in.ensures.items
