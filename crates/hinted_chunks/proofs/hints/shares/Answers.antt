use Rattle.std.proofs.Common.{◌∙◌, sym}
use Rattle.std.proofs.lemmas.Bool.{leb-true}
use Rattle.hinted_chunks.proofs.Sharing.{first_has, same_before}
use Rattle.hinted_chunks.proofs.hints.shares.Goals as goal

pub returns-in-Some : goal.returns-in-Some
returns-in-Some g c t x h =
    let first = c.in-Some.first.now in
    c.requires x first h (first_has c.args.elements.now first c.in-Some.ensures.value)
    ∙ sym (same_before c.args.mark c.shared.result (g.B.Bound.key c.args.bound.now) (g.T.Keyed.key first) (leb-true c.args.mark c.shared.result t) c.shared.ensures)
