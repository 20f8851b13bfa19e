use Rattle.std.proofs.Common.{get_or}
use Rattle.mld_ops.proofs.AscendingLaws.{has_at}
use Rattle.hinted_chunks.proofs.Hinting.{told_by_hints}
use Rattle.hinted_chunks.proofs.Sharing.{hint_at}
use Rattle.hinted_chunks.proofs.hints.is_before_at.Goals as goal

pub returns : goal.returns
returns g c d =
    let xs = c.args.elements.now in
    let x = get_or xs c.args.at d in
    let mark = c.args.hints.now.mark in
    let hint = c.index-hint.result.now in
    told_by_hints (g.B.Bound.before c.args.bound.now x) mark hint c.args.wanted (g.T.Keyed.key x) (g.B.Bound.key c.args.bound.now)
    (c.requires.shared x (has_at xs c.args.at d c.requires.place))
    (hint_at g.T.Keyed.key mark c.args.at xs c.args.hints.now.numbers.items hint d c.requires.is c.requires.place c.index-hint.ensures)
    c.requires.wanted c.if-hint-wanted.false
    (g.met.B.Bound.below c.args.bound.now x) (g.met.B.Bound.above c.args.bound.now x)
