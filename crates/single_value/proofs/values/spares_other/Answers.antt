use Rattle.single_value.proofs.Standing.{spares_by, spares_none, told}
use Rattle.single_value.proofs.values.spares_other.Goals as goal

pub returns : goal.returns
returns c =
    let pairs = c.args.graph.now.pairs in
    let found = c.in_ok-pairs.pairs in
    let effect = c.args.effect.now in
    let triple = c.args.triple.now in (
      λ t. let other = c.has_spared_other.ensures.some t in spares_by pairs found effect triple c.in_ok-pairs.ensures other.0 other.1 other.2,
      λ h. told c.has_spared_other.result (λ n. spares_none pairs found effect triple c.in_ok-pairs.ensures (c.has_spared_other.ensures.none n) h),
    )
