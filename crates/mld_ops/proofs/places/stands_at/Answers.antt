use Rattle.std.proofs.Common.{◌≡◌, sym, ◌∙◌, ap, subst}
use Rattle.std.proofs.lemmas.List.{get_or_default}
use Rattle.std.specs.declared.cmp.Ordering.TheVariants.{Less}
use Rattle.std.specs.Ordering.{is_eq}
use Rattle.mld_ops.specs.declared.tagged.Tagged.{Tagged}
use Rattle.mld_ops.specs.Tagged.{tagged_cmp}
use Rattle.mld_ops.proofs.PlaceLaws.{lacks_below, stands_there, not_below_end}
use Rattle.mld_ops.proofs.places.stands_at.Goals as goal

pub returns-then-place-others : goal.returns-then-place-others
returns-then-place-others c =
    let others = c.args.others.now in
    let pair = c.args.pair.now in
    let other = c.index-others-place.result in
    let e = c.index-others-place.is ∙ get_or_default others c.args.place other pair c.if-place-others.true in
    let tells = stands_there others c.args.place pair other c.requires.others c.if-place-others.true c.index-others-place.is
    (λ (less : tagged_cmp other pair ≡ Less). c.requires.stops c.if-place-others.true (subst (λ (w : Tagged). tagged_cmp w pair ≡ Less) e less)) c.requires.below in
    let same = c.is_eq.ensures ∙ ap is_eq c.cmp.ensures in
    (λ h. tells.0 (sym same ∙ h), λ h. same ∙ tells.1 h)

pub returns-else-place-others : goal.returns-else-place-others
returns-else-place-others c = (
  λ h. absurd (not_below_end c.args.others.now c.args.place c.if-place-others.false h),
  λ h. absurd (lacks_below c.args.others.now c.args.place c.args.pair.now c.if-place-others.false c.requires.below h),
)
