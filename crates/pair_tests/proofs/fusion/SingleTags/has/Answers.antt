use Rattle.std.proofs.Common.{inl, inr, sym, ◌∙◌, ap}
use Rattle.std.specs.Ordering.{is_eq}
use Rattle.mld_ops.proofs.PlaceLaws.{compares_equal}
use Rattle.pair_tests.proofs.fusion.SingleTags.has.Goals as goal

pub returns : goal.returns
returns c =
    let same = c.is_eq.ensures ∙ ap is_eq c.cmp.ensures in
    let tells = compares_equal c.args.self.now.pair c.args.pair.now in
    (λ h. inl (tells.0 (sym same ∙ h)), λ h. elim h [ inl e ↦ same ∙ tells.1 e | inr none ↦ absurd none ])
