use Rattle.std.proofs.Common.{◌∙◌, sym, subst}
use Rattle.tree_clock.specs.Path.{AreApart, zero_letter, one_letter}
use Rattle.tree_clock.proofs.PathLaws.{apart_from_son}
use Rattle.tree_clock.proofs.leaves.Leaf.give.Goals as goal

pub returns-clause-keeps_apart : goal.returns-clause-keeps_apart
returns-clause-keeps_apart c = λ other h.
    let path = c.self.inside.path in
    let parent = subst (λ p. AreApart p other) (sym c.self.view_is) h in (
      subst (λ son. AreApart son other) (sym c.child-self-inside.ensures) (apart_from_son path zero_letter other parent),
      subst (λ son. AreApart son other) (sym (c.at.ensures ∙ c.child.ensures)) (apart_from_son path one_letter other parent),
    )
