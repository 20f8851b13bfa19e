use Rattle.std.proofs.Common.{sym, ◌∙◌, ap, subst, length, All}
use Rattle.tree_clock.specs.Letters.{IsLetter, length-letters}
use Rattle.tree_clock.proofs.PathLemmas.{All-letters}
use Rattle.tree_clock.proofs.paths.Path.len.Goals as goal

pub returns-clause-value : goal.returns-clause-value
returns-clause-value c = sym (length-letters c.self.inside.len c.self.inside.bits) ∙ ap length c.self.view_is

pub returns-clause-letters : goal.returns-clause-letters
returns-clause-letters c = subst (All IsLetter) c.self.view_is (All-letters c.self.inside.len c.self.inside.bits)
