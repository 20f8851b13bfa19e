use Rattle.std.proofs.Common.{sym, ◌∙◌, ap}
use Rattle.tree_clock.specs.Letters.{number_of, number_of-letters}
use Rattle.tree_clock.proofs.paths.Path.number.Goals as goal

pub returns : goal.returns
returns c = sym (number_of-letters c.self.inside.len c.self.inside.bits c.self.invariant.1) ∙ ap number_of c.self.view_is
