use Rattle.std.proofs.Common.{sym, ◌∙◌, ap, length, take, arith}
use Rattle.tree_clock.specs.Letters.{length-letters}
use Rattle.tree_clock.proofs.PathLemmas.{letters-take, front_below}
use Rattle.tree_clock.proofs.paths.Path.front.Goals as goal

pub overflow_sub-result : goal.overflow_sub-result
overflow_sub-result c =
    let e = sym (length-letters c.self.inside.len c.self.inside.bits) ∙ ap length c.self.view_is in
    omega (arith, c.requires)

pub returns-else-n-eq0-clause-below : goal.returns-else-n-eq0-clause-below
returns-else-n-eq0-clause-below c =
    let e = sym (length-letters c.self.inside.len c.self.inside.bits) ∙ ap length c.self.view_is in
    front_below c.args.n c.self.inside.len c.self.inside.bits (omega (arith, c.requires)) c.self.invariant.1

pub returns-else-n-eq0-clause-letters : goal.returns-else-n-eq0-clause-letters
returns-else-n-eq0-clause-letters c =
    let e = sym (length-letters c.self.inside.len c.self.inside.bits) ∙ ap length c.self.view_is in
    letters-take c.args.n c.self.inside.len c.self.inside.bits (omega (arith, c.requires)) ∙ ap (take c.args.n) c.self.view_is
