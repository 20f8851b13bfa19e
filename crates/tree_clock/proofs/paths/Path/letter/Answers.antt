use Rattle.std.proofs.Common.{sym, ◌∙◌, ap, length, arith}
use Rattle.tree_clock.specs.Letters.{length-letters}
use Rattle.tree_clock.proofs.PathLemmas.{letter_at}
use Rattle.tree_clock.proofs.paths.Path.letter.Goals as goal

pub overflow_sub-result-2 : goal.overflow_sub-result-2
overflow_sub-result-2 c =
    let e = sym (length-letters c.self.inside.len c.self.inside.bits) ∙ ap length c.self.view_is in
    omega (arith, c.requires)

pub returns : goal.returns
returns c =
    let e = sym (length-letters c.self.inside.len c.self.inside.bits) ∙ ap length c.self.view_is in
    letter_at c.args.self.now c.args.i c.self.inside.len c.self.inside.bits (omega (arith, c.requires)) c.self.view_is
