use Rattle.std.proofs.Common.{if◌then◌else◌, sym, ◌∙◌}
use Rattle.std.proofs.lemmas.Bool.{false≢true}
use Rattle.tree_clock.specs.Path.{zero_letter, one_letter}
use Rattle.tree_clock.proofs.TreeLemmas.{HasNode-front}
use Rattle.tree_clock.proofs.trees.Tree.grow.Goals as goal

pub returns-in_err-son-clause-succeeds : goal.returns-in_err-son-clause-succeeds
returns-in_err-son-clause-succeeds c = λ rest h.
    let there = c.has_son.ensures.1 (HasNode-front c.args.self.now (if c.args.one then one_letter else zero_letter) rest h) in
    absurd (false≢true (sym c.if-has_son.false ∙ there))
