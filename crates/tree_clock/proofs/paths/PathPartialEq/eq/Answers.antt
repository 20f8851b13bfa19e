use Rattle.std.specs.Cmp.Lexicographic.{bytes_decides}
use Rattle.std.proofs.lemmas.Bool.Decides.{same_from_decides}
use Rattle.tree_clock.proofs.PathLemmas.{Decides-bits, Decides-lens}
use Rattle.tree_clock.proofs.paths.PathPartialEq.eq.Goals as goal

pub returns-then-self-other : goal.returns-then-self-other
returns-then-self-other c =
    rw (← c.self.view_is, ← c.other.view_is) (same_from_decides _ _ (Decides-bits c.self.inside.len c.self.inside.bits c.other.inside.len c.other.inside.bits c.self.invariant.1 c.other.invariant.1 c.if-self-other.true) (bytes_decides _ _))

pub returns-else-self-other : goal.returns-else-self-other
returns-else-self-other c =
    rw (← c.self.view_is, ← c.other.view_is) (same_from_decides _ _ (Decides-lens c.self.inside.len c.self.inside.bits c.other.inside.len c.other.inside.bits c.if-self-other.false) (bytes_decides _ _))
