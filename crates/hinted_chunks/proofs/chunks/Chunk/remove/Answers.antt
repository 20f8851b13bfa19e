use Rattle.std.proofs.Common.{arith}
use Rattle.hinted_chunks.proofs.Sharing.{taken_hinted}
use Rattle.hinted_chunks.proofs.chunks.Chunk.remove.Goals as goal

pub invariant_of-self : goal.invariant_of-self
invariant_of-self g c = (
  omega (arith, c.self.invariant.0, c.remove-2.ensures.len),
  omega (arith, c.self.invariant.1, c.remove-2.ensures.capacity),
  taken_hinted g.T.Keyed.key c.self.inside.hints.mark c.args.at c.self.inside.elements.items c.remove-2.new.self.items c.self.inside.hints.numbers.items c.remove.new.self.items
      c.self.invariant.2 c.remove-2.ensures.items c.remove.ensures.items,
  omega (arith, c.self.invariant.3, c.remove.ensures.capacity),
)
