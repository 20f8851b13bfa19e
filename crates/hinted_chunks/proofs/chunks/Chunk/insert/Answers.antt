use Rattle.std.proofs.Common.{◌∙◌, sym, ap, subst, length, arith}
use Rattle.std.specs.List.{insert}
use Rattle.hinted_chunks.specs.Hinted.{IsHinted}
use Rattle.hinted_chunks.proofs.chunks.Chunk.insert.Goals as goal

pub invariant_of-self : goal.invariant_of-self
invariant_of-self g c =
    let i = ap (λ zs. insert zs c.args.at c.args.element) c.deref.ensures.value ∙ sym c.put_in.ensures.items in (
      omega (arith, ap length c.self.view_is, c.put_in.ensures.len, c.requires.room),
      omega (arith, c.self.invariant.1, c.put_in.ensures.capacity),
      subst (λ zs. IsHinted g.T.Keyed.key zs c.put_hint.new.hints) i c.put_hint.ensures.is,
      omega (arith, c.self.invariant.3, c.put_hint.ensures.room),
    )
