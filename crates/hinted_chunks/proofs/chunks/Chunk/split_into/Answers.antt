use Rattle.std.proofs.Common.{◌∙◌, ap, subst, arith, length}
use Rattle.std.proofs.lemmas.List.{length-take, length-drop}
use Rattle.hinted_chunks.specs.ChunkLimits.{half_limit}
use Rattle.hinted_chunks.specs.Hinted.{IsHinted}
use Rattle.hinted_chunks.proofs.Sharing.{front_hinted, back_hinted}
use Rattle.hinted_chunks.proofs.chunks.Chunk.split_into.Goals as goal

pub sharpen-requires-clause-is : goal.sharpen-requires-clause-is
sharpen-requires-clause-is g c =
    front_hinted g.T.Keyed.key c.self.inside.hints.mark half_limit c.self.inside.elements.items c.deref.result.now c.self.inside.hints.numbers.items c.move_tail-2.new.from.items
    c.self.invariant.2 (c.deref.ensures.value ∙ c.move_tail.ensures.front) c.move_tail-2.ensures.front

pub sharpen-requires-clause-room : goal.sharpen-requires-clause-room
sharpen-requires-clause-room g c =
    let t = length-take half_limit c.self.inside.elements.items in
    let e = ap (λ zs. length zs) (c.deref.ensures.value ∙ c.move_tail.ensures.front) in
    omega (arith, t, e, c.self.invariant.0, c.self.invariant.3, c.move_tail-2.ensures.room)

pub sharpen-requires-2-clause-is : goal.sharpen-requires-2-clause-is
sharpen-requires-2-clause-is g c =
    back_hinted g.T.Keyed.key c.self.inside.hints.mark half_limit c.self.inside.elements.items c.deref-2.result.now c.self.inside.hints.numbers.items c.move_tail-2.new.to.items
    c.self.invariant.2 (c.deref-2.ensures.value ∙ c.move_tail.ensures.back) c.move_tail-2.ensures.back

pub sharpen-requires-2-clause-room : goal.sharpen-requires-2-clause-room
sharpen-requires-2-clause-room g c =
    let t = length-drop half_limit c.self.inside.elements.items in
    let e = ap (λ zs. length zs) (c.deref-2.ensures.value ∙ c.move_tail.ensures.back) in
    omega (arith, t, e, c.self.invariant.0, c.other.invariant.3, c.move_tail-2.ensures.room_to)

pub invariant_of-self : goal.invariant_of-self
invariant_of-self g c =
    let t = length-take half_limit c.self.inside.elements.items in
    let e = ap (λ zs. length zs) c.move_tail.ensures.front in (
      omega (arith, t, e, c.self.invariant.0),
      omega (arith, c.move_tail.ensures.room, c.self.invariant.1),
      subst (λ zs. IsHinted g.T.Keyed.key zs c.sharpen.new.hints) c.deref.ensures.value c.sharpen.ensures.is,
      omega (arith, c.self.invariant.3, c.move_tail-2.ensures.room, c.sharpen.ensures.room),
    )

pub invariant_of-other : goal.invariant_of-other
invariant_of-other g c =
    let t = length-drop half_limit c.self.inside.elements.items in
    let e = ap (λ zs. length zs) c.move_tail.ensures.back in (
      omega (arith, t, e, c.self.invariant.0),
      omega (arith, c.move_tail.ensures.room_to, c.other.invariant.1),
      subst (λ zs. IsHinted g.T.Keyed.key zs c.sharpen-2.new.hints) c.deref-2.ensures.value c.sharpen-2.ensures.is,
      omega (arith, c.other.invariant.3, c.move_tail-2.ensures.room_to, c.sharpen-2.ensures.room),
    )
