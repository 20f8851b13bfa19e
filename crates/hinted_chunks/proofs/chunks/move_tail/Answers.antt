use Rattle.std.proofs.Common.{◌≡◌, ◌∙◌, ◌++◌, ◌∷◌, [], length, sym, ap, arith, refl}
use Rattle.std.proofs.lemmas.List.{append-nil}
use Rattle.hinted_chunks.proofs.Halving.{moved_more, moved_front, moved_back}
use Rattle.hinted_chunks.proofs.chunks.move_tail.Goals as goal

pub loop-from-init : goal.loop-from-init
loop-from-init g c = record {
  items = rw c.requires.empty (sym (append-nil c.args.from.now.items));
  least = omega arith;
  room = omega (arith, c.requires.room, ap (λ zs. length zs) c.requires.empty);
  from_capacity = refl;
  to_capacity = refl;
}

pub loop-from-preserved-in-Some : goal.loop-from-preserved-in-Some
loop-from-preserved-in-Some g c =
    let i = c.in-Some.ensures.items in
    let t : c.push_reserved.new.self.items ≡ c.loop-from.to.items ++ c.in-Some.element ∷ [] = c.push_reserved.ensures.items in
    record {
      items = rw t (moved_more c.args.from.now.items c.loop-from.from.items c.pop.new.self.items c.loop-from.to.items c.in-Some.element c.loop-from.invariant.items i);
      least = omega (arith, c.loop-from.invariant.least, c.in-Some.ensures.cases, c.loop-from-test.true, c.len.ensures);
      room = omega (arith, c.loop-from.invariant.room, c.in-Some.ensures.cases, c.push_reserved.ensures.len, c.push_reserved.ensures.capacity);
      from_capacity = c.pop.ensures.capacity ∙ c.loop-from.invariant.from_capacity;
      to_capacity = c.push_reserved.ensures.capacity ∙ c.loop-from.invariant.to_capacity;
    }

pub loop-from-preserved : goal.loop-from-preserved
loop-from-preserved g c = absurd (omega (arith, c.in_default.ensures.cases.0, c.loop-from-test.true, c.len.ensures))

pub returns-clause-front : goal.returns-clause-front
returns-clause-front g c = moved_front c.args.from.now.items c.loop-from.from.items _ c.loop-from.invariant.items (omega (arith, c.loop-from-test.false, c.len.ensures)) (omega (arith, c.loop-from.invariant.least))

pub returns-clause-back : goal.returns-clause-back
returns-clause-back g c = c.reverse.ensures.items ∙ moved_back c.args.from.now.items c.loop-from.from.items _ c.loop-from.invariant.items (omega (arith, c.loop-from-test.false, c.len.ensures)) (omega (arith, c.loop-from.invariant.least))

pub returns-clause-room_to : goal.returns-clause-room_to
returns-clause-room_to g c = c.reverse.ensures.capacity ∙ c.loop-from.invariant.to_capacity
