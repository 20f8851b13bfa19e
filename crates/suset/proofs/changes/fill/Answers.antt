use Rattle.std.proofs.Common.{◌≡◌, ◌≤◌, List, length, Bool, not, ◌||◌, IsTrue, ◌↔◌, refl, sym, ◌∙◌, ap, subst, arith}
use Rattle.tree_clock.specs.Lists.{Has}
use Rattle.mld_ops.specs.declared.tagged.Tagged.{Tagged}
use Rattle.mld_ops.specs.AscendingPlaces.{AreBelow}
use Rattle.suset.proofs.Filling.{filling_next}
use Rattle.suset.proofs.changes.fill.Goals as goal
use Rattle.suset.proofs.changes.fill.Goals.{then-added, else-added}

pub loop-pair-preserved : goal.loop-pair-preserved
loop-pair-preserved c =
    let drops = c.args.cut.drops.items in
    let pair = c.in-Some.pair in
    let added = c.in-Some.added in
    let place = c.skip_below-place.result in
    let dropped = c.stands_at-dropped.result in
    let within = subst (λ (xs : List Tagged). place ≤ length xs) c.deref.ensures.value c.skip_below-place.ensures.place in
    let below = subst (λ (xs : List Tagged). AreBelow xs place pair) c.deref.ensures.value c.skip_below-place.ensures.below in
    let tells = subst (λ (xs : List Tagged). IsTrue dropped ↔ Has xs pair) c.deref-in-Some.ensures.value c.stands_at-dropped.ensures in
    let stays : c.if-added.push_staying ≡ (added || not dropped) = elim c.if-added.branch [
      | then-added w ↦ w.push_staying-is ∙ w.if-added.true ∙ sym (ap (λ (b : Bool). b || not dropped) w.if-added.true)
      | else-added w ↦ w.push_staying-is ∙ sym (ap (λ (b : Bool). b || not dropped) w.if-added.false)
    ] in
    record {
      filling = filling_next drops c.from_vec-old.result.items c.from_vec-adds.result.items c.loop-pair.old.items c.loop-pair.adds.items c.loop-pair.room.items c.loop-pair.place
          c.loop-pair.invariant.filling pair added c.take_least.new.old.items c.take_least.new.adds.items c.in-Some.ensures.some place dropped c.if-added.push_staying c.push_staying.new.pairs.items
          within below tells stays c.push_staying.ensures.stays c.push_staying.ensures.goes;
      room = omega (arith, c.in-Some.ensures.fewer refl, c.push_staying.ensures.len, c.push_staying.ensures.capacity, c.loop-pair.invariant.room);
    }
