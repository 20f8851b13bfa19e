use Rattle.std.proofs.Common.{length, refl, sym, ◌∙◌, ap, arith, inl, inr}
use Rattle.std.proofs.lemmas.List.{nil_from_length}
use Rattle.std.specs.Vec.Iter.{into_iter_items}
use Rattle.node_core.proofs.UnderWay.{way_first, way_more, way_drops, way_ends, way_stops, way_tells, way_good, same_without}
use Rattle.node_core.proofs.frames.take_frames.Goals as goal

pub loop-frame-init : goal.loop-frame-init
loop-frame-init g c = record {
  way = way_first g.B.Banks.log g.B.Banks.meter c.args.state c.args.frames.items c.args.exchange.now (into_iter_items c.into_iter-frame-iterator.result) c.into_iter-frame-iterator.ensures.into_iter_gives.0 c.requires.opened c.requires.goes_on;
  counted = omega (arith, c.into_iter-frame-iterator.ensures.into_iter_gives.1, ap length c.into_iter-frame-iterator.ensures.into_iter_gives.0);
}

pub returns-then-is_halted-clause-done : goal.returns-then-is_halted-clause-done
returns-then-is_halted-clause-done g c =
    way_drops g.B.Banks.log g.B.Banks.meter c.args.state c.args.frames.items c.args.exchange.now c.loop-frame.state c.loop-frame.exchange c.loop-frame.exchange (into_iter_items c.loop-frame.frame-iterator) c.loop-frame.invariant.way refl
    (inl (sym c.is_halted.ensures ∙ c.if-is_halted.true))

pub returns-in_default-clause-done : goal.returns-in_default-clause-done
returns-in_default-clause-done g c =
    let none = sym c.take_at_hand.ensures.taken ∙ c.in_default.is in
    way_drops g.B.Banks.log g.B.Banks.meter c.args.state c.args.frames.items c.args.exchange.now c.loop-frame.state c.loop-frame.exchange c.take_at_hand.new.self (into_iter_items c.loop-frame.frame-iterator) c.loop-frame.invariant.way
    (c.take_at_hand.ensures.left ∙ same_without c.loop-frame.exchange none) (inr none)

pub take_frame-requires-clause-good : goal.take_frame-requires-clause-good
take_frame-requires-clause-good g c = λ κs outlives.
    way_good g.B.Banks.log g.B.Banks.meter c.args.state c.args.frames.items c.args.exchange.now c.loop-frame.state c.loop-frame.exchange (into_iter_items c.loop-frame.frame-iterator) c.take_at_hand.result c.in-Some-take_at_hand.one c.loop-frame.invariant.way
    c.take_at_hand.ensures.taken c.in-Some-take_at_hand.is

pub returns-in-Err-clause-stopped : goal.returns-in-Err-clause-stopped
returns-in-Err-clause-stopped g c =
    way_stops g.B.Banks.log g.B.Banks.meter c.args.state c.args.frames.items c.args.exchange.now c.loop-frame.state c.loop-frame.exchange (into_iter_items c.loop-frame.frame-iterator) (into_iter_items c.next.new.self) c.take_at_hand.result c.in-Some-take_at_hand.one c.in-Some.frame c.in-Err.refused.1
    c.loop-frame.invariant.way c.in-Some.ensures.steps.0 (sym c.is_halted.ensures ∙ c.if-is_halted.false) c.take_at_hand.ensures.taken c.in-Some-take_at_hand.is c.in-Err.ensures.stopped

pub returns-in-Err-clause-told : goal.returns-in-Err-clause-told
returns-in-Err-clause-told g c =
    way_tells g.B.Banks.log g.B.Banks.meter c.args.state c.args.frames.items c.args.exchange.now c.loop-frame.state c.loop-frame.exchange (into_iter_items c.loop-frame.frame-iterator) c.in-Err.refused.1 c.loop-frame.invariant.way c.in-Err.ensures.told

pub loop-frame-preserved : goal.loop-frame-preserved
loop-frame-preserved g c = record {
  way = way_more g.B.Banks.log g.B.Banks.meter c.args.state c.args.frames.items c.args.exchange.now c.loop-frame.state c.in-Ok.next c.loop-frame.exchange c.take_at_hand.new.self c.take_frame.new.exchange (into_iter_items c.loop-frame.frame-iterator) (into_iter_items c.next.new.self) c.take_at_hand.result c.in-Some-take_at_hand.one c.in-Some.frame
      c.loop-frame.invariant.way c.in-Some.ensures.steps.0 (sym c.is_halted.ensures ∙ c.if-is_halted.false) c.take_at_hand.ensures.taken c.take_at_hand.ensures.left c.in-Some-take_at_hand.is c.in-Ok.ensures.done c.in-Ok.ensures.opened c.in-Ok.ensures.told c.in-Ok.ensures.fault;
  counted = omega (arith, c.loop-frame.invariant.counted, c.in-Some.ensures.steps.1, ap length c.in-Some.ensures.steps.0);
}

pub returns-clause-done : goal.returns-clause-done
returns-clause-done g c =
    way_ends g.B.Banks.log g.B.Banks.meter c.args.state c.args.frames.items c.args.exchange.now c.loop-frame.state c.loop-frame.exchange (into_iter_items c.loop-frame.frame-iterator) c.loop-frame.invariant.way
    (nil_from_length (into_iter_items c.loop-frame.frame-iterator) (sym c.loop-frame.invariant.counted ∙ c.in-None.ensures.steps.0))
