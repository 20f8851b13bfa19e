use Rattle.std.proofs.Common.{◌+◌, ◌∷◌, ◌∙◌, refl, sym, ap, arith, Some}
use Rattle.mld_io.specs.declared.events.WireCall.TheVariants.{Took}
use Rattle.node_core.specs.Nodes.{node_banks, node_value}
use Rattle.node_run.specs.ServiceEnds.{HasEnded, HasTurned}
use Rattle.node_run.specs.ServiceStatuses.{stop_of_wire}
use Rattle.node_run.proofs.CountLaws.{counts_next, counts_turn, counts_behind}
use Rattle.node_run.proofs.LogLaws.{told_map, told_same}
use Rattle.node_core.proofs.of_shell_session.MeterLaws.{meters_none, meters_as, meters_then}
use Rattle.node_run.proofs.TurnLaws.{meters_waiting, some_same}
use Rattle.node_run.proofs.TakenLaws.{taken_first, taken_more, keeps_well, keeps_other, served_other, not_by_wire, not_by_turn}
use Rattle.node_run.proofs.WayLemmas.{below, way_first, way_more, stops_between, ends_waiting, ends_turn}
use Rattle.node_run.proofs.turns.take_turns.Goals as goal

pub loop-alloc-init : goal.loop-alloc-init
loop-alloc-init g c = record {
  way = λ texts words found old are same begun. way_first g.B.Banks.log found old texts c.args.turns (g.W.Wire.log c.args.wire.now) words c.args.state c.new-node.result are same begun c.new-node.ensures;
  so_far = taken_first c.args.state c.new-node.result (g.W.Wire.log c.args.wire.now) c.new-node.ensures;
  opened = rw c.new-node.ensures c.requires.opened;
  meters = meters_none _ _ (ap (λ n. g.B.Banks.meter (node_banks n)) c.new-node.ensures) (λ none. none);
  counted = c.requires.taken;
  few = omega arith;
  quiet = refl;
}

-- ---- the node has ended

pub returns-then-halted-clause-turns : goal.returns-then-halted-clause-turns
returns-then-halted-clause-turns g c = c.end_run.ensures.turns ∙ sym c.loop-alloc.invariant.counted

pub returns-then-halted-clause-bounded : goal.returns-then-halted-clause-bounded
returns-then-halted-clause-bounded g c =
    rw (c.end_run.ensures.fault, c.end_run.ensures.turns) (keeps_well c.loop-alloc.taken c.args.turns c.loop-alloc.invariant.few)

pub returns-then-halted-clause-served : goal.returns-then-halted-clause-served
returns-then-halted-clause-served g c =
    rw (c.end_run.ensures.fault, c.end_run.ensures.turns)
    (record { node = node_value c.loop-alloc.node; run = c.loop-alloc.invariant.so_far; so = sym c.halted.ensures ∙ c.if-halted.true })

pub returns-then-halted-clause-ends : goal.returns-then-halted-clause-ends
returns-then-halted-clause-ends g c = λ texts words found old first told are same begun.
    rw (c.end_run.ensures.fault, c.end_run.ensures.turns, c.end_run.ensures.banks)
    (stops_between g.B.Banks.log found old texts c.args.turns (g.W.Wire.log c.args.wire.now) c.node_steps_lead.ensures (g.W.Wire.log c.loop-alloc.wire) c.loop-alloc.node c.loop-alloc.taken
    (c.loop-alloc.invariant.way texts words found old are same begun) HasEnded c.stop.result (sym c.halted.ensures ∙ c.if-halted.true) c.stop.ensures.banks
    (c.stop.ensures.kept c.loop-alloc.invariant.opened))

pub returns-then-halted-clause-meter : goal.returns-then-halted-clause-meter
returns-then-halted-clause-meter g c =
    rw (c.end_run.ensures.fault, c.end_run.ensures.banks, c.stop.ensures.banks) (meters_as _ _ (λ same. absurd (cc (same))) (λ none. absurd none) c.loop-alloc.invariant.meters)

pub returns-then-halted-clause-wire : goal.returns-then-halted-clause-wire
returns-then-halted-clause-wire g c = rw c.end_run.ensures.fault c.loop-alloc.invariant.quiet

-- ---- all turns were taken

pub returns-then-taken-turns-clause-turns : goal.returns-then-taken-turns-clause-turns
returns-then-taken-turns-clause-turns g c = c.end_run-then-taken-turns.ensures.turns ∙ sym c.loop-alloc.invariant.counted

pub returns-then-taken-turns-clause-bounded : goal.returns-then-taken-turns-clause-bounded
returns-then-taken-turns-clause-bounded g c =
    rw (c.end_run-then-taken-turns.ensures.fault, c.end_run-then-taken-turns.ensures.turns)
    (record { few = c.loop-alloc.invariant.few; all = λ _. c.if-taken-turns.true })

pub returns-then-taken-turns-clause-served : goal.returns-then-taken-turns-clause-served
returns-then-taken-turns-clause-served g c =
    rw (c.end_run-then-taken-turns.ensures.fault, c.end_run-then-taken-turns.ensures.turns)
    (record { node = node_value c.loop-alloc.node; run = c.loop-alloc.invariant.so_far; so = sym c.halted.ensures ∙ c.if-halted.false })

pub returns-then-taken-turns-clause-ends : goal.returns-then-taken-turns-clause-ends
returns-then-taken-turns-clause-ends g c = λ texts words found old first told are same begun.
    rw (c.end_run-then-taken-turns.ensures.fault, c.end_run-then-taken-turns.ensures.turns, c.end_run-then-taken-turns.ensures.banks)
    (stops_between g.B.Banks.log found old texts c.args.turns (g.W.Wire.log c.args.wire.now) c.node_steps_lead.ensures (g.W.Wire.log c.loop-alloc.wire) c.loop-alloc.node c.loop-alloc.taken
    (c.loop-alloc.invariant.way texts words found old are same begun) HasTurned c.stop-then-taken-turns.result (sym c.halted.ensures ∙ c.if-halted.false, c.if-taken-turns.true)
    c.stop-then-taken-turns.ensures.banks (c.stop-then-taken-turns.ensures.kept c.loop-alloc.invariant.opened))

pub returns-then-taken-turns-clause-meter : goal.returns-then-taken-turns-clause-meter
returns-then-taken-turns-clause-meter g c =
    rw (c.end_run-then-taken-turns.ensures.fault, c.end_run-then-taken-turns.ensures.banks, c.stop-then-taken-turns.ensures.banks)
    (meters_as _ _ (λ same. absurd (cc (same))) (λ none. absurd none) c.loop-alloc.invariant.meters)

pub returns-then-taken-turns-clause-wire : goal.returns-then-taken-turns-clause-wire
returns-then-taken-turns-clause-wire g c = rw c.end_run-then-taken-turns.ensures.fault c.loop-alloc.invariant.quiet

-- ---- no event came

pub next-requires : goal.next-requires
next-requires g c = omega (arith, c.loop-alloc.invariant.counted, below c.loop-alloc.taken c.args.turns c.loop-alloc.invariant.few c.if-taken-turns.false)

pub returns-in-Err-clause-turns : goal.returns-in-Err-clause-turns
returns-in-Err-clause-turns g c = c.end_run-in-Err.ensures.turns ∙ sym c.loop-alloc.invariant.counted ∙ sym c.in-Err.ensures.taken

pub returns-in-Err-clause-bounded : goal.returns-in-Err-clause-bounded
returns-in-Err-clause-bounded g c =
    rw (c.end_run-in-Err.ensures.fault, c.wire_stop.ensures, c.end_run-in-Err.ensures.turns)
    (keeps_other (stop_of_wire c.in-Err.fault) c.loop-alloc.taken c.args.turns (not_by_wire c.in-Err.fault) c.loop-alloc.invariant.few)

pub returns-in-Err-clause-served : goal.returns-in-Err-clause-served
returns-in-Err-clause-served g c =
    rw (c.end_run-in-Err.ensures.fault, c.wire_stop.ensures, c.end_run-in-Err.ensures.turns)
    (served_other (stop_of_wire c.in-Err.fault) c.loop-alloc.taken (g.W.Wire.log c.args.wire.now) (g.W.Wire.log c.next.new.self) (not_by_wire c.in-Err.fault))

pub returns-in-Err-clause-ends : goal.returns-in-Err-clause-ends
returns-in-Err-clause-ends g c = λ texts words found old first told are same begun.
    let now = g.W.Wire.log c.loop-alloc.wire in
    let after = g.W.Wire.log c.next.new.self in
    rw (c.end_run-in-Err.ensures.fault, c.wire_stop.ensures, c.end_run-in-Err.ensures.turns, c.end_run-in-Err.ensures.banks, told_same now after c.in-Err.ensures.log c.in-Err.ensures.untold)
    (ends_waiting g.B.Banks.log found old texts c.args.turns (g.W.Wire.log c.args.wire.now) c.node_steps_lead.ensures now c.loop-alloc.node c.loop-alloc.taken
    (c.loop-alloc.invariant.way texts words found old are same begun) c.in-Err.fault c.stop-in-Err.result (sym c.halted.ensures ∙ c.if-halted.false)
    (below c.loop-alloc.taken c.args.turns c.loop-alloc.invariant.few c.if-taken-turns.false) c.stop-in-Err.ensures.banks (c.stop-in-Err.ensures.kept c.loop-alloc.invariant.opened))

pub returns-in-Err-clause-meter : goal.returns-in-Err-clause-meter
returns-in-Err-clause-meter g c =
    rw (c.end_run-in-Err.ensures.fault, c.wire_stop.ensures, c.end_run-in-Err.ensures.banks, c.stop-in-Err.ensures.banks) (meters_waiting c.in-Err.fault _ _ c.loop-alloc.invariant.meters)

pub returns-in-Err-clause-wire : goal.returns-in-Err-clause-wire
returns-in-Err-clause-wire g c =
    rw (c.end_run-in-Err.ensures.fault, c.wire_stop.ensures) (counts_behind (Some (stop_of_wire c.in-Err.fault)) (g.W.Wire.faults c.args.wire.now) (g.W.Wire.faults c.loop-alloc.wire) (g.W.Wire.faults c.next.new.self)
    c.loop-alloc.invariant.quiet (counts_next c.in-Err.fault (g.W.Wire.faults c.loop-alloc.wire) (g.W.Wire.faults c.next.new.self) c.in-Err.ensures.cause))

-- ---- one came

pub overflow_add-taken : goal.overflow_add-taken
overflow_add-taken g c = omega (arith, below c.loop-alloc.taken c.args.turns c.loop-alloc.invariant.few c.if-taken-turns.false)

pub take_event-requires-clause-opened : goal.take_event-requires-clause-opened
take_event-requires-clause-opened g c = λ κs outlives. c.loop-alloc.invariant.opened

pub returns-in-Err-take_event-clause-turns : goal.returns-in-Err-take_event-clause-turns
returns-in-Err-take_event-clause-turns g c =
    c.end_run-in-Err-take_event.ensures.turns ∙ omega (arith, c.loop-alloc.invariant.counted, c.in-Ok.ensures.taken, c.in-Err-take_event.ensures.taken)

pub returns-in-Err-take_event-clause-bounded : goal.returns-in-Err-take_event-clause-bounded
returns-in-Err-take_event-clause-bounded g c =
    let few = below c.loop-alloc.taken c.args.turns c.loop-alloc.invariant.few c.if-taken-turns.false in
    rw (c.end_run-in-Err-take_event.ensures.fault, c.end_run-in-Err-take_event.ensures.turns)
    (keeps_other c.in-Err-take_event.stop (c.loop-alloc.taken + 1) c.args.turns
    (not_by_turn c.in-Err-take_event.stop g.B.Banks.log c.loop-alloc.node c.in-Ok.event (g.W.Wire.log c.next.new.self) c.in-Err-take_event.banks (g.W.Wire.log c.take_event.new.wire) c.in-Err-take_event.ensures.stopped)
    (omega (arith, few)))

pub returns-in-Err-take_event-clause-served : goal.returns-in-Err-take_event-clause-served
returns-in-Err-take_event-clause-served g c =
    rw (c.end_run-in-Err-take_event.ensures.fault, c.end_run-in-Err-take_event.ensures.turns)
    (served_other c.in-Err-take_event.stop (c.loop-alloc.taken + 1) (g.W.Wire.log c.args.wire.now) (g.W.Wire.log c.take_event.new.wire)
    (not_by_turn c.in-Err-take_event.stop g.B.Banks.log c.loop-alloc.node c.in-Ok.event (g.W.Wire.log c.next.new.self) c.in-Err-take_event.banks (g.W.Wire.log c.take_event.new.wire) c.in-Err-take_event.ensures.stopped))

pub returns-in-Err-take_event-clause-ends : goal.returns-in-Err-take_event-clause-ends
returns-in-Err-take_event-clause-ends g c = λ texts words found old first told are same begun.
    let now = g.W.Wire.log c.loop-alloc.wire in
    let taking = g.W.Wire.log c.next.new.self in
    rw (c.end_run-in-Err-take_event.ensures.fault, c.end_run-in-Err-take_event.ensures.turns, c.end_run-in-Err-take_event.ensures.banks)
    (ends_turn g.B.Banks.log found old texts c.args.turns (g.W.Wire.log c.args.wire.now) c.node_steps_lead.ensures now c.loop-alloc.node c.loop-alloc.taken
    (c.loop-alloc.invariant.way texts words found old are same begun) (sym c.halted.ensures ∙ c.if-halted.false)
    (below c.loop-alloc.taken c.args.turns c.loop-alloc.invariant.few c.if-taken-turns.false) c.in-Ok.event taking (told_map (λ l. Took c.in-Ok.event ∷ l) now taking c.in-Ok.ensures.log c.in-Ok.ensures.untold)
    c.in-Err-take_event.stop first c.in-Err-take_event.banks (g.W.Wire.log c.take_event.new.wire) told c.in-Err-take_event.ensures.told c.in-Err-take_event.ensures.stopped)

pub returns-in-Err-take_event-clause-meter : goal.returns-in-Err-take_event-clause-meter
returns-in-Err-take_event-clause-meter g c =
    rw (c.end_run-in-Err-take_event.ensures.fault, c.end_run-in-Err-take_event.ensures.banks)
    (meters_as _ _ (λ same. some_same same) (λ same. ap (λ s. Some s) same) (meters_then _ _ _ (λ none. none) c.loop-alloc.invariant.meters c.in-Err-take_event.ensures.meter))

pub returns-in-Err-take_event-clause-wire : goal.returns-in-Err-take_event-clause-wire
returns-in-Err-take_event-clause-wire g c =
    rw c.end_run-in-Err-take_event.ensures.fault
    (counts_behind (Some c.in-Err-take_event.stop) (g.W.Wire.faults c.args.wire.now) (g.W.Wire.faults c.next.new.self) (g.W.Wire.faults c.take_event.new.wire)
    (c.in-Ok.ensures.cause.good ∙ c.loop-alloc.invariant.quiet)
    (counts_turn c.in-Err-take_event.stop c.in-Err-take_event.banks (g.W.Wire.faults c.next.new.self) (g.W.Wire.faults c.take_event.new.wire) c.in-Err-take_event.ensures.wire))

pub loop-alloc-smaller-in-Ok-take_event : goal.loop-alloc-smaller-in-Ok-take_event
loop-alloc-smaller-in-Ok-take_event g c = omega (arith, below c.loop-alloc.taken c.args.turns c.loop-alloc.invariant.few c.if-taken-turns.false)

pub loop-alloc-preserved-in-Ok-take_event : goal.loop-alloc-preserved-in-Ok-take_event
loop-alloc-preserved-in-Ok-take_event g c =
    let now = g.W.Wire.log c.loop-alloc.wire in
    let taking = g.W.Wire.log c.next.new.self in
    let few = below c.loop-alloc.taken c.args.turns c.loop-alloc.invariant.few c.if-taken-turns.false in
    let at = c.in-Ok-take_event in
    record {
      way = λ texts words found old are same begun.
          way_more g.B.Banks.log found old texts c.args.turns (g.W.Wire.log c.args.wire.now) c.node_steps_lead.ensures now c.loop-alloc.node c.loop-alloc.taken
          (c.loop-alloc.invariant.way texts words found old are same begun) (sym c.halted.ensures ∙ c.if-halted.false) few c.in-Ok.event taking
          (told_map (λ l. Took c.in-Ok.event ∷ l) now taking c.in-Ok.ensures.log c.in-Ok.ensures.untold) at.node (g.W.Wire.log c.take_event.new.wire) at.ensures.told at.ensures.done;
      so_far = taken_more (node_value c.loop-alloc.node) (node_value at.node) c.loop-alloc.taken (g.W.Wire.log c.args.wire.now) now taking (g.W.Wire.log c.take_event.new.wire) c.in-Ok.event
          at.ensures.done.sent at.ensures.done.does.steps c.loop-alloc.invariant.so_far (sym c.halted.ensures ∙ c.if-halted.false)
          (told_map (λ l. Took c.in-Ok.event ∷ l) now taking c.in-Ok.ensures.log c.in-Ok.ensures.untold) at.ensures.done.does.does at.ensures.done.sends;
      opened = at.ensures.opened;
      meters = meters_then _ _ _ (λ none. none) c.loop-alloc.invariant.meters at.ensures.meter;
      counted = omega (arith, c.loop-alloc.invariant.counted, c.in-Ok.ensures.taken, at.ensures.taken);
      few = omega (arith, few);
      quiet = at.ensures.wire.good ∙ c.in-Ok.ensures.cause.good ∙ c.loop-alloc.invariant.quiet;
    }

pub loop-alloc-smaller : goal.loop-alloc-smaller
loop-alloc-smaller g c = omega (arith, below c.loop-alloc.taken c.args.turns c.loop-alloc.invariant.few c.if-taken-turns.false)

pub loop-alloc-preserved : goal.loop-alloc-preserved
loop-alloc-preserved g c =
    let now = g.W.Wire.log c.loop-alloc.wire in
    let taking = g.W.Wire.log c.next.new.self in
    let few = below c.loop-alloc.taken c.args.turns c.loop-alloc.invariant.few c.if-taken-turns.false in
    let at = c.in-Ok-take_event in
    record {
      way = λ texts words found old are same begun.
          way_more g.B.Banks.log found old texts c.args.turns (g.W.Wire.log c.args.wire.now) c.node_steps_lead.ensures now c.loop-alloc.node c.loop-alloc.taken
          (c.loop-alloc.invariant.way texts words found old are same begun) (sym c.halted.ensures ∙ c.if-halted.false) few c.in-Ok.event taking
          (told_map (λ l. Took c.in-Ok.event ∷ l) now taking c.in-Ok.ensures.log c.in-Ok.ensures.untold) at.node (g.W.Wire.log c.take_event.new.wire) at.ensures.told at.ensures.done;
      so_far = taken_more (node_value c.loop-alloc.node) (node_value at.node) c.loop-alloc.taken (g.W.Wire.log c.args.wire.now) now taking (g.W.Wire.log c.take_event.new.wire) c.in-Ok.event
          at.ensures.done.sent at.ensures.done.does.steps c.loop-alloc.invariant.so_far (sym c.halted.ensures ∙ c.if-halted.false)
          (told_map (λ l. Took c.in-Ok.event ∷ l) now taking c.in-Ok.ensures.log c.in-Ok.ensures.untold) at.ensures.done.does.does at.ensures.done.sends;
      opened = at.ensures.opened;
      meters = meters_then _ _ _ (λ none. none) c.loop-alloc.invariant.meters at.ensures.meter;
      counted = omega (arith, c.loop-alloc.invariant.counted, c.in-Ok.ensures.taken, at.ensures.taken);
      few = omega (arith, few);
      quiet = at.ensures.wire.good ∙ c.in-Ok.ensures.cause.good ∙ c.loop-alloc.invariant.quiet;
    }
