-- The next event is given, and the ones behind it are left.
use Rattle.std.proofs.Common.{rules, length, ◌≡◌, ◌∷◌, ◌∙◌, ap, drop}
use Rattle.mld_io.specs.declared.events.WireCall.TheVariants.{Took}
use Rattle.mld_io.specs.Faults.{counted}
use Rattle.mld_io.specs.MemoryWires.{WireValue, first_event}
use Rattle.mld_io.proofs.EventLists.{first_sized, left_after}
use Rattle.mld_io.proofs.memory_wire.MemoryWireWire.next.Goals as goal

pub returns-clause-sized : goal.returns-clause-sized
returns-clause-sized c =
    let first : c.in_ok-event.event ≡ first_event (drop c.self.inside.at c.self.inside.events.items) = search rules in
    rw first (first_sized c.self.inside.at c.self.inside.events.items c.self.invariant.sized)

pub returns-clause-moves : goal.returns-clause-moves
returns-clause-moves c =
    let first : c.in_ok-event.event ≡ first_event (drop c.self.inside.at c.self.inside.events.items) = search rules in
    let told : c.add.new.self ≡ Took c.in_ok-event.event ∷ c.self.inside.done = search rules in
    let calls : c.saturating_add-self-inside.result ≡ counted c.self.inside.calls = search rules in
    let long : c.len.result ≡ length c.self.inside.events.items = search rules in
    let left : drop c.min-self-inside.result c.self.inside.events.items ≡ drop 1 (drop c.self.inside.at c.self.inside.events.items) =
    rw c.min-self-inside.ensures (rw long (left_after c.self.inside.at c.self.inside.events.items c.self.invariant.within)) in
    let same = c.self.view_is ∙ c.if-fails.ensures.fails.1 in (
      first ∙ ap (λ (v : WireValue). first_event v.left) same,
      (λ i. record { left = left i; log = told i; faults = c.self.inside.faults; calls = calls i; fails = c.self.inside.fails.items })
          ∙ ap (λ (v : WireValue). record { left = drop 1 v.left; log = Took c.in_ok-event.event ∷ v.log; faults = v.faults; calls = counted v.calls; fails = v.fails }) same,
    )
