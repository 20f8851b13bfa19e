-- The events that are left were filtered.
use Rattle.std.proofs.Common.{rules, arith, ◌≡◌, filter}
use Rattle.std.proofs.lemmas.Fn.{filter_same}
use Rattle.mld_io.specs.Wires.{is_event}
use Rattle.mld_io.proofs.EventLists.{all_filtered}
use Rattle.mld_io.proofs.memory_wire.MemoryWire.new.Goals as goal

pub invariant_of-result : goal.invariant_of-result
invariant_of-result c =
    let kept : c.retain.new.self.items ≡ filter is_event c.args.events.items =
    filter_same _ is_event _ (λ x b f k. search rules) _ _ c.retain.ensures.filtered in
    record { within = omega arith; sized = rw kept (all_filtered c.args.events.items) }

pub returns : goal.returns
returns c =
    let kept : c.retain.new.self.items ≡ filter is_event c.args.events.items =
    filter_same _ is_event _ (λ x b f k. search rules) _ _ c.retain.ensures.filtered in
    rw kept (λ i. record { left = filter is_event c.args.events.items; log = c.new.ensures i; faults = 0; calls = 0; fails = c.in_ok-fails.ensures.items i })
