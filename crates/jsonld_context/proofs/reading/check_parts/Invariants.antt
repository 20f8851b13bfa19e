use Rattle.std.proofs.Common.{◌≡◌}
use Rattle.serde_json.specs.View.{members_view}
use Rattle.jsonld_context.specs.ContextReading.{first_fault, fault_of_part}
use Rattle.jsonld_context.proofs.reading.check_parts.Given as goal

abbrev pub invariant-loop-key : goal.invariant-loop-key
invariant-loop-key l =
    let fault = fault_of_part (members_view l.all.entries) l.term in
    first_fault fault (members_view l.parts.entries) ≡ first_fault fault (members_view l.key-iterator)
