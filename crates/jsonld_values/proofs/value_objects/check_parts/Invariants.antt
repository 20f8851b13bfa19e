use Rattle.std.proofs.Common.{◌≡◌}
use Rattle.serde_json.specs.View.{members_view}
use Rattle.jsonld_context.specs.ContextReading.{first_fault}
use Rattle.jsonld_values.specs.ValueObjects.{fault_of_value_part}
use Rattle.jsonld_values.proofs.value_objects.check_parts.Given as goal

abbrev pub invariant-loop-key : goal.invariant-loop-key
invariant-loop-key l =
    let all = members_view l.parts.entries in
    let fault = fault_of_value_part l.context all in
    first_fault fault all ≡ first_fault fault (members_view l.key-iterator)
