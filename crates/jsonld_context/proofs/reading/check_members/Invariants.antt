use Rattle.std.proofs.Common.{◌≡◌, None}
use Rattle.serde_json.specs.View.{members_view}
use Rattle.jsonld_context.specs.ContextReading.{first_fault, fault_of_member}
use Rattle.jsonld_context.proofs.reading.check_members.Given as goal

abbrev pub invariant-loop-key : goal.invariant-loop-key
invariant-loop-key l =
    let fault = fault_of_member None (members_view l.all.entries) in
    first_fault fault (members_view l.all.entries) ≡ first_fault fault (members_view l.key-iterator)
