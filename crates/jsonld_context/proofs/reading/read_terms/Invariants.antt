use Rattle.std.proofs.Common.{◌≡◌, ◌++◌, Some}
use Rattle.serde_json.specs.View.{members_view}
use Rattle.jsonld_context.specs.ContextReading.{first_fault, fault_of_member, definitions}
use Rattle.jsonld_context.proofs.reading.read_terms.Given as goal

abbrev pub invariant-loop-key : goal.invariant-loop-key
invariant-loop-key l =
    let all = members_view l.all.entries in
    let rest = members_view l.key-iterator in
    let fault = fault_of_member (Some l.vocabulary) all in
    record {
      faults : first_fault fault all ≡ first_fault fault rest;
      terms : definitions l.vocabulary all all ≡ l.terms.items ++ definitions l.vocabulary all rest;
    }
