-- The parts are without a fault, so the type is a datatype that literals may have.
use Rattle.std.proofs.Common.{ℕ, List, Option, sym, ap, ◌∙◌}
use Rattle.std.specs.Option.{option_map_or}
use Rattle.serde_json.specs.View.{members_view}
use Rattle.jsonld_context.specs.Expanding.{key_meant, expand_key}
use Rattle.jsonld_values.proofs.ValueParts.{type_said, datatype_allowed, datatype_read, key_read}
use Rattle.jsonld_values.proofs.value_objects.datatype_said.Goals as goal

pub returns-in-Ok-clause-iri : goal.returns-in-Ok-clause-iri
returns-in-Ok-clause-iri c =
    let context = c.args.context.now in
    sym (key_read context c.in-Some.text.now c.in-Ok.iri c.in-Ok.ensures.ok)
    ∙ ap (λ (o : Option (List ℕ)). option_map_or (key_meant context.vocabulary context.terms) o c.args.other.now) c.in-Some.ensures

pub returns-in-Ok-clause-allowed : goal.returns-in-Ok-clause-allowed
returns-in-Ok-clause-allowed c =
    let context = c.args.context.now in
    let parts = members_view c.args.parts.now.entries in
    datatype_allowed (expand_key context c.in-Some.text.now) c.in-Ok.iri
    (type_said context parts c.requires.sound c.in-Some.text.now (sym c.in-Some.ensures)) c.in-Ok.ensures.ok

pub want_of_memory-requires : goal.want_of_memory-requires
want_of_memory-requires c = λ other.
    let context = c.args.context.now in
    let parts = members_view c.args.parts.now.entries in
    datatype_read (expand_key context c.in-Some.text.now) c.in-Err.fault
    (type_said context parts c.requires.sound c.in-Some.text.now (sym c.in-Some.ensures)) (c.in-Err.ensures.err other)
