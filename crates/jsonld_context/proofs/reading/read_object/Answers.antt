-- Where the parts are without a fault, that of the object is the fault of its IRI, and its type has none.
use Rattle.std.proofs.Common.{◌≡◌, ◌∙◌, sym, ap, Some, None, Option}
use Rattle.std.proofs.lemmas.Result.{err_from_is_err_and}
use Rattle.serde_json.specs.View.{members_view}
use Rattle.jsonld_context.specs.ContextReading.{fault_of_object_iri, fault_of_object_type}
use Rattle.jsonld_context.specs.declared.faults.JsonFault.{JsonFault}
use Rattle.jsonld_context.proofs.TermObjects.{object_fault, no_type_fault}
use Rattle.jsonld_context.proofs.reading.read_object.Goals as goal

pub returns-in_err-iri : goal.returns-in_err-iri
returns-in_err-iri c =
    let all = members_view c.args.all.now.entries in
    let parts = members_view c.args.parts.now.entries in
    let same = object_fault c.args.vocabulary.now all c.args.term.now parts c.in_ok-check_parts.ensures.0 in
    let p = err_from_is_err_and c.from_residual-in_err-iri.result c.from_residual-in_err-iri.ensures.1 in
    rw (p.1, p.2) (λ named. same ∙ (ap (fault_of_object_iri c.args.vocabulary.now all c.args.term.now) (sym c.string_at.ensures) ∙ c.in_err-iri.ensures named))

pub returns-in_err-coercion : goal.returns-in_err-coercion
returns-in_err-coercion c =
    let all = members_view c.args.all.now.entries in
    let parts = members_view c.args.parts.now.entries in
    let same = no_type_fault c.args.vocabulary.now all c.args.term.now parts c.in_ok-check_parts.ensures.0 in
    let p = err_from_is_err_and c.from_residual-in_err-coercion.result c.from_residual-in_err-coercion.ensures.1 in
    rw (p.1, p.2)
    (λ named.
    let clash : ◌≡◌ {A = Option JsonFault} None (Some c.in_err-coercion.field-0.0) =
    sym same ∙ (ap (fault_of_object_type all c.args.term.now) (sym c.string_at-2.ensures) ∙ c.in_err-coercion.ensures named) in
    absurd (cc clash))
