use Rattle.std.proofs.Common.{◌≡◌, ℕ, List, take}
use Rattle.std.specs.BTreeMap.{get_by_text}
use Rattle.jsonld_context.specs.FormsFound.{least_label}
use Rattle.jsonld_context.specs.ShortForms.{term_for}
use Rattle.jsonld_context.proofs.by_iri.forms_of.Given as goal

abbrev pub invariant-loop-term : goal.invariant-loop-term
invariant-loop-term l = record {
  names : (iri : List ℕ) → get_by_text l.names iri ≡ term_for (take l.term-index l.terms) iri;
  labels : (front : List ℕ) → get_by_text l.prefixes front ≡ least_label (take l.term-index l.terms) front;
}
