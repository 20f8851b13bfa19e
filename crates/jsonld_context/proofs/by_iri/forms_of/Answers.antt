use Rattle.std.proofs.Common.{◌≡◌, ◌∙◌, List, take, sym, ap}
use Rattle.std.specs.BTreeMap.{get_by_text}
use Rattle.std.specs.Option.{option_or}
use Rattle.std.proofs.lemmas.List.{take_all}
use Rattle.jsonld_context.specs.FormsFound.{name_for, label_for, least_label}
use Rattle.jsonld_context.specs.ShortForms.{term_for, least_with}
use Rattle.jsonld_context.specs.declared.definitions.Definition.{Definition}
use Rattle.jsonld_context.proofs.CompactFronts.{prefixed}
use Rattle.jsonld_context.proofs.Least.{label_more, name_more}
use Rattle.jsonld_context.proofs.by_iri.forms_of.Goals as goal

pub loop-term-preserved : goal.loop-term-preserved
loop-term-preserved c =
    let terms = c.args.terms.now in
    let i = c.loop-term.term-index in
    let term = c.term-item.result in
    record {
      names = λ iri. c.in_ok-note_term.ensures iri ∙ (ap (λ found. option_or found (name_for iri term)) (c.loop-term.invariant.names iri) ∙ sym (name_more terms i term c.loop-term-test.true c.term-item.is iri));
      labels = λ front. c.in_ok-note_prefix.ensures front ∙ (ap (λ found. least_with found (label_for front term)) (c.loop-term.invariant.labels front) ∙ sym (label_more terms i term c.loop-term-test.true c.term-item.is front));
    }

pub returns : goal.returns
returns c =
    let terms = c.args.terms.now in
    let whole : take c.loop-term.term-index terms ≡ terms = take_all c.loop-term.term-index terms c.loop-term-test.false in
    record {
      names = λ iri. c.loop-term.invariant.names iri ∙ ap (λ (l : List Definition). term_for l iri) whole;
      prefixed = prefixed (get_by_text c.loop-term.prefixes) terms c.requires.names c.requires.delimited (λ front. c.loop-term.invariant.labels front ∙ ap (λ (l : List Definition). least_label l front) whole);
    }
