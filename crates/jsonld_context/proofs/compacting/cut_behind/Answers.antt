use Rattle.std.proofs.Common.{◌≡◌, ◌∙◌, ℕ, List, true, false, get_or, rules, sym, ap}
use Rattle.std.proofs.lemmas.Str.{IsCharBoundary-after_ascii}
use Rattle.text_rules.specs.TextForms.{is_delimiter}
use Rattle.jsonld_context.proofs.Delimiters.{front_ends, delimiter_ascii}
use Rattle.jsonld_context.proofs.compacting.cut_behind.Goals as goal

pub range-requires-clause-end_boundary : goal.range-requires-clause-end_boundary
range-requires-clause-end_boundary c =
    let text = c.args.iri.now in
    let told : is_delimiter (get_or text c.args.place 0) ≡ true =
    ap (λ (bytes : List ℕ). is_delimiter (get_or bytes c.args.place 0)) (sym c.as_bytes.ensures.value) ∙ (sym c.is_delimiter.ensures ∙ c.if-is_delimiter.true) in
    IsCharBoundary-after_ascii text c.args.place c.utf8.iri c.requires (delimiter_ascii (get_or text c.args.place 0) told)

pub range_from-requires : goal.range_from-requires
range_from-requires c =
    let text = c.args.iri.now in
    let told : is_delimiter (get_or text c.args.place 0) ≡ true =
    ap (λ (bytes : List ℕ). is_delimiter (get_or bytes c.args.place 0)) (sym c.as_bytes.ensures.value) ∙ (sym c.is_delimiter.ensures ∙ c.if-is_delimiter.true) in
    λ _. IsCharBoundary-after_ascii text c.args.place c.utf8.iri c.requires (delimiter_ascii (get_or text c.args.place 0) told)

pub returns-then-is_delimiter : goal.returns-then-is_delimiter
returns-then-is_delimiter c =
    let text = c.args.iri.now in
    let told : is_delimiter (get_or text c.args.place 0) ≡ true =
    ap (λ (bytes : List ℕ). is_delimiter (get_or bytes c.args.place 0)) (sym c.as_bytes.ensures.value) ∙ (sym c.is_delimiter.ensures ∙ c.if-is_delimiter.true) in
    (front_ends text c.args.place 0 c.requires ∙ told, search rules, search rules)

pub returns-else-is_delimiter : goal.returns-else-is_delimiter
returns-else-is_delimiter c =
    let text = c.args.iri.now in
    let told : is_delimiter (get_or text c.args.place 0) ≡ false =
    ap (λ (bytes : List ℕ). is_delimiter (get_or bytes c.args.place 0)) (sym c.as_bytes.ensures.value) ∙ (sym c.is_delimiter.ensures ∙ c.if-is_delimiter.false) in
    front_ends text c.args.place 0 c.requires ∙ told
