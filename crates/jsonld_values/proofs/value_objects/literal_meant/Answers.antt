use Rattle.std.proofs.Common.{◌≡◌, ℕ, ◌≤◌, List, Some, length, codes, String, Global, string_bytes, rules, sym, ap, subst, ◌∙◌}
use Rattle.rdf_terms.specs.Literal.{lexical_limit}
use Rattle.serde_json.specs.Data.{string}
use Rattle.serde_json.specs.Find.{get_member}
use Rattle.serde_json.specs.View.{view, members_view}
use Rattle.serde_json.specs.declared.value.Value.{Value, String as Written, the_lemmas}
use Rattle.jsonld_values.proofs.ValueParts.{string_said}
use Rattle.jsonld_values.proofs.value_objects.literal_meant.Goals as goal

view_of_string : (text : String Global) → view (Written text) ≡ string (string_bytes text)
view_of_string text = search (rules, the_lemmas)

pub literal_beside-requires-in-String-clause-short : goal.literal_beside-requires-in-String-clause-short
literal_beside-requires-in-String-clause-short c =
    let parts = members_view c.args.parts.now.entries in
    let text = string_bytes c.in-String.text in
    let got : get_member (codes "@value") parts ≡ Some (string text) =
    sym c.in-Some.ensures ∙ (ap (λ (v : Value). Some (view v)) c.in-String.is ∙ ap Some (view_of_string c.in-String.text)) in
    subst (λ (t : List ℕ). length t ≤ lexical_limit) (sym c.as_str.ensures.value) (string_said c.args.context.now parts c.requires text got)
