use Rattle.std.proofs.Common.{◌≡◌, ℕ, List, [], ◌∷◌, ◌++◌, false, map, string_bytes, sym, ap, subst, ◌∙◌}
use Rattle.std.specs.List.{list_any}
use Rattle.rdf_terms.specs.Literal.{is_same}
use Rattle.jsonld_values.proofs.Naming.{put_behind}
use Rattle.jsonld_values.proofs.names.put.Goals as goal

pub returns-clause-ok : goal.returns-clause-ok
returns-clause-ok c =
    let names = c.args.named.now.keys in
    let text = c.in_ok-from_str.ensures.ok in
    let new = subst (λ (t : List ℕ). list_any (is_same t) (map string_bytes names) ≡ false) (sym text) c.requires in
    ap (map string_bytes) c.in_ok-insert.ensures.keys
    ∙ (put_behind names c.in_ok-from_str.field-0 new ∙ ap (λ (t : List ℕ). map string_bytes names ++ t ∷ []) text)
