-- Compact IRIs: `prefix:rest`, where the prefix is one of the context and the rest doesn't begin with `//`
-- (JSON-LD 1.1 section 4.1.5; JSON-LD 1.1 API section 5.2, IRI Expansion).
use Rattle.std.specs.Prelude.{ℕ, List, ◌++◌, ◌&&◌, not, Option, None, if◌then◌else◌}
use Rattle.std.specs.Option.{option_map_or}
use Rattle.text_rules.specs.References.{begins_authority}
use Rattle.text_rules.specs.TextForms.{has_colon, before_colon, behind_colon}

-- the IRI of the prefix that stands before a text's first `:`, where the text is a compact IRI; prefixes are looked up by name
abbrev pub prefix_at : (List ℕ → Option (List ℕ)) → List ℕ → Option (List ℕ)
prefix_at prefix text = if has_colon text && not (begins_authority (behind_colon text)) then prefix (before_colon text) else None

-- what a text stands for: the prefix's IRI and the rest where it is a compact IRI, else itself
abbrev pub expanded : (List ℕ → Option (List ℕ)) → List ℕ → List ℕ
expanded prefix text = option_map_or (λ iri. iri ++ behind_colon text) (prefix_at prefix text) text
