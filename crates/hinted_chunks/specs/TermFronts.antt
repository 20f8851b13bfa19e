-- The texts by which terms are ordered first: each is written for its term from the start, up to what ends it or is its first escape.
use Rattle.std.specs.Prelude.{ℕ, suc, List, [], ◌∷◌, ◌==◌, ◌||◌, Bool, if◌then◌else◌}
use Rattle.rdf_terms.specs.declared.terms.Term.{Term}
use Rattle.rdf_terms.specs.declared.terms.Term.TheVariants as terms
use Rattle.rdf_terms.specs.Literal.{lexical_form}
use Rattle.text_rules.specs.Marks.{line_feed, carriage_return, quote, backslash, less}
use Rattle.hinted_chunks.specs.ClosedTexts.{closed_text}

-- a byte of a lexical form that is written behind a backslash
abbrev pub is_put_behind : ℕ → Bool
is_put_behind byte = byte == quote || byte == backslash || byte == line_feed || byte == carriage_return

-- how many bytes come before the first such one
abbrev pub plain_length : List ℕ → ℕ
plain_length [] = 0
plain_length (byte ∷ bytes) = if is_put_behind byte then 0 else suc (plain_length bytes)

-- a lexical form up to its closing quote, or to its first backslash
abbrev pub plain_front : List ℕ → List ℕ
plain_front [] = quote ∷ []
plain_front (byte ∷ bytes) = if is_put_behind byte then backslash ∷ [] else byte ∷ plain_front bytes

-- an IRI with its marks, or a literal up to its closing quote or its first backslash
abbrev pub term_front : Term → List ℕ
term_front (terms.Iri iri) = less ∷ closed_text iri
term_front (terms.Literal literal) = quote ∷ plain_front (lexical_form literal)
