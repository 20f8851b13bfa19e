-- The order in which replies have terms. Integers come by value (XML Schema Part 2, section 3.4.13; so SPARQL 1.1 Query
-- Language, section 15.1, has them too); all other terms come in the order of terms, in which literals come before IRIs.
use Rattle.std.specs.Prelude.{ℕ, ℤ, pos, Option, None, if◌then◌else◌}
use Rattle.std.specs.Option.{is_some, unwrap_or}
use Rattle.std.specs.Ordering.{nat_cmp, int_cmp, ordering_then}
use Rattle.std.specs.declared.cmp.Ordering.{Ordering}
use Rattle.text_rules.specs.Integers.{plain_integer_value}
use Rattle.rdf_terms.specs.declared.terms.Term.{Term}
use Rattle.rdf_terms.specs.declared.terms.Term.TheVariants as terms
use Rattle.rdf_terms.specs.Literal.{LiteralValue, has_datatype, lexical_form, xsd_integer}
use Rattle.rdf_terms.specs.Order.{term_cmp}

-- the value of an xsd:integer whose lexical form is a plain integer
abbrev pub literal_integer : LiteralValue → Option ℤ
literal_integer literal = if has_datatype xsd_integer literal then plain_integer_value (lexical_form literal) else None

-- the value of a term that is such a literal
abbrev pub integer_of : Term → Option ℤ
integer_of (terms.Iri iri) = None
integer_of (terms.Literal literal) = literal_integer literal

-- such literals come first, then the other literals, then the IRIs
abbrev pub reply_rank : Term → ℕ
reply_rank (terms.Iri iri) = 2
reply_rank (terms.Literal literal) = if is_some (literal_integer literal) then 0 else 1

-- the value by which such literals are ordered; the others have none
abbrev pub reply_number : Term → ℤ
reply_number term = unwrap_or (integer_of term) (pos 0)

-- by rank, then by value, then in the order of terms
unfoldable pub reply_cmp : Term → Term → Ordering
reply_cmp a b =
    ordering_then (nat_cmp (reply_rank a) (reply_rank b))
    (ordering_then (int_cmp (reply_number a) (reply_number b)) (term_cmp a b))
