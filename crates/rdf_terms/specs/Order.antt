-- The order of terms, by the bytes of what is written for them, and of triples, by subject, predicate and object.
use Rattle.std.specs.Prelude.{ℕ, List}
use Rattle.std.specs.Cmp.Lexicographic.{slice_cmp}
use Rattle.std.specs.Ordering.{nat_cmp, ordering_then}
use Rattle.std.specs.declared.cmp.Ordering.{Ordering}
use Rattle.rdf_terms.specs.declared.terms.Term.{Term}
use Rattle.rdf_terms.specs.declared.terms.Triple.{Triple}
use Rattle.rdf_terms.specs.Literal.{LiteralValue}
use Rattle.rdf_terms.specs.Spelling.{iri_text, literal_text, term_text}

-- the order of IRIs
abbrev pub iri_cmp : List ℕ → List ℕ → Ordering
iri_cmp a b = slice_cmp nat_cmp (iri_text a) (iri_text b)

-- the order of literals
abbrev pub literal_cmp : LiteralValue → LiteralValue → Ordering
literal_cmp a b = slice_cmp nat_cmp (literal_text a) (literal_text b)

-- the order of terms
unfoldable pub term_cmp : Term → Term → Ordering
term_cmp a b = slice_cmp nat_cmp (term_text a) (term_text b)

-- the order of triples
unfoldable pub triple_cmp : Triple → Triple → Ordering
triple_cmp a b =
    ordering_then (iri_cmp a.s b.s) (ordering_then (iri_cmp a.p b.p) (term_cmp a.o b.o))
