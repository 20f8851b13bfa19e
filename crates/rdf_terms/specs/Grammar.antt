-- The grammar of a triple (N-Triples 1.1, the rule `triple`, with no blank nodes, and with blanks allowed before, between
-- and after the terms and the dot).
use Rattle.std.specs.Prelude.{◌≡◌, ℕ, List, [], ◌∷◌, ◌++◌, ◌⊎◌, Bool, ◌||◌, not, ◌==◌, ◌≤◌, IsTrue, length}
use Rattle.std.specs.List.{list_all}
use Rattle.std.specs.Str.{str_to_ascii_lowercase}
use Rattle.text_rules.specs.Iri.{is_iri, iri_limit}
use Rattle.rdf_terms.specs.declared.terms.Term.{Term}
use Rattle.rdf_terms.specs.declared.terms.Term.TheVariants as terms
use Rattle.rdf_terms.specs.declared.terms.Triple.{Triple}
use Rattle.rdf_terms.specs.Escapes.{SpellsPieces, IsIriPiece, IsLexicalPiece}
use Rattle.text_rules.specs.Tags.{is_language_tag}
use Rattle.rdf_terms.specs.Literal.{LiteralValue, Typed, Tagged, xsd_string, rdf_lang_string, is_same, lexical_limit}
use Rattle.text_rules.specs.Marks.{tab, space, quote, dot, less, greater, at_sign, hat}

-- a space or a tab
abbrev pub is_blank : ℕ → Bool
is_blank byte = byte == space || byte == tab

-- spaces and tabs alone, or nothing
abbrev pub is_blanks : List ℕ → Bool
is_blanks = list_all is_blank

-- the text spells the IRI in its angle brackets, of any length
pub record SpellsIri (text iri : List ℕ) : Type 0 where
  pub body : List ℕ
  pub pieces : SpellsPieces IsIriPiece body iri
  pub absolute : IsTrue (is_iri iri)
  pub whole : text ≡ less ∷ (body ++ greater ∷ [])

-- the text spells the IRI, which isn't too long
pub record IsIriText (text iri : List ℕ) : Type 0 where
  pub spelled : SpellsIri text iri
  pub within : length iri ≤ iri_limit

-- the text spells the lexical form in its quotes
pub record SpellsLexical (text lexical : List ℕ) : Type 0 where
  pub body : List ℕ
  pub pieces : SpellsPieces IsLexicalPiece body lexical
  pub whole : text ≡ quote ∷ (body ++ quote ∷ [])

-- the text behind the quotes names the datatype: nothing is xsd:string
abbrev pub SpellsDatatype : List ℕ → List ℕ → Type 0
SpellsDatatype text datatype =
    ((text ≡ []) × (datatype ≡ xsd_string))
    ⊎ ((named : List ℕ) × SpellsIri named datatype × IsTrue (not (is_same datatype rdf_lang_string)) × (text ≡ hat ∷ hat ∷ named))

-- the text behind the quotes names the language tag, in any case
abbrev pub SpellsTag : List ℕ → List ℕ → Type 0
SpellsTag text tag =
    (written : List ℕ) × IsTrue (is_language_tag written) × (tag ≡ str_to_ascii_lowercase written) × (text ≡ at_sign ∷ written)

-- the text spells the literal
abbrev pub SpellsLiteral : List ℕ → LiteralValue → Type 0
SpellsLiteral text (Typed lexical datatype) =
    (quoted : List ℕ) × (suffix : List ℕ) × SpellsLexical quoted lexical × SpellsDatatype suffix datatype × (text ≡ quoted ++ suffix)
SpellsLiteral text (Tagged lexical tag) =
    (quoted : List ℕ) × (suffix : List ℕ) × SpellsLexical quoted lexical × SpellsTag suffix tag × (text ≡ quoted ++ suffix)

-- the text spells the object
abbrev pub SpellsObject : List ℕ → Term → Type 0
SpellsObject text (terms.Iri iri) = SpellsIri text iri
SpellsObject text (terms.Literal literal) = SpellsLiteral text literal

-- the blanks of a triple's text, and the texts of its terms
pub record Layout : Type 0 where
  pub before : List ℕ
  pub subject : List ℕ
  pub after_subject : List ℕ
  pub predicate : List ℕ
  pub after_predicate : List ℕ
  pub object : List ℕ
  pub after_object : List ℕ
  pub after_dot : List ℕ

-- the text is these blanks, the subject, the predicate, the object and a dot
pub record SpellsBy (layout : Layout) (text : List ℕ) (triple : Triple) : Type 0 where
  pub blanks : IsTrue (is_blanks (layout.before ++ layout.after_subject ++ layout.after_predicate ++ layout.after_object ++ layout.after_dot))
  pub subject : SpellsIri layout.subject triple.s
  pub predicate : SpellsIri layout.predicate triple.p
  pub object : SpellsObject layout.object triple.o
  pub whole : text ≡ layout.before ++ (layout.subject ++ (layout.after_subject ++ (layout.predicate ++ (layout.after_predicate
      ++ (layout.object ++ (layout.after_object ++ dot ∷ layout.after_dot))))))

-- the text spells the triple, whatever its lengths
unfoldable pub SpellsTriple : List ℕ → Triple → Type 0
SpellsTriple text triple = (layout : Layout) × SpellsBy layout text triple

-- the lengths of a term
abbrev pub IsTermWithin : Term → Type 0
IsTermWithin (terms.Iri iri) = length iri ≤ iri_limit
IsTermWithin (terms.Literal (Typed lexical datatype)) = (length lexical ≤ lexical_limit) × (length datatype ≤ iri_limit)
IsTermWithin (terms.Literal (Tagged lexical tag)) = length lexical ≤ lexical_limit

-- no IRI of the triple and no lexical form is too long
pub record IsTripleWithin (triple : Triple) : Type 0 where
  pub subject : length triple.s ≤ iri_limit
  pub predicate : length triple.p ≤ iri_limit
  pub object : IsTermWithin triple.o
