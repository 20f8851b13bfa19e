-- A triple is spelled as it is written.
use Rattle.std.proofs.Common.{◌≡◌, ℕ, List, [], ◌∷◌, ◌++◌, not, eqb, IsTrue, refl, sym, ap, ◌∙◌, subst, inl, inr, append_assoc, eqb-true}
use Rattle.std.proofs.lemmas.Bool.{cases_Bool}
use Rattle.std.proofs.lemmas.Slice.Eq.{bytes_eq-Decides}
use Rattle.text_rules.specs.Iri.{is_iri}
use Rattle.rdf_terms.specs.declared.terms.Term.{Term}
use Rattle.rdf_terms.specs.declared.terms.Term.TheVariants as terms
use Rattle.rdf_terms.specs.declared.terms.Triple.{Triple}
use Rattle.rdf_terms.specs.Escapes.{Piece, Plain, Letter, piece_text, piece_value, IsIriPiece, IsLexicalPiece, SpellsPieces}
use Rattle.rdf_terms.specs.Grammar.{is_blanks, SpellsIri, SpellsLexical, SpellsDatatype, SpellsObject, SpellsTriple}
use Rattle.rdf_terms.specs.Literal.{Typed, Tagged, xsd_string, rdf_lang_string, is_same}
use Rattle.text_rules.specs.Escaped.{escaped, escaped_byte}
use Rattle.rdf_terms.specs.Spelling.{iri_text, datatype_text, term_text, triple_text}
use Rattle.rdf_terms.specs.Written.{IsWritable, IsWritableTerm}

-- ---- pieces

-- no pieces spell nothing
no_pieces : (IsPiece : Piece → Type 0) → SpellsPieces IsPiece [] []
no_pieces IsPiece = record { pieces = []; each = tt; spelled = refl; meant = refl }

-- a piece more
one_piece : (IsPiece : Piece → Type 0) (piece : Piece) (text value : List ℕ) → IsPiece piece → SpellsPieces IsPiece text value
    → SpellsPieces IsPiece (piece_text piece ++ text) (piece_value piece ++ value)
one_piece IsPiece piece text value h s = record {
  pieces = piece ∷ s.pieces;
  each = (h, s.each);
  spelled = ap (λ l. piece_text piece ++ l) s.spelled;
  meant = ap (λ l. piece_value piece ++ l) s.meant;
}

-- an IRI's bytes stand for themselves
iri_pieces : (iri : List ℕ) → SpellsPieces IsIriPiece iri iri
iri_pieces [] = no_pieces IsIriPiece
iri_pieces (byte ∷ bytes) = one_piece IsIriPiece (Plain byte) bytes bytes tt (iri_pieces bytes)

iri_written : (iri : List ℕ) → IsTrue (is_iri iri) → SpellsIri (iri_text iri) iri
iri_written iri h = record { body = iri; pieces = iri_pieces iri; absolute = h; whole = refl }

-- the piece that a byte of a lexical form is written by
record WrittenBy (byte : ℕ) : Type 0 where
  piece : Piece
  allowed : IsLexicalPiece piece
  written : escaped_byte byte ≡ piece_text piece
  means : byte ∷ [] ≡ piece_value piece

written_by : (byte : ℕ) → WrittenBy byte
written_by byte =
    elim (cases_Bool (eqb byte 34)) [
      | inl h ↦ let e : 34 ≡ byte = sym (eqb-true byte 34 h) in subst WrittenBy e (record { piece = Letter 34; allowed = refl; written = refl; means = refl })
      | inr h ↦ elim (cases_Bool (eqb byte 92)) [
        | inl g ↦ let e : 92 ≡ byte = sym (eqb-true byte 92 g) in subst WrittenBy e (record { piece = Letter 92; allowed = refl; written = refl; means = refl })
        | inr g ↦ elim (cases_Bool (eqb byte 10)) [
          | inl k ↦ let e : 10 ≡ byte = sym (eqb-true byte 10 k) in subst WrittenBy e (record { piece = Letter 110; allowed = refl; written = refl; means = refl })
          | inr k ↦ elim (cases_Bool (eqb byte 13)) [
            | inl m ↦ let e : 13 ≡ byte = sym (eqb-true byte 13 m) in subst WrittenBy e (record { piece = Letter 114; allowed = refl; written = refl; means = refl })
            | inr m ↦ record { piece = Plain byte; allowed = rw (h, g, k, m) refl; written = rw (h, g, k, m) refl; means = refl }
          ]
        ]
      ]
    ]

lexical_pieces : (lexical : List ℕ) → SpellsPieces IsLexicalPiece (escaped lexical) lexical
lexical_pieces [] = no_pieces IsLexicalPiece
lexical_pieces (byte ∷ bytes) = one_more (written_by byte) (lexical_pieces bytes)
  where
    one_more : WrittenBy byte → SpellsPieces IsLexicalPiece (escaped bytes) bytes → SpellsPieces IsLexicalPiece (escaped_byte byte ++ escaped bytes) (byte ∷ bytes)
    one_more w s = record {
      pieces = w.piece ∷ s.pieces;
      each = (w.allowed, s.each);
      spelled = ap (λ l. l ++ escaped bytes) w.written ∙ ap (λ l. piece_text w.piece ++ l) s.spelled;
      meant = ap (λ l. l ++ bytes) w.means ∙ ap (λ l. piece_value w.piece ++ l) s.meant;
    }

-- a lexical form in its quotes
abbrev quoted : List ℕ → List ℕ
quoted lexical = 34 ∷ (escaped lexical ++ 34 ∷ [])

lexical_written : (lexical : List ℕ) → SpellsLexical (quoted lexical) lexical
lexical_written lexical = record { body = escaped lexical; pieces = lexical_pieces lexical; whole = refl }

-- what is behind the quotes is behind the quoted form
behind_quotes : (lexical suffix : List ℕ) → 34 ∷ (escaped lexical ++ 34 ∷ suffix) ≡ quoted lexical ++ suffix
behind_quotes lexical suffix = ap (λ l. 34 ∷ l) (sym (append_assoc (escaped lexical) (34 ∷ []) suffix))

-- ---- terms

datatype_written : (datatype : List ℕ) → IsTrue (is_iri datatype) → IsTrue (not (is_same datatype rdf_lang_string)) → SpellsDatatype (datatype_text datatype) datatype
datatype_written datatype h g =
    elim (cases_Bool (is_same datatype xsd_string)) [
      | inl e ↦ inl (rw e refl, (bytes_eq-Decides datatype xsd_string).0 e)
      | inr e ↦ inr (iri_text datatype, iri_written datatype h, g, rw e refl)
    ]

object_written : (o : Term) → IsWritableTerm o → SpellsObject (term_text o) o
unfolding term_text
object_written (terms.Iri iri) h = iri_written iri h
object_written (terms.Literal (Typed lexical datatype)) h =
    (quoted lexical, datatype_text datatype, lexical_written lexical, datatype_written datatype h.0 h.1, behind_quotes lexical (datatype_text datatype))
object_written (terms.Literal (Tagged lexical tag)) h =
    (quoted lexical, 64 ∷ tag, lexical_written lexical, (tag, h.0, sym h.1, refl), behind_quotes lexical (64 ∷ tag))

-- ---- the whole

-- a triple is spelled as it is written, with blanks behind it too
pub written_spelled : (t : Triple) (blanks : List ℕ) → IsWritable t → IsTrue (is_blanks blanks) → SpellsTriple (triple_text t ++ blanks) t
unfolding triple_text SpellsTriple
written_spelled t blanks h b = (
  record {
    before = [];
    subject = iri_text t.s;
    after_subject = 32 ∷ [];
    predicate = iri_text t.p;
    after_predicate = 32 ∷ [];
    object = term_text t.o;
    after_object = 32 ∷ [];
    after_dot = blanks;
  },
  record {
    blanks = b;
    subject = iri_written t.s h.subject;
    predicate = iri_written t.p h.predicate;
    object = object_written t.o h.object;
    whole = simp append_assoc;
  },
)
