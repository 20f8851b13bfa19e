-- What is read is spelled.
use Rattle.std.proofs.Common.{◌≡◌, ℕ, List, [], ◌∷◌, ◌++◌, true, false, not, Some, refl, sym, ap, subst, ◌∙◌, inl, inr, eqb, IsTrue, append_assoc}
use Rattle.std.specs.List.{flat_map}
use Rattle.std.specs.Str.{str_to_ascii_lowercase}
use Rattle.std.proofs.lemmas.Bool.{cases_Bool, and_from, eqb-true}
use Rattle.std.proofs.lemmas.List.Folds.{list_all-append}
use Rattle.text_rules.specs.declared.spots.Spot.TheVariants.{SchemeStart, Lexical}
use Rattle.rdf_terms.specs.declared.terms.Term.{Term}
use Rattle.rdf_terms.specs.declared.terms.Term.TheVariants as terms
use Rattle.rdf_terms.specs.declared.terms.Triple.{Triple}
use Rattle.rdf_terms.specs.Escapes.{piece_text, piece_value}
use Rattle.rdf_terms.specs.Grammar.{is_blank, is_blanks, SpellsIri, SpellsLexical, SpellsLiteral, SpellsObject, Layout, SpellsBy, SpellsTriple}
use Rattle.rdf_terms.specs.Literal.{LiteralValue, Typed, Tagged, xsd_string, rdf_lang_string, is_same}
use Rattle.rdf_terms.specs.TripleReading.{Slot, Subject, Predicate, Object, LexicalForm, Datatype, State, Before, Within, Between, Quoted, Hat, Tag, Closed, Ended, closed, step, Spelled, Stopped, verdict, run, run_from}
use Rattle.rdf_terms.proofs.SpotLaws.{is_iri-from_spot}
use Rattle.rdf_terms.proofs.Steps.{run_step}
use Rattle.rdf_terms.proofs.FoundPieces.{ReadsPieces, pieces_found, stopped_spelled}
use Rattle.rdf_terms.proofs.FoundTags.{tag_found}

-- ---- terms

-- the text spells an IRI, and from behind it the triple is read
pub record ReadsIri (slot : Slot) (text : List ℕ) (t : Triple) : Type 0 where
  pub iri : List ℕ
  pub written : List ℕ
  pub rest : List ℕ
  pub spelled : SpellsIri written iri
  pub whole : text ≡ written ++ rest
  pub goes : run_from (closed slot iri) rest ≡ Spelled t

-- behind `<` an IRI is read
pub iri_found : (slot : Slot) (text : List ℕ) (t : Triple) → run text (Within slot SchemeStart Between []) ≡ Spelled t → ReadsIri slot (60 ∷ text) t
iri_found slot text t h =
    let r : ReadsPieces slot _ SchemeStart [] text t = pieces_found slot SchemeStart text t h in
    let body = flat_map piece_text r.pieces in
    record {
      iri = flat_map piece_value r.pieces;
      written = 60 ∷ (body ++ 62 ∷ []);
      rest = r.rest;
      spelled = record {
        body = body;
        pieces = record { pieces = r.pieces; each = r.each; spelled = refl; meant = refl };
        absolute = is_iri-from_spot (flat_map piece_value r.pieces) r.ends;
        whole = refl;
      };
      whole = ap (λ l. 60 ∷ l) (r.whole ∙ sym (append_assoc body (62 ∷ []) r.rest));
      goes = r.goes;
    }

-- the text spells a lexical form, and from behind it the triple is read
record ReadsLexical (s p text : List ℕ) (t : Triple) : Type 0 where
  lexical : List ℕ
  written : List ℕ
  rest : List ℕ
  spelled : SpellsLexical written lexical
  whole : text ≡ written ++ rest
  goes : run rest (Quoted s p lexical) ≡ Spelled t

-- behind a quote a lexical form is read
lexical_found : (s p text : List ℕ) (t : Triple) → run text (Within (LexicalForm s p) Lexical Between []) ≡ Spelled t → ReadsLexical s p (34 ∷ text) t
lexical_found s p text t h =
    let r : ReadsPieces (LexicalForm s p) _ Lexical [] text t = pieces_found (LexicalForm s p) Lexical text t h in
    let body = flat_map piece_text r.pieces in
    record {
      lexical = flat_map piece_value r.pieces;
      written = 34 ∷ (body ++ 34 ∷ []);
      rest = r.rest;
      spelled = record {
        body = body;
        pieces = record { pieces = r.pieces; each = r.each; spelled = refl; meant = refl };
        whole = refl;
      };
      whole = ap (λ l. 34 ∷ l) (r.whole ∙ sym (append_assoc body (34 ∷ []) r.rest));
      goes = r.goes;
    }

-- ---- literals

-- the text behind the quotes spells what makes them a literal, and from behind it the triple is read
record ReadsSuffix (s p lexical text : List ℕ) (t : Triple) : Type 0 where
  literal : LiteralValue
  suffix : List ℕ
  rest : List ℕ
  spelled : (quoted : List ℕ) → SpellsLexical quoted lexical → SpellsLiteral (quoted ++ suffix) literal
  whole : text ≡ suffix ++ rest
  goes : run rest (Closed s p (terms.Literal literal)) ≡ Spelled t

-- a datatype that a literal may have
datatype_allowed : (s p lexical text : List ℕ) (t : Triple) (r : ReadsIri (Datatype s p lexical) text t) → is_same r.iri rdf_lang_string ≡ false
    → ReadsSuffix s p lexical (94 ∷ 94 ∷ text) t
datatype_allowed s p lexical text t r h = record {
  literal = Typed lexical r.iri;
  suffix = 94 ∷ 94 ∷ r.written;
  rest = r.rest;
  spelled = λ quoted k. (quoted, 94 ∷ 94 ∷ r.written, k, inr (r.written, r.spelled, ap not h, refl), refl);
  whole = ap (λ l. 94 ∷ 94 ∷ l) r.whole;
  goes = rw h at r.goes;
}

datatype_found : (s p lexical text : List ℕ) (t : Triple) → ReadsIri (Datatype s p lexical) text t → ReadsSuffix s p lexical (94 ∷ 94 ∷ text) t
datatype_found s p lexical text t r = elim (cases_Bool (is_same r.iri rdf_lang_string)) [
  | inl h ↦ stopped_spelled (rw h at r.goes)
  | inr h ↦ datatype_allowed s p lexical text t r h
]

-- behind `^^`
mark_found : (s p lexical text : List ℕ) (t : Triple) → run text (Before (Datatype s p lexical)) ≡ Spelled t → ReadsSuffix s p lexical (94 ∷ 94 ∷ text) t
unfolding run verdict step
mark_found s p lexical [] t h = stopped_spelled h
mark_found s p lexical (byte ∷ rest) t h = elim (cases_Bool (eqb byte 60)) [
  | inl e ↦
      let g = rw e at h in
      subst (λ b. ReadsSuffix s p lexical (94 ∷ 94 ∷ b ∷ rest) t) (sym (eqb-true byte 60 e))
      (datatype_found s p lexical (60 ∷ rest) t (iri_found (Datatype s p lexical) rest t g))
  | inr e ↦ stopped_spelled (rw e at h)
]

-- behind the first `^`
hat_found : (s p lexical text : List ℕ) (t : Triple) → run text (Hat s p lexical) ≡ Spelled t → ReadsSuffix s p lexical (94 ∷ text) t
unfolding run verdict step
hat_found s p lexical [] t h = stopped_spelled h
hat_found s p lexical (byte ∷ rest) t h = elim (cases_Bool (eqb byte 94)) [
  | inl e ↦
      let g = rw e at h in
      subst (λ b. ReadsSuffix s p lexical (94 ∷ b ∷ rest) t) (sym (eqb-true byte 94 e)) (mark_found s p lexical rest t g)
  | inr e ↦ stopped_spelled (rw e at h)
]

-- behind `@`
at_found : (s p lexical text : List ℕ) (t : Triple) → run text (Tag s p lexical false false []) ≡ Spelled t → ReadsSuffix s p lexical (64 ∷ text) t
at_found s p lexical text t h =
    let r = tag_found s p lexical text t h in
    record {
      literal = Tagged lexical (str_to_ascii_lowercase r.0);
      suffix = 64 ∷ r.0;
      rest = r.1;
      spelled = λ quoted k. (quoted, 64 ∷ r.0, k, (r.0, r.2, refl, refl), refl);
      whole = ap (λ l. 64 ∷ l) r.3;
      goes = r.4;
    }

-- nothing behind the quotes
plain_found : (s p lexical text : List ℕ) (t : Triple) → run text (Closed s p (terms.Literal (Typed lexical xsd_string))) ≡ Spelled t → ReadsSuffix s p lexical text t
plain_found s p lexical text t h = record {
  literal = Typed lexical xsd_string;
  suffix = [];
  rest = text;
  spelled = λ quoted k. (quoted, [], k, inl (refl, refl), refl);
  whole = refl;
  goes = h;
}

-- behind the quotes
suffix_found : (s p lexical text : List ℕ) (t : Triple) → run text (Quoted s p lexical) ≡ Spelled t → ReadsSuffix s p lexical text t
unfolding run verdict step
suffix_found s p lexical [] t h = stopped_spelled h
suffix_found s p lexical (byte ∷ rest) t h = elim (cases_Bool (eqb byte 64)) [
  | inl e ↦
      let g = rw e at h in
      subst (λ b. ReadsSuffix s p lexical (b ∷ rest) t) (sym (eqb-true byte 64 e)) (at_found s p lexical rest t g)
  | inr e ↦ elim (cases_Bool (eqb byte 94)) [
    | inl f ↦
        let g = rw (e, f) at h in
        subst (λ b. ReadsSuffix s p lexical (b ∷ rest) t) (sym (eqb-true byte 94 f)) (hat_found s p lexical rest t g)
    | inr f ↦ let g = rw (e, f) at h in plain_found s p lexical (byte ∷ rest) t g
  ]
]

-- ---- objects

-- the text spells an object, and from behind it the triple is read
record ReadsObject (s p text : List ℕ) (t : Triple) : Type 0 where
  o : Term
  written : List ℕ
  rest : List ℕ
  spelled : SpellsObject written o
  whole : text ≡ written ++ rest
  goes : run rest (Closed s p o) ≡ Spelled t

iri_object : (s p text : List ℕ) (t : Triple) → ReadsIri (Object s p) text t → ReadsObject s p text t
iri_object s p text t r = record { o = terms.Iri r.iri; written = r.written; rest = r.rest; spelled = r.spelled; whole = r.whole; goes = r.goes }

literal_object : (s p text : List ℕ) (t : Triple) → ReadsLexical s p text t → ReadsObject s p text t
literal_object s p text t r =
    let f : ReadsSuffix s p r.lexical r.rest t = suffix_found s p r.lexical r.rest t r.goes in
    record {
      o = terms.Literal f.literal;
      written = r.written ++ f.suffix;
      rest = f.rest;
      spelled = f.spelled r.written r.spelled;
      whole = r.whole ∙ ap (λ l. r.written ++ l) f.whole ∙ sym (append_assoc r.written f.suffix f.rest);
      goes = f.goes;
    }

-- ---- blanks

-- the text is blanks and something else, which a byte of begins
record ReadsBlanks (state : State) (text : List ℕ) (t : Triple) : Type 0 where
  blanks : List ℕ
  byte : ℕ
  rest : List ℕ
  blank : IsTrue (is_blanks blanks)
  other : is_blank byte ≡ false
  whole : text ≡ blanks ++ byte ∷ rest
  goes : run (byte ∷ rest) state ≡ Spelled t

module _ (state : State) (t : Triple) (passes : (byte : ℕ) → is_blank byte ≡ true → step state byte ≡ Some state) (ends : verdict state ≡ Stopped 0) where
  -- no triple's text ends there
  ended_blanks : run [] state ≡ Spelled t → ReadsBlanks state [] t
  unfolding run
  ended_blanks h = stopped_spelled (sym ends ∙ h)

  -- a blank more
  blank_more : (byte : ℕ) (rest : List ℕ) → is_blank byte ≡ true → ReadsBlanks state rest t → ReadsBlanks state (byte ∷ rest) t
  blank_more byte rest h r = record {
    blanks = byte ∷ r.blanks;
    byte = r.byte;
    rest = r.rest;
    blank = and_from (is_blank byte) (is_blanks r.blanks) h r.blank;
    other = r.other;
    whole = ap (λ l. byte ∷ l) r.whole;
    goes = r.goes;
  }

  -- blanks are passed over, up to another byte
  blanks_found : (text : List ℕ) → run text state ≡ Spelled t → ReadsBlanks state text t
  blanks_found [] h = ended_blanks h
  blanks_found (byte ∷ rest) h = elim (cases_Bool (is_blank byte)) [
    | inl e ↦ blank_more byte rest e (blanks_found rest (sym (run_step state state byte rest (passes byte e)) ∙ h))
    | inr e ↦ record { blanks = []; byte = byte; rest = rest; blank = refl; other = e; whole = refl; goes = h }
  ]

-- a byte of another text
byte_is : (byte mark : ℕ) (blanks rest text : List ℕ) → eqb byte mark ≡ true → text ≡ blanks ++ byte ∷ rest → text ≡ blanks ++ mark ∷ rest
byte_is byte mark blanks rest text e w = w ∙ ap (λ b. blanks ++ b ∷ rest) (eqb-true byte mark e)

-- the text is blanks and an IRI, and from behind it the triple is read
record ReadsNext (slot : Slot) (text : List ℕ) (t : Triple) : Type 0 where
  blanks : List ℕ
  behind : List ℕ
  blank : IsTrue (is_blanks blanks)
  iri : ReadsIri slot behind t
  whole : text ≡ blanks ++ behind

-- before a subject
subject_found : (text : List ℕ) (t : Triple) → run text (Before Subject) ≡ Spelled t → ReadsNext Subject text t
unfolding run verdict step
subject_found text t h =
    let r : ReadsBlanks (Before Subject) text t = blanks_found (Before Subject) t (λ byte e. rw e refl) refl text h in
    elim (cases_Bool (eqb r.byte 60)) [
      | inl e ↦
          let g = rw (r.other, e) at r.goes in
          record { blanks = r.blanks; behind = 60 ∷ r.rest; blank = r.blank; iri = iri_found Subject r.rest t g; whole = byte_is r.byte 60 r.blanks r.rest text e r.whole }
      | inr e ↦ stopped_spelled (rw (r.other, e) at r.goes)
    ]

-- before a predicate
predicate_found : (s text : List ℕ) (t : Triple) → run text (Before (Predicate s)) ≡ Spelled t → ReadsNext (Predicate s) text t
unfolding run verdict step
predicate_found s text t h =
    let r : ReadsBlanks (Before (Predicate s)) text t = blanks_found (Before (Predicate s)) t (λ byte e. rw e refl) refl text h in
    elim (cases_Bool (eqb r.byte 60)) [
      | inl e ↦
          let g = rw (r.other, e) at r.goes in
          record { blanks = r.blanks; behind = 60 ∷ r.rest; blank = r.blank; iri = iri_found (Predicate s) r.rest t g; whole = byte_is r.byte 60 r.blanks r.rest text e r.whole }
      | inr e ↦ stopped_spelled (rw (r.other, e) at r.goes)
    ]

-- the text is blanks and an object, and from behind it the triple is read
record ReadsLast (s p text : List ℕ) (t : Triple) : Type 0 where
  blanks : List ℕ
  behind : List ℕ
  blank : IsTrue (is_blanks blanks)
  object : ReadsObject s p behind t
  whole : text ≡ blanks ++ behind

-- before an object
object_found : (s p text : List ℕ) (t : Triple) → run text (Before (Object s p)) ≡ Spelled t → ReadsLast s p text t
unfolding run verdict step
object_found s p text t h =
    let r : ReadsBlanks (Before (Object s p)) text t = blanks_found (Before (Object s p)) t (λ byte e. rw e refl) refl text h in
    elim (cases_Bool (eqb r.byte 60)) [
      | inl e ↦
          let g = rw (r.other, e) at r.goes in
          record {
            blanks = r.blanks;
            behind = 60 ∷ r.rest;
            blank = r.blank;
            object = iri_object s p (60 ∷ r.rest) t (iri_found (Object s p) r.rest t g);
            whole = byte_is r.byte 60 r.blanks r.rest text e r.whole;
          }
      | inr e ↦ elim (cases_Bool (eqb r.byte 34)) [
        | inl f ↦
            let g = rw (r.other, e, f) at r.goes in
            record {
              blanks = r.blanks;
              behind = 34 ∷ r.rest;
              blank = r.blank;
              object = literal_object s p (34 ∷ r.rest) t (lexical_found s p r.rest t g);
              whole = byte_is r.byte 34 r.blanks r.rest text f r.whole;
            }
        | inr f ↦ stopped_spelled (rw (r.other, e, f) at r.goes)
      ]
    ]

-- ---- the end

-- one verdict tells one triple
spelled_inj : {t u : Triple} → Spelled t ≡ Spelled u → t ≡ u
spelled_inj h = cc

-- behind the dot stand blanks alone
ended_found : (s p : List ℕ) (o : Term) (text : List ℕ) (t : Triple) → run text (Ended s p o) ≡ Spelled t → IsTrue (is_blanks text) × (record { s = s; p = p; o = o } ≡ t)
unfolding run verdict step
ended_found s p o [] t h = (refl, spelled_inj h)
ended_found s p o (byte ∷ rest) t h = elim (cases_Bool (is_blank byte)) [
  | inl e ↦
      let g = rw e at h in
      let r = ended_found s p o rest t g in
      (and_from (is_blank byte) (is_blanks rest) e r.0, r.1)
  | inr e ↦ stopped_spelled (rw e at h)
]

-- the text is the dot with blanks around it, and this is the triple
record ReadsEnd (s p : List ℕ) (o : Term) (text : List ℕ) (t : Triple) : Type 0 where
  before : List ℕ
  behind : List ℕ
  blank_before : IsTrue (is_blanks before)
  blank_behind : IsTrue (is_blanks behind)
  whole : text ≡ before ++ 46 ∷ behind
  same : record { s = s; p = p; o = o } ≡ t

-- behind an object
end_found : (s p : List ℕ) (o : Term) (text : List ℕ) (t : Triple) → run text (Closed s p o) ≡ Spelled t → ReadsEnd s p o text t
unfolding run verdict step
end_found s p o text t h =
    let r : ReadsBlanks (Closed s p o) text t = blanks_found (Closed s p o) t (λ byte e. rw e refl) refl text h in
    elim (cases_Bool (eqb r.byte 46)) [
      | inl e ↦
          let g = rw (r.other, e) at r.goes in
          let l = ended_found s p o r.rest t g in
          record {
            before = r.blanks;
            behind = r.rest;
            blank_before = r.blank;
            blank_behind = l.0;
            whole = byte_is r.byte 46 r.blanks r.rest text e r.whole;
            same = l.1;
          }
      | inr e ↦ stopped_spelled (rw (r.other, e) at r.goes)
    ]

-- ---- the whole

-- five runs of blanks
two_blanks : (a b : List ℕ) → IsTrue (is_blanks a) → IsTrue (is_blanks b) → IsTrue (is_blanks (a ++ b))
two_blanks a b f g = list_all-append is_blank a b ∙ and_from (is_blanks a) (is_blanks b) f g

five_blanks : (a b c d e : List ℕ) → IsTrue (is_blanks a) → IsTrue (is_blanks b) → IsTrue (is_blanks c) → IsTrue (is_blanks d) → IsTrue (is_blanks e)
    → IsTrue (is_blanks (a ++ b ++ c ++ d ++ e))
five_blanks a b c d e f g h i j =
    two_blanks (a ++ b ++ c ++ d) e (two_blanks (a ++ b ++ c) d (two_blanks (a ++ b) c (two_blanks a b f g) h) i) j

-- the triple that is read is spelled
pub read_spelled : (text : List ℕ) (t : Triple) → run text (Before Subject) ≡ Spelled t → SpellsTriple text t
unfolding SpellsTriple
read_spelled text t h =
    let a : ReadsNext Subject text t = subject_found text t h in
    let i = a.iri in
    let b : ReadsNext (Predicate i.iri) i.rest t = predicate_found i.iri i.rest t i.goes in
    let j = b.iri in
    let c : ReadsLast i.iri j.iri j.rest t = object_found i.iri j.iri j.rest t j.goes in
    let k = c.object in
    let d : ReadsEnd i.iri j.iri k.o k.rest t = end_found i.iri j.iri k.o k.rest t k.goes in
    let layout : Layout = record {
      before = a.blanks;
      subject = i.written;
      after_subject = b.blanks;
      predicate = j.written;
      after_predicate = c.blanks;
      object = k.written;
      after_object = d.before;
      after_dot = d.behind;
    } in
    subst (λ (u : Triple). (l : Layout) × SpellsBy l text u) d.same (
      layout,
      record {
        blanks = five_blanks a.blanks b.blanks c.blanks d.before d.behind a.blank b.blank c.blank d.blank_before d.blank_behind;
        subject = i.spelled;
        predicate = j.spelled;
        object = k.spelled;
        whole = a.whole ∙ ap (λ l. a.blanks ++ l) (i.whole ∙ ap (λ l. i.written ++ l) (b.whole ∙ ap (λ l. b.blanks ++ l) (j.whole ∙ ap (λ l. j.written ++ l)
            (c.whole ∙ ap (λ l. c.blanks ++ l) (k.whole ∙ ap (λ l. k.written ++ l) d.whole)))));
      },
    )
