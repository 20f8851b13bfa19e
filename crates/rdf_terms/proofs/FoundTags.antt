-- What was read of a language tag is one, up to the byte behind it.
use Rattle.std.proofs.Common.{◌≡◌, ℕ, List, [], ◌∷◌, ◌++◌, Bool, true, false, ◌&&◌, ◌||◌, refl, sym, ap, ◌∙◌, inl, inr, eqb, IsTrue, append_assoc}
use Rattle.std.specs.Str.{str_to_ascii_lowercase}
use Rattle.std.proofs.lemmas.Bool.{cases_Bool, and_from}
use Rattle.std.proofs.lemmas.List.{append-nil}
use Rattle.text_rules.specs.Iri.{is_letter, is_digit}
use Rattle.rdf_terms.specs.declared.terms.Term.TheVariants as terms
use Rattle.rdf_terms.specs.declared.terms.Triple.{Triple}
use Rattle.text_rules.specs.Tags.{is_language_tag, is_primary, is_subtags}
use Rattle.rdf_terms.specs.Literal.{Tagged}
use Rattle.rdf_terms.specs.TripleReading.{Tag, Closed, Spelled, step, run, verdict}
use Rattle.rdf_terms.proofs.FoundPieces.{stopped_spelled}

-- what may follow of a tag, behind a `-` or in its first part
abbrev may_follow : Bool → Bool → List ℕ → Bool
may_follow true full text = is_subtags full text
may_follow false full text = is_primary full text

-- the text is what may follow of a tag, and from there the triple is read
record ReadsTag (s p lexical : List ℕ) (dashed full : Bool) (tag text : List ℕ) (t : Triple) : Type 0 where
  more : List ℕ
  rest : List ℕ
  follows : may_follow dashed full more ≡ true
  whole : text ≡ more ++ rest
  goes : run rest (Closed s p (terms.Literal (Tagged lexical (str_to_ascii_lowercase (tag ++ more))))) ≡ Spelled t

-- a dash, or a letter or digit, goes in front of what may follow
dash_follows : (dashed : Bool) (byte : ℕ) (more : List ℕ) → eqb byte 45 ≡ true → is_subtags false more ≡ true → may_follow dashed true (byte ∷ more) ≡ true
dash_follows true byte more e h = rw e h
dash_follows false byte more e h = rw e h

letter_follows : (dashed full : Bool) (byte : ℕ) (more : List ℕ) → eqb byte 45 ≡ false → (is_letter byte || (dashed && is_digit byte)) ≡ true
    → may_follow dashed true more ≡ true → may_follow dashed full (byte ∷ more) ≡ true
letter_follows true full byte more e g h = rw e (and_from (is_letter byte || is_digit byte) (is_subtags true more) g h)
letter_follows false full byte more e g h = elim (cases_Bool (is_letter byte)) [
  | inl l ↦ rw e (and_from (is_letter byte) (is_primary true more) l h)
  | inr l ↦ absurd (impossible (rw l at g))
]
  where
    impossible : false ≡ true → ⊥
    impossible h = cc

-- nothing follows of a whole tag
full_follows : (dashed : Bool) → may_follow dashed true [] ≡ true
full_follows true = refl
full_follows false = refl

module _ (s p lexical : List ℕ) (t : Triple) where
  -- a byte more of a tag
  tag_more : (dashed full : Bool) (tag : List ℕ) (byte : ℕ) (rest : List ℕ) (later now : Bool) → (r : ReadsTag s p lexical later now (tag ++ byte ∷ []) rest t)
      → may_follow dashed full (byte ∷ r.more) ≡ true → ReadsTag s p lexical dashed full tag (byte ∷ rest) t
  tag_more dashed full tag byte rest later now r h = record {
    more = byte ∷ r.more;
    rest = r.rest;
    follows = h;
    whole = ap (λ l. byte ∷ l) r.whole;
    goes = ap (λ (l : List ℕ). run r.rest (Closed s p (terms.Literal (Tagged lexical (str_to_ascii_lowercase l))))) (sym (append_assoc tag (byte ∷ []) r.more)) ∙ r.goes;
  }

  -- what is read from within a tag
  abbrev Reads : List ℕ → Type 0
  Reads text = (dashed full : Bool) (tag : List ℕ) → run text (Tag s p lexical dashed full tag) ≡ Spelled t → ReadsTag s p lexical dashed full tag text t

  -- a dash
  dash_reads : (dashed full : Bool) (tag : List ℕ) (byte : ℕ) (rest : List ℕ) → Reads rest → eqb byte 45 ≡ true → run (byte ∷ rest) (Tag s p lexical dashed full tag) ≡ Spelled t
      → ReadsTag s p lexical dashed full tag (byte ∷ rest) t
  unfolding run step
  dash_reads dashed true tag byte rest f e h =
      let g = rw e at h in
      let r = f true false (tag ++ byte ∷ []) g in
      tag_more dashed true tag byte rest true false r (dash_follows dashed byte r.more e r.follows)
  dash_reads dashed false tag byte rest f e h = stopped_spelled (rw e at h)

  -- a letter or a digit
  letter_reads : (dashed full : Bool) (tag : List ℕ) (byte : ℕ) (rest : List ℕ) → Reads rest → eqb byte 45 ≡ false → (is_letter byte || (dashed && is_digit byte)) ≡ true
      → run (byte ∷ rest) (Tag s p lexical dashed full tag) ≡ Spelled t → ReadsTag s p lexical dashed full tag (byte ∷ rest) t
  unfolding run step
  letter_reads dashed full tag byte rest f e g h =
      let k = rw (e, g) at h in
      let r = f dashed true (tag ++ byte ∷ []) k in
      tag_more dashed full tag byte rest dashed true r (letter_follows dashed full byte r.more e g r.follows)

  -- a byte behind the tag
  other_reads : (dashed full : Bool) (tag : List ℕ) (byte : ℕ) (rest : List ℕ) → eqb byte 45 ≡ false → (is_letter byte || (dashed && is_digit byte)) ≡ false
      → run (byte ∷ rest) (Tag s p lexical dashed full tag) ≡ Spelled t → ReadsTag s p lexical dashed full tag (byte ∷ rest) t
  unfolding run step
  other_reads dashed true tag byte rest e g h =
      let k = rw (e, g) at h in
      record {
        more = [];
        rest = byte ∷ rest;
        follows = full_follows dashed;
        whole = refl;
        goes = ap (λ (l : List ℕ). run (byte ∷ rest) (Closed s p (terms.Literal (Tagged lexical (str_to_ascii_lowercase l))))) (append-nil tag) ∙ k;
      }
  other_reads dashed false tag byte rest e g h = stopped_spelled (rw (e, g) at h)

  -- no triple's text ends within a tag
  ended_reads : (dashed full : Bool) (tag : List ℕ) → run [] (Tag s p lexical dashed full tag) ≡ Spelled t → ReadsTag s p lexical dashed full tag [] t
  unfolding run verdict
  ended_reads dashed full tag h = stopped_spelled h

  -- from within a tag the rest of it is read
  reads : (text : List ℕ) → Reads text
  reads [] dashed full tag h = ended_reads dashed full tag h
  reads (byte ∷ rest) dashed full tag h =
      elim (cases_Bool (eqb byte 45)) [
        | inl e ↦ dash_reads dashed full tag byte rest (reads rest) e h
        | inr e ↦ elim (cases_Bool (is_letter byte || (dashed && is_digit byte))) [
          | inl g ↦ letter_reads dashed full tag byte rest (reads rest) e g h
          | inr g ↦ other_reads dashed full tag byte rest e g h
        ]
      ]

-- behind `@` a language tag is read
pub tag_found : (s p lexical text : List ℕ) (t : Triple) → run text (Tag s p lexical false false []) ≡ Spelled t
    → (written : List ℕ) × (rest : List ℕ) × IsTrue (is_language_tag written) × (text ≡ written ++ rest)
    × (run rest (Closed s p (terms.Literal (Tagged lexical (str_to_ascii_lowercase written)))) ≡ Spelled t)
unfolding is_language_tag
tag_found s p lexical text t h =
    let r = reads s p lexical t text false false [] h in
    (r.more, r.rest, r.follows, r.whole, r.goes)
