-- What was read within a term is made of pieces, up to the mark that closes it.
use Rattle.std.proofs.Common.{◌≡◌, ℕ, zero, suc, ◌+◌, ◌*◌, List, [], ◌∷◌, ◌++◌, ◌⊎◌, length, Bool, true, false, Option, Some, None, refl, sym, ap, subst, ◌∙◌, inl, inr, arith, cond, eqb, IsTrue, append_assoc, length-append}
use Rattle.std.specs.Char.{IsScalar, digit_value, encode_utf8}
use Rattle.std.specs.List.{list_all, AllByRecursion, flat_map}
use lib.Utf8.{scalar}
use Rattle.std.proofs.lemmas.Bool.{cases_Bool, and_from, eqb-true}
use Rattle.std.proofs.lemmas.List.{append-nil}
use Rattle.std.proofs.lemmas.List.Folds.{list_all-append}
use Rattle.text_rules.specs.Iri.{is_letter, is_scheme_byte, is_excluded}
use Rattle.text_rules.specs.declared.spots.Spot.{Spot}
use Rattle.text_rules.specs.declared.spots.Spot.TheVariants.{SchemeStart, Scheme, IriRest, Lexical}
use Rattle.rdf_terms.specs.declared.terms.Triple.{Triple}
use Rattle.rdf_terms.specs.Escapes.{Piece, Plain, Letter, Short, Long, NamesScalar, piece_text, piece_value, letter_value, code_with, code_of, is_hexadecimal, is_plain_byte, is_escape_letter, IsIriPiece, IsLexicalPiece}
use Rattle.rdf_terms.specs.TripleReading.{Slot, Within, Part, Between, Behind, Digits, Spelled, Stopped, may_begin, spot_behind, after_plain, closes, closed, within, with_digit, with_letter, step, run, run_from, verdict}
use Rattle.rdf_terms.proofs.SpotLaws.{spot_from, spot_from-append, spot_from-encode}

-- where reading stops nothing is spelled
pub stopped_spelled : {left : ℕ} {t : Triple} {A : Type 0} → Stopped left ≡ Spelled t → A
stopped_spelled h = absurd (apart h)
  where
    apart : {left : ℕ} {t : Triple} → Stopped left ≡ Spelled t → ⊥
    apart h = cc

-- ---- spots and pieces of one kind of term

-- the spot where a term of this kind may be closed
abbrev pub kind : Spot → Spot
kind SchemeStart = IriRest
kind Scheme = IriRest
kind IriRest = IriRest
kind Lexical = Lexical

-- the mark that closes a term of this kind
abbrev pub mark_of : Spot → ℕ
mark_of SchemeStart = 62
mark_of Scheme = 62
mark_of IriRest = 62
mark_of Lexical = 34

-- a piece of a term of this kind
abbrev pub IsPieceOf : Spot → Piece → Type 0
IsPieceOf SchemeStart piece = IsIriPiece piece
IsPieceOf Scheme piece = IsIriPiece piece
IsPieceOf IriRest piece = IsIriPiece piece
IsPieceOf Lexical piece = IsLexicalPiece piece

-- escapes of characters are pieces of each
short_of : (k : Spot) (digits : List ℕ) → NamesScalar 4 digits → IsPieceOf k (Short digits)
short_of SchemeStart digits h = h
short_of Scheme digits h = h
short_of IriRest digits h = h
short_of Lexical digits h = h

long_of : (k : Spot) (digits : List ℕ) → NamesScalar 8 digits → IsPieceOf k (Long digits)
long_of SchemeStart digits h = h
long_of Scheme digits h = h
long_of IriRest digits h = h
long_of Lexical digits h = h

-- a spot, if there is one, is of the same kind
abbrev KeepsKind : Spot → Option Spot → Type 0
KeepsKind spot None = Unit {0}
KeepsKind spot (Some next) = kind next ≡ kind spot

-- whichever way a test goes
either : (spot : Spot) (b : Bool) (x y : Option Spot) → KeepsKind spot x → KeepsKind spot y → KeepsKind spot (cond b x y)
either spot true x y h g = h
either spot false x y h g = g

keeps_kind : (spot : Spot) (code : ℕ) → KeepsKind spot (spot_behind spot code)
keeps_kind SchemeStart code = either SchemeStart (is_letter code) (Some Scheme) None refl tt
keeps_kind Scheme code =
    either Scheme (eqb code 58) (Some IriRest) (cond (is_scheme_byte code) (Some Scheme) None) refl (either Scheme (is_scheme_byte code) (Some Scheme) None refl tt)
keeps_kind IriRest code = either IriRest (is_excluded code) None (Some IriRest) tt refl
keeps_kind Lexical code = refl

-- behind a character stands what is of the same kind
kind_after : (spot next : Spot) (code : ℕ) → spot_behind spot code ≡ Some next → kind next ≡ kind spot
kind_after spot next code e = subst (KeepsKind spot) e (keeps_kind spot code)

-- a byte that stands for itself is a character, and a piece
record IsPlainAt (spot next : Spot) (byte : ℕ) : Type 0 where
  leads : spot_behind spot byte ≡ Some next
  allowed : IsPieceOf (kind spot) (Plain byte)

none_some : {A : Type 0} {x : A} → None ≡ Some x → ⊥
none_some h = cc

plain_at : (spot next : Spot) (byte : ℕ) → after_plain spot byte ≡ Some next → IsPlainAt spot next byte
plain_at SchemeStart next byte e = record { leads = e; allowed = tt }
plain_at Scheme next byte e = record { leads = e; allowed = tt }
plain_at IriRest next byte e = record { leads = e; allowed = tt }
plain_at Lexical next byte e = elim (cases_Bool (is_plain_byte byte)) [
  | inl h ↦ record { leads = rw h at e; allowed = h }
  | inr h ↦ absurd (none_some (rw h at e))
]

-- where a byte closes a term its kind's mark does
closes_kind : (spot : Spot) (byte : ℕ) → closes spot byte ≡ true → (Some spot ≡ Some (kind spot)) × (byte ≡ mark_of (kind spot))
closes_kind SchemeStart byte h = absurd (cc)
closes_kind Scheme byte h = absurd (cc)
closes_kind IriRest byte h = (refl, eqb-true byte 62 h)
closes_kind Lexical byte h = (refl, eqb-true byte 34 h)

-- ---- escapes under way

-- so much of an escape was read: a mark, digits of this code, and so many are left
record IsEscape (begun : List ℕ) (left code : ℕ) : Type 0 where
  done : List ℕ
  hexadecimal : IsTrue (list_all is_hexadecimal done)
  named : code_of done ≡ code
  form : ((begun ≡ 92 ∷ 117 ∷ done) × (length done + left ≡ 4)) ⊎ ((begun ≡ 92 ∷ 85 ∷ done) × (length done + left ≡ 8))

-- the code of a digit more
code_more : (code : ℕ) (digits : List ℕ) (digit : ℕ) → code_with code (digits ++ digit ∷ []) ≡ 16 * code_with code digits + digit_value digit
code_more code [] digit = refl
code_more code (first ∷ digits) digit = code_more (16 * code + digit_value first) digits digit

-- a digit more of an escape
digit_more : (begun : List ℕ) (left code digit : ℕ) → IsEscape begun (suc left) code → is_hexadecimal digit ≡ true → IsEscape (begun ++ digit ∷ []) left (16 * code + digit_value digit)
digit_more begun left code digit e h =
    let many : length (e.done ++ digit ∷ []) ≡ length e.done + 1 = length-append e.done (digit ∷ []) in
    record {
      done = e.done ++ digit ∷ [];
      hexadecimal = list_all-append is_hexadecimal e.done (digit ∷ []) ∙ and_from (list_all is_hexadecimal e.done) (list_all is_hexadecimal (digit ∷ [])) e.hexadecimal (and_from (is_hexadecimal digit) true h refl);
      named = code_more 0 e.done digit ∙ ap (λ c. 16 * c + digit_value digit) e.named;
      form = elim e.form [
        | inl f ↦ let count = f.1 in inl (ap (λ l. l ++ digit ∷ []) f.0, omega arith)
        | inr f ↦ let count = f.1 in inr (ap (λ l. l ++ digit ∷ []) f.0, omega arith)
      ];
    }

-- a whole escape is a piece that stands for the character of this code
record IsWholeEscape (begun : List ℕ) (code : ℕ) : Type 0 where
  piece : Piece
  allowed : (k : Spot) → IsPieceOf k piece
  written : begun ≡ piece_text piece
  means : encode_utf8 code ≡ piece_value piece

whole_escape : (begun : List ℕ) (code : ℕ) → IsEscape begun 0 code → IsScalar code → IsWholeEscape begun code
whole_escape begun code e h =
    let is_scalar : IsScalar (code_of e.done) = subst IsScalar (sym e.named) h in
    elim e.form [
      | inl f ↦ let count = f.1 in record {
        piece = Short e.done;
        allowed = λ k. short_of k e.done (record { many = omega arith; hexadecimal = e.hexadecimal; scalar = is_scalar });
        written = f.0;
        means = ap encode_utf8 (sym e.named);
      }
      | inr f ↦ let count = f.1 in record {
        piece = Long e.done;
        allowed = λ k. long_of k e.done (record { many = omega arith; hexadecimal = e.hexadecimal; scalar = is_scalar });
        written = f.0;
        means = ap encode_utf8 (sym e.named);
      }
    ]

-- so much of a piece was read
abbrev IsBegun : Part → List ℕ → Type 0
IsBegun Between begun = begun ≡ []
IsBegun Behind begun = begun ≡ 92 ∷ []
IsBegun (Digits left code) begun = IsEscape begun left code

-- ---- the rest of a term

-- the text is pieces and the mark that closes the term, and from there the triple is read
pub record ReadsPieces (slot : Slot) (k spot : Spot) (value text : List ℕ) (t : Triple) : Type 0 where
  pub pieces : List Piece
  pub rest : List ℕ
  pub each : AllByRecursion (IsPieceOf k) pieces
  pub ends : spot_from (Some spot) (flat_map piece_value pieces) ≡ Some k
  pub whole : text ≡ flat_map piece_text pieces ++ mark_of k ∷ rest
  pub goes : run_from (closed slot (value ++ flat_map piece_value pieces)) rest ≡ Spelled t

module _ (slot : Slot) (k : Spot) (t : Triple) where
  -- a piece more
  one_more : (spot next : Spot) (value : List ℕ) (piece : Piece) (rest : List ℕ) → IsPieceOf k piece → spot_from (Some spot) (piece_value piece) ≡ Some next
      → ReadsPieces slot k next (value ++ piece_value piece) rest t → ReadsPieces slot k spot value (piece_text piece ++ rest) t
  one_more spot next value piece rest h e r = record {
    pieces = piece ∷ r.pieces;
    rest = r.rest;
    each = (h, r.each);
    ends = spot_from-append (Some spot) (piece_value piece) (flat_map piece_value r.pieces) ∙ ap (λ o. spot_from o (flat_map piece_value r.pieces)) e ∙ r.ends;
    whole = ap (λ l. piece_text piece ++ l) r.whole ∙ sym (append_assoc (piece_text piece) (flat_map piece_text r.pieces) (mark_of k ∷ r.rest));
    goes = ap (λ v. run_from (closed slot v) r.rest) (sym (append_assoc value (piece_value piece) (flat_map piece_value r.pieces))) ∙ r.goes;
  }

  -- no piece more
  no_more : (spot : Spot) (value : List ℕ) (byte : ℕ) (rest : List ℕ) → kind spot ≡ k → closes spot byte ≡ true → run_from (closed slot value) rest ≡ Spelled t
      → ReadsPieces slot k spot value (byte ∷ rest) t
  no_more spot value byte rest same h g =
      let c = closes_kind spot byte h in
      record {
        pieces = [];
        rest = rest;
        each = tt;
        ends = c.0 ∙ ap Some same;
        whole = ap (λ b. b ∷ rest) (c.1 ∙ ap mark_of same);
        goes = ap (λ v. run_from (closed slot v) rest) (append-nil value) ∙ g;
      }

  -- what is read from within a term, with so much of a piece before it
  abbrev Reads : List ℕ → Type 0
  Reads text = (spot : Spot) (part : Part) (value begun : List ℕ) → kind spot ≡ k → IsBegun part begun → run text (Within slot spot part value) ≡ Spelled t
      → ReadsPieces slot k spot value (begun ++ text) t

  -- a byte that stands for itself
  plain_reads : (spot : Spot) (value : List ℕ) (byte : ℕ) (rest : List ℕ) (found : Option Spot) → Reads rest → kind spot ≡ k → after_plain spot byte ≡ found
      → run_from (within slot (value ++ byte ∷ []) found) rest ≡ Spelled t → ReadsPieces slot k spot value (byte ∷ rest) t
  plain_reads spot value byte rest None f same e h = stopped_spelled h
  plain_reads spot value byte rest (Some next) f same e h =
      let p : IsPlainAt spot next byte = plain_at spot next byte e in
      one_more spot next value (Plain byte) rest (subst (λ s. IsPieceOf s (Plain byte)) same p.allowed) (ap (λ o. spot_from o []) p.leads)
      (f next Between (value ++ byte ∷ []) [] (kind_after spot next byte p.leads ∙ same) refl h)

  -- between pieces
  between_reads : (spot : Spot) (value : List ℕ) (byte : ℕ) (rest : List ℕ) → Reads rest → kind spot ≡ k → run (byte ∷ rest) (Within slot spot Between value) ≡ Spelled t
      → ReadsPieces slot k spot value (byte ∷ rest) t
  unfolding run step
  between_reads spot value byte rest f same h =
      elim (cases_Bool (eqb byte 92)) [
        | inl e ↦
            let g = rw e at h in
            subst (λ b. ReadsPieces slot k spot value (b ∷ rest) t) (sym (eqb-true byte 92 e)) (f spot Behind value (92 ∷ []) same refl g)
        | inr e ↦ elim (cases_Bool (closes spot byte)) [
          | inl c ↦ let g = rw (e, c) at h in no_more spot value byte rest same c g
          | inr c ↦ let g = rw (e, c) at h in plain_reads spot value byte rest (after_plain spot byte) f same refl g
        ]
      ]

  -- a letter behind a backslash
  letter_reads : (spot : Spot) (value : List ℕ) (letter : ℕ) (rest : List ℕ) → Reads rest → kind spot ≡ k → run_from (with_letter slot spot value letter) rest ≡ Spelled t
      → ReadsPieces slot k spot value (92 ∷ letter ∷ rest) t
  letter_reads SchemeStart value letter rest f same h = stopped_spelled h
  letter_reads Scheme value letter rest f same h = stopped_spelled h
  letter_reads IriRest value letter rest f same h = stopped_spelled h
  letter_reads Lexical value letter rest f same h =
      elim (cases_Bool (is_escape_letter letter)) [
        | inl e ↦
            let g = rw e at h in
            one_more Lexical Lexical value (Letter letter) rest (subst (λ s. IsPieceOf s (Letter letter)) same e) refl
            (f Lexical Between (value ++ letter_value letter ∷ []) [] same refl g)
        | inr e ↦ stopped_spelled (rw e at h)
      ]

  -- behind a backslash
  behind_reads : (spot : Spot) (value : List ℕ) (byte : ℕ) (rest : List ℕ) → Reads rest → kind spot ≡ k → run (byte ∷ rest) (Within slot spot Behind value) ≡ Spelled t
      → ReadsPieces slot k spot value (92 ∷ byte ∷ rest) t
  unfolding run step
  behind_reads spot value byte rest f same h =
      elim (cases_Bool (eqb byte 117)) [
        | inl e ↦
            let g = rw e at h in
            subst (λ b. ReadsPieces slot k spot value (92 ∷ b ∷ rest) t) (sym (eqb-true byte 117 e))
            (f spot (Digits 4 0) value (92 ∷ 117 ∷ []) same (record { done = []; hexadecimal = refl; named = refl; form = inl (refl, refl) }) g)
        | inr e ↦ elim (cases_Bool (eqb byte 85)) [
          | inl c ↦
              let g = rw (e, c) at h in
              subst (λ b. ReadsPieces slot k spot value (92 ∷ b ∷ rest) t) (sym (eqb-true byte 85 c))
              (f spot (Digits 8 0) value (92 ∷ 85 ∷ []) same (record { done = []; hexadecimal = refl; named = refl; form = inr (refl, refl) }) g)
          | inr c ↦ let g = rw (e, c) at h in letter_reads spot value byte rest f same g
        ]
      ]

  -- behind a whole escape
  escaped_reads : (spot : Spot) (value begun rest : List ℕ) (code : ℕ) (found : Option Spot) → Reads rest → kind spot ≡ k → IsScalar code → IsEscape begun 0 code
      → spot_behind spot code ≡ found → run_from (within slot (value ++ encode_utf8 code) found) rest ≡ Spelled t → ReadsPieces slot k spot value (begun ++ rest) t
  escaped_reads spot value begun rest code None f same s b e h = stopped_spelled h
  escaped_reads spot value begun rest code (Some next) f same s b e h =
      let w = whole_escape begun code b s in
      subst (λ l. ReadsPieces slot k spot value (l ++ rest) t) (sym w.written)
      (one_more spot next value w.piece rest (w.allowed k) (ap (spot_from (Some spot)) (sym w.means) ∙ spot_from-encode spot code s ∙ e)
      (subst (λ v. ReadsPieces slot k next (value ++ v) rest t) w.means (f next Between (value ++ encode_utf8 code) [] (kind_after spot next code e ∙ same) refl h)))

  -- behind a digit
  digit_reads : (spot : Spot) (value begun rest : List ℕ) (left code : ℕ) → Reads rest → kind spot ≡ k → IsEscape begun left code
      → run_from (with_digit slot spot value left code) rest ≡ Spelled t → ReadsPieces slot k spot value (begun ++ rest) t
  digit_reads spot value begun rest zero code f same b h =
      elim (cases_Bool (scalar code)) [
        | inl s ↦ let g = rw s at h in escaped_reads spot value begun rest code (spot_behind spot code) f same s b refl g
        | inr s ↦ stopped_spelled (rw s at h)
      ]
  digit_reads spot value begun rest (suc left) code f same b h =
      elim (cases_Bool (may_begin spot (suc left) code)) [
        | inl m ↦ let g = rw m at h in f spot (Digits (suc left) code) value begun same b g
        | inr m ↦ stopped_spelled (rw m at h)
      ]

  -- among digits
  digits_read : (spot : Spot) (value begun : List ℕ) (left code byte : ℕ) (rest : List ℕ) → Reads rest → kind spot ≡ k → IsEscape begun left code
      → run (byte ∷ rest) (Within slot spot (Digits left code) value) ≡ Spelled t → ReadsPieces slot k spot value (begun ++ byte ∷ rest) t
  unfolding run step
  digits_read spot value begun zero code byte rest f same b h = stopped_spelled h
  digits_read spot value begun (suc left) code byte rest f same b h =
      elim (cases_Bool (is_hexadecimal byte)) [
        | inl x ↦
            let g = rw x at h in
            subst (λ l. ReadsPieces slot k spot value l t) (append_assoc begun (byte ∷ []) rest)
            (digit_reads spot value (begun ++ byte ∷ []) rest left (16 * code + digit_value byte) f same (digit_more begun left code byte b x) g)
        | inr x ↦ stopped_spelled (rw x at h)
      ]

  -- no triple's text ends within a term
  ended_reads : (spot : Spot) (part : Part) (value : List ℕ) (text : List ℕ) → run [] (Within slot spot part value) ≡ Spelled t → ReadsPieces slot k spot value text t
  unfolding run verdict
  ended_reads spot part value text h = stopped_spelled h

  -- from within a term pieces are read, up to the mark that closes it
  reads : (text : List ℕ) → Reads text
  reads [] spot part value begun same b h = ended_reads spot part value (begun ++ []) h
  reads (byte ∷ rest) spot Between value begun same b h =
      subst (λ l. ReadsPieces slot k spot value (l ++ byte ∷ rest) t) (sym b) (between_reads spot value byte rest (reads rest) same h)
  reads (byte ∷ rest) spot Behind value begun same b h =
      subst (λ l. ReadsPieces slot k spot value (l ++ byte ∷ rest) t) (sym b) (behind_reads spot value byte rest (reads rest) same h)
  reads (byte ∷ rest) spot (Digits left code) value begun same b h = digits_read spot value begun left code byte rest (reads rest) same b h

-- from the beginning of a term
pub pieces_found : (slot : Slot) (spot : Spot) (text : List ℕ) (t : Triple) → run text (Within slot spot Between []) ≡ Spelled t
    → ReadsPieces slot (kind spot) spot [] text t
pieces_found slot spot text t h = reads slot (kind spot) t text spot Between [] [] refl refl h
