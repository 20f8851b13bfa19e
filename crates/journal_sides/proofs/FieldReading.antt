-- How the program reads the fields of a head.
use Rattle.std.proofs.Common.{◌≡◌, ℕ, ◌+◌, ◌^◌, ◌<◌, ◌≤◌, List, Bool, true, false, ◌&&◌, if◌then◌else◌, length, take, drop, refl, sym, ap, ◌∙◌, inl, inr, arith}
use Rattle.std.proofs.lemmas.Bool.{cases_Bool, and_from}
use Rattle.std.proofs.lemmas.List.{length-drop}
use Rattle.std.proofs.lemmas.Str.{IsUtf8-from_is_utf8, is_utf8-from_IsUtf8}
use Rattle.std.specs.Str.{IsUtf8, is_utf8}
use Rattle.mld_bytes.specs.Bytes.{u64_bytes, IsAt}
use Rattle.op_codec.specs.Agreement.{IsRead, IsRefused}
use Rattle.op_codec.specs.Reading.{Reading, Found, Fault, chain, read_u32, read_piece}
use Rattle.op_codec.specs.declared.faults.CodecFault.{CodecFault}
use Rattle.op_codec.proofs.FieldLaws.{piece_short}
use Rattle.op_codec.proofs.ListLaws.{refused_later, refused_same}
use Rattle.journal_sides.specs.RecordsRead.{piece_at, HasText, MissesText}
use Rattle.journal_sides.specs.Format.{generation_size, u64_number}
use Rattle.journal_sides.specs.Heads.{text_at, read_generation, read_text}
use Rattle.journal_sides.proofs.FieldTrips.{length-u64_bytes, generation_back}

-- the generation whose bytes stand at a place is read there
pub generation_read : (n at next : ℕ) (input : List ℕ) → n < 2 ^ 64 → IsAt (u64_bytes n) input at next → IsRead (read_generation at (drop at input)) input n next
generation_read n at next input l h = record {
  found = ap (read_generation at) h.front ∙ generation_back n at (drop next input) l ∙ ap (λ (p : ℕ). Found n p (drop next input)) (ap (λ (k : ℕ). at + k) (sym (length-u64_bytes n)) ∙ sym h.next_is);
  within = h.within;
}

-- where too few bytes are left no generation is read
pub generation_refused : (at : ℕ) (input : List ℕ) → at ≤ length input → length input < at + 8 → read_generation at (drop at input) ≡ Fault at
unfolding read_generation
generation_refused at input l h =
    ap (λ (r : Reading (List ℕ)). chain r (λ piece next rest. Found (u64_number piece) next rest)) (piece_short generation_size at (drop at input) (let e = length-drop at input in omega arith))

-- the bytes of a text are found behind its length
pub text_found : (input : List ℕ) (at size start stop : ℕ) → IsRead (read_u32 at (drop at input)) input size start → IsRead (read_piece size start (drop start input)) input (take size (drop start input)) stop
    → stop ≡ start + size → HasText input at start stop
unfolding read_text
text_found input at size start stop r p e =
    let same : take size (drop start input) ≡ piece_at input start stop = ap (λ (n : ℕ). take n (drop start input)) (omega arith) in
    record {
      reads = λ fits.
          ap (λ (x : Reading ℕ). chain x (λ size next rest. chain (read_piece size next rest) (λ text end left. text_at fits next text end left))) r.found
          ∙ ap (λ (x : Reading (List ℕ)). chain x (λ text end left. text_at fits start text end left)) p.found
          ∙ ap (λ (text : List ℕ). text_at fits start text stop (drop stop input)) same;
      ordered = omega arith;
      within = p.within;
    }

-- where the length of a text can't be read there is none
pub text_without_length : (input : List ℕ) (at : ℕ) (fault : CodecFault) → IsRefused (read_u32 at (drop at input)) fault → MissesText input at fault
unfolding read_text
text_without_length input at fault h fits = refused_later (read_u32 at (drop at input)) (λ size next rest. chain (read_piece size next rest) (λ text end left. text_at fits next text end left)) fault h

-- where too few bytes stand behind the length of a text there is none
pub text_too_short : (input : List ℕ) (at size start : ℕ) (fault : CodecFault) → IsRead (read_u32 at (drop at input)) input size start → IsRefused (read_piece size start (drop start input)) fault → MissesText input at fault
unfolding read_text
text_too_short input at size start fault r h fits =
    refused_same (chain (read_u32 at (drop at input)) (λ size next rest. chain (read_piece size next rest) (λ text end left. text_at fits next text end left)))
    (chain (read_piece size start (drop start input)) (λ text end left. text_at fits start text end left)) fault
    (ap (λ (x : Reading ℕ). chain x (λ size next rest. chain (read_piece size next rest) (λ text end left. text_at fits next text end left))) r.found)
    (refused_later (read_piece size start (drop start input)) (λ text end left. text_at fits start text end left) fault h)

module _ (fits : List ℕ → Bool) (input : List ℕ) (at start stop : ℕ) (has : HasText input at start stop) where
  -- a text that passes its test is read
  pub text_read : (text : List ℕ) → text ≡ piece_at input start stop → IsUtf8 text → fits text ≡ true → IsRead (read_text fits at (drop at input)) input text stop
  text_read text e u f =
      let t : is_utf8 text && fits text ≡ true = and_from (is_utf8 text) (fits text) (is_utf8-from_IsUtf8 text u) f in
      record {
        found = has.reads fits ∙ ap (λ (l : List ℕ). text_at fits start l stop (drop stop input)) (sym e) ∙ ap (λ (b : Bool). if b then Found text stop (drop stop input) else Fault start) t;
        within = has.within;
      }

  -- a text that fails its test is a fault where its bytes begin
  pub text_unfit : (text : List ℕ) → text ≡ piece_at input start stop → fits text ≡ false → read_text fits at (drop at input) ≡ Fault start
  text_unfit text e f =
      has.reads fits ∙ ap (λ (l : List ℕ). text_at fits start l stop (drop stop input)) (sym e)
      ∙ ap (λ (b : Bool). if b then Found text stop (drop stop input) else Fault start) (both (is_utf8 text))
    where
      both : (b : Bool) → b && fits text ≡ false
      both true = f
      both false = refl

  -- and so are bytes that are no text
  pub text_no_utf8 : ¬ IsUtf8 (piece_at input start stop) → read_text fits at (drop at input) ≡ Fault start
  text_no_utf8 n =
      has.reads fits ∙ ap (λ (b : Bool). if b && fits (piece_at input start stop) then Found (piece_at input start stop) stop (drop stop input) else Fault start) none
    where
      none : is_utf8 (piece_at input start stop) ≡ false
      none = elim (cases_Bool (is_utf8 (piece_at input start stop))) [
        | inl t ↦ absurd (n (IsUtf8-from_is_utf8 (piece_at input start stop) t))
        | inr f ↦ f
      ]
