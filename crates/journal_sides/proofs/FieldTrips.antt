-- What is written for the fields of a head is read as them, and what is read was written so.
use Rattle.std.proofs.Common.{◌≡◌, ℕ, ◌+◌, ◌^◌, ◌<◌, List, ◌++◌, Bool, true, ◌&&◌, if◌then◌else◌, nat_eq, length, refl, sym, ap, ◌∙◌, subst, inl, inr, arith}
use Rattle.std.proofs.lemmas.Bool.{cases_Bool, and_parts, and_from}
use Rattle.std.proofs.lemmas.Nat.{be_bytes_8, from_be_bytes-to_be_bytes_8}
use Rattle.std.proofs.lemmas.Slice.Eq.{bytes_eq-Decides}
use Rattle.std.proofs.lemmas.Str.{IsUtf8-from_is_utf8, is_utf8-from_IsUtf8}
use Rattle.std.specs.Cmp.Lexicographic.{pointwise}
use Rattle.std.specs.Int.{w64, to_be_bytes, from_be_bytes}
use Rattle.std.specs.Str.{is_utf8}
use Rattle.mld_bytes.proofs.Numbers.{length-u32_bytes}
use Rattle.mld_bytes.specs.Bytes.{u32_bytes, u64_bytes, piece_bytes}
use Rattle.op_codec.specs.CodecLaws.{AreBytes, IsReadBack, IsWritten, IsOneSpelling}
use Rattle.op_codec.specs.Reading.{Reading, Found, Fault, chain, read_u32, read_piece}
use Rattle.op_codec.proofs.FieldLaws.{piece_takes, u32_takes}
use Rattle.op_codec.proofs.FieldTrips.{piece_was, u32_was}
use Rattle.op_codec.proofs.Sequences.{then_back, Splits, splits, bytes_front, same_parts, fault_found, both_written}
use Rattle.journal_sides.specs.Format.{head_mark, generation_size, u64_number}
use Rattle.journal_sides.specs.StoredVolumes.{IsText}
use Rattle.journal_sides.specs.Heads.{text_at, read_mark, read_generation, read_text}

-- ---- the mark

-- the mark is read back
pub mark_back : (place : ℕ) (rest : List ℕ) → read_mark place (head_mark ++ rest) ≡ Found head_mark (place + length head_mark) rest
unfolding read_mark
mark_back place rest =
    ap (λ (r : Reading (List ℕ)). chain r (λ piece next left. if pointwise nat_eq piece head_mark then Found piece next left else Fault place)) (piece_takes (length head_mark) place head_mark rest refl)

-- the mark was written
pub mark_was : (place : ℕ) (bytes mark : List ℕ) (next : ℕ) (rest : List ℕ) → read_mark place bytes ≡ Found mark next rest
    → (bytes ≡ head_mark ++ rest) × (next ≡ place + length head_mark)
unfolding read_mark
mark_was place bytes mark next rest h =
    by (splits (read_piece (length head_mark) place bytes) (λ piece at left. if pointwise nat_eq piece head_mark then Found piece at left else Fault place) mark next rest h)
  where
    by : Splits (read_piece (length head_mark) place bytes) (λ piece at left. if pointwise nat_eq piece head_mark then Found piece at left else Fault place) mark next rest
        → (bytes ≡ head_mark ++ rest) × (next ≡ place + length head_mark)
    by s =
        let p = piece_was (length head_mark) place bytes s.value s.place s.rest s.first in
        elim (cases_Bool (pointwise nat_eq s.value head_mark)) [
          | inr f ↦ fault_found (Fault place) place next mark rest refl (rw f at s.second)
          | inl t ↦
              let same : s.value ≡ head_mark = (bytes_eq-Decides s.value head_mark).0 t in
              let e = same_parts s.value mark s.place next s.rest rest (rw t at s.second) in
              let l = e.rest_is in
              (p.1 ∙ (λ i. same i ++ l i), sym e.place_is ∙ p.2)
        ]

-- ---- the generation

-- a number of eight bytes has as many
pub length-u64_bytes : (n : ℕ) → length (u64_bytes n) ≡ generation_size
unfolding u64_bytes
length-u64_bytes n = refl

-- a generation is read back
pub generation_back : (n place : ℕ) (rest : List ℕ) → n < 2 ^ 64 → read_generation place (u64_bytes n ++ rest) ≡ Found n (place + generation_size) rest
unfolding read_generation u64_number u64_bytes
generation_back n place rest l =
    ap (λ (r : Reading (List ℕ)). chain r (λ piece next left. Found (from_be_bytes w64 piece) next left)) (piece_takes 8 place (to_be_bytes w64 n) rest refl)
    ∙ ap (λ (m : ℕ). Found m (place + 8) rest) (from_be_bytes-to_be_bytes_8 n l)

-- a generation was written so
pub generation_was : (place : ℕ) (bytes : List ℕ) (n next : ℕ) (rest : List ℕ) → AreBytes bytes → read_generation place bytes ≡ Found n next rest
    → (n < 2 ^ 64) × (bytes ≡ u64_bytes n ++ rest) × (next ≡ place + generation_size)
unfolding read_generation u64_number u64_bytes
generation_was place bytes n next rest b h = by (splits (read_piece 8 place bytes) (λ piece end left. Found (from_be_bytes w64 piece) end left) n next rest h)
  where
    by : Splits (read_piece 8 place bytes) (λ piece end left. Found (from_be_bytes w64 piece) end left) n next rest
        → (n < 2 ^ 64) × (bytes ≡ to_be_bytes w64 n ++ rest) × (next ≡ place + 8)
    by s =
        let p = piece_was 8 place bytes s.value s.place s.rest s.first in
        let e = same_parts (from_be_bytes w64 s.value) n s.place next s.rest rest s.second in
        let fine = bytes_front bytes s.value s.rest b p.1 in
        let whole : s.value ≡ to_be_bytes w64 n = sym (be_bytes_8 s.value n p.0 fine (sym e.value)) in
        let r = e.rest_is in
        let below : from_be_bytes w64 s.value < 2 ^ 64 = omega (arith, fine 0, fine 1, fine 2, fine 3, fine 4, fine 5, fine 6, fine 7) in
        (subst (λ (m : ℕ). m < 2 ^ 64) e.value below, p.1 ∙ (λ i. whole i ++ r i), sym e.place_is ∙ p.2)

-- ---- texts

module _ (fits : List ℕ → Bool) where
  -- the test of a text
  text_test : (text : List ℕ) → IsText fits text → is_utf8 text && fits text ≡ true
  text_test text is = and_from (is_utf8 text) (fits text) (is_utf8-from_IsUtf8 text is.utf8) is.fit

  -- a text is read back
  pub text_back : IsReadBack (IsText fits) piece_bytes (read_text fits)
  unfolding read_text
  text_back text place rest is =
      let four = length-u32_bytes (length text) in
      then_back read_u32 (λ size next rest. chain (read_piece size next rest) (λ text end left. text_at fits next text end left)) place (u32_bytes (length text)) text rest (length text) text
      (u32_takes (length text) place (text ++ rest) is.short ∙ ap (λ (n : ℕ). Found (length text) (place + n) (text ++ rest)) (sym four))
      (ap (λ (r : Reading (List ℕ)). chain r (λ piece end left. text_at fits (place + length (u32_bytes (length text))) piece end left)) (piece_takes (length text) (place + length (u32_bytes (length text))) text rest refl)
      ∙ ap (λ (b : Bool). if b then Found text (place + length (u32_bytes (length text)) + length text) rest else Fault (place + length (u32_bytes (length text)))) (text_test text is))

  -- a text was written so
  pub text_one : IsOneSpelling (IsText fits) piece_bytes (read_text fits)
  unfolding read_text
  text_one place bytes text next rest b h =
      by (splits (read_u32 place bytes) (λ size next rest. chain (read_piece size next rest) (λ text end left. text_at fits next text end left)) text next rest h)
    where
      by : Splits (read_u32 place bytes) (λ size next rest. chain (read_piece size next rest) (λ text end left. text_at fits next text end left)) text next rest
          → IsWritten (IsText fits) piece_bytes place bytes text next rest
      by s = behind (u32_was place bytes s.value s.place s.rest b s.first) (splits (read_piece s.value s.place s.rest) (λ text end left. text_at fits s.place text end left) text next rest s.second)
        where
          behind : (s.value < 2 ^ 32) × (bytes ≡ u32_bytes s.value ++ s.rest) × (s.place ≡ place + 4)
              → Splits (read_piece s.value s.place s.rest) (λ text end left. text_at fits s.place text end left) text next rest
              → IsWritten (IsText fits) piece_bytes place bytes text next rest
          behind w t =
              let p = piece_was s.value s.place s.rest t.value t.place t.rest t.first in
              elim (cases_Bool (is_utf8 t.value && fits t.value)) [
                | inr f ↦ fault_found (Fault s.place) s.place next text rest refl (rw f at t.second)
                | inl u ↦
                    let e = same_parts t.value text t.place next t.rest rest (rw u at t.second) in
                    let parts = and_parts (is_utf8 t.value) (fits t.value) u in
                    let l = e.rest_is in
                    let size : s.value ≡ length t.value = sym p.0 in
                    let at : s.place ≡ place + length (u32_bytes s.value) = w.2 ∙ ap (λ (n : ℕ). place + n) (sym (length-u32_bytes s.value)) in
                    let end : t.place ≡ s.place + length t.value = p.2 ∙ ap (λ (n : ℕ). s.place + n) size in
                    let both = both_written (u32_bytes s.value) t.value place s.place t.place bytes s.rest t.rest w.1 at p.1 end in
                    let spelled : u32_bytes s.value ++ t.value ≡ piece_bytes t.value = ap (λ (n : ℕ). u32_bytes n ++ t.value) size in
                    subst (λ (m : List ℕ). IsWritten (IsText fits) piece_bytes place bytes m next rest) e.value (record {
                      value_is = record { utf8 = IsUtf8-from_is_utf8 t.value parts.0; fit = parts.1; short = subst (λ (n : ℕ). n < 2 ^ 32) size w.0 };
                      front = both.front ∙ (λ i. spelled i ++ l i);
                      next_is = sym e.place_is ∙ both.next_is ∙ ap (λ (m : List ℕ). place + length m) spelled;
                    })
              ]
