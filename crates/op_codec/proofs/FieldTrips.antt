-- What is written for numbers, ticks, paths and dots is read as them, and what is read was written so.
use Rattle.std.proofs.Common.{◌≡◌, ℕ, ◌+◌, ◌^◌, ◌<◌, ◌≤◌, List, ◌++◌, if◌then◌else◌, length, take, drop, leb, refl, sym, ap, ◌∙◌, subst, inl, inr}
use Rattle.std.proofs.lemmas.Bool.{le-leb}
use Rattle.std.proofs.lemmas.Bool.Decides.{leb_tells}
use Rattle.std.proofs.lemmas.List.{take-append-drop, length-take-le}
use Rattle.mld_bytes.proofs.Numbers.{length-u32_bytes, u32_bytes-number, u32_number-below}
use Rattle.mld_bytes.specs.Bytes.{u32_bytes, u32_number}
use Rattle.op_codec.specs.Clocks.{tick_bytes, read_any_tick, read_tick}
use Rattle.op_codec.specs.CodecLaws.{AreBytes, IsReadBack, IsWritten, IsOneSpelling}
use Rattle.op_codec.specs.Reading.{Found, Fault, chain, read_piece, read_u32}
use Rattle.op_codec.specs.Stored.{IsTick}
use Rattle.op_codec.proofs.FieldLaws.{piece_enough, piece_short, u32_takes}
use Rattle.op_codec.proofs.Sequences.{Splits, splits, bytes_front, same_parts, fault_found}

-- ---- pieces and numbers

-- a piece that is read stands there
pub piece_was : (size place : ℕ) (bytes piece : List ℕ) (next : ℕ) (rest : List ℕ) → read_piece size place bytes ≡ Found piece next rest
    → (length piece ≡ size) × (bytes ≡ piece ++ rest) × (next ≡ place + size)
piece_was size place bytes piece next rest h =
    elim (leb_tells size (length bytes)) [
      | inl t ↦
          let e = same_parts (take size bytes) piece (place + size) next (drop size bytes) rest (sym (piece_enough size place bytes t.1) ∙ h) in
          let a = e.value in
          let b = e.rest_is in
          (sym (ap length a) ∙ length-take-le size bytes t.1, sym (take-append-drop size bytes) ∙ (λ i. a i ++ b i), sym e.place_is)
      | inr t ↦ fault_found (read_piece size place bytes) place next piece rest (piece_short size place bytes t.1) h
    ]

-- a number that is read was written so
pub u32_was : (place : ℕ) (bytes : List ℕ) (n next : ℕ) (rest : List ℕ) → AreBytes bytes → read_u32 place bytes ≡ Found n next rest
    → (n < 2 ^ 32) × (bytes ≡ u32_bytes n ++ rest) × (next ≡ place + 4)
unfolding read_u32
u32_was place bytes n next rest b h = by (splits (read_piece 4 place bytes) (λ piece end left. Found (u32_number piece) end left) n next rest h)
  where
    by : Splits (read_piece 4 place bytes) (λ piece end left. Found (u32_number piece) end left) n next rest → (n < 2 ^ 32) × (bytes ≡ u32_bytes n ++ rest) × (next ≡ place + 4)
    by s =
        let p = piece_was 4 place bytes s.value s.place s.rest s.first in
        let e = same_parts (u32_number s.value) n s.place next s.rest rest s.second in
        let fine = bytes_front bytes s.value s.rest b p.1 in
        let whole : s.value ≡ u32_bytes n = sym (u32_bytes-number s.value p.0 fine) ∙ ap u32_bytes e.value in
        let r = e.rest_is in
        (subst (λ (m : ℕ). m < 2 ^ 32) e.value (u32_number-below s.value fine), p.1 ∙ (λ i. whole i ++ r i), sym e.place_is ∙ p.2)

-- ---- ticks

-- a tick of any number is read back
pub any_tick_back : IsReadBack IsTick tick_bytes read_any_tick
any_tick_back tick place rest l = u32_takes tick place rest l ∙ ap (λ (n : ℕ). Found tick (place + n) rest) (sym (length-u32_bytes tick))

-- a tick of any number was written so
pub any_tick_one : IsOneSpelling IsTick tick_bytes read_any_tick
any_tick_one place bytes tick next rest b h =
    let w = u32_was place bytes tick next rest b h in
    record { value_is = w.0; front = w.1; next_is = w.2 ∙ ap (λ (n : ℕ). place + n) (sym (length-u32_bytes tick)) }

-- a tick from 1 on is read back
pub tick_back : (tick place : ℕ) (rest : List ℕ) → 1 ≤ tick → IsTick tick → read_tick place (tick_bytes tick ++ rest) ≡ Found tick (place + length (tick_bytes tick)) rest
tick_back tick place rest p l =
    ap (λ r. chain r (λ tick next left. if leb 1 tick then Found tick next left else Fault place)) (any_tick_back tick place rest l)
    ∙ rw (le-leb 1 tick p)

-- a tick from 1 on was written so
pub tick_one : (place : ℕ) (bytes : List ℕ) (tick next : ℕ) (rest : List ℕ) → AreBytes bytes → read_tick place bytes ≡ Found tick next rest
    → (1 ≤ tick) × IsWritten IsTick tick_bytes place bytes tick next rest
tick_one place bytes tick next rest b h = by (splits (read_any_tick place bytes) (λ tick end left. if leb 1 tick then Found tick end left else Fault place) tick next rest h)
  where
    by : Splits (read_any_tick place bytes) (λ tick end left. if leb 1 tick then Found tick end left else Fault place) tick next rest → (1 ≤ tick) × IsWritten IsTick tick_bytes place bytes tick next rest
    by s = elim (leb_tells 1 s.value) [
      | inl t ↦
          let e = same_parts s.value tick s.place next s.rest rest (rw t.0 at s.second) in
          let first : read_any_tick place bytes ≡ Found tick next rest = s.first ∙ (let a = e.value in let p = e.place_is in let r = e.rest_is in λ i. Found (a i) (p i) (r i)) in
          (subst (λ (n : ℕ). 1 ≤ n) e.value t.1, any_tick_one place bytes tick next rest b first)
      | inr t ↦ fault_found (Fault place) place next tick rest refl (rw t.0 at s.second)
    ]
