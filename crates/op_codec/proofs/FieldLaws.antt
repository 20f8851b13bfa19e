-- How pieces and numbers are read.
use Rattle.std.proofs.Common.{◌≡◌, ℕ, ◌+◌, ◌-◌, ◌^◌, ◌<◌, ◌≤◌, List, ◌++◌, inl, inr, length, take, drop, sym, ap, ◌∙◌, arith}
use Rattle.std.proofs.lemmas.Bool.Decides.{leb_tells}
use Rattle.std.proofs.lemmas.List.{length-append, length-drop, take_at, drop_at, drop-drop}
use Rattle.mld_bytes.proofs.Numbers.{length-u32_bytes, u32_number-bytes}
use Rattle.mld_bytes.specs.Bytes.{u32_bytes, u32_number, IsAt}
use Rattle.op_codec.specs.Agreement.{IsRead}
use Rattle.op_codec.specs.Reading.{Reading, Found, Fault, chain, read_piece, read_u32}

-- a piece is read where enough bytes are left
pub piece_enough : (size place : ℕ) (bytes : List ℕ) → size ≤ length bytes → read_piece size place bytes ≡ Found (take size bytes) (place + size) (drop size bytes)
unfolding read_piece
piece_enough size place bytes h = elim (leb_tells size (length bytes)) [
  | inl t ↦ rw t.0
  | inr t ↦ absurd (omega (arith, t.1))
]

-- a piece is refused where too few bytes are left
pub piece_short : (size place : ℕ) (bytes : List ℕ) → length bytes < size → read_piece size place bytes ≡ Fault place
unfolding read_piece
piece_short size place bytes h = elim (leb_tells size (length bytes)) [
  | inl t ↦ absurd (omega (arith, t.1))
  | inr t ↦ rw t.0
]

-- a piece is read whatever follows
pub piece_takes : (size place : ℕ) (piece rest : List ℕ) → length piece ≡ size → read_piece size place (piece ++ rest) ≡ Found piece (place + size) rest
piece_takes size place piece rest e =
    let long = length-append piece rest in
    piece_enough size place (piece ++ rest) (omega arith)
    ∙ (λ i. Found (take_at piece rest size e i) (place + size) (drop_at piece rest size e i))

-- a number is read whatever follows
pub u32_takes : (n place : ℕ) (rest : List ℕ) → n < 2 ^ 32 → read_u32 place (u32_bytes n ++ rest) ≡ Found n (place + 4) rest
unfolding read_u32
u32_takes n place rest l =
    ap (λ (r : Reading (List ℕ)). chain r (λ piece next left. Found (u32_number piece) next left)) (piece_takes 4 place (u32_bytes n) rest (length-u32_bytes n))
    ∙ ap (λ (m : ℕ). Found m (place + 4) rest) (u32_number-bytes n l)

-- a number is refused where too few bytes are left
pub u32_short : (place : ℕ) (bytes : List ℕ) → length bytes < 4 → read_u32 place bytes ≡ Fault place
unfolding read_u32
u32_short place bytes h =
    ap (λ (r : Reading (List ℕ)). chain r (λ piece next left. Found (u32_number piece) next left)) (piece_short 4 place bytes h)

-- the number whose bytes stand at a place is read there
pub u32_read : (n at next : ℕ) (input : List ℕ) → n < 2 ^ 32 → IsAt (u32_bytes n) input at next → IsRead (read_u32 at (drop at input)) input n next
u32_read n at next input l h = record {
  found = ap (read_u32 at) h.front ∙ u32_takes n at (drop next input) l ∙ ap (λ (p : ℕ). Found n p (drop next input)) (ap (λ (k : ℕ). at + k) (sym (length-u32_bytes n)) ∙ sym h.next_is);
  within = h.within;
}

-- where too few bytes are left no number is read
pub u32_refused : (at : ℕ) (input : List ℕ) → at ≤ length input → length input < at + 4 → read_u32 at (drop at input) ≡ Fault at
u32_refused at input l h = u32_short at (drop at input) (let e = length-drop at input in omega arith)

-- a piece is read that is within the input
pub piece_read : (size at : ℕ) (input : List ℕ) → at ≤ length input → size ≤ length input - at → IsRead (read_piece size at (drop at input)) input (take size (drop at input)) (at + size)
piece_read size at input l h = record {
  found = piece_enough size at (drop at input) (let e = length-drop at input in omega arith) ∙ ap (λ (rest : List ℕ). Found (take size (drop at input)) (at + size) rest) (drop-drop size at input);
  within = omega arith;
}

-- a piece is refused that isn't within the input
pub piece_refused : (size at : ℕ) (input : List ℕ) → at ≤ length input → length input - at < size → read_piece size at (drop at input) ≡ Fault at
piece_refused size at input l h = piece_short size at (drop at input) (let e = length-drop at input in omega arith)
