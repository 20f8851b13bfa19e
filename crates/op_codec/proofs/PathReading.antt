-- How paths are read, and that what is written for a path is read as that path.
use Rattle.std.proofs.Common.{◌≡◌, ◌≢◌, ℕ, zero, suc, ◌+◌, ◌*◌, ◌/◌, ◌%◌, ◌^◌, ◌<◌, ◌≤◌, List, [], ◌∷◌, ◌++◌, true, false, length, drop, refl, sym, ap, ◌∙◌, inl, inr, append_assoc, lit<, arith}
use Rattle.std.proofs.Math.Nat.{pow-suc, one-le-pow, pow-le-pow_right}
use Rattle.std.proofs.lemmas.Bool.Decides.{leb_tells, eqb_tells}
use Rattle.std.proofs.lemmas.List.{length-append, length-drop, drop_at}
use Rattle.std.proofs.lemmas.Nat.{pow-add, shl_below}
use Rattle.mld_bytes.proofs.Numbers.{length-number_bytes, number_in-bytes}
use Rattle.mld_bytes.specs.Bytes.{number_bytes, number_in, u8_bytes, IsAt}
use Rattle.tree_clock.specs.Letters.{number_of}
use Rattle.tree_clock.specs.Limits.{path_limit}
use Rattle.tree_clock.specs.Path.{letters}
use Rattle.op_codec.specs.Agreement.{IsRead}
use Rattle.op_codec.specs.Paths.{letter_bytes, spare_bits, is_path, path_bytes, read_path}
use Rattle.op_codec.specs.Reading.{Found, Fault}

-- ---- numbers of letters

-- so many bytes hold so many bits
pub bits_of_bytes : (size : ℕ) → 2 ^ (8 * size) ≡ 256 ^ size
bits_of_bytes zero = refl
bits_of_bytes (suc size) =
    ap (λ (n : ℕ). 2 ^ n) (omega arith) ∙ pow-add 2 (8 * size) 8 ∙ ap (λ (n : ℕ). n * 256) (bits_of_bytes size) ∙ sym (pow-suc 256 size)

-- the letters and the bits behind them fill their bytes
pub letters_fill : (count : ℕ) → count + spare_bits count ≡ 8 * letter_bytes count
letters_fill count = omega arith

-- the letters' number with the bits behind them fits their bytes
pub packed_fits : (count n worth size : ℕ) → worth ≡ 2 ^ spare_bits count → size ≡ letter_bytes count → n < 2 ^ count → n * worth < 256 ^ size
packed_fits count n worth size w s l =
    let e : n * worth ≡ n * 2 ^ spare_bits count = ap (λ (m : ℕ). n * m) w in
    let f : 256 ^ size ≡ 256 ^ letter_bytes count = ap (λ (m : ℕ). 256 ^ m) s in
    let below = shl_below n count (spare_bits count) l in
    let same : 2 ^ (count + spare_bits count) ≡ 256 ^ letter_bytes count = ap (λ (m : ℕ). 2 ^ m) (letters_fill count) ∙ bits_of_bytes (letter_bytes count) in
    omega arith

-- and so it fits eight bytes
pub packed_below : (count n worth : ℕ) → count ≤ path_limit → worth ≡ 2 ^ spare_bits count → n < 2 ^ count → n * worth < 2 ^ 64
packed_below count n worth c w l =
    let fits = packed_fits count n worth (letter_bytes count) w refl l in
    let few : letter_bytes count ≤ 8 = omega arith in
    let wide : 256 ^ letter_bytes count ≤ 256 ^ 8 = pow-le-pow_right {n = 256} (lit< tt) few in
    omega arith

-- a power of 2 is above zero
pub two_above : (n : ℕ) → zero < 2 ^ n
two_above n = let h = one-le-pow n 2 (omega arith) in omega arith

-- what is appended for a path
pub path_appended : (start middle end path : List ℕ) (count number worth size : ℕ) → count ≡ length path → number ≡ number_of path → worth ≡ 2 ^ spare_bits count → size ≡ letter_bytes count
    → middle ≡ start ++ u8_bytes count → end ≡ middle ++ number_bytes size (number * worth) → end ≡ start ++ path_bytes path
unfolding path_bytes
path_appended start middle end path count number worth size c n w s m e =
    let whole : count ∷ number_bytes size (number * worth) ≡ length path ∷ number_bytes (letter_bytes (length path)) (number_of path * 2 ^ spare_bits (length path)) =
    let s' : size ≡ letter_bytes (length path) = s ∙ ap letter_bytes c in
    let w' : worth ≡ 2 ^ spare_bits (length path) = w ∙ ap (λ (k : ℕ). 2 ^ spare_bits k) c in
    λ i. c i ∷ number_bytes (s' i) (n i * w' i) in
    e ∙ ap (λ (l : List ℕ). l ++ number_bytes size (number * worth)) m ∙ append_assoc start (count ∷ []) (number_bytes size (number * worth)) ∙ ap (λ (l : List ℕ). start ++ l) whole

-- ---- when a path is read

-- a path whose test is true is read
pub path_found : (place count : ℕ) (bytes : List ℕ) → is_path count bytes ≡ true
    → read_path place (count ∷ bytes) ≡ Found (letters count (number_in (letter_bytes count) bytes / 2 ^ spare_bits count)) (place + 1 + letter_bytes count) (drop (letter_bytes count) bytes)
unfolding read_path
path_found place count bytes t = rw t

-- a path whose test is false is refused where it begins
pub path_fault : (place count : ℕ) (bytes : List ℕ) → is_path count bytes ≡ false → read_path place (count ∷ bytes) ≡ Fault place
unfolding read_path
path_fault place count bytes f = rw f

-- the test of a path
pub is_path_when : (count : ℕ) (bytes : List ℕ) → count ≤ path_limit → letter_bytes count ≤ length bytes → number_in (letter_bytes count) bytes % 2 ^ spare_bits count ≡ 0 → is_path count bytes ≡ true
is_path_when count bytes l s e =
    elim (leb_tells count path_limit) [
      | inr t ↦ absurd (omega (arith, t.1))
      | inl t ↦ elim (leb_tells (letter_bytes count) (length bytes)) [
        | inr u ↦ absurd (omega (arith, u.1))
        | inl u ↦ rw (t.0, u.0, e)
      ]
    ]

-- too many letters
not_path_count : (count : ℕ) (bytes : List ℕ) → path_limit < count → is_path count bytes ≡ false
not_path_count count bytes l =
    elim (leb_tells count path_limit) [
      | inr t ↦ rw t.0
      | inl t ↦ absurd (omega (arith, t.1))
    ]

-- too few bytes
not_path_short : (count : ℕ) (bytes : List ℕ) → length bytes < letter_bytes count → is_path count bytes ≡ false
not_path_short count bytes l =
    elim (leb_tells count path_limit) [
      | inr t ↦ rw t.0
      | inl t ↦ elim (leb_tells (letter_bytes count) (length bytes)) [
        | inr u ↦ rw (t.0, u.0)
        | inl u ↦ absurd (omega (arith, u.1))
      ]
    ]

-- bits behind the letters that aren't 0
not_path_spare : (count : ℕ) (bytes : List ℕ) → number_in (letter_bytes count) bytes % 2 ^ spare_bits count ≢ 0 → is_path count bytes ≡ false
not_path_spare count bytes n =
    elim (leb_tells count path_limit) [
      | inr t ↦ rw t.0
      | inl t ↦ elim (leb_tells (letter_bytes count) (length bytes)) [
        | inr u ↦ rw (t.0, u.0)
        | inl u ↦ elim (eqb_tells (number_in (letter_bytes count) bytes % 2 ^ spare_bits count) 0) [
          | inl w ↦ absurd (n w.1)
          | inr w ↦ rw (t.0, u.0, w.0)
        ]
      ]
    ]

-- ---- the program's reading

-- no path where no byte is left
pub path_none : (place : ℕ) (bytes : List ℕ) → length bytes ≡ 0 → read_path place bytes ≡ Fault place
unfolding read_path
path_none place [] e = refl
path_none place (byte ∷ bytes) e = absurd (omega arith)

-- no path at the end of the input
pub path_refused_end : (at : ℕ) (input : List ℕ) → at ≤ length input → length input < at + 1 → read_path at (drop at input) ≡ Fault at
path_refused_end at input l h = path_none at (drop at input) (let e = length-drop at input in omega arith)

-- no path of too many letters
pub path_refused_count : (count at start : ℕ) (input : List ℕ) → IsAt (u8_bytes count) input at start → path_limit < count → read_path at (drop at input) ≡ Fault at
path_refused_count count at start input h l =
    ap (read_path at) h.front ∙ path_fault at count (drop start input) (not_path_count count (drop start input) l)

-- no path whose letters are cut short
pub path_refused_short : (count size at start : ℕ) (input : List ℕ) → size ≡ letter_bytes count → IsAt (u8_bytes count) input at start → length input < start + size → read_path at (drop at input) ≡ Fault at
path_refused_short count size at start input s h l =
    ap (read_path at) h.front ∙ path_fault at count (drop start input) (not_path_short count (drop start input) (let e = length-drop start input in let w = h.within in omega arith))

-- the letters' bytes stand at a place
pub record HasLetters (count size number worth : ℕ) (input : List ℕ) (at start next : ℕ) : Type 0 where
  pub size_is : size ≡ letter_bytes count
  pub worth_is : worth ≡ 2 ^ spare_bits count
  pub count_at : IsAt (u8_bytes count) input at start
  pub number_at : IsAt (number_bytes size number) input start next
  pub fits : number < 256 ^ size

module _ (count size number worth : ℕ) (input : List ℕ) (at start next : ℕ) (h : HasLetters count size number worth input at start next) where
  -- the number of the letters' bytes
  number_read : number_in (letter_bytes count) (drop start input) ≡ number
  number_read =
      ap (λ (n : ℕ). number_in n (drop start input)) (sym h.size_is) ∙ ap (number_in size) h.number_at.front ∙ number_in-bytes size number (drop next input) h.fits

  -- what is left of it behind the letters
  left_read : number_in (letter_bytes count) (drop start input) % 2 ^ spare_bits count ≡ number % worth
  left_read = let worth_is : 2 ^ spare_bits count ≡ worth = sym h.worth_is in λ i. number_read i % worth_is i

  -- no path with a bit set behind its letters
  pub path_refused_spare : number % worth ≢ 0 → read_path at (drop at input) ≡ Fault at
  path_refused_spare n =
      ap (read_path at) h.count_at.front ∙ path_fault at count (drop start input) (not_path_spare count (drop start input) (λ z. n (sym left_read ∙ z)))

  -- the path of the letters that stand at a place
  pub path_read : count ≤ path_limit → number % worth ≡ 0 → IsRead (read_path at (drop at input)) input (letters count (number / worth)) next
  path_read c z =
      let long : length (number_bytes size number) ≡ size = length-number_bytes size number in
      let whole : length (drop start input) ≡ length (number_bytes size number) + length (drop next input) = ap length h.number_at.front ∙ length-append (number_bytes size number) (drop next input) in
      let there : at + 1 + letter_bytes count ≡ next = let a = h.count_at.next_is in let b = h.number_at.next_is in let e = h.size_is in omega arith in
      let rest : drop (letter_bytes count) (drop start input) ≡ drop next input =
      ap (λ (n : ℕ). drop n (drop start input)) (sym h.size_is) ∙ ap (drop size) h.number_at.front ∙ drop_at (number_bytes size number) (drop next input) size long in
      let worth_is : 2 ^ spare_bits count ≡ worth = sym h.worth_is in
      record {
        found = ap (read_path at) h.count_at.front
            ∙ path_found at count (drop start input) (is_path_when count (drop start input) c (let e = h.size_is in omega arith) (left_read ∙ z))
            ∙ (λ i. Found (letters count (number_read i / worth_is i)) (there i) (rest i));
        within = h.number_at.within;
      }
