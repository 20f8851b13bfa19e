-- The bytes of the number that bytes read as are those bytes.
use Rattle.std.proofs.Common.{◌≡◌, ℕ, zero, suc, ◌+◌, ◌-◌, ◌*◌, ◌/◌, ◌%◌, ◌^◌, ◌<◌, ◌≤◌, List, [], ◌∷◌, ◌++◌, length, take, drop, slice_index, refl, sym, ap, ◌∙◌, arith}
use Rattle.std.proofs.Math.Nat.{mul_assoc, mul-add-div_right, mul-add-mod_self_right, one-le-pow, pow-suc}
use Rattle.std.proofs.lemmas.List.{length-append, length-drop, length-take-le, take-append-drop, take_rest, drop-drop, drop_at, take_at, get_or-drop}
use Rattle.std.proofs.lemmas.Nat.{div-mul-add, pow-add, be_bytes_4, from_be_bytes-to_be_bytes_4, from_be_bytes-to_be_bytes_8}
use Rattle.std.specs.Int.{w32, w64, byte_at, bytes_high_first, from_be_bytes}
use Rattle.byteorder.specs.Endian.{big_from, big_number}
use Rattle.byteorder.specs.Numbers.{big_from-cons, big_from-lt, big_number-reads_back, length-bytes_high_first}
use Rattle.mld_bytes.specs.Bytes.{number_bytes, number_in, piece_bytes, u32_bytes, u32_number, u64_bytes, IsAt, HasNoNumber, IsPieceAt, HasNoPiece}

-- a power of 256 is above zero
power_above : (n : ℕ) → zero < 256 ^ n
power_above n = let h = one-le-pow n 256 (omega arith) in omega arith

-- the byte above what is below its place
byte_above : (k a r : ℕ) → a < 256 → r < 256 ^ k → byte_at k (a * 256 ^ k + r) ≡ a
byte_above zero a r h l = omega arith
byte_above (suc k) a r h l = rw (div-mul-add a (256 ^ suc k) r l) (omega arith)

-- what is above a byte's place doesn't change the byte
byte_below : (k d a r : ℕ) → byte_at k (a * 256 ^ (k + suc d) + r) ≡ byte_at k r
byte_below zero d a r =
    let e : a * 256 ^ (0 + suc d) ≡ a * 256 ^ d * 256 = ap (λ (m : ℕ). a * 256 ^ m) (omega arith) ∙ ap (λ (m : ℕ). a * m) (pow-suc 256 d) ∙ sym (mul_assoc a (256 ^ d) 256) in
    ap (λ (m : ℕ). (m + r) % 256) e ∙ mul-add-mod_self_right (a * 256 ^ d) 256 r
byte_below (suc k) d a r =
    let e : a * 256 ^ (suc k + suc d) ≡ a * 256 ^ d * 256 * 256 ^ suc k =
    ap (λ (m : ℕ). a * 256 ^ m) (omega arith) ∙ ap (λ (m : ℕ). a * m) (pow-add 256 (suc d) (suc k)) ∙ sym (mul_assoc a (256 ^ suc d) (256 ^ suc k)) ∙ ap (λ (m : ℕ). a * m * 256 ^ suc k) (pow-suc 256 d) ∙ ap (λ (m : ℕ). m * 256 ^ suc k) (sym (mul_assoc a (256 ^ d) 256)) in
    ap (λ (m : ℕ). (m + r) / 256 ^ suc k % 256) e ∙ ap (λ (m : ℕ). m % 256) (mul-add-div_right (power_above (suc k)) (a * 256 ^ d * 256) r) ∙ mul-add-mod_self_right (a * 256 ^ d) 256 (r / 256 ^ suc k)

-- what is above the bytes of a number doesn't change them
bytes_below : (n m a r : ℕ) → n ≤ m → bytes_high_first n (a * 256 ^ m + r) ≡ bytes_high_first n r
bytes_below zero m a r l = refl
bytes_below (suc n) m a r l =
    let e : m ≡ n + suc (m - suc n) = omega arith in
    let top : byte_at n (a * 256 ^ m + r) ≡ byte_at n r = ap (λ (k : ℕ). byte_at n (a * 256 ^ k + r)) e ∙ byte_below n (m - suc n) a r in
    let rest : bytes_high_first n (a * 256 ^ m + r) ≡ bytes_high_first n r = bytes_below n m a r (omega arith) in
    λ i. top i ∷ rest i

-- the bytes of a number that reads from bytes are those bytes
pub bytes_read : (size : ℕ) (xs : List ℕ) → size ≤ length xs → ((k : ℕ) → slice_index xs k < 256)
    → bytes_high_first size (big_from 0 size xs) ≡ take size xs
bytes_read zero xs l h = refl
bytes_read (suc size) [] l h = absurd (omega arith)
bytes_read (suc size) (x ∷ xs) l h =
    let moved : big_from 1 size (x ∷ xs) ≡ big_from 0 size xs = big_from-cons 0 size x xs in
    let low : big_from 0 size xs < 256 ^ size = big_from-lt 0 size xs (λ k. h (suc k)) in
    let e : big_from 0 (suc size) (x ∷ xs) ≡ x * 256 ^ size + big_from 0 size xs = ap (λ (n : ℕ). x * 256 ^ size + n) moved in
    let top : byte_at size (x * 256 ^ size + big_from 0 size xs) ≡ x = byte_above size x (big_from 0 size xs) (h 0) low in
    let rest : bytes_high_first size (x * 256 ^ size + big_from 0 size xs) ≡ take size xs = bytes_below size size x (big_from 0 size xs) (omega arith) ∙ bytes_read size xs (omega arith) (λ k. h (suc k)) in
    ap (bytes_high_first (suc size)) e ∙ (λ i. top i ∷ rest i)

-- where too few bytes are left no number's bytes come first
pub none_short : (size at : ℕ) (input : List ℕ) → at ≤ length input → length input - at < size → HasNoNumber (number_bytes size) (drop at input)
none_short size at input l h n rest e =
    let whole : length (drop at input) ≡ length (bytes_high_first size n) + length rest = ap length e ∙ length-append (bytes_high_first size n) rest in
    let part = length-bytes_high_first size n in
    let left = length-drop at input in
    omega arith

-- the bytes of the number that is read at a place stand there
pub number_at : (size n at : ℕ) (input : List ℕ) → at ≤ length input → size ≤ length input - at → ((k : ℕ) → slice_index input k < 256)
    → n ≡ big_number size (take (length input - at) (drop at input)) → IsAt (number_bytes size n) input at (at + size)
number_at size n at input l h b e =
    let left = length-drop at input in
    let same : bytes_high_first size n ≡ take size (drop at input) =
    ap (bytes_high_first size) (e ∙ ap (big_number size) (take_rest input at)) ∙ bytes_read size (drop at input) (omega arith) (λ k. rw (get_or-drop at input k 0) (b (at + k))) in
    record {
      front = sym (take-append-drop size (drop at input)) ∙ ap (λ (front : List ℕ). front ++ drop size (drop at input)) (sym same) ∙ ap (λ (rest : List ℕ). bytes_high_first size n ++ rest) (drop-drop size at input);
      next_is = ap (λ (k : ℕ). at + k) (sym (length-bytes_high_first size n));
      within = omega arith;
    }

-- the number that is read at a place fits its bytes
pub number_fits : (size n at : ℕ) (input : List ℕ) → ((k : ℕ) → slice_index input k < 256) → n ≡ big_number size (take (length input - at) (drop at input)) → n < 256 ^ size
number_fits size n at input b e =
    let fits = big_from-lt 0 size (drop at input) (λ k. rw (get_or-drop at input k 0) (b (at + k))) in
    let same = e ∙ ap (big_number size) (take_rest input at) in
    omega arith

-- a number of four bytes has four
pub length-u32_bytes : (n : ℕ) → length (u32_bytes n) ≡ 4
unfolding u32_bytes
length-u32_bytes n = refl

-- the number that the bytes of a number are
pub u32_number-bytes : (n : ℕ) → n < 2 ^ 32 → u32_number (u32_bytes n) ≡ n
unfolding u32_bytes u32_number
u32_number-bytes n l = from_be_bytes-to_be_bytes_4 n l

-- the bytes of the number that four bytes are
pub u32_bytes-number : (bytes : List ℕ) → length bytes ≡ 4 → ((k : ℕ) → slice_index bytes k < 256) → u32_bytes (u32_number bytes) ≡ bytes
unfolding u32_bytes u32_number
u32_bytes-number bytes l b = be_bytes_4 bytes (from_be_bytes w32 bytes) l b refl

-- the number that four bytes are is below 2 ^ 32
pub u32_number-below : (bytes : List ℕ) → ((k : ℕ) → slice_index bytes k < 256) → u32_number bytes < 2 ^ 32
unfolding u32_number
u32_number-below bytes b = omega (arith, b 0, b 1, b 2, b 3)

-- a number of so many bytes has as many
pub length-number_bytes : (size n : ℕ) → length (number_bytes size n) ≡ size
length-number_bytes size n = length-bytes_high_first size n

-- the number that the bytes of a number are, whatever follows
pub number_in-bytes : (size n : ℕ) (rest : List ℕ) → n < 256 ^ size → number_in size (number_bytes size n ++ rest) ≡ n
unfolding number_in
number_in-bytes size n rest l = big_number-reads_back size n rest l

-- the bytes of the number that bytes are
pub number_bytes-in : (size : ℕ) (bytes : List ℕ) → size ≤ length bytes → ((k : ℕ) → slice_index bytes k < 256) → number_bytes size (number_in size bytes) ≡ take size bytes
unfolding number_in
number_bytes-in size bytes l b = bytes_read size bytes l b

-- the number that bytes are fits them
pub number_in-fits : (size : ℕ) (bytes : List ℕ) → ((k : ℕ) → slice_index bytes k < 256) → number_in size bytes < 256 ^ size
unfolding number_in
number_in-fits size bytes b = big_from-lt 0 size bytes b

-- two numbers with the same bytes are the same, and so is what follows them
pub u32_same : (m n : ℕ) (xs ys : List ℕ) → m < 2 ^ 32 → n < 2 ^ 32 → u32_bytes m ++ xs ≡ u32_bytes n ++ ys → (m ≡ n) × (xs ≡ ys)
unfolding u32_bytes
u32_same m n xs ys l k e = (
  sym (from_be_bytes-to_be_bytes_4 m l) ∙ ap (λ (bytes : List ℕ). from_be_bytes w32 (take 4 bytes)) e ∙ from_be_bytes-to_be_bytes_4 n k,
  ap (drop 4) e,
)

-- the same of the numbers of eight bytes
pub u64_same : (m n : ℕ) (xs ys : List ℕ) → m < 2 ^ 64 → n < 2 ^ 64 → u64_bytes m ++ xs ≡ u64_bytes n ++ ys → (m ≡ n) × (xs ≡ ys)
unfolding u64_bytes
u64_same m n xs ys l k e = (
  sym (from_be_bytes-to_be_bytes_8 m l) ∙ ap (λ (bytes : List ℕ). from_be_bytes w64 (take 8 bytes)) e ∙ from_be_bytes-to_be_bytes_8 n k,
  ap (drop 8) e,
)

-- the same of the numbers of so many bytes
pub number_same : (size m n : ℕ) (xs ys : List ℕ) → m < 256 ^ size → n < 256 ^ size → number_bytes size m ++ xs ≡ number_bytes size n ++ ys → (m ≡ n) × (xs ≡ ys)
number_same size m n xs ys l k e = (
  sym (big_number-reads_back size m xs l) ∙ ap (big_number size) e ∙ big_number-reads_back size n ys k,
  sym (drop_at (number_bytes size m) xs size (length-bytes_high_first size m)) ∙ ap (drop size) e ∙ drop_at (number_bytes size n) ys size (length-bytes_high_first size n),
)

-- the same of pieces
pub piece_same : (piece other xs ys : List ℕ) → length piece < 2 ^ 32 → length other < 2 ^ 32 → piece_bytes piece ++ xs ≡ piece_bytes other ++ ys → (piece ≡ other) × (xs ≡ ys)
unfolding u32_bytes
piece_same piece other xs ys l k e =
    let same = u32_same (length piece) (length other) (piece ++ xs) (other ++ ys) l k e in (
      sym (take_at piece xs (length piece) refl) ∙ ap (take (length piece)) same.1 ∙ take_at other ys (length piece) (sym same.0),
      sym (drop_at piece xs (length piece) refl) ∙ ap (drop (length piece)) same.1 ∙ drop_at other ys (length piece) (sym same.0),
    )

-- behind a length stands a piece of that length
pub piece_at : (size at start : ℕ) (input : List ℕ) → size < 2 ^ 32 → IsAt (u32_bytes size) input at start → size ≤ length input - start
    → IsPieceAt input at start (start + size)
unfolding u32_bytes
piece_at size at start input l at_start h =
    let e : start + size - start ≡ size = omega arith in
    let left = length-drop start input in
    let long : length (take size (drop start input)) ≡ size = length-take-le size (drop start input) (omega arith) in
    let next = at_start.next_is in
    let within = at_start.within in
    record {
      bytes = rw (e, long) (record {
        front = at_start.front ∙ ap (λ (rest : List ℕ). u32_bytes size ++ rest) (sym (take-append-drop size (drop start input)) ∙ ap (λ (rest : List ℕ). take size (drop start input) ++ rest) (drop-drop size start input));
        next_is = omega arith;
        within = omega arith;
      });
      start_is = at_start.next_is;
      ordered = omega arith;
      short = omega arith;
    }

-- where too few bytes stand behind a length no piece comes first
pub none_behind : (size at start : ℕ) (input : List ℕ) → size < 2 ^ 32 → IsAt (u32_bytes size) input at start → length input - start < size → HasNoPiece (drop at input)
unfolding u32_bytes
none_behind size at start input l at_start h piece rest short e =
    let same = u32_same size (length piece) (drop start input) (piece ++ rest) l short (sym at_start.front ∙ e) in
    let left = length-drop start input in
    let whole : length (drop start input) ≡ length piece + length rest = ap length same.1 ∙ length-append piece rest in
    let n = same.0 in
    omega arith

-- where no length comes first no piece does
pub none_without_length : (input : List ℕ) → HasNoNumber u32_bytes input → HasNoPiece input
unfolding u32_bytes
none_without_length input none piece rest short e = none (length piece) (piece ++ rest) e
