-- What is written for paths and dots is read as them, and what is read was written so.
use Rattle.std.proofs.Common.{◌≡◌, ℕ, suc, ◌+◌, ◌-◌, ◌*◌, ◌/◌, ◌%◌, ◌^◌, ◌<◌, ◌≤◌, List, [], ◌∷◌, ◌++◌, true, All, fold, length, take, drop, refl, sym, ap, ◌∙◌, subst, inl, inr, append_assoc, lit<, arith}
use Rattle.std.proofs.Math.Nat.{mul-div_cancel, mul-mod_left, div-add-mod', pow-succ'}
use Rattle.std.proofs.lemmas.Bool.{cases_Bool, and_parts, leb-true}
use Rattle.std.proofs.lemmas.Bool.Decides.{Decides-eqb}
use Rattle.std.proofs.lemmas.List.{append-nil, length-append, take-append-drop, drop_at}
use Rattle.std.proofs.lemmas.List.Elements.{All-head, All-tail}
use Rattle.std.proofs.lemmas.Nat.{shr_below}
use Rattle.mld_bytes.proofs.Numbers.{length-number_bytes, number_in-bytes, number_bytes-in, number_in-fits}
use Rattle.mld_bytes.specs.Bytes.{number_bytes, number_in}
use Rattle.tree_clock.proofs.PathLemmas.{All-letters}
use Rattle.tree_clock.specs.Letters.{IsLetter, number_of, length-letters, number_of-letters}
use Rattle.tree_clock.specs.Limits.{path_limit}
use Rattle.tree_clock.specs.Path.{letters, zero_letter}
use Rattle.tree_clock.specs.declared.dots.Dot.{Dot}
use Rattle.op_codec.specs.Clocks.{tick_bytes, read_tick, dot_bytes, read_dot}
use Rattle.op_codec.specs.CodecLaws.{AreBytes, IsReadBack, IsWritten, IsOneSpelling}
use Rattle.op_codec.specs.Paths.{letter_bytes, spare_bits, is_path, path_bytes, read_path}
use Rattle.op_codec.specs.Reading.{Found, chain}
use Rattle.op_codec.specs.Stored.{IsPath, IsDot}
use Rattle.op_codec.proofs.FieldTrips.{tick_back, tick_one}
use Rattle.op_codec.proofs.PathReading.{packed_fits, path_found, path_fault, path_none, is_path_when, bits_of_bytes, letters_fill, two_above}
use Rattle.op_codec.proofs.Sequences.{then_back, map_back, Splits, splits, bytes_left, same_parts, fault_found, both_written}

-- ---- letters and their number

-- the letters behind a number's
abbrev more_letters : ℕ → List ℕ → ℕ
more_letters acc path = fold (λ n letter. 2 * n + (letter - zero_letter)) acc path

-- a number with the letters behind it has their letters, and fits them
letters_behind : (path : List ℕ) (n acc : ℕ) → All IsLetter path → acc < 2 ^ n
    → (more_letters acc path < 2 ^ (n + length path)) × (letters (n + length path) (more_letters acc path) ≡ letters n acc ++ path)
letters_behind [] n acc a l =
    let e : n + 0 ≡ n = omega arith in (rw e l, ap (λ (m : ℕ). letters m acc) e ∙ sym (append-nil (letters n acc)))
letters_behind (letter ∷ path) n acc a l =
    let bit = letter - zero_letter in
    let low : bit < 2 = elim (All-head IsLetter letter path a) [ inl e ↦ omega arith | inr e ↦ omega arith ] in
    let same : zero_letter + bit ≡ letter = elim (All-head IsLetter letter path a) [ inl e ↦ omega arith | inr e ↦ omega arith ] in
    let next : 2 * acc + bit < 2 ^ suc n = let e = pow-succ' 2 n in omega arith in
    let back = letters_behind path (suc n) (2 * acc + bit) (All-tail IsLetter letter path a) next in
    let e : n + suc (length path) ≡ suc n + length path = omega arith in
    let high : (2 * acc + bit) / 2 ≡ acc = omega arith in
    let last : zero_letter + (2 * acc + bit) % 2 ≡ letter = omega arith in (
      rw e back.0,
      ap (λ (m : ℕ). letters m (more_letters (2 * acc + bit) path)) e ∙ back.1 ∙ (λ i. (letters n (high i) ++ last i ∷ []) ++ path) ∙ append_assoc (letters n acc) (letter ∷ []) path,
    )

-- the number of a path fits its letters
number_below : (path : List ℕ) → All IsLetter path → number_of path < 2 ^ length path
number_below path a = let e : 0 + length path ≡ length path = omega arith in subst (λ (n : ℕ). number_of path < 2 ^ n) e (letters_behind path 0 0 a (lit< tt)).0

-- the letters of the number of a path are the path
letters_number : (path : List ℕ) → All IsLetter path → letters (length path) (number_of path) ≡ path
letters_number path a = let e : length path ≡ 0 + length path = omega arith in ap (λ (n : ℕ). letters n (number_of path)) e ∙ (letters_behind path 0 0 a (lit< tt)).1

-- ---- paths

-- a path is read back
pub path_back : IsReadBack IsPath path_bytes read_path
unfolding path_bytes
path_back path place rest is =
    let count = length path in
    let size = letter_bytes count in
    let worth = 2 ^ spare_bits count in
    let number = number_of path * worth in
    let front = number_bytes size number in
    let fits : number < 256 ^ size = packed_fits count (number_of path) worth size refl refl (number_below path is.letters) in
    let read : number_in size (front ++ rest) ≡ number = number_in-bytes size number rest fits in
    let long : length front ≡ size = length-number_bytes size number in
    let whole = length-append front rest in
    let none : number_in size (front ++ rest) % worth ≡ 0 = ap (λ (n : ℕ). n % worth) read ∙ mul-mod_left (number_of path) worth in
    let bits : number_in size (front ++ rest) / worth ≡ number_of path = ap (λ (n : ℕ). n / worth) read ∙ mul-div_cancel (number_of path) (two_above (spare_bits count)) in
    let there : place + 1 + size ≡ place + suc (length front) = omega arith in
    path_found place count (front ++ rest) (is_path_when count (front ++ rest) is.count (omega arith) none)
    ∙ (λ i. Found ((ap (letters count) bits ∙ letters_number path is.letters) i) (there i) (drop_at front rest size long i))

-- the parts of the test of a path
record PathTests (count : ℕ) (bytes : List ℕ) : Type 0 where
  few : count ≤ path_limit
  enough : letter_bytes count ≤ length bytes
  none : number_in (letter_bytes count) bytes % 2 ^ spare_bits count ≡ 0

path_tests : (count : ℕ) (bytes : List ℕ) → is_path count bytes ≡ true → PathTests count bytes
path_tests count bytes t =
    let p = and_parts _ _ t in
    let q = and_parts _ _ p.0 in
    record { few = leb-true _ _ q.0; enough = leb-true _ _ q.1; none = (Decides-eqb _ _).0 p.1 }

-- letters that are read are a path, which is written so
letters_one : (place count : ℕ) (bytes path : List ℕ) (next : ℕ) (rest : List ℕ) → AreBytes bytes → PathTests count bytes
    → letters count (number_in (letter_bytes count) bytes / 2 ^ spare_bits count) ≡ path → place + 1 + letter_bytes count ≡ next → drop (letter_bytes count) bytes ≡ rest
    → IsWritten IsPath path_bytes place (count ∷ bytes) path next rest
unfolding path_bytes
letters_one place count bytes path next rest b t same at left =
    let size = letter_bytes count in
    let spare = spare_bits count in
    let worth = 2 ^ spare in
    let number = number_in size bytes in
    let bits = number / worth in
    let fits : number < 256 ^ size = number_in-fits size bytes b in
    let wide : 2 ^ (count + spare) ≡ 256 ^ size = ap (λ (n : ℕ). 2 ^ n) (letters_fill count) ∙ bits_of_bytes size in
    let below : bits < 2 ^ count = shr_below number count spare (omega arith) in
    let long : count ≡ length path = sym (length-letters count bits) ∙ ap length same in
    let value : bits ≡ number_of path = sym (number_of-letters count bits below) ∙ ap number_of same in
    let split = div-add-mod' number worth in
    let none = t.none in
    let packed : bits * worth ≡ number = omega arith in
    let bytes_of : number_bytes size (bits * worth) ≡ take size bytes = ap (number_bytes size) packed ∙ number_bytes-in size bytes t.enough b in
    let spelled : count ∷ number_bytes size (bits * worth) ≡ length path ∷ number_bytes (letter_bytes (length path)) (number_of path * 2 ^ spare_bits (length path)) =
    λ i. long i ∷ number_bytes (letter_bytes (long i)) (value i * 2 ^ spare_bits (long i)) in
    let size_is = length-number_bytes size (bits * worth) in
    record {
      value_is = record { letters = subst (All IsLetter) same (All-letters count bits); count = let f = t.few in omega arith };
      front = ap (λ (l : List ℕ). count ∷ l) (sym (take-append-drop size bytes) ∙ (λ i. sym bytes_of i ++ left i)) ∙ ap (λ (l : List ℕ). l ++ rest) spelled;
      next_is = sym at ∙ (let l : length (count ∷ number_bytes size (bits * worth)) ≡ length (path_bytes path) = ap length spelled in omega arith);
    }

-- a path was written so
pub path_one : IsOneSpelling IsPath path_bytes read_path
path_one place [] path next rest b h = fault_found (read_path place []) place next path rest (path_none place [] refl) h
path_one place (count ∷ bytes) path next rest b h =
    elim (cases_Bool (is_path count bytes)) [
      | inl t ↦
          let e = same_parts _ path _ next _ rest (sym (path_found place count bytes t) ∙ h) in
          letters_one place count bytes path next rest (λ k. b (suc k)) (path_tests count bytes t) e.value e.place_is e.rest_is
      | inr f ↦ fault_found (read_path place (count ∷ bytes)) place next path rest (path_fault place count bytes f) h
    ]

-- ---- dots

-- a dot is read back
pub dot_back : IsReadBack IsDot dot_bytes read_dot
unfolding read_dot
dot_back dot place rest is =
    then_back read_path (λ path next rest. chain (read_tick next rest) (λ tick end left. Found (record { path = path; tick = tick }) end left)) place (path_bytes dot.path) (tick_bytes dot.tick) rest dot.path dot
    (path_back dot.path place (tick_bytes dot.tick ++ rest) is.path)
    (map_back (read_tick (place + length (path_bytes dot.path)) (tick_bytes dot.tick ++ rest)) (λ (tick : ℕ). let d : Dot = record { path = dot.path; tick = tick } in d) dot.tick (place + length (path_bytes dot.path) + length (tick_bytes dot.tick)) rest
    (tick_back dot.tick (place + length (path_bytes dot.path)) rest is.positive is.tick))

-- a dot was written so
pub dot_one : IsOneSpelling IsDot dot_bytes read_dot
unfolding read_dot
dot_one place bytes dot next rest b h =
    by (splits (read_path place bytes) (λ path next rest. chain (read_tick next rest) (λ tick end left. Found (record { path = path; tick = tick }) end left)) dot next rest h)
  where
    by : Splits (read_path place bytes) (λ path next rest. chain (read_tick next rest) (λ tick end left. Found (record { path = path; tick = tick }) end left)) dot next rest → IsWritten IsDot dot_bytes place bytes dot next rest
    by s =
        let w = path_one place bytes s.value s.place s.rest b s.first in
        let t = splits (read_tick s.place s.rest) (λ tick end left. Found (let d : Dot = record { path = s.value; tick = tick } in d) end left) dot next rest s.second in
        let v = tick_one s.place s.rest t.value t.place t.rest (bytes_left bytes (path_bytes s.value) s.rest b w.front) t.first in
        let e = same_parts (let d : Dot = record { path = s.value; tick = t.value } in d) dot t.place next t.rest rest t.second in
        let a = e.value in
        let l = e.rest_is in
        let both = both_written (path_bytes s.value) (tick_bytes t.value) place s.place t.place bytes s.rest t.rest w.front w.next_is v.1.front v.1.next_is in
        subst (λ (d : Dot). IsWritten IsDot dot_bytes place bytes d next rest) a (record {
          value_is = record { path = w.value_is; positive = v.0; tick = v.1.value_is };
          front = both.front ∙ ap (λ (m : List ℕ). (path_bytes s.value ++ tick_bytes t.value) ++ m) l;
          next_is = sym e.place_is ∙ both.next_is;
        })
