-- Letters of a front, and comparisons of letters and numbers.
use Rattle.std.proofs.Common.{◌≡◌, ◌≢◌, ℕ, zero, suc, ◌+◌, ◌-◌, ◌/◌, ◌%◌, ◌^◌, ◌<◌, ◌≤◌, List, [], ◌∷◌, ◌++◌, length, take, get_or, min, All, nat_eq, bit_and, if◌then◌else◌, refl, sym, ◌∙◌, ap, subst, inl, inr, append_assoc, arith}
use Rattle.std.specs.Bool.{Decides}
use Rattle.std.specs.Cmp.Lexicographic.{slice_cmp}
use Rattle.std.specs.Ordering.{nat_cmp, ordering_then}
use Rattle.std.specs.declared.cmp.Ordering.{Ordering}
use Rattle.std.specs.declared.cmp.Ordering.TheVariants.{Less, Equal, Greater}
use Rattle.std.proofs.lemmas.Bool.Decides.{nat_tests, Decides-eqb}
use Rattle.std.proofs.lemmas.List.{append-nil, take_at, take_more, same_from_push}
use Rattle.std.proofs.lemmas.List.Elements.{All-push, All-nil}
use Rattle.std.proofs.lemmas.Nat.{shr_below, and_mask}
use Rattle.std.proofs.Math.Nat.{div-div-eq-div-mul, pow-succ'}
use Rattle.tree_clock.specs.Letters.{IsLetter, number_of, length-letters, number_of-letters}
use Rattle.tree_clock.specs.Path.{letters, zero_letter, one_letter}

-- the code of a bit is a letter
IsLetter-bit : (bit : ℕ) → bit < 2 → IsLetter (zero_letter + bit)
IsLetter-bit zero h = inl refl
IsLetter-bit (suc zero) h = inr refl
IsLetter-bit (suc (suc bit)) h = absurd (omega arith)

-- each letter of a number is a letter
pub All-letters : (n bits : ℕ) → All IsLetter (letters n bits)
All-letters zero bits = All-nil IsLetter
All-letters (suc n) bits =
    All-push IsLetter (letters n (bits / 2)) (zero_letter + bits % 2) (All-letters n (bits / 2)) (IsLetter-bit (bits % 2) (omega arith))

-- the letters of the higher bits come first
pub letters-append : (n k bits : ℕ) → letters (n + k) bits ≡ letters n (bits / 2 ^ k) ++ letters k bits
letters-append n zero bits =
    let e : n + 0 ≡ n = omega arith in
    let f : bits / 2 ^ 0 ≡ bits = omega arith in
    rw (e, f) (sym (append-nil (letters n bits)))
letters-append n (suc k) bits =
    let e : n + suc k ≡ suc (n + k) = omega arith in
    let f : bits / 2 / 2 ^ k ≡ bits / 2 ^ suc k = div-div-eq-div-mul bits 2 (2 ^ k) ∙ ap (λ m. bits / m) (sym (pow-succ' 2 k)) in
    ap (λ m. letters m bits) e
    ∙ ap (λ xs. xs ++ (zero_letter + bits % 2) ∷ []) (letters-append n k (bits / 2) ∙ ap (λ b. letters n b ++ letters k (bits / 2)) f)
    ∙ append_assoc (letters n (bits / 2 ^ suc k)) (letters k (bits / 2)) ((zero_letter + bits % 2) ∷ [])

-- the first letters are those of the higher bits
pub letters-take : (n len bits : ℕ) → n ≤ len → letters n (bits / 2 ^ (len - n)) ≡ take n (letters len bits)
letters-take n len bits h =
    let e : len ≡ n + (len - n) = omega arith in
    let f = ap (λ m. letters m bits) e ∙ letters-append n (len - n) bits in
    sym (ap (take n) f ∙ take_at (letters n (bits / 2 ^ (len - n))) (letters (len - n) bits) n (length-letters n (bits / 2 ^ (len - n))))

-- the higher bits are few
pub front_below : (n len bits : ℕ) → n ≤ len → bits < 2 ^ len → bits / 2 ^ (len - n) < 2 ^ n
front_below n len bits h b =
    let e : len ≡ n + (len - n) = omega arith in
    shr_below bits n (len - n) (subst (λ m. bits < 2 ^ m) e b)

-- the last letter of a front
pub letter_at : (xs : List ℕ) (i len bits : ℕ) → i < len → letters len bits ≡ xs → get_or xs i 0 ≡ if nat_eq (bit_and (bits / 2 ^ (len - 1 - i)) 1) 1 then one_letter else zero_letter
letter_at xs i len bits h e =
    let s : i + 1 ≡ suc i = omega arith in
    let t : len - suc i ≡ len - 1 - i = omega arith in
    let b = bits / 2 ^ (len - 1 - i) in
    let long : length xs ≡ len = ap length (sym e) ∙ length-letters len bits in
    let f : letters (suc i) b ≡ take (i + 1) xs = ap (λ m. letters (suc i) (bits / 2 ^ m)) (sym t) ∙ letters-take (suc i) len bits (omega arith) ∙ ap (λ m. take m (letters len bits)) (sym s) ∙ ap (take (i + 1)) e in
    let odd : bit_and b 1 ≡ b % 2 = and_mask b 1 in
    let g = (same_from_push (letters i (b / 2)) (take i xs) (zero_letter + b % 2) (get_or xs i 0) (f ∙ take_more xs i 0 (omega arith))).1 in
    grind (arith, nat_tests)

-- an equal second part changes nothing
then-Equal : (o : Ordering) → ordering_then o Equal ≡ o
then-Equal Less = refl
then-Equal Equal = refl
then-Equal Greater = refl

-- three parts, joined either way
then-assoc : (o p q : Ordering) → ordering_then o (ordering_then p q) ≡ ordering_then (ordering_then o p) q
then-assoc Less p q = refl
then-assoc Equal p q = refl
then-assoc Greater p q = refl

-- two letters more at the end of two lists of one length
slice_cmp-push : (xs ys : List ℕ) (x y : ℕ) → length xs ≡ length ys → slice_cmp nat_cmp (xs ++ x ∷ []) (ys ++ y ∷ []) ≡ ordering_then (slice_cmp nat_cmp xs ys) (nat_cmp x y)
slice_cmp-push [] [] x y e = then-Equal (nat_cmp x y)
slice_cmp-push [] (b ∷ ys) x y e = absurd (omega arith)
slice_cmp-push (a ∷ xs) [] x y e = absurd (omega arith)
slice_cmp-push (a ∷ xs) (b ∷ ys) x y e =
    ap (ordering_then (nat_cmp a b)) (slice_cmp-push xs ys x y (omega arith))
    ∙ then-assoc (nat_cmp a b) (slice_cmp nat_cmp xs ys) (nat_cmp x y)

-- numbers are in the order of their halves, and else of their last bits
nat_cmp-halves : (a b : ℕ) → ordering_then (nat_cmp (a / 2) (b / 2)) (nat_cmp (zero_letter + a % 2) (zero_letter + b % 2)) ≡ nat_cmp a b
nat_cmp-halves a b = grind (arith, nat_tests)

-- one more on both sides
nat_cmp-suc : (a b : ℕ) → nat_cmp a b ≡ nat_cmp (suc a) (suc b)
nat_cmp-suc a b = grind (arith, nat_tests)

-- as many letters are in the order of their numbers
pub letters-cmp : (n a b : ℕ) → a < 2 ^ n → b < 2 ^ n → slice_cmp nat_cmp (letters n a) (letters n b) ≡ nat_cmp a b
letters-cmp zero a b h k = let e : a ≡ 0 = omega arith in let f : b ≡ 0 = omega arith in rw (e, f)
letters-cmp (suc n) a b h k =
    let h' : a / 2 < 2 ^ n = omega arith in
    let k' : b / 2 < 2 ^ n = omega arith in
    slice_cmp-push (letters n (a / 2)) (letters n (b / 2)) (zero_letter + a % 2) (zero_letter + b % 2) (length-letters n (a / 2) ∙ sym (length-letters n (b / 2)))
    ∙ ap (λ o. ordering_then o (nat_cmp (zero_letter + a % 2) (zero_letter + b % 2))) (letters-cmp n (a / 2) (b / 2) h' k')
    ∙ nat_cmp-halves a b

-- lists are in the order of their fronts of one length, and else of their lengths
pub slice_cmp-take : (n : ℕ) (xs ys : List ℕ) → n ≡ min (length xs) (length ys) → slice_cmp nat_cmp xs ys ≡ ordering_then (slice_cmp nat_cmp (take n xs) (take n ys)) (nat_cmp (length xs) (length ys))
slice_cmp-take zero [] [] e = refl
slice_cmp-take zero [] (y ∷ ys) e = grind (arith, nat_tests)
slice_cmp-take zero (x ∷ xs) [] e = grind (arith, nat_tests)
slice_cmp-take zero (x ∷ xs) (y ∷ ys) e = absurd (omega arith)
slice_cmp-take (suc n) [] ys e = absurd (omega arith)
slice_cmp-take (suc n) (x ∷ xs) [] e = absurd (omega arith)
slice_cmp-take (suc n) (x ∷ xs) (y ∷ ys) e =
    ap (ordering_then (nat_cmp x y)) (slice_cmp-take n xs ys (omega arith) ∙ ap (ordering_then (slice_cmp nat_cmp (take n xs) (take n ys))) (nat_cmp-suc (length xs) (length ys)))
    ∙ then-assoc (nat_cmp x y) (slice_cmp nat_cmp (take n xs) (take n ys)) (nat_cmp (suc (length xs)) (suc (length ys)))

-- numbers of as many bits are equal where their letters are
pub Decides-bits : (n a m b : ℕ) → a < 2 ^ n → b < 2 ^ m → n ≡ m → Decides (nat_eq a b) (letters n a ≡ letters m b)
Decides-bits n a m b h k e =
    let d = Decides-eqb a b in
    (λ t. let f = d.0 t in cc, λ t. d.1 (sym (number_of-letters n a h) ∙ ap number_of t ∙ number_of-letters m b k))

-- letters of two lengths differ
pub Decides-lens : (n a m b : ℕ) → n ≢ m → Decides (nat_eq n m) (letters n a ≡ letters m b)
Decides-lens n a m b e =
    (λ t. absurd (e ((Decides-eqb n m).0 t)), λ t. absurd (e (sym (length-letters n a) ∙ ap length t ∙ length-letters m b)))
