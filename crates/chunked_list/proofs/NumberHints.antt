-- The hints of two numbers: the bytes of their text from a place on, as a number.
use Rattle.std.proofs.Common.{◌≡◌, ◌∙◌, ℕ, zero, suc, ◌+◌, ◌-◌, ◌*◌, ◌/◌, ◌%◌, ◌^◌, ◌<◌, ◌≤◌, [], ◌∷◌, drop, refl, sym, ap, arith}
use Rattle.std.proofs.lemmas.List.{drop_all}
use Rattle.std.proofs.lemmas.Nat.{pow-add, mod-pow-add, shl-shr, mod_low, pow_pos}
use Rattle.hinted_chunks.specs.Leading.{leading}
use Rattle.hinted_chunks.proofs.Hinting.{of_byte}
use Rattle.chunked_list.specs.NumberTexts.{bytes_from_top, numbers_text}

-- ---- the lowest bytes of a number

power_more : (n : ℕ) → 256 ^ suc n ≡ 256 ^ n * 256
power_more n = let e : suc n ≡ n + 1 = omega arith in ap (λ k. 256 ^ k) e ∙ pow-add 256 n 1

powers : (n : ℕ) → 256 ^ n ≡ 2 ^ (8 * n)
powers zero = refl
powers (suc n) =
    let e : 8 * suc n ≡ 8 * n + 8 = omega arith in
    power_more n ∙ ap (λ k. k * 256) (powers n) ∙ sym (pow-add 2 (8 * n) 8) ∙ ap (λ k. 2 ^ k) (sym e)

none_left : (number power : ℕ) → 0 ≡ number % 1 * power
none_left number power = let h : number % 1 ≡ 0 = omega arith in let z : 0 ≡ 0 * power = omega arith in z ∙ ap (λ i. i * power) (sym h)

-- the lowest bytes, and as many zeros behind them as there are places left
low_leading : (n m k number : ℕ) → m ≡ n + k → leading m (bytes_from_top n number) ≡ number % 2 ^ (8 * n) * 2 ^ (8 * k)
low_leading zero zero k number e = none_left number (2 ^ (8 * k))
low_leading zero (suc m) k number e = none_left number (2 ^ (8 * k))
low_leading (suc n) zero k number e = absurd (omega (arith, e))
low_leading (suc n) (suc m) k number e =
    let b : number / 2 ^ (8 * n) % 256 < 256 = omega arith in
    let g : m ≡ n + k = omega (arith, e) in
    let s : 8 * m ≡ 8 * n + 8 * k = omega (arith, g) in
    let t : 8 * suc n ≡ 8 + 8 * n = omega arith in
    let power : 256 ^ m ≡ 2 ^ (8 * n) * 2 ^ (8 * k) = powers m ∙ ap (λ i. 2 ^ i) s ∙ pow-add 2 (8 * n) (8 * k) in
    let split : number % 2 ^ (8 * suc n) ≡ number / 2 ^ (8 * n) % 256 * 2 ^ (8 * n) + number % 2 ^ (8 * n) = ap (λ i. number % 2 ^ i) t ∙ mod-pow-add number 8 (8 * n) in
    of_byte m (number / 2 ^ (8 * n) % 256) (bytes_from_top n number) b
    ∙ joined (number / 2 ^ (8 * n) % 256) (256 ^ m) (2 ^ (8 * n)) (2 ^ (8 * k)) (leading m (bytes_from_top n number)) (number % 2 ^ (8 * n)) power (low_leading n m k number g)
    ∙ ap (λ i. i * 2 ^ (8 * k)) (sym split)
  where
    joined : (b p a c l r : ℕ) → p ≡ a * c → l ≡ r * c → b * p + l ≡ (b * a + r) * c
    joined b p a c l r e f = rw (e, f) (ring b a c r)
      where
        ring : (b a c r : ℕ) → b * (a * c) + r * c ≡ (b * a + r) * c
        ring b a c r = omega arith

dropped : (p n number : ℕ) → drop p (bytes_from_top n number) ≡ bytes_from_top (n - p) number
dropped zero n number = let e : n ≡ n - 0 = omega arith in ap (λ i. bytes_from_top i number) e
dropped (suc p) zero number = let e : 0 ≡ 0 - suc p = omega arith in ap (λ i. bytes_from_top i number) e
dropped (suc p) (suc n) number = let e : n - p ≡ suc n - suc p = omega arith in dropped p n number ∙ ap (λ i. bytes_from_top i number) e

-- a number that is moved by as many bits as stand behind those that are left
moved : (number j k : ℕ) → (number * 2 ^ k) % 2 ^ (j + k) ≡ number % 2 ^ j * 2 ^ k
moved number j k =
    let low : (number * 2 ^ k) % 2 ^ k ≡ 0 = ap (λ i. i % 2 ^ k) (plus_none (number * 2 ^ k)) ∙ mod_low number k 0 (pow_pos k) in
    mod-pow-add (number * 2 ^ k) j k ∙ ap (λ i. i % 2 ^ j * 2 ^ k + (number * 2 ^ k) % 2 ^ k) (shl-shr number k) ∙ ap (λ i. number % 2 ^ j * 2 ^ k + i) low ∙ sym (plus_none (number % 2 ^ j * 2 ^ k))
  where
    plus_none : (n : ℕ) → n ≡ n + 0
    plus_none n = omega arith

hint_of : (number place : ℕ) → place < 8 → (number * 2 ^ (8 * place)) % 2 ^ 64 ≡ leading 8 (drop place (bytes_from_top 8 number))
hint_of number place l =
    let e : 64 ≡ 8 * (8 - place) + 8 * place = omega (arith, l) in
    let f : 8 ≡ (8 - place) + place = omega (arith, l) in
    ap (λ i. (number * 2 ^ (8 * place)) % 2 ^ i) e ∙ moved number (8 * (8 - place)) (8 * place)
    ∙ sym (low_leading (8 - place) 8 place number f) ∙ ap (λ bytes. leading 8 bytes) (sym (dropped place 8 number))

-- ---- those of two numbers

joined : (first second : ℕ) → first < 2 ^ 32 → second < 2 ^ 32 → bytes_from_top 8 (first * 4294967296 + second) ≡ numbers_text first second
joined first second l m =
    let a : (first * 4294967296 + second) / 2 ^ 56 % 256 ≡ first / 2 ^ 24 = omega (arith, l, m) in
    let b : (first * 4294967296 + second) / 2 ^ 48 % 256 ≡ first / 2 ^ 16 % 256 = omega (arith, l, m) in
    let c : (first * 4294967296 + second) / 2 ^ 40 % 256 ≡ first / 2 ^ 8 % 256 = omega (arith, l, m) in
    let d : (first * 4294967296 + second) / 2 ^ 32 % 256 ≡ first / 2 ^ 0 % 256 = omega (arith, l, m) in
    let e : (first * 4294967296 + second) / 2 ^ 24 % 256 ≡ second / 2 ^ 24 = omega (arith, l, m) in
    let f : (first * 4294967296 + second) / 2 ^ 16 % 256 ≡ second / 2 ^ 16 % 256 = omega (arith, l, m) in
    let g : (first * 4294967296 + second) / 2 ^ 8 % 256 ≡ second / 2 ^ 8 % 256 = omega (arith, l, m) in
    let h : (first * 4294967296 + second) / 2 ^ 0 % 256 ≡ second / 2 ^ 0 % 256 = omega (arith, l, m) in
    λ i. a i ∷ b i ∷ c i ∷ d i ∷ e i ∷ f i ∷ g i ∷ h i ∷ []

pub hint_of_numbers : (first second place : ℕ) → first < 2 ^ 32 → second < 2 ^ 32 → place < 8
    → ((first * 4294967296 + second) * 2 ^ (8 * place)) % 2 ^ 64 ≡ leading 8 (drop place (numbers_text first second))
hint_of_numbers first second place l m n =
    hint_of (first * 4294967296 + second) place n ∙ ap (λ bytes. leading 8 (drop place bytes)) (joined first second l m)

pub no_hint : (first second place : ℕ) → 8 ≤ place → 0 ≡ leading 8 (drop place (numbers_text first second))
no_hint first second place l = ap (leading 8) (sym (drop_all place (numbers_text first second) l))
