-- What is halved has one binary digit less.
use Rattle.std.proofs.Common.{◌≡◌, ℕ, ◌+◌, ◌-◌, ◌/◌, ◌^◌, ◌<◌, ◌≤◌, length, subst, arith}
use Rattle.std.proofs.lemmas.Int.Digits.{length-digits_of_step, length-digits_of-le, number_lt, number_digits_of, all_below_base_digits_of}
use Rattle.std.specs.Int.Digits.{digits_of}
use Rattle.pair_orders.specs.Orders.{binary_digits}

below_power : (n : ℕ) → n < 2 ^ length (digits_of 2 n)
below_power n =
    subst (λ (m : ℕ). m < 2 ^ length (digits_of 2 n)) (number_digits_of 2 n (omega arith)) (number_lt 2 (digits_of 2 n) (all_below_base_digits_of 2 n (omega arith)))

-- a lesser number has no more digits
pub digits_least : (m n : ℕ) → m ≤ n → binary_digits m ≤ binary_digits n
unfolding binary_digits
digits_least m n l =
    let b = below_power n in
    length-digits_of-le 2 (length (digits_of 2 n)) m (omega arith) (omega (arith, l, b))

pub half_digits : (n : ℕ) → 0 < n → binary_digits n ≡ binary_digits (n / 2) + 1
unfolding binary_digits
half_digits n l = length-digits_of_step 2 n (omega arith) l

-- a range that is cut at its middle, to what is in front of it, or behind it
pub front_digits : (low high middle : ℕ) → low < high → middle ≡ low + (high - low) / 2 → binary_digits (middle - low) + 1 ≤ binary_digits (high - low)
front_digits low high middle l e =
    let h = half_digits (high - low) (omega (arith, l)) in
    let d = digits_least (middle - low) ((high - low) / 2) (omega (arith, e)) in
    omega (arith, h, d)

pub back_digits : (low high middle : ℕ) → low < high → middle ≡ low + (high - low) / 2 → binary_digits (high - (middle + 1)) + 1 ≤ binary_digits (high - low)
back_digits low high middle l e =
    let h = half_digits (high - low) (omega (arith, l)) in
    let d = digits_least (high - (middle + 1)) ((high - low) / 2) (omega (arith, e, l)) in
    omega (arith, h, d)
