-- What stands between two places of a list that two tests divide.
use Rattle.std.proofs.Common.{◌≡◌, ◌∙◌, ℕ, ◌-◌, ◌≤◌, zero, suc, List, [], ◌∷◌, Bool, true, false, not, ◌&&◌, length, take, drop, refl, ap, arith}
use Rattle.std.specs.List.{filter, AllWithin}
use Rattle.std.specs.List.Sorted.{IsPartitionPoint}

-- the places of a list without its first element
tail_front : {X : Type 0} (P : X → Type 0) (x : X) (xs : List X) (i : ℕ) → AllWithin P (x ∷ xs) 0 (suc i) → AllWithin P xs 0 i
tail_front P x xs i h k d l m = h (suc k) d (omega arith) (omega (arith, m))

tail_back : {X : Type 0} (P : X → Type 0) (x : X) (xs : List X) (i j : ℕ) → i ≤ suc j → AllWithin P (x ∷ xs) i (length (x ∷ xs)) → AllWithin P xs j (length xs)
tail_back P x xs i j n h k d l m = h (suc k) d (omega (arith, n, l)) (omega (arith, m))

abbrev Divides : {X : Type 0} → (X → Bool) → List X → ℕ → Type 0
Divides test xs place = IsPartitionPoint (λ x. test x ≡ true) (λ x. test x ≡ false) xs place

tail_none : {X : Type 0} (test : X → Bool) (x : X) (xs : List X) → Divides test (x ∷ xs) 0 → Divides test xs 0
tail_none test x xs d = (λ k y l m. absurd (omega (arith, m)), tail_back (λ y. test y ≡ false) x xs 0 0 (omega arith) d.1)

tail_more : {X : Type 0} (test : X → Bool) (x : X) (xs : List X) (i : ℕ) → Divides test (x ∷ xs) (suc i) → Divides test xs i
tail_more test x xs i d = (tail_front (λ y. test y ≡ true) x xs i d.0, tail_back (λ y. test y ≡ false) x xs (suc i) i (omega arith) d.1)

and_false : (b : Bool) → (b && false) ≡ false
and_false true = refl
and_false false = refl

-- the elements that aren't in front of the first place, and are in front of the second
pub filter_places : {X : Type 0} (before upto test : X → Bool) → ((x : X) → test x ≡ (not (before x) && upto x)) → (xs : List X) (from to : ℕ) → from ≤ to
    → to ≤ length xs → Divides before xs from → Divides upto xs to → filter test xs ≡ take (to - from) (drop from xs)
filter_places before upto test is [] zero zero l m d e = refl
filter_places before upto test is [] zero (suc to) l m d e = absurd (omega (arith, m))
filter_places before upto test is [] (suc from) zero l m d e = absurd (omega (arith, l))
filter_places before upto test is [] (suc from) (suc to) l m d e = absurd (omega (arith, m))
filter_places before upto test is (x ∷ xs) zero zero l m d e =
    let f : test x ≡ false = is x ∙ ap (λ b. not (before x) && b) (e.1 zero x (omega arith) (omega arith)) ∙ and_false (not (before x)) in
    rw f (filter_places before upto test is xs zero zero (omega arith) (omega arith) (tail_none before x xs d) (tail_none upto x xs e))
filter_places before upto test is (x ∷ xs) zero (suc to) l m d e =
    let f : test x ≡ true = is x ∙ ap (λ b. not b && upto x) (d.1 zero x (omega arith) (omega arith)) ∙ e.0 zero x (omega arith) (omega arith) in
    let n : suc (to - 0) ≡ suc to - 0 = omega arith in
    rw f (
    ap (λ zs. x ∷ zs) (filter_places before upto test is xs zero to (omega arith) (omega (arith, m)) (tail_none before x xs d) (tail_more upto x xs to e))
    ∙ ap (λ k. take k (x ∷ xs)) n
    )
filter_places before upto test is (x ∷ xs) (suc from) zero l m d e = absurd (omega (arith, l))
filter_places before upto test is (x ∷ xs) (suc from) (suc to) l m d e =
    let f : test x ≡ false = is x ∙ ap (λ b. not b && upto x) (d.0 zero x (omega arith) (omega arith)) in
    let n : to - from ≡ suc to - suc from = omega arith in
    rw f (
    filter_places before upto test is xs from to (omega (arith, l)) (omega (arith, m)) (tail_more before x xs from d) (tail_more upto x xs to e)
    ∙ ap (λ k. take k (drop from xs)) n
    )
