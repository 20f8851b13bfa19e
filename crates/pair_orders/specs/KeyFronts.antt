-- The numbers with which keys begin in an order. The private bounds cite it.
use Rattle.std.specs.Prelude.{◌≡◌, ℕ, List, [], ◌∷◌, Bool, true, false, length, take, get_or, refl}
use Rattle.std.proofs.Common.{◌∙◌, ap, sym, arith}
use Rattle.std.proofs.lemmas.Cmp.{ranked}
use Rattle.std.specs.Cmp.Lexicographic.{slice_cmp}
use Rattle.std.specs.Ordering.{nat_cmp, is_lt, is_le, ordering_then}
use Rattle.std.specs.declared.cmp.Ordering.{Ordering}
use Rattle.std.specs.declared.cmp.Ordering.TheVariants.{Less, Equal, Greater}
use Rattle.chunked_list.specs.NumberLaws.{numbers_compared}
use Rattle.chunked_list.specs.NumberTexts.{numbers_text}
use Rattle.pair_orders.specs.Keys.{row_of, ranked_text, told_by_two}
use Rattle.pair_orders.specs.declared.keys.RankedKey.{RankedKey}

-- as many numbers of a key as there are in front, against these
abbrev pub key_front_cmp : List ℕ → RankedKey → Ordering
key_front_cmp front key = slice_cmp nat_cmp (take (length front) (row_of key)) front

-- in the order, the key is in front of those that begin so
abbrev pub is_before_front : List ℕ → RankedKey → Bool
is_before_front front key = is_lt (key_front_cmp front key)

-- in the order, the key is not behind them
abbrev pub is_up_to_front : List ℕ → RankedKey → Bool
is_up_to_front front key = is_le (key_front_cmp front key)

-- the key begins so
abbrev pub HasFront : List ℕ → RankedKey → Type 0
HasFront front key = take (length front) (row_of key) ≡ front

-- the text of the least key that begins so: its first two numbers
abbrev pub front_text : List ℕ → List ℕ
front_text front = numbers_text (get_or front 0 0) (get_or front 1 0)

-- what that text tells of a key
two_told : (a b : ℕ) (rest : List ℕ) (key : RankedKey) (r : Ordering) → ¬ (r ≡ Equal) → slice_cmp nat_cmp (ranked_text key) (numbers_text a b) ≡ r → key_front_cmp (a ∷ b ∷ rest) key ≡ r
two_told a b rest key r n e = told_by_two (nat_cmp key.first a) (nat_cmp key.second b) _ r n (sym (numbers_compared key.first key.second a b) ∙ e)

not_equal_less : ¬ (Less ≡ Equal)
not_equal_less q = cc

not_equal_greater : ¬ (Greater ≡ Equal)
not_equal_greater q = cc

-- no number is less than 0
none_below : (n : ℕ) → ¬ (nat_cmp n 0 ≡ Less)
none_below n e = let l = ranked n 0 Less (sym e) in omega (arith, l)

one_below : (a b : Ordering) → ¬ (b ≡ Less) → ordering_then a b ≡ Less → is_lt (ordering_then a Equal) ≡ true
one_below Less b n e = refl
one_below Equal b n e = absurd (n e)
one_below Greater b n e = cc

one_above : (a b : Ordering) → ordering_then a b ≡ Greater → is_lt (ordering_then a Equal) ≡ false
one_above Less b e = cc
one_above Equal b e = refl
one_above Greater b e = refl

pub front_below : (front : List ℕ) (key : RankedKey) → slice_cmp nat_cmp (ranked_text key) (front_text front) ≡ Less → is_before_front front key ≡ true
front_below [] key e = absurd (none_below key.second (second_less (nat_cmp key.first 0) (nat_cmp key.second 0) (none_below key.first) (sym (numbers_compared key.first key.second 0 0) ∙ e)))
  where
    second_less : (a b : Ordering) → ¬ (a ≡ Less) → ordering_then a b ≡ Less → b ≡ Less
    second_less Less b n e = absurd (n refl)
    second_less Equal b n e = e
    second_less Greater b n e = cc
front_below (a ∷ []) key e = one_below (nat_cmp key.first a) (nat_cmp key.second 0) (none_below key.second) (sym (numbers_compared key.first key.second a 0) ∙ e)
front_below (a ∷ b ∷ rest) key e = ap is_lt (two_told a b rest key Less not_equal_less e)

pub front_above : (front : List ℕ) (key : RankedKey) → slice_cmp nat_cmp (ranked_text key) (front_text front) ≡ Greater → is_before_front front key ≡ false
front_above [] key e = refl
front_above (a ∷ []) key e = one_above (nat_cmp key.first a) (nat_cmp key.second 0) (sym (numbers_compared key.first key.second a 0) ∙ e)
front_above (a ∷ b ∷ rest) key e = ap is_lt (two_told a b rest key Greater not_equal_greater e)

pub two_below : (a b : ℕ) (key : RankedKey) → slice_cmp nat_cmp (ranked_text key) (numbers_text a b) ≡ Less → is_up_to_front (a ∷ b ∷ []) key ≡ true
two_below a b key e = ap is_le (two_told a b [] key Less not_equal_less e)

pub two_above : (a b : ℕ) (key : RankedKey) → slice_cmp nat_cmp (ranked_text key) (numbers_text a b) ≡ Greater → is_up_to_front (a ∷ b ∷ []) key ≡ false
two_above a b key e = ap is_le (two_told a b [] key Greater not_equal_greater e)
