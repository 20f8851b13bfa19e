-- What contracts see of numbered pairs, and what is found of them. The calls of `NumberedPairs` cite it.
use Rattle.std.specs.Prelude.{◌≡◌, ℕ, List, [], ◌∷◌, ◌↔◌, ◌⊎◌, Bool, ◌&&◌, IsTrue, nat_eq, nat_le, map, Option, filter_map}
use Rattle.std.specs.Option.{option_map}
use Rattle.mld_ops.specs.declared.pair_lists.PairRow.{PairRow}
use Rattle.tree_clock.specs.Lists.{Has}
use Rattle.pair_orders.specs.Keys.{key_numbers, slot_at}
use Rattle.pair_orders.specs.declared.keys.Key.{Key}
use Rattle.pair_orders.specs.declared.keys.Numbers.{Numbers}

-- pairs with their numbers, and how many can come in without memory
pub record PairsValue : Type 0 where
  pub pairs : List (Numbers × PairRow)
  pub room : ℕ

-- the numbers of a key, with the pair in its slot
abbrev pub keyed_entry : List (Option PairRow) → Key → Option (Numbers × PairRow)
keyed_entry slots key = option_map (λ pair. (key_numbers key, pair)) (slot_at slots key.slot)

-- those of keys, in order
abbrev pub entries_of : List (Option PairRow) → List Key → List (Numbers × PairRow)
entries_of slots keys = filter_map (keyed_entry slots) keys

-- some pair has the numbers
abbrev pub HasNumbers : List (Numbers × PairRow) → Numbers → Type 0
HasNumbers pairs numbers = (pair : PairRow) × Has pairs (numbers, pair)

-- some pair has the numbers of terms
abbrev pub HasTerms : List (Numbers × PairRow) → ℕ → ℕ → ℕ → Type 0
HasTerms pairs s p o = (entry : Numbers × PairRow) × Has pairs entry × (entry.0.s ≡ s) × (entry.0.p ≡ p) × (entry.0.o ≡ o)

-- the path is this one, and the tick is one of the range
abbrev pub is_of_ticks : ℕ → ℕ → ℕ → Numbers → Bool
is_of_ticks path first last numbers = nat_eq numbers.path path && (nat_le first numbers.tick && nat_le numbers.tick last)

-- nothing stands twice in the list
abbrev pub StandOnce : {X : Type 0} → List X → Type 0
StandOnce [] = Unit {0}
StandOnce (x ∷ xs) = (¬ Has xs x) × StandOnce xs

-- the first of a list has the same image as this value
abbrev pub BeginsAlike : {X Y : Type 0} → (X → Y) → X → List X → Type 0
BeginsAlike f x [] = ⊥
BeginsAlike f x (y ∷ ys) = f y ≡ f x

-- values of one image stand together: where the next one has another, so have all behind it
abbrev pub StandTogether : {X Y : Type 0} → (X → Y) → List X → Type 0
StandTogether f [] = Unit {0}
StandTogether {X} f (x ∷ xs) = (BeginsAlike f x xs ⊎ ((other : X) → Has xs other → ¬ (f other ≡ f x))) × StandTogether f xs

-- the numbers of a pair's terms
abbrev pub numbers_of_terms : Numbers → ℕ × ℕ × ℕ
numbers_of_terms numbers = (numbers.s, numbers.p, numbers.o)

-- those of the pairs whose numbers pass the test are found, each once, those of one triple together
pub record FindsEntries (test : Numbers → Bool) (pairs : List (Numbers × PairRow)) (found : List PairRow) : Type 0 where
  pub entries : List (Numbers × PairRow)
  pub are : map (λ entry. entry.1) entries ≡ found
  pub members : (entry : Numbers × PairRow) → Has entries entry ↔ (Has pairs entry × IsTrue (test entry.0))
  pub once : StandOnce (map (λ entry. entry.0) entries)
  pub together : StandTogether (λ entry. numbers_of_terms entry.0) entries
