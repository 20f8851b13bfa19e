-- The triples of pairs, by the numbers of their terms, and how they are found. `NumberedPairs::triples`, `search_triples` and `KeyOrder::triples_between` cite it.
use Rattle.std.specs.Prelude.{◌≡◌, ℕ, zero, suc, List, [], ◌∷◌, ◌↔◌, Bool, IsTrue}
use Rattle.mld_ops.specs.declared.pair_lists.PairRow.{PairRow}
use Rattle.tree_clock.specs.Lists.{Has}
use Rattle.pair_orders.specs.Keys.{key_numbers}
use Rattle.pair_orders.specs.PairEntries.{StandOnce, BeginsAlike}
use Rattle.pair_orders.specs.declared.keys.Key.{Key}
use Rattle.pair_orders.specs.declared.keys.Numbers.{Numbers}
use Rattle.pair_orders.specs.declared.keys.TermNumbers.{TermNumbers}

-- the numbers of the terms of a pair's triple
abbrev pub term_numbers : Numbers → TermNumbers
term_numbers numbers = record { s = numbers.s; p = numbers.p; o = numbers.o }

-- the numbers of the terms of a key's triple
abbrev pub key_terms : Key → TermNumbers
key_terms key = term_numbers (key_numbers key)

-- these are the triples of the pairs whose numbers pass the test, however often each is there
abbrev pub AreTriplesOf : (Numbers → Bool) → List (Numbers × PairRow) → List TermNumbers → Type 0
AreTriplesOf test pairs found = (terms : TermNumbers)
    → Has found terms ↔ ((entry : Numbers × PairRow) × Has pairs entry × IsTrue (test entry.0) × (term_numbers entry.0 ≡ terms))

-- the triples of the pairs whose numbers pass the test are found, each once
pub record FindsTriples (test : Numbers → Bool) (pairs : List (Numbers × PairRow)) (found : List TermNumbers) : Type 0 where
  pub members : AreTriplesOf test pairs found
  pub once : StandOnce found

-- the value at a place has the same image as the one in front of it
abbrev pub IsRepeated : {X Y : Type 0} → (X → Y) → List X → ℕ → Type 0
IsRepeated f [] at = ⊥
IsRepeated f (x ∷ xs) zero = ⊥
IsRepeated f (x ∷ xs) (suc zero) = BeginsAlike f x xs
IsRepeated f (x ∷ xs) (suc (suc at)) = IsRepeated f xs (suc at)
