-- The durable steps by which the clones of a founded world are made, each at its clone. `founding_steps_lead` cites it.
use Rattle.std.specs.Prelude.{◌≡◌, ℕ, zero, suc, ◌-◌, ◌<◌, ◌≤◌, List, [], ◌∷◌, ◌++◌, replicate, nat_eq, if◌then◌else◌, Option, Some, None}
use Rattle.tree_clock.specs.Path.{zero_letter, one_letter}
use Rattle.mld_model.specs.Clone.{Stored, kept_of}
use Rattle.mld_model.specs.CloneStep.{joined_with}
use Rattle.mld_model.specs.World.{clone_at, clone_count, founded}
use Rattle.mld_model.specs.Durable.{DurableStep, AppendsFork, Creates, kept_after}

-- a durable step of the clone of a number
pub record StepAt : Type 0 where
  pub number : ℕ
  pub step : DurableStep

-- the leaf of a clone once clone 0 has forked its own so often: clone 0 kept the left half each time, and clone i was given the right half at
-- the fork i
abbrev pub leaf_after : ℕ → ℕ → List ℕ
leaf_after forks zero = replicate forks zero_letter
leaf_after forks (suc before) = replicate before zero_letter ++ one_letter ∷ []

-- what a clone keeps that has a leaf and knows nothing
abbrev pub leaf_alone : List ℕ → Stored
leaf_alone path = joined_with path []

-- clone 0 has forked its leaf so often, and forks it so often again: each time it appends the fork, and then the clone of that fork creates
-- what it keeps
abbrev pub forking_steps : ℕ → ℕ → List StepAt
forking_steps forks zero = []
forking_steps forks (suc more) =
    record { number = 0; step = AppendsFork }
    ∷ record { number = suc forks; step = Creates (leaf_alone (leaf_after forks (suc forks))) }
    ∷ forking_steps (suc forks) more

-- so many clones are founded: clone 0 creates what it keeps, with the leaf of all, and forks it for each other clone
abbrev pub founding_steps : ℕ → List StepAt
founding_steps count = record { number = 0; step = Creates (leaf_alone []) } ∷ forking_steps 0 (count - 1)

-- the durable steps of one clone among these
abbrev pub steps_at : ℕ → List StepAt → List DurableStep
steps_at number [] = []
steps_at number (first ∷ rest) = if nat_eq first.number number then first.step ∷ steps_at number rest else steps_at number rest

-- what a clone keeps after steps of founding: nothing yet, or its leaf after so many forks
pub data KeepsLeaf (count number : ℕ) (kept : Option Stored) : Type 0 where
  keeps_nothing_yet : kept ≡ None → KeepsLeaf count number kept
  keeps_leaf : (forks : ℕ) → forks < count → kept ≡ Some (leaf_alone (leaf_after forks number)) → KeepsLeaf count number kept

-- all durable steps of founding together give what each clone of the founded world keeps
abbrev pub FoundingLeads : Type 0
FoundingLeads = (domain : List ℕ) (properties : List (List ℕ)) (count number : ℕ) → 1 ≤ count → count ≤ clone_count
    → kept_after None (steps_at number (founding_steps count)) ≡ kept_of (clone_at (founded domain properties count) number)

-- where only a front of them stands, each clone keeps nothing yet, or its leaf after so many forks
abbrev pub FoundingFronts : Type 0
FoundingFronts = (count number : ℕ) (front rest : List StepAt) → 1 ≤ count → front ++ rest ≡ founding_steps count
    → KeepsLeaf count number (kept_after None (steps_at number front))
