-- Which places are bound behind the patterns of a plan: that doesn't depend on the graph. The private calls that plan the order of patterns cite it.
use Rattle.std.specs.Borrow.{Bor}
use Rattle.std.specs.Prelude.{◌≡◌, ℕ, ◌+◌, ◌<◌, ◌≤◌, ltb, not, List, [], ◌∷◌, ◌++◌, Bool, true, false, ◌&&◌, length, map, IsTrue}
use Rattle.std.specs.Int.{from_bool}
use Rattle.std.specs.List.{All, filter, remove, slice_index_or, slice_set}
use Rattle.std.specs.List.Sorted.{IsPermutation}
use Rattle.tree_clock.specs.Lists.{Has}
use Rattle.jrql_ast.specs.declared.patterns.Filter.{Filter}
use Rattle.jrql_ast.specs.declared.patterns.PatternTriple.{PatternTriple}
use Rattle.jrql_ast.specs.declared.patterns.Slot.{Slot}
use Rattle.jrql_ast.specs.declared.patterns.Slot.TheVariants as slots
use Rattle.jrql_ast.specs.InForm.{IsPatternWithin}
use Rattle.jrql_plans.specs.declared.plans.BranchPlan.{BranchPlan}
use Rattle.jrql_plans.specs.declared.plans.PatternStage.{PatternStage}
use Rattle.jrql_plans.specs.PlannedGroups.{AreTestsOf, planned, planned_in}

-- a slot that is bound where these variables are; a fresh subject stands in no group
abbrev pub is_bound_slot : List Bool → Slot → Bool
is_bound_slot bound (slots.Term term) = true
is_bound_slot bound (slots.Var variable) = slice_index_or bound variable false
is_bound_slot bound (slots.Fresh subject) = true

-- all places of a pattern are bound
abbrev pub is_whole : List Bool → PatternTriple → Bool
is_whole bound pattern = is_bound_slot bound pattern.s && (is_bound_slot bound pattern.p && is_bound_slot bound pattern.o)

-- both sides of a filter are bound
abbrev pub is_closed : List Bool → Filter → Bool
is_closed bound test = is_bound_slot bound test.left && is_bound_slot bound test.right

-- how many places of a pattern are bound
abbrev pub places_bound : List Bool → PatternTriple → ℕ
places_bound bound pattern =
    from_bool (is_bound_slot bound pattern.s) + from_bool (is_bound_slot bound pattern.p) + from_bool (is_bound_slot bound pattern.o)

-- a pattern has more bound places than so many
abbrev pub has_more : List Bool → ℕ → PatternTriple → Bool
has_more bound places pattern = ltb places (places_bound bound pattern)

-- a list of which these members pass a test, and these don't
pub record AreSortedOut {X : Type 0} (passes : X → Bool) (all passed others : List X) : Type 0 where
  pub those : passed ≡ filter passes all
  pub left : others ≡ filter (λ x. not (passes x)) all

-- the first member with the most of what is counted stands at this place
pub record IsFirstMost {X : Type 0} (count : X → ℕ) (items : List X) (place : ℕ) : Type 0 where
  pub there : place < length items
  pub most : (default : X) (other : ℕ) → other < length items → count (slice_index_or items other default) ≤ count (slice_index_or items place default)
  pub first : (default : X) (other : ℕ) → other < place → count (slice_index_or items other default) < count (slice_index_or items place default)

-- which variables are bound once a slot is, and once a pattern is a triple
abbrev pub bound_with : Slot → List Bool → List Bool
bound_with (slots.Term term) bound = bound
bound_with (slots.Var variable) bound = slice_set bound variable true
bound_with (slots.Fresh subject) bound = bound

abbrev pub bound_behind : PatternTriple → List Bool → List Bool
bound_behind pattern bound = bound_with pattern.o (bound_with pattern.p (bound_with pattern.s bound))

-- and behind stages
abbrev pub bound_behind_all : List Bool → List PatternStage → List Bool
bound_behind_all bound [] = bound
bound_behind_all bound (stage ∷ stages) = bound_behind_all (bound_behind stage.pattern.now bound) stages

-- the pattern is in form, and wholly bound
pub record IsWholeWithin (bound : List Bool) (pattern : PatternTriple) : Type 0 where
  pub within : IsPatternWithin (length bound) 0 pattern
  pub whole : IsTrue (is_whole bound pattern)

-- each stage checks what is wholly bound behind its pattern
abbrev pub AreStaged : List Bool → List PatternStage → Type 0
AreStaged bound [] = Unit {0}
AreStaged bound (stage ∷ stages) =
    IsPatternWithin (length bound) 0 stage.pattern.now
    × All (λ pattern. IsWholeWithin (bound_behind stage.pattern.now bound) pattern.now) stage.checks.items
    × AreStaged (bound_behind stage.pattern.now bound) stages

-- a stage that is taken out of the patterns that are left: one of them, and those that are wholly bound then
pub record IsTakenStage (left : List (Bor PatternTriple)) (bound : List Bool) (stage : PatternStage) (others : List (Bor PatternTriple)) (next : List Bool) : Type 0 where
  pub place : ℕ
  pub there : place < length left
  pub taken : stage.pattern ≡ slice_index_or left place stage.pattern
  pub marks : next ≡ bound_behind stage.pattern.now bound
  pub sorted_out : AreSortedOut (λ pattern. is_whole next pattern.now) (remove left place) stage.checks.items others
  pub fewer : length others < length left

-- stages that are taken out of the patterns that are left, and what is left and bound behind them
pub record AreTakenStages (left : List (Bor PatternTriple)) (bound : List Bool) (stages : List PatternStage) (others : List (Bor PatternTriple)) (next : List Bool) : Type 0 where
  pub each : IsPermutation (map (λ pattern. pattern.now) left) (planned stages ++ map (λ pattern. pattern.now) others)
  pub marks : next ≡ bound_behind_all bound stages
  pub places : length next ≡ length bound
  pub staged : AreStaged bound stages
  pub within : All (λ pattern. IsPatternWithin (length next) 0 pattern.now) others

-- a plan for a branch, behind what is bound: it has its patterns with those that are left, and tests filters that weren't tested
pub record IsBranchPlan (left : List (Bor PatternTriple)) (untested : List (Bor Filter)) (bound : List Bool) (branch : List PatternTriple) (plan : BranchPlan) : Type 0 where
  pub each : IsPermutation (map (λ pattern. pattern.now) left ++ branch) (planned_in plan)
  pub whole : All (λ pattern. IsWholeWithin bound pattern.now) plan.checks.items
  pub staged : AreStaged bound plan.stages.items
  pub tests : (filters : List Filter) → All (λ test. Has filters test.now) untested → AreTestsOf filters plan.stages.items

-- one for each branch
abbrev pub AreBranchPlans : List (Bor PatternTriple) → List (Bor Filter) → List Bool → List (List PatternTriple) → List BranchPlan → Type 0
AreBranchPlans left untested bound [] [] = Unit {0}
AreBranchPlans left untested bound [] (plan ∷ plans) = ⊥
AreBranchPlans left untested bound (branch ∷ branches) [] = ⊥
AreBranchPlans left untested bound (branch ∷ branches) (plan ∷ plans) =
    IsBranchPlan left untested bound branch plan × AreBranchPlans left untested bound branches plans
