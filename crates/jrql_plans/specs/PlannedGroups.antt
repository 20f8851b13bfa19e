-- What a plan for a group has: each pattern once for each branch, what it checks is bound by then, and it tests none but the group's filters.
-- `plan_of` cites it, and so do the private calls that plan.
use Rattle.std.specs.Prelude.{◌≡◌, ℕ, List, [], ◌∷◌, ◌++◌, Option, None, Some, map, replicate}
use Rattle.std.specs.List.{All}
use Rattle.std.specs.List.Sorted.{IsPermutation}
use Rattle.tree_clock.specs.Lists.{Has}
use Rattle.rdf_terms.specs.declared.terms.Term.{Term}
use Rattle.rdf_terms.specs.declared.terms.Triple.{Triple}
use Rattle.jrql_ast.specs.declared.patterns.Filter.{Filter}
use Rattle.jrql_ast.specs.declared.patterns.Group.{Group}
use Rattle.jrql_ast.specs.declared.patterns.PatternTriple.{PatternTriple}
use Rattle.jrql_ast.specs.FilterMeaning.{side_value}
use Rattle.jrql_ast.specs.InForm.{variables_of}
use Rattle.jrql_ast.specs.Solutions.{agree, branches_of}
use Rattle.jrql_plans.specs.declared.plans.BranchPlan.{BranchPlan}
use Rattle.jrql_plans.specs.declared.plans.GroupPlan.{GroupPlan}
use Rattle.jrql_plans.specs.declared.plans.PatternStage.{PatternStage}

-- the pattern's places are terms in the row
pub record IsBoundIn (row : List (Option Term)) (pattern : PatternTriple) : Type 0 where
  pub s : Term
  pub p : Term
  pub o : Term
  pub subject : side_value pattern.s row ≡ Some s
  pub predicate : side_value pattern.p row ≡ Some p
  pub object : side_value pattern.o row ≡ Some o

-- the patterns that are wholly bound once a stage's pattern is a triple
abbrev pub checks_of : PatternStage → List PatternTriple
checks_of stage = map (λ pattern. pattern.now) stage.checks.items

-- the patterns of stages, in order
abbrev pub planned : List PatternStage → List PatternTriple
planned [] = []
planned (stage ∷ stages) = stage.pattern.now ∷ (checks_of stage ++ planned stages)

-- those of a branch's plan, and those that all branches share
abbrev pub planned_in : BranchPlan → List PatternTriple
planned_in branch = map (λ pattern. pattern.now) branch.checks.items ++ planned branch.stages.items

abbrev pub planned_once : GroupPlan → List PatternTriple
planned_once plan = map (λ pattern. pattern.now) plan.checks.items ++ planned plan.stages.items

-- those of each branch's plan: of none, where there is no branch
abbrev pub planned_behind : List BranchPlan → List (List PatternTriple)
planned_behind branches = branches_of (map planned_in branches)

-- from the row the stages bind what they check, and what is at their end holds of the row by then
abbrev pub AreReady : (List (Option Term) → Type 0) → List PatternStage → List (Option Term) → Type 0
AreReady end [] row = end row
AreReady end (stage ∷ stages) row =
    (triple : Triple) (next : List (Option Term)) → agree stage.pattern.now triple row ≡ Some next
    → All (λ pattern. IsBoundIn next pattern.now) stage.checks.items × AreReady end stages next

-- what the plans of branches check is bound in the row, and what their stages check is by then
pub record IsBranchReady (row : List (Option Term)) (branch : BranchPlan) : Type 0 where
  pub checks : All (λ pattern. IsBoundIn row pattern.now) branch.checks.items
  pub ready : AreReady (λ next. Unit {0}) branch.stages.items row

abbrev pub AreBranchesReady : List BranchPlan → List (Option Term) → Type 0
AreBranchesReady branches row = All (IsBranchReady row) branches

-- each stage tests filters of these alone
abbrev pub AreTestsOf : List Filter → List PatternStage → Type 0
AreTestsOf filters [] = Unit {0}
AreTestsOf filters (stage ∷ stages) = All (λ test. Has filters test.now) stage.tests.items × AreTestsOf filters stages

-- lists of which each is a permutation of the one in its place
abbrev pub ArePermutations : {X : Type 0} → List (List X) → List (List X) → Type 0
ArePermutations [] [] = Unit {0}
ArePermutations [] (other ∷ others) = ⊥
ArePermutations (list ∷ lists) [] = ⊥
ArePermutations (list ∷ lists) (other ∷ others) = IsPermutation list other × ArePermutations lists others

-- a plan for patterns and branches of so many variables: what it has for all branches together with what it has for one are the patterns
-- with those of the branch
pub record IsPlanBy (patterns : List PatternTriple) (branches : List (List PatternTriple)) (filters : List Filter) (variables : ℕ) (plan : GroupPlan) : Type 0 where
  pub each : ArePermutations (map (λ branch. patterns ++ branch) (branches_of branches)) (map (λ branch. planned_once plan ++ branch) (planned_behind plan.branches.items))
  pub bound : All (λ pattern. IsBoundIn (replicate variables None) pattern.now) plan.checks.items
  pub ready : AreReady (AreBranchesReady plan.branches.items) plan.stages.items (replicate variables None)
  pub tests : All (λ test. Has filters test.now) plan.tests.items
  pub tested : AreTestsOf filters plan.stages.items
  pub tested_behind : All (λ branch. AreTestsOf filters branch.stages.items) plan.branches.items

-- a plan for a group
abbrev pub IsPlanFor : Group → GroupPlan → Type 0
IsPlanFor group plan = IsPlanBy group.patterns group.branches group.filters (variables_of group) plan
