-- What branches share is planned once: the parts of a plan for a group.
use Rattle.std.proofs.Common.{◌≡◌, ◌∙◌, ℕ, List, [], ◌∷◌, ◌++◌, Bool, false, Option, None, length, get_or, map, replicate, All, Bor, refl, sym, ap, subst, append_assoc, append-nil, zero, suc, arith}
use Rattle.std.proofs.lemmas.List.Elements.{All-append}
use Rattle.std.proofs.lemmas.List.Sorted.{IsPermutation-trans, IsPermutation-append_left, IsPermutation-append_right}
use Rattle.std.specs.List.Sorted.{IsPermutation}
use Rattle.rdf_terms.specs.declared.terms.Term.{Term}
use Rattle.tree_clock.specs.Lists.{Has}
use Rattle.jrql_ast.specs.declared.patterns.Filter.{Filter}
use Rattle.jrql_ast.specs.declared.patterns.PatternTriple.{PatternTriple}
use Rattle.jrql_ast.specs.InForm.{IsPatternWithin}
use Rattle.jrql_ast.specs.Solutions.{branches_of}
use Rattle.jrql_plans.specs.declared.plans.BranchPlan.{BranchPlan}
use Rattle.jrql_plans.specs.declared.plans.GroupPlan.{GroupPlan}
use Rattle.jrql_plans.specs.declared.plans.PatternStage.{PatternStage}
use Rattle.jrql_plans.specs.PlannedGroups.{ArePermutations, AreBranchesReady, AreTestsOf, IsBranchReady, IsPlanBy, planned, planned_behind, planned_in, planned_once}
use Rattle.jrql_plans.specs.Planning.{is_whole, AreBranchPlans, AreSortedOut, AreStaged, AreTakenStages, IsBranchPlan, bound_behind_all}
use Rattle.jrql_plans.proofs.Planned.{Backs, none_backed, ready_from_staged, whole_backed}
use Rattle.jrql_plans.proofs.PlanSteps.{now_of, parted, whole_taken}

-- ---- patterns as they stand are as their values are
pub all_given : (P : PatternTriple → Type 0) (given : List (Bor PatternTriple)) → All P (now_of given) → All (λ p. P p.now) given
all_given P [] h k d l = absurd (omega (arith, l))
all_given P (p ∷ given) h zero d l = h 0 p.now (omega arith)
all_given P (p ∷ given) h (suc k) d l = all_given P given (λ j e m. h (suc j) e (omega (arith, m))) k d (omega (arith, l))

all_now : (P : PatternTriple → Type 0) (given : List (Bor PatternTriple)) → All (λ p. P p.now) given → All P (now_of given)
all_now P [] h k d l = absurd (omega (arith, l))
all_now P (p ∷ given) h zero d l = h 0 p (omega arith)
all_now P (p ∷ given) h (suc k) d l = all_now P given (λ j e m. h (suc j) e (omega (arith, m))) k d (omega (arith, l))

pub within_given : (n : ℕ) (patterns more : List PatternTriple) (given : List (Bor PatternTriple)) → now_of given ≡ patterns ++ more → All (IsPatternWithin n 0) patterns → All (IsPatternWithin n 0) more
    → All (λ p. IsPatternWithin n 0 p.now) given
within_given n patterns more given e a b =
    all_given (IsPatternWithin n 0) given (subst (All (IsPatternWithin n 0)) (sym e) (All-append (IsPatternWithin n 0) patterns more a b))

pub within_left : (n : ℕ) (left : List (Bor PatternTriple)) (more : List PatternTriple) (given : List (Bor PatternTriple)) → now_of given ≡ now_of left ++ more
    → All (λ p. IsPatternWithin n 0 p.now) left → All (IsPatternWithin n 0) more → All (λ p. IsPatternWithin n 0 p.now) given
within_left n left more given e a b = within_given n (now_of left) more given e (all_now (IsPatternWithin n 0) left a) b

pub length_of_none : (n : ℕ) → length (replicate n false) ≡ n
length_of_none zero = refl
length_of_none (suc n) = ap suc (length_of_none n)

-- ---- what is planned, and what is left
-- what is bound at once, and then stages
pub planned_each : (all : List PatternTriple) (given whole left others : List (Bor PatternTriple)) (stages : List PatternStage) (bound next : List Bool) → now_of given ≡ all
    → AreSortedOut (λ p. is_whole bound p.now) given whole left → AreTakenStages left bound stages others next
    → IsPermutation all ((now_of whole ++ planned stages) ++ now_of others)
planned_each all given whole left others stages bound next e s t =
    subst (λ z. IsPermutation z ((now_of whole ++ planned stages) ++ now_of others)) e
    (subst (IsPermutation (now_of given)) (sym (append_assoc (now_of whole) (planned stages) (now_of others)))
    (IsPermutation-trans (now_of given) (now_of whole ++ now_of left) _ (parted (λ p. p.now) (λ p. is_whole bound p.now) given whole left s)
    (IsPermutation-append_right (now_of whole) (now_of left) (planned stages ++ now_of others) t.each)))

-- until nothing is left
pub planned_all : (all : List PatternTriple) (given whole left others : List (Bor PatternTriple)) (stages : List PatternStage) (bound next : List Bool) → now_of given ≡ all
    → AreSortedOut (λ p. is_whole bound p.now) given whole left → AreTakenStages left bound stages others next → others ≡ []
    → IsPermutation all (now_of whole ++ planned stages)
planned_all all given whole left others stages bound next e s t n =
    subst (IsPermutation all) (append-nil (now_of whole ++ planned stages))
    (subst (λ (z : List (Bor PatternTriple)). IsPermutation all ((now_of whole ++ planned stages) ++ now_of z)) n (planned_each all given whole left others stages bound next e s t))

-- ---- branches
-- one more
pub branches_more : (left : List (Bor PatternTriple)) (untested : List (Bor Filter)) (bound : List Bool) (branches : List (List PatternTriple)) (plans : List BranchPlan)
    (branch : List PatternTriple) (plan : BranchPlan) → AreBranchPlans left untested bound branches plans → IsBranchPlan left untested bound branch plan
    → AreBranchPlans left untested bound (branches ++ branch ∷ []) (plans ++ plan ∷ [])
branches_more left untested bound [] [] branch plan all one = (one, tt)
branches_more left untested bound [] (p ∷ plans) branch plan all one = absurd all
branches_more left untested bound (b ∷ branches) [] branch plan all one = absurd all
branches_more left untested bound (b ∷ branches) (p ∷ plans) branch plan all one = (all.0, branches_more left untested bound branches plans branch plan all.1 one)

module _ (left : List (Bor PatternTriple)) (untested : List (Bor Filter)) (bound : List Bool) where
  -- each is ready where what is marked is bound
  branch_ready : (branch : List PatternTriple) (plan : BranchPlan) (row : List (Option Term)) → Backs bound row → IsBranchPlan left untested bound branch plan → IsBranchReady row plan
  branch_ready branch plan row b p = record {
    checks = λ k d l. whole_backed bound row (get_or plan.checks.items k d).now b (p.whole k d l);
    ready = ready_from_staged (λ last. Unit {0}) plan.stages.items bound row (λ last backs. tt) b p.staged;
  }

  pub branches_ready : (branches : List (List PatternTriple)) (plans : List BranchPlan) (row : List (Option Term)) → Backs bound row → AreBranchPlans left untested bound branches plans
      → AreBranchesReady plans row
  branches_ready [] [] row b p k d l = absurd (omega (arith, l))
  branches_ready [] (plan ∷ plans) row b p k d l = absurd p
  branches_ready (branch ∷ branches) [] row b p k d l = absurd p
  branches_ready (branch ∷ branches) (plan ∷ plans) row b p zero d l = branch_ready branch plan row b p.0
  branches_ready (branch ∷ branches) (plan ∷ plans) row b p (suc k) d l = branches_ready branches plans row b p.1 k d (omega (arith, l))

  -- each tests filters that weren't tested
  pub branches_tested : (filters : List Filter) (branches : List (List PatternTriple)) (plans : List BranchPlan) → All (λ t. Has filters t.now) untested
      → AreBranchPlans left untested bound branches plans → All (λ plan. AreTestsOf filters plan.stages.items) plans
  branches_tested filters [] [] h p k d l = absurd (omega (arith, l))
  branches_tested filters [] (plan ∷ plans) h p k d l = absurd p
  branches_tested filters (branch ∷ branches) [] h p k d l = absurd p
  branches_tested filters (branch ∷ branches) (plan ∷ plans) h p zero d l = p.0.tests filters h
  branches_tested filters (branch ∷ branches) (plan ∷ plans) h p (suc k) d l = branches_tested filters branches plans h p.1 k d (omega (arith, l))

  -- what all share, and what each has
  module _ (own shared : List PatternTriple) (e : IsPermutation own (shared ++ now_of left)) where
    one_behind : (branch : List PatternTriple) (plan : BranchPlan) → IsBranchPlan left untested bound branch plan → IsPermutation (own ++ branch) (shared ++ planned_in plan)
    one_behind branch plan p =
        IsPermutation-trans (own ++ branch) ((shared ++ now_of left) ++ branch) _ (IsPermutation-append_left branch own (shared ++ now_of left) e)
        (subst (λ z. IsPermutation z (shared ++ planned_in plan)) (sym (append_assoc shared (now_of left) branch))
        (IsPermutation-append_right shared (now_of left ++ branch) (planned_in plan) p.each))

    each_behind : (branches : List (List PatternTriple)) (plans : List BranchPlan) → AreBranchPlans left untested bound branches plans
        → ArePermutations (map (λ branch. own ++ branch) branches) (map (λ branch. shared ++ branch) (map planned_in plans))
    each_behind [] [] p = tt
    each_behind [] (plan ∷ plans) p = absurd p
    each_behind (branch ∷ branches) [] p = absurd p
    each_behind (branch ∷ branches) (plan ∷ plans) p = (one_behind branch plan p.0, each_behind branches plans p.1)

    pub each_planned : (branches : List (List PatternTriple)) (plans : List BranchPlan) → (branches ≡ [] → left ≡ []) → AreBranchPlans left untested bound branches plans
        → ArePermutations (map (λ branch. own ++ branch) (branches_of branches)) (map (λ branch. shared ++ branch) (planned_behind plans))
    each_planned [] [] n p = (
      subst (λ (z : List (Bor PatternTriple)). IsPermutation (own ++ []) (shared ++ now_of z)) (n refl) (subst (λ z. IsPermutation z (shared ++ now_of left)) (sym (append-nil own)) e),
      tt,
    )
    each_planned [] (plan ∷ plans) n p = absurd p
    each_planned (branch ∷ branches) [] n p = absurd p
    each_planned (branch ∷ branches) (plan ∷ plans) n p = each_behind (branch ∷ branches) (plan ∷ plans) p

-- ---- the whole plan
pub plan_made : (own : List PatternTriple) (branches : List (List PatternTriple)) (filters : List Filter) (n : ℕ) (plan : GroupPlan) (given left others : List (Bor PatternTriple)) (untested : List (Bor Filter))
    (bound next : List Bool) → now_of given ≡ own → bound ≡ replicate n false → All (λ p. IsPatternWithin n 0 p.now) given
    → AreSortedOut (λ p. is_whole bound p.now) given plan.checks.items left → AreTakenStages left bound plan.stages.items others next
    → (branches ≡ [] → others ≡ []) → AreBranchPlans others untested next branches plan.branches.items
    → All (λ t. Has filters t.now) plan.tests.items → AreTestsOf filters plan.stages.items → All (λ t. Has filters t.now) untested
    → IsPlanBy own branches filters n plan
plan_made own branches filters n plan given left others untested bound next e b within s t none p tests tested later =
    let within_bound : All (λ q. IsPatternWithin (length bound) 0 q.now) given = rw (ap length b ∙ length_of_none n) within in record {
      each = each_planned others untested next own (planned_once plan) (planned_each own given plan.checks.items left others plan.stages.items bound next e s t) branches plan.branches.items none p;
      bound = λ k d l. whole_backed bound (replicate n None) (get_or plan.checks.items k d).now (subst (λ z. Backs z (replicate n None)) (sym b) (none_backed n))
          (whole_taken bound given plan.checks.items left s within_bound k d l);
      ready = ready_from_staged (AreBranchesReady plan.branches.items) plan.stages.items (replicate n false) (replicate n None)
          (λ row backs. branches_ready others untested next branches plan.branches.items row (subst (λ z. Backs z row) (sym (t.marks ∙ ap (λ z. bound_behind_all z plan.stages.items) b)) backs) p)
          (none_backed n) (subst (λ z. AreStaged z plan.stages.items) b t.staged);
      tests = tests;
      tested = tested;
      tested_behind = branches_tested others untested next filters branches plan.branches.items later p;
    }

-- ---- the plan of one branch
pub branch_made : (left : List (Bor PatternTriple)) (untested : List (Bor Filter)) (bound copy next : List Bool) (branch : List PatternTriple) (plan : BranchPlan) (given rest others : List (Bor PatternTriple))
    → copy ≡ bound → now_of given ≡ now_of left ++ branch → All (λ p. IsPatternWithin (length copy) 0 p.now) given
    → AreSortedOut (λ p. is_whole copy p.now) given plan.checks.items rest → AreTakenStages rest copy plan.stages.items others next → others ≡ []
    → ((filters : List Filter) → All (λ t. Has filters t.now) untested → AreTestsOf filters plan.stages.items)
    → IsBranchPlan left untested bound branch plan
branch_made left untested bound copy next branch plan given rest others b e within s t n tests = subst (λ (z : List Bool). IsBranchPlan left untested z branch plan) b (record {
  each = planned_all (now_of left ++ branch) given plan.checks.items rest others plan.stages.items copy next e s t n;
  whole = whole_taken copy given plan.checks.items rest s within;
  staged = t.staged;
  tests = tests;
})
