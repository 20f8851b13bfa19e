-- What a stage's checks lead to.
use Rattle.std.proofs.Common.{◌≡◌, ◌∙◌, List, [], ◌∷◌, ◌++◌, Bool, Option, Some, Result, Ok, Err, Bor, OnOk, if◌then◌else◌, map, filter, flat_map, ap, subst, arith}
use Rattle.jrql_rows.specs.rdf_terms.declared.terms.Term.{Term}
use Rattle.jrql_rows.specs.rdf_terms.declared.terms.Triple.{Triple}
use Rattle.jrql_rows.specs.jrql_ast.declared.patterns.PatternTriple.{PatternTriple}
use Rattle.jrql_rows.specs.jrql_ast.Solutions.{matches_from}
use Rattle.jrql_plans.specs.declared.plans.PatternStage.{PatternStage}
use Rattle.jrql_plans.specs.PlannedGroups.{AreBranchesReady, AreReady, checks_of, planned}
use Rattle.jrql_eval.specs.declared.searching.Ending.{Ending}
use Rattle.jrql_eval.specs.Evaluating.{all_hold, ended_by, led_to, led_from}

-- what a stage checks is there, or isn't
pub led_checked : (graph : List Triple) (ending : Ending) (stage : PatternStage) (stages : List PatternStage) (o : Option (List (Option Term))) (next : List (Option Term)) → o ≡ Some next
    → ((rest : List PatternTriple) → matches_from graph (checks_of stage ++ rest) next ≡ matches_from graph rest next)
    → led_from graph ending stage stages o ≡ led_to graph ending stages next
led_checked graph ending stage stages o next e h =
    ap (led_from graph ending stage stages) e ∙ ap (λ rows. filter (all_hold ending.filters.now) (flat_map (ended_by graph ending.branches.now) rows)) (h (planned stages))

pub led_lost : (graph : List Triple) (ending : Ending) (stage : PatternStage) (stages : List PatternStage) (o : Option (List (Option Term))) (next : List (Option Term)) → o ≡ Some next
    → ((rest : List PatternTriple) → matches_from graph (checks_of stage ++ rest) next ≡ [])
    → led_from graph ending stage stages o ≡ []
led_lost graph ending stage stages o next e h =
    ap (led_from graph ending stage stages) e ∙ ap (λ rows. filter (all_hold ending.filters.now) (flat_map (ended_by graph ending.branches.now) rows)) (h (planned stages))

-- the same checks in the same row
pub moved_checks : (graph : List Triple) (given checks : List (Bor PatternTriple)) (row next : List (Option Term)) (b : Bool) → given ≡ checks → row ≡ next
    → ((rest : List PatternTriple) → matches_from graph (map (λ x. x.now) given ++ rest) row ≡ (if b then matches_from graph rest row else []))
    → (rest : List PatternTriple) → matches_from graph (map (λ x. x.now) checks ++ rest) next ≡ (if b then matches_from graph rest next else [])
moved_checks graph given checks row next b e r h rest =
    subst (λ (z : List (Option Term)). matches_from graph (map (λ x. x.now) checks ++ rest) z ≡ (if b then matches_from graph rest z else [])) r
    (subst (λ (l : List (Bor PatternTriple)). matches_from graph (map (λ x. x.now) l ++ rest) row ≡ (if b then matches_from graph rest row else [])) e (h rest))

pub on_ok_weaker : {A E P Q : Type 0} (result : Result A E) → (P → Q) → OnOk result P → OnOk result Q
on_ok_weaker (Ok done) f h = f h
on_ok_weaker (Err e) f h = tt

-- where no branch is behind stages, they are ready by themselves
pub ready_alone : (stages : List PatternStage) (row : List (Option Term)) → AreReady (λ next. Unit {0}) stages row → AreReady (AreBranchesReady []) stages row
ready_alone [] row h = λ k d l. absurd (omega (arith, l))
ready_alone (stage ∷ stages) row h = λ triple next e. let here = h triple next e in (here.0, ready_alone stages next here.1)
