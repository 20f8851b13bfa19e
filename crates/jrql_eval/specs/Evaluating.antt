-- How the solutions of a group are found: patterns in the order of a plan, and what is known of their places.
-- The private calls that match patterns cite it.
use Rattle.std.specs.Prelude.{◌==◌, ℕ, List, [], ◌++◌, Bool, ◌&&◌, Option, None, Some, length}
use Rattle.std.specs.List.{filter, flat_map, All}
use Rattle.jrql_rows.specs.tree_clock.Lists.{Has}
use Rattle.jrql_rows.specs.rdf_terms.declared.terms.Term.{Term}
use Rattle.jrql_rows.specs.rdf_terms.declared.terms.Triple.{Triple}
use Rattle.jrql_rows.specs.graph_index.Matching.{has_iri, is_term}
pub use Rattle.jrql_rows.specs.graph_index.Numbered.{iri_of_term, triple_at}
pub use Rattle.jrql_rows.specs.jrql_filters.FilteredRows.{all_hold, can_hold, all_can_hold}
use Rattle.jrql_rows.specs.jrql_ast.declared.patterns.Group.{Group}
use Rattle.jrql_rows.specs.jrql_ast.declared.patterns.PatternTriple.{PatternTriple}
use Rattle.jrql_rows.specs.jrql_ast.FilterMeaning.{side_value}
use Rattle.jrql_rows.specs.jrql_ast.InForm.{variables_of}
use Rattle.jrql_rows.specs.jrql_ast.Solutions.{matches_from}
use Rattle.jrql_plans.specs.declared.plans.BranchPlan.{BranchPlan}
use Rattle.jrql_plans.specs.declared.plans.PatternStage.{PatternStage}
use Rattle.jrql_plans.specs.PlannedGroups.{AreBranchesReady, AreReady, AreTestsOf, IsBoundIn, checks_of, planned, planned_behind}
use Rattle.jrql_eval.specs.declared.searching.Ending.{Ending}

-- whether a group asks for nothing: it has no variable, no pattern, no branch and no filter
abbrev pub asks_nothing : Group → Bool
asks_nothing group = (variables_of group == 0) && ((length group.patterns == 0) && ((length group.branches == 0) && (length group.filters == 0)))

-- the triple has the parts that are given
abbrev pub has_parts : Option (List ℕ) → Option (List ℕ) → Option Term → Triple → Bool
has_parts s p o triple = has_iri s triple.s && (has_iri p triple.p && is_term o triple.o)

-- the triple that a pattern is in a row, where its places are bound to parts of one
abbrev pub instance_of : PatternTriple → List (Option Term) → Option Triple
instance_of pattern row = triple_at (iri_of_term (side_value pattern.s row)) (iri_of_term (side_value pattern.p row)) (side_value pattern.o row)

-- what the plans of branches check and test is known by the row at the end of stages
pub record IsEndReady (ending : Ending) (stages : List PatternStage) (row : List (Option Term)) : Type 0 where
  pub ready : AreReady (AreBranchesReady ending.branches.now) stages row
  pub tested : AreTestsOf ending.filters.now stages
  pub tested_behind : All (λ branch. AreTestsOf ending.filters.now branch.stages.items) ending.branches.now

-- in the row of a stage's pattern what the stage checks is bound, its tests are filters of these, and so on behind it
pub record IsReadyBehind (ending : Ending) (stage : PatternStage) (stages : List PatternStage) (row : List (Option Term)) : Type 0 where
  pub checks : All (λ pattern. IsBoundIn row pattern.now) stage.checks.items
  pub tests : All (λ test. Has ending.filters.now test.now) stage.tests.items
  pub behind : IsEndReady ending stages row

-- the rows that match what is planned for a branch, branch by branch; where there is no branch, the row itself
abbrev pub ended_by : List Triple → List BranchPlan → List (Option Term) → List (List (Option Term))
ended_by graph branches row = flat_map (λ branch. matches_from graph branch row) (planned_behind branches)

-- the rows to which patterns lead from a row, and branches behind them, and for which all filters hold
abbrev pub led_through : List Triple → Ending → List PatternTriple → List (Option Term) → List (List (Option Term))
led_through graph ending patterns row = filter (all_hold ending.filters.now) (flat_map (ended_by graph ending.branches.now) (matches_from graph patterns row))

-- those to which stages lead
abbrev pub led_to : List Triple → Ending → List PatternStage → List (Option Term) → List (List (Option Term))
led_to graph ending stages row = led_through graph ending (planned stages) row

-- the rows behind a stage, where its pattern's row is this one
abbrev pub led_from : List Triple → Ending → PatternStage → List PatternStage → Option (List (Option Term)) → List (List (Option Term))
led_from graph ending stage stages None = []
led_from graph ending stage stages (Some next) = led_through graph ending (checks_of stage ++ planned stages) next
