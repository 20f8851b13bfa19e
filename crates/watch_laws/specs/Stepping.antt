-- What a change does to the rows of a watch. The private calls that change them cite it, and so does the invariant of `Live`.
use Rattle.std.specs.Prelude.{◌≡◌, ℕ, ◌≤◌, List, [], Bool, true, false, cond, length, map, Option, None, Some, vec_capacity}
use Rattle.rdf_terms.specs.declared.terms.Term.{Term}
use Rattle.rdf_terms.specs.declared.terms.Triple.{Triple}
use Rattle.mld_ops.specs.declared.tagged.Tagged.{Tagged}
use Rattle.mld_ops.specs.Present.{present}
use Rattle.jrql_ast.specs.declared.queries.Query.{Query}
use Rattle.jrql_ast.specs.declared.queries.Select.{Select}
use Rattle.jrql_ast.specs.declared.queries.What.{What}
use Rattle.jrql_ast.specs.declared.queries.What.TheVariants as kinds
use Rattle.jrql_ast.specs.InForm.{IsQueryInForm}
use Rattle.jrql_ast.specs.QueryAnswers.{IsSortingOf, distinct_rows, found, project, solution_limit}
use Rattle.watch_laws.specs.declared.steps.OnceStep.{OnceStep}
use Rattle.watch_laws.specs.declared.steps.Step.{Step}
use Rattle.watch_laws.specs.Changing.{AreMarked}
use Rattle.reply_rows.specs.Moving.{AreBeyond, AreRowsUnknown, HasRowRoom, IsMoved}
use Rattle.reply_rows.specs.Rising.{IsRising, row_order}
use Rattle.watch_laws.specs.Watches.{AsksAllRows}

-- ---- rows that come and go

-- what is ready for the rows that stand once
pub record IsOnceReady (once told : List (List (Option Term))) (gone : ℕ) (step : OnceStep) : Type 0 where
  pub come : step.come.items ≡ told
  pub none : step.go.items ≡ []
  pub room : gone ≤ vec_capacity step.go
  pub rooms : HasRowRoom (length once) (length told) step.rooms

abbrev pub IsOnceFor : Bool → List (List (Option Term)) → Step → Option OnceStep → Type 0
IsOnceFor false once step None = step.told.items ≡ step.come.items
IsOnceFor false once step (Some own) = ⊥
IsOnceFor true once step None = ⊥
IsOnceFor true once step (Some own) = AreRowsUnknown step.come.items once step.told.items × IsOnceReady once step.told.items (length step.go.items) own

-- a step for these lists, where these values are lost and gained
pub record IsStepFor (distinct : Bool) (values once lost gained : List (List (Option Term))) (step : Step) : Type 0 where
  pub come : AreBeyond gained lost step.come.items
  pub go : AreBeyond lost gained step.go.items
  pub rooms : HasRowRoom (length values) (length step.come.items) step.rooms
  pub own : IsOnceFor distinct once step step.once

-- the same, whatever the values are that were lost and gained
pub record IsStepReady (distinct : Bool) (values once : List (List (Option Term))) (step : Step) : Type 0 where
  pub come : IsRising row_order step.come.items
  pub go : IsRising row_order step.go.items
  pub rooms : HasRowRoom (length values) (length step.come.items) step.rooms
  pub own : IsOnceFor distinct once step step.once

-- what is told, and what becomes of the rows that stand once
abbrev pub IsToldByStep : Bool → (once come go values new_once added removed : List (List (Option Term))) → Type 0
IsToldByStep false once come go values new_once added removed = (new_once ≡ once) × (added ≡ come) × (removed ≡ go)
IsToldByStep true once come go values new_once added removed = AreRowsUnknown come once added × AreRowsUnknown go values removed × IsMoved once removed added new_once

-- a step is done
pub record IsStepDone (distinct : Bool) (step : Step) (values once new_values new_once added removed : List (List (Option Term))) : Type 0 where
  pub moved : IsMoved values step.go.items step.come.items new_values
  pub told : IsToldByStep distinct once step.come.items step.go.items new_values new_once added removed

-- ---- watches

-- whether each row stands once
abbrev pub is_distinct : What → Bool
is_distinct (kinds.Select select) = select.distinct
is_distinct (kinds.Describe targets) = false

-- the variables of a select
abbrev pub variables_in : What → List ℕ
variables_in (kinds.Select select) = select.vars
variables_in (kinds.Describe targets) = []

-- the rows of a watch: its values, or each of them once
abbrev pub rows_by : What → List (List (Option Term)) → List (List (Option Term)) → List (List (Option Term))
rows_by what values once = cond (is_distinct what) once values

-- the same query, but with each row as often as there are solutions for it
abbrev pub repeating : What → What
repeating (kinds.Select select) = kinds.Select (record { vars = select.vars; distinct = false; offset = select.offset; limit = select.limit })
repeating (kinds.Describe targets) = kinds.Describe targets

-- the values of a query's solutions over triples, sorted; no more than there may be
pub record AreValues (graph : List Triple) (query : Query) (values : List (List (Option Term))) : Type 0 where
  pub sorted : IsSortingOf row_order (map (project (variables_in query.what)) (found graph query.group)) values
  pub few : length (found graph query.group) ≤ solution_limit

-- each of the values once, where that is asked for
abbrev pub IsOnce : Bool → List (List (Option Term)) → List (List (Option Term)) → Type 0
IsOnce true values once = once ≡ distinct_rows true values
IsOnce false values once = once ≡ []

-- a watch's graph, query and rows belong together
pub record IsWatch (pairs : List Tagged) (query : Query) (values once : List (List (Option Term))) : Type 0 where
  pub marked : AreMarked pairs
  pub form : IsQueryInForm query
  pub all : AsksAllRows query.what
  pub values_are : AreValues (present pairs) query values
  pub once_are : IsOnce (is_distinct query.what) values once
