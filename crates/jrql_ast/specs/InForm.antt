-- Which groups, queries and plans are in form, and which answers are of a query's kind
-- (SPARQL 1.1 Query Language sections 5, 7, 15 to 17; SPARQL 1.1 Update section 3.1.3).
use Rattle.std.specs.Prelude.{◌≢◌, ℕ, ◌+◌, ◌≡◌, ◌<◌, ◌≤◌, length}
use Rattle.std.specs.List.{All, AllPairs}
use Rattle.jrql_ast.specs.declared.answers.Answer.{Answer}
use Rattle.jrql_ast.specs.declared.answers.Answer.TheVariants as answers
use Rattle.jrql_ast.specs.declared.patterns.Filter.{Filter}
use Rattle.jrql_ast.specs.declared.patterns.Group.{Group}
use Rattle.jrql_ast.specs.declared.patterns.PatternTriple.{PatternTriple}
use Rattle.jrql_ast.specs.declared.patterns.Slot.{Slot}
use Rattle.jrql_ast.specs.declared.patterns.Slot.TheVariants as slots
use Rattle.jrql_ast.specs.declared.plans.UpdatePlan.{UpdatePlan}
use Rattle.jrql_ast.specs.declared.queries.Query.{Query}
use Rattle.jrql_ast.specs.declared.queries.Target.{Target}
use Rattle.jrql_ast.specs.declared.queries.Target.TheVariants as targets
use Rattle.jrql_ast.specs.declared.queries.What.{What}
use Rattle.jrql_ast.specs.declared.queries.What.TheVariants as kinds

-- how many variables a group has at most
abbrev pub variable_limit : ℕ
variable_limit = 256

-- a group's variables, named and hidden, are numbered below this
abbrev pub variables_of : Group → ℕ
variables_of group = length group.names + group.hidden

-- a slot with the variables and the fresh subjects that are numbered below these
abbrev pub IsSlotWithin : ℕ → ℕ → Slot → Type 0
IsSlotWithin variables fresh (slots.Term term) = Unit {0}
IsSlotWithin variables fresh (slots.Var variable) = variable < variables
IsSlotWithin variables fresh (slots.Fresh subject) = subject < fresh

-- a triple of such slots
pub record IsPatternWithin (variables fresh : ℕ) (triple : PatternTriple) : Type 0 where
  pub subject : IsSlotWithin variables fresh triple.s
  pub predicate : IsSlotWithin variables fresh triple.p
  pub object : IsSlotWithin variables fresh triple.o

-- a filter of such slots, without a fresh subject
pub record IsFilterWithin (variables : ℕ) (filter : Filter) : Type 0 where
  pub left : IsSlotWithin variables 0 filter.left
  pub right : IsSlotWithin variables 0 filter.right

-- a group in form: its names differ, its variables are within the limit, and it has no other variable and no fresh subject
pub record IsGroupInForm (group : Group) : Type 0 where
  pub differ : AllPairs (λ name other. name ≢ other) group.names
  pub limit : variables_of group ≤ variable_limit
  pub patterns : All (IsPatternWithin (variables_of group) 0) group.patterns
  pub branches : All (All (IsPatternWithin (variables_of group) 0)) group.branches
  pub filters : All (IsFilterWithin (variables_of group)) group.filters

-- a target that is an IRI or one of so many variables
abbrev pub IsTargetWithin : ℕ → Target → Type 0
IsTargetWithin variables (targets.Iri iri) = Unit {0}
IsTargetWithin variables (targets.Var variable) = variable < variables

-- what is asked of a group in form: a select has named variables alone
abbrev pub IsAskedInForm : Group → What → Type 0
IsAskedInForm group (kinds.Select select) = All (λ variable. variable < length group.names) select.vars
IsAskedInForm group (kinds.Describe described) = All (IsTargetWithin (variables_of group)) described

-- a query in form
pub record IsQueryInForm (query : Query) : Type 0 where
  pub group : IsGroupInForm query.group
  pub what : IsAskedInForm query.group query.what

-- a plan in form: fresh subjects stand in its inserts alone
pub record IsPlanInForm (plan : UpdatePlan) : Type 0 where
  pub group : IsGroupInForm plan.group
  pub deletes : All (IsPatternWithin (variables_of plan.group) 0) plan.deletes
  pub inserts : All (IsPatternWithin (variables_of plan.group) plan.fresh) plan.inserts

-- an answer of a query's kind: each row of a select has one place for each of its variables
abbrev pub IsAnswerTo : What → Answer → Type 0
IsAnswerTo (kinds.Select select) (answers.Rows rows) = All (λ row. length row ≡ length select.vars) rows
IsAnswerTo (kinds.Select select) (answers.Subjects subjects) = ⊥
IsAnswerTo (kinds.Describe described) (answers.Rows rows) = ⊥
IsAnswerTo (kinds.Describe described) (answers.Subjects subjects) = Unit {0}
