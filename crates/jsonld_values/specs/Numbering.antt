-- The variables of a text that was read whole: the hidden ones stand behind the named ones. While it is read, they have numbers behind
-- those of all named ones that there may be (`meet_hidden`).
use Rattle.std.specs.Prelude.{ℕ, ◌+◌, ◌-◌, ◌≡◌, ◌<◌, ◌≤◌, ◌⊎◌, List, ◌++◌, length, map, nat_lt, if◌then◌else◌}
use Rattle.std.specs.List.{All}
use Rattle.jrql_ast.specs.InForm.{variable_limit, IsTargetWithin}
use Rattle.jrql_ast.specs.declared.patterns.Filter.{Filter}
use Rattle.jrql_ast.specs.declared.patterns.Group.{Group}
use Rattle.jrql_ast.specs.declared.patterns.PatternTriple.{PatternTriple}
use Rattle.jrql_ast.specs.declared.patterns.Slot.{Slot}
use Rattle.jrql_ast.specs.declared.patterns.Slot.TheVariants as slots
use Rattle.jrql_ast.specs.declared.plans.UpdatePlan.{UpdatePlan}
use Rattle.jrql_ast.specs.declared.queries.What.{What}
use Rattle.jrql_ast.specs.declared.queries.What.TheVariants as kinds
use Rattle.jsonld_values.specs.VariableNames.{NamesValue, IsNames}

-- ---- while a text is read

-- a variable that was met: a named one, or a hidden one
abbrev pub IsVariableOf : NamesValue → ℕ → Type 0
IsVariableOf names variable = (variable < length names.named) ⊎ ((variable_limit ≤ variable) × (variable < variable_limit + names.hidden))

-- a slot whose variable was met, and whose fresh subject is below a number
abbrev pub IsSlotOf : NamesValue → ℕ → Slot → Type 0
IsSlotOf names fresh (slots.Term term) = Unit {0}
IsSlotOf names fresh (slots.Var variable) = IsVariableOf names variable
IsSlotOf names fresh (slots.Fresh subject) = subject < fresh

-- a triple of such slots
pub record IsPatternOf (names : NamesValue) (fresh : ℕ) (triple : PatternTriple) : Type 0 where
  pub subject : IsSlotOf names fresh triple.s
  pub predicate : IsSlotOf names fresh triple.p
  pub object : IsSlotOf names fresh triple.o

-- a filter of such slots, without a fresh subject
pub record IsFilterOf (names : NamesValue) (filter : Filter) : Type 0 where
  pub left : IsSlotOf names 0 filter.left
  pub right : IsSlotOf names 0 filter.right

-- what is asked of a group names its named variables alone
abbrev pub IsAskedOf : NamesValue → What → Type 0
IsAskedOf names (kinds.Select select) = All (λ variable. variable < length names.named) select.vars
IsAskedOf names (kinds.Describe targets) = All (IsTargetWithin (length names.named)) targets

-- names with what was met since: those before are a front of them
pub record HasGrown (before after : NamesValue) : Type 0 where
  pub more : List (List ℕ)
  pub named : after.named ≡ before.named ++ more
  pub hidden : before.hidden ≤ after.hidden
  pub fresh : before.fresh ≤ after.fresh

-- a variable that was met, with the names behind that
pub record IsMetBehind (names : NamesValue) (met : NamesValue × Slot) : Type 0 where
  pub grown : HasGrown names met.0
  pub hidden : met.0.hidden ≡ names.hidden
  pub fresh : met.0.fresh ≡ names.fresh
  pub slot : IsSlotOf met.0 0 met.1
  pub still : IsNames names → IsNames met.0

-- ---- once it is read

-- a variable's number, where there are so many named ones
abbrev pub numbered_variable : ℕ → ℕ → ℕ
numbered_variable named variable = if nat_lt variable variable_limit then variable else named + (variable - variable_limit)

abbrev pub numbered_slot : ℕ → Slot → Slot
numbered_slot named (slots.Var variable) = slots.Var (numbered_variable named variable)
numbered_slot named (slots.Term term) = slots.Term term
numbered_slot named (slots.Fresh subject) = slots.Fresh subject

abbrev pub numbered_triple : ℕ → PatternTriple → PatternTriple
numbered_triple named triple = record { s = numbered_slot named triple.s; p = numbered_slot named triple.p; o = numbered_slot named triple.o }

abbrev pub numbered_filter : ℕ → Filter → Filter
numbered_filter named filter = record filter { left = numbered_slot named filter.left; right = numbered_slot named filter.right }

-- the triples of a text, and its filters
abbrev pub numbered_triples : NamesValue → List PatternTriple → List PatternTriple
numbered_triples names triples = map (numbered_triple (length names.named)) triples

abbrev pub numbered_filters : NamesValue → List Filter → List Filter
numbered_filters names filters = map (numbered_filter (length names.named)) filters

-- the group of what was read
abbrev pub group_read : NamesValue → List PatternTriple → List (List PatternTriple) → List Filter → Group
group_read names patterns branches filters = record {
  names = names.named;
  hidden = names.hidden;
  patterns = numbered_triples names patterns;
  branches = map (numbered_triples names) branches;
  filters = numbered_filters names filters;
}

-- the plan of what was read
abbrev pub plan_read : NamesValue → Group → List PatternTriple → List PatternTriple → UpdatePlan
plan_read names group deletes inserts =
    record { group = group; deletes = numbered_triples names deletes; inserts = numbered_triples names inserts; fresh = names.fresh }
