-- The variables that a row hasn't bound, and a row in which variables are unbound. The search cites it, which binds a row in place.
use Rattle.std.specs.Prelude.{◌≡◌, ℕ, List, Option, None, Some, is_some, if◌then◌else◌}
use Rattle.std.specs.List.{slice_set}
use Rattle.rdf_terms.specs.declared.terms.Term.{Term}
use Rattle.jrql_ast.specs.declared.patterns.PatternTriple.{PatternTriple}
use Rattle.jrql_ast.specs.declared.patterns.Slot.{Slot}
use Rattle.jrql_ast.specs.declared.patterns.Slot.TheVariants as slots
use Rattle.jrql_ast.specs.Solutions.{value_of}
use Rattle.jrql_rows.specs.declared.binding.FreeVariables.{FreeVariables}

-- a variable, where it has no value
abbrev pub if_free : ℕ → Option Term → Option ℕ
if_free variable value = if is_some value then None else Some variable

-- the variable of a slot that a row hasn't bound, and those of a pattern
abbrev pub free_variable : List (Option Term) → Slot → Option ℕ
free_variable row (slots.Term term) = None
free_variable row (slots.Var variable) = if_free variable (value_of variable row)
free_variable row (slots.Fresh subject) = None

abbrev pub free_variables : PatternTriple → List (Option Term) → FreeVariables
free_variables pattern row = record { s = free_variable row pattern.s; p = free_variable row pattern.p; o = free_variable row pattern.o }

-- places of which one is empty, where one is named
abbrev pub cleared : {X : Type 0} → Option ℕ → List (Option X) → List (Option X)
cleared None places = places
cleared (Some place) places = slice_set places place None

-- the row in which variables are unbound
abbrev pub all_cleared : FreeVariables → List (Option Term) → List (Option Term)
all_cleared free row = cleared free.s (cleared free.p (cleared free.o row))

-- where a variable is free it is some term then, and nothing else is changed
abbrev pub BindsFree : Option ℕ → List (Option Term) → List (Option Term) → Type 0
BindsFree None old new = new ≡ old
BindsFree (Some variable) old new = (term : Term) × (new ≡ slice_set old variable (Some term))
