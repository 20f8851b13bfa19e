-- A group once variables are bound: in a row's place a value stands for each of them. The private calls that look for rows cite it.
use Rattle.std.specs.Prelude.{◌≡◌, ℕ, ◌+◌, List, [], ◌∷◌, ◌++◌, Bool, true, false, Option, None, Some, drop, map, take}
use Rattle.std.specs.Option.{option_or}
use Rattle.rdf_terms.specs.declared.terms.Term.{Term}
use Rattle.jrql_ast.specs.declared.patterns.Filter.{Filter}
use Rattle.jrql_ast.specs.declared.patterns.Group.{Group}
use Rattle.jrql_ast.specs.declared.patterns.PatternTriple.{PatternTriple}
use Rattle.jrql_ast.specs.declared.patterns.Slot.{Slot}
use Rattle.jrql_ast.specs.declared.patterns.Slot.TheVariants as slots
use Rattle.jrql_ast.specs.Solutions.{value_of}

-- a variable, or its value, where it has one
abbrev pub value_or : Option Term → ℕ → Slot
value_or None variable = slots.Var variable
value_or (Some term) variable = slots.Term term

-- a slot once the variables of a row are bound
abbrev pub bound_in : List (Option Term) → Slot → Slot
bound_in row (slots.Term term) = slots.Term term
bound_in row (slots.Var variable) = value_or (value_of variable row) variable
bound_in row (slots.Fresh subject) = slots.Fresh subject

-- a pattern, and a filter
abbrev pub bound_pattern : List (Option Term) → PatternTriple → PatternTriple
bound_pattern row pattern = record { s = bound_in row pattern.s; p = bound_in row pattern.p; o = bound_in row pattern.o }

abbrev pub bound_filter : List (Option Term) → Filter → Filter
bound_filter row filter = record { op = filter.op; left = bound_in row filter.left; right = bound_in row filter.right }

-- patterns and filters of so many variables, once those of a row are bound, as a group that names none
abbrev pub bound_group : List (Option Term) → ℕ → List PatternTriple → List Filter → Group
bound_group row variables patterns filters =
    record { names = []; hidden = variables; patterns = map (bound_pattern row) patterns; branches = []; filters = map (bound_filter row) filters }

-- what is bound in the first row, and in the second where it isn't in the first
abbrev pub laid_over : List (Option Term) → List (Option Term) → List (Option Term)
laid_over [] row = row
laid_over (place ∷ places) [] = place ∷ places
laid_over (place ∷ places) (other ∷ row) = option_or place other ∷ laid_over places row

-- what becomes of a row where something is bound in it: it agrees, and is then this row, or it doesn't
abbrev pub IsRowBinding : Option (List (Option Term)) → Bool → List (Option Term) → Type 0
IsRowBinding None agreed row = agreed ≡ false
IsRowBinding (Some bound) agreed row = (agreed ≡ true) × (row ≡ bound)

-- the patterns but the one at a place
abbrev pub others_at : ℕ → List PatternTriple → List PatternTriple
others_at place patterns = take place patterns ++ drop (place + 1) patterns
