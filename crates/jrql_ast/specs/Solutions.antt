-- The rows that match patterns of triples (SPARQL 1.1 Query Language, sections 5.1, 7 and 18.3).
use Rattle.std.specs.Prelude.{ℕ, List, [], ◌∷◌, ◌++◌, Bool, Option, None, Some, if◌then◌else◌, replicate}
use Rattle.std.specs.List.{slice_index_or, slice_set, filter_map, flat_map}
use Rattle.std.specs.Option.{option_and_then}
use Rattle.std.specs.Ordering.{eq_by_cmp}
use Rattle.rdf_terms.specs.declared.terms.Term.{Term}
use Rattle.rdf_terms.specs.declared.terms.Term.TheVariants as terms
use Rattle.rdf_terms.specs.declared.terms.Triple.{Triple}
use Rattle.rdf_terms.specs.Order.{term_cmp}
use Rattle.jrql_ast.specs.declared.patterns.Group.{Group}
use Rattle.jrql_ast.specs.declared.patterns.PatternTriple.{PatternTriple}
use Rattle.jrql_ast.specs.declared.patterns.Slot.{Slot}
use Rattle.jrql_ast.specs.declared.patterns.Slot.TheVariants as slots
use Rattle.jrql_ast.specs.InForm.{variables_of}

-- two terms are the same
abbrev pub is_same_term : Term → Term → Bool
is_same_term = eq_by_cmp term_cmp

-- what a row has for a variable, where it is bound: a row has a place for each variable of its group
abbrev pub value_of : ℕ → List (Option Term) → Option Term
value_of variable row = slice_index_or row variable None

-- the row once a variable is this term, where it was this value before: an unbound variable takes the term, a bound one has to be it
abbrev pub bind_from : Option Term → ℕ → Term → List (Option Term) → Option (List (Option Term))
bind_from None variable term row = Some (slice_set row variable (Some term))
bind_from (Some bound) variable term row = if is_same_term bound term then Some row else None

-- the row once a slot is this term: a term agrees with itself alone, a fresh subject with nothing
abbrev pub bind : Slot → Term → List (Option Term) → Option (List (Option Term))
bind (slots.Term given) term row = if is_same_term given term then Some row else None
bind (slots.Var variable) term row = bind_from (value_of variable row) variable term row
bind (slots.Fresh subject) term row = None

-- the row once a pattern is this triple, where they agree: its subject, its predicate and its object
abbrev pub agree : PatternTriple → Triple → List (Option Term) → Option (List (Option Term))
agree pattern triple row =
    option_and_then (bind pattern.o triple.o) (option_and_then (bind pattern.p (terms.Iri triple.p)) (bind pattern.s (terms.Iri triple.s) row))

-- the rows in which all these patterns are triples of the graph: one for each choice of a triple for each of them
abbrev pub matches_from : List Triple → List PatternTriple → List (Option Term) → List (List (Option Term))
matches_from graph [] row = row ∷ []
matches_from graph (pattern ∷ patterns) row =
    flat_map (matches_from graph patterns) (filter_map (λ triple. agree pattern triple row) graph)

-- the branches of a group: one that is empty, where it has none
abbrev pub branches_of : List (List PatternTriple) → List (List PatternTriple)
branches_of [] = [] ∷ []
branches_of (branch ∷ branches) = branch ∷ branches

-- the row in which no variable is bound
abbrev pub unbound : Group → List (Option Term)
unbound group = replicate (variables_of group) None

-- branch after branch, the rows that match the group's patterns and those of the branch
abbrev pub joined_rows : List Triple → Group → List (List (Option Term))
joined_rows graph group = flat_map (λ branch. matches_from graph (group.patterns ++ branch) (unbound group)) (branches_of group.branches)
