-- Which rows a change of triples touches: those in which a pattern is one of them. The private calls that look for rows cite it.
use Rattle.std.specs.Prelude.{ℕ, List, ◌++◌, Bool, false, not, ◌&&◌, [], Option, None, Some, replicate}
use Rattle.std.specs.List.{filter, flat_map, list_all, list_any}
use Rattle.std.specs.Option.{option_map_or}
use Rattle.std.specs.Ordering.{eq_by_cmp}
use Rattle.rdf_terms.specs.declared.terms.Term.{Term}
use Rattle.rdf_terms.specs.declared.terms.Term.TheVariants as terms
use Rattle.rdf_terms.specs.declared.terms.Triple.{Triple}
use Rattle.rdf_terms.specs.Order.{triple_cmp}
use Rattle.jrql_ast.specs.declared.patterns.Filter.{Filter}
use Rattle.jrql_ast.specs.declared.patterns.Group.{Group}
use Rattle.jrql_ast.specs.declared.patterns.PatternTriple.{PatternTriple}
use Rattle.jrql_ast.specs.FilterMeaning.{holds, side_value}
use Rattle.jrql_ast.specs.InForm.{variables_of}
use Rattle.jrql_ast.specs.Solutions.{branches_of, matches_from}
use Rattle.jrql_ast.specs.Templates.{triple_from}

-- the triple that a pattern is in a row, where its places are bound to parts of one
abbrev pub instance_in : PatternTriple → List (Option Term) → Option Triple
instance_in pattern row = triple_from (side_value pattern.s row) (side_value pattern.p row) (side_value pattern.o row)

-- a triple is one of these
abbrev pub is_one_of : List Triple → Triple → Bool
is_one_of triples triple = list_any (λ other. eq_by_cmp triple_cmp other triple) triples

-- a pattern is one of these triples in a row
abbrev pub is_touched : List Triple → List (Option Term) → PatternTriple → Bool
is_touched triples row pattern = option_map_or (is_one_of triples) (instance_in pattern row) false

-- one of the patterns is
abbrev pub are_touched : List Triple → List PatternTriple → List (Option Term) → Bool
are_touched triples patterns row = list_any (is_touched triples row) patterns

-- one of the patterns is one of the first triples, and none is one of the others
abbrev pub is_sought : List Triple → List Triple → List PatternTriple → List (Option Term) → Bool
is_sought triples spared patterns row = are_touched triples patterns row && not (are_touched spared patterns row)

-- all filters hold
abbrev pub passes : List Filter → List (Option Term) → Bool
passes filters row = list_all (λ filter. holds filter row) filters

-- the rows of a branch's patterns that are sought
abbrev pub sought_in : List Triple → ℕ → List Filter → List Triple → List Triple → List PatternTriple → List (List (Option Term))
sought_in graph variables filters triples spared patterns =
    filter (passes filters) (filter (is_sought triples spared patterns) (matches_from graph patterns (replicate variables None)))

-- and those of all branches of a group
abbrev pub sought : List Triple → Group → List Triple → List Triple → List (List (Option Term))
sought graph group triples spared =
    flat_map (λ branch. sought_in graph (variables_of group) group.filters triples spared (group.patterns ++ branch)) (branches_of group.branches)

-- the rows that lead to these other patterns from a row, if there is one, in which none of the patterns before is one of the triples, and none of all is one that is spared
abbrev pub found_behind : List Triple → List Filter → List Triple → List Triple → List PatternTriple → List PatternTriple → List PatternTriple → Option (List (Option Term)) → List (List (Option Term))
found_behind graph filters triples spared before patterns others None = []
found_behind graph filters triples spared before patterns others (Some row) =
    filter (λ next. not (are_touched triples before next) && not (are_touched spared patterns next)) (filter (passes filters) (matches_from graph others row))

-- the IRI that a place is
abbrev pub iri_of_place : Option Term → Option (List ℕ)
iri_of_place None = None
iri_of_place (Some (terms.Iri iri)) = Some iri
iri_of_place (Some (terms.Literal literal)) = None
