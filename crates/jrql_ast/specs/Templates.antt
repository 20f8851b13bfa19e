-- Triples with variables, as they are for the solutions of a group (SPARQL 1.1 Update, sections 3.1.3 and 4.2.4).
use Rattle.std.specs.Prelude.{ℕ, ◌+◌, List, [], ◌∷◌, ◌++◌, Option, None, Some}
use Rattle.std.specs.List.{filter_map}
use Rattle.rdf_terms.specs.declared.terms.Term.{Term}
use Rattle.rdf_terms.specs.declared.terms.Term.TheVariants as terms
use Rattle.rdf_terms.specs.declared.terms.Triple.{Triple}
use Rattle.jrql_ast.specs.declared.patterns.Group.{Group}
use Rattle.jrql_ast.specs.declared.patterns.PatternTriple.{PatternTriple}
use Rattle.jrql_ast.specs.declared.patterns.Slot.{Slot}
use Rattle.jrql_ast.specs.declared.patterns.Slot.TheVariants as slots
use Rattle.jrql_ast.specs.declared.plans.UpdatePlan.{UpdatePlan}
use Rattle.jrql_ast.specs.Solutions.{value_of}

-- what a slot is for a solution: a term is itself, a variable is its value there, if it has one, and a fresh subject has a name
abbrev pub slot_for : (ℕ → List ℕ) → List (Option Term) → Slot → Option Term
slot_for name row (slots.Term term) = Some term
slot_for name row (slots.Var variable) = value_of variable row
slot_for name row (slots.Fresh subject) = Some (terms.Iri (name subject))

-- three terms as a triple, if all are bound, and the first two are IRIs
abbrev pub triple_from : Option Term → Option Term → Option Term → Option Triple
triple_from (Some (terms.Iri subject)) (Some (terms.Iri property)) (Some value) = Some (record { s = subject; p = property; o = value })
triple_from subject property value = None

-- the triple that a template makes for a solution, if it makes one
abbrev pub made_for : (ℕ → List ℕ) → List (Option Term) → PatternTriple → Option Triple
made_for name row template = triple_from (slot_for name row template.s) (slot_for name row template.p) (slot_for name row template.o)

-- the triples that templates make for solutions, which are numbered from this number on: for each of them the fresh subjects have names of
-- their own
abbrev pub made_from : (ℕ → ℕ → List ℕ) → List PatternTriple → ℕ → List (List (Option Term)) → List Triple
made_from names templates number [] = []
made_from names templates number (row ∷ rows) =
    filter_map (made_for (names number) row) templates ++ made_from names templates (number + 1) rows

-- ---- plans of one triple

-- a triple as a template
abbrev pub template_of : Triple → PatternTriple
template_of triple = record { s = slots.Term (terms.Iri triple.s); p = slots.Term (terms.Iri triple.p); o = slots.Term triple.o }

-- the group of no pattern, which has one solution, of no variable
abbrev pub no_group : Group
no_group = record { names = []; hidden = 0; patterns = []; branches = []; filters = [] }

-- to insert one triple, and to delete one
abbrev pub insertion_of : Triple → UpdatePlan
insertion_of triple = record { group = no_group; deletes = []; inserts = template_of triple ∷ []; fresh = 0 }

abbrev pub deletion_of : Triple → UpdatePlan
deletion_of triple = record { group = no_group; deletes = template_of triple ∷ []; inserts = []; fresh = 0 }
