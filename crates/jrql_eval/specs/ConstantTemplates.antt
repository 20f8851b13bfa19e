-- Templates that make the same for all solutions. Words of private contracts.
use Rattle.std.specs.Prelude.{ℕ, List, ◌↔◌, Option, Bool, true, false, ◌&&◌}
use Rattle.jrql_rows.specs.rdf_terms.declared.terms.Term.{Term}
use Rattle.jrql_rows.specs.rdf_terms.declared.terms.Triple.{Triple}
use Rattle.jrql_rows.specs.tree_clock.Lists.{Has}
use Rattle.jrql_rows.specs.jrql_ast.declared.patterns.PatternTriple.{PatternTriple}
use Rattle.jrql_rows.specs.jrql_ast.declared.patterns.Slot.{Slot}
use Rattle.jrql_rows.specs.jrql_ast.declared.patterns.Slot.TheVariants as slots
use Rattle.jrql_rows.specs.jrql_ast.Templates.{made_from}

-- a slot that is neither a variable nor a fresh subject
abbrev pub is_fixed : Slot → Bool
is_fixed (slots.Term term) = true
is_fixed (slots.Var variable) = false
is_fixed (slots.Fresh subject) = false

-- a template all of whose slots are terms
abbrev pub is_constant : PatternTriple → Bool
is_constant template = is_fixed template.s && (is_fixed template.p && is_fixed template.o)

-- these triples and no others are what templates make for solutions
abbrev pub AreMadeBy : (ℕ → ℕ → List ℕ) → List PatternTriple → List (List (Option Term)) → List Triple → Type 0
AreMadeBy names templates rows triples = (triple : Triple) → Has triples triple ↔ Has (made_from names templates 0 rows) triple
