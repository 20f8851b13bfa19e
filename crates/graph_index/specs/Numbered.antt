-- Terms, triples and pairs by the numbers of a graph. `Graph::term`, `Graph::number`, `Graph::triples` and `Graph::has_numbers` cite it.
use Rattle.std.specs.Prelude.{◌≡◌, ℕ, List, Bool, true, ◌&&◌, Option, None, Some, false, map}
use Rattle.std.specs.List.{filter, slice_get}
use Rattle.std.specs.List.Sorted.{IsPermutation}
use Rattle.std.specs.Option.{option_map_or}
use Rattle.std.specs.Ordering.{eq_by_cmp}
use Rattle.rdf_terms.specs.declared.terms.Term.{Term}
use Rattle.rdf_terms.specs.declared.terms.Term.TheVariants as terms
use Rattle.rdf_terms.specs.declared.terms.Triple.{Triple}
use Rattle.rdf_terms.specs.Order.{term_cmp}
use Rattle.tree_clock.specs.Lists.{Has}
use Rattle.mld_ops.specs.declared.tagged.Tagged.{Tagged}
use Rattle.mld_ops.specs.Present.{present}
pub use Rattle.pair_orders.specs.declared.keys.Places.{Places}
pub use Rattle.pair_orders.specs.declared.keys.TermNumbers.{TermNumbers}
use Rattle.graph_index.specs.Graphs.{GraphValue}

-- the term that has the number, where one has
abbrev pub term_numbered : GraphValue → ℕ → Option Term
term_numbered graph number = slice_get graph.tables.terms number

-- the IRI that a place is
abbrev pub iri_of_term : Option Term → Option (List ℕ)
iri_of_term None = None
iri_of_term (Some (terms.Iri iri)) = Some iri
iri_of_term (Some (terms.Literal literal)) = None

-- the triple of its parts
abbrev pub triple_at : Option (List ℕ) → Option (List ℕ) → Option Term → Option Triple
triple_at None p o = None
triple_at (Some s) None o = None
triple_at (Some s) (Some p) None = None
triple_at (Some s) (Some p) (Some o) = Some (record { s = s; p = p; o = o })

-- the triple of the terms that have the numbers
abbrev pub triple_numbered : GraphValue → TermNumbers → Option Triple
triple_numbered graph numbers =
    triple_at (iri_of_term (term_numbered graph numbers.s)) (iri_of_term (term_numbered graph numbers.p)) (term_numbered graph numbers.o)

-- the term has the number, where one is wanted
abbrev pub is_wanted_term : GraphValue → Option ℕ → Term → Bool
is_wanted_term graph None term = true
is_wanted_term graph (Some number) term = option_map_or (λ own. eq_by_cmp term_cmp own term) (term_numbered graph number) false

-- the terms of the triple have the numbers that are wanted
abbrev pub has_wanted : GraphValue → Places → Triple → Bool
has_wanted graph wanted triple =
    is_wanted_term graph wanted.s (terms.Iri triple.s) && (is_wanted_term graph wanted.p (terms.Iri triple.p) && is_wanted_term graph wanted.o triple.o)

-- no two numbers are of one term
abbrev pub StandForOwn : GraphValue → Type 0
StandForOwn graph = (n m : ℕ) (term : Term) → term_numbered graph n ≡ Some term → term_numbered graph m ≡ Some term → n ≡ m

-- the terms of each pair have numbers
abbrev pub AreAllNumbered : GraphValue → Type 0
AreAllNumbered graph = (pair : Tagged) → Has graph.pairs pair → (numbers : TermNumbers) × (triple_numbered graph numbers ≡ Some pair.triple)

-- these are the triples with the wanted numbers, each once, in whatever order
pub record FindsNumbered (graph : GraphValue) (wanted : Places) (found : List TermNumbers) : Type 0 where
  pub triples : List Triple
  pub are : map (triple_numbered graph) found ≡ map (λ triple. Some triple) triples
  pub whole : IsPermutation (filter (has_wanted graph wanted) (present graph.pairs)) triples
