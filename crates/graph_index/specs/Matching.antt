-- Which pairs match, by the parts of their triples, and which have a triple.
-- `Graph::scan`, `Graph::of_triple`, `Graph::tags_of` and `Graph::has_triple` cite it.
use Rattle.std.specs.Prelude.{ℕ, List, [], ◌∷◌, ◌↔◌, Bool, true, ◌&&◌, IsTrue, nat_eq, nat_le, Option, None, Some, map}
use Rattle.std.specs.Cmp.Lexicographic.{pointwise}
use Rattle.std.specs.List.{filter}
use Rattle.std.specs.Ordering.{eq_by_cmp}
use Rattle.rdf_terms.specs.declared.terms.Term.{Term}
use Rattle.rdf_terms.specs.declared.terms.Triple.{Triple}
use Rattle.rdf_terms.specs.Order.{term_cmp, triple_cmp}
use Rattle.tree_clock.specs.declared.dots.Dot.{Dot}
use Rattle.tree_clock.specs.declared.dots.Range.{Range}
use Rattle.tree_clock.specs.Lists.{Has}
use Rattle.mld_ops.specs.declared.tagged.Tagged.{Tagged}
pub use Rattle.pair_orders.specs.PairEntries.{StandTogether}

-- an IRI, where one is given, is this one
abbrev pub has_iri : Option (List ℕ) → List ℕ → Bool
has_iri None iri = true
has_iri (Some given) iri = pointwise nat_eq given iri

-- a term, where one is given, is this one
abbrev pub is_term : Option Term → Term → Bool
is_term None term = true
is_term (Some given) term = eq_by_cmp term_cmp given term

-- the pair's triple has the parts that are given
abbrev pub matches : Option (List ℕ) → Option (List ℕ) → Option Term → Tagged → Bool
matches s p o pair = has_iri s pair.triple.s && (has_iri p pair.triple.p && is_term o pair.triple.o)

-- no pair stands twice in the list
abbrev pub HasNoRepeat : List Tagged → Type 0
HasNoRepeat [] = Unit {0}
HasNoRepeat (pair ∷ pairs) = (¬ Has pairs pair) × HasNoRepeat pairs

-- those of the pairs that pass the test are found, each once, in whatever order
pub record FindsEach (test : Tagged → Bool) (pairs found : List Tagged) : Type 0 where
  pub members : (pair : Tagged) → Has found pair ↔ (Has pairs pair × IsTrue (test pair))
  pub once : HasNoRepeat found

-- the pair has the triple
abbrev pub is_of : Triple → Tagged → Bool
is_of triple pair = eq_by_cmp triple_cmp triple pair.triple

-- the dot is one of the range
abbrev pub is_within_range : Range → Dot → Bool
is_within_range range dot = pointwise nat_eq dot.path range.path && (nat_le range.first dot.tick && nat_le dot.tick range.last)

-- the dots of the pairs with the triple, in order
abbrev pub dots_of : Triple → List Tagged → List Dot
dots_of triple pairs = map (λ pair. pair.dot) (filter (is_of triple) pairs)

-- some pair has the triple
abbrev pub HasTriple : List Tagged → Triple → Type 0
HasTriple pairs triple = (dot : Dot) × Has pairs (record { triple = triple; dot = dot })
