-- Numbers of pairs: those of their terms and of their paths in two tables, and their ticks. Private calls of `Tables` cite it, and so
-- does the invariant of `Graph`.
use Rattle.std.specs.Prelude.{◌≡◌, ℕ, ◌⊎◌, List, nat_eq, Option, None, Some, slice_index_or}
use Rattle.std.specs.Cmp.Lexicographic.{pointwise}
use Rattle.std.specs.List.{IsDistinct}
use Rattle.std.specs.Option.{option_map}
use Rattle.std.specs.Ordering.{eq_by_cmp}
use Rattle.rdf_terms.specs.declared.terms.Term.{Term}
use Rattle.rdf_terms.specs.declared.terms.Term.TheVariants as terms
use Rattle.rdf_terms.specs.Order.{term_cmp}
use Rattle.tree_clock.specs.Lists.{Has}
use Rattle.rdf_terms.specs.declared.terms.Triple.{Triple}
use Rattle.mld_ops.specs.declared.pair_lists.PairRow.{PairRow}
use Rattle.mld_ops.specs.declared.tagged.Tagged.{Tagged}
use Rattle.mld_ops.specs.PairLists.{path_numbered, row_pair}
use Rattle.number_tables.specs.TableNumbers.{number_of_term, number_of_path}
use Rattle.pair_orders.specs.declared.keys.Numbers.{Numbers}
use Rattle.pair_orders.specs.declared.keys.Places.{Places}

-- the terms and the paths that have numbers
pub record TablesValue : Type 0 where
  pub terms : List Term
  pub paths : List (List ℕ)

-- no term has two numbers, and no path has
pub record StandApart (terms : List Term) (paths : List (List ℕ)) : Type 0 where
  pub terms_apart : IsDistinct (eq_by_cmp term_cmp) terms
  pub paths_apart : IsDistinct (pointwise nat_eq) paths

-- the number of an IRI as a term
abbrev pub iri_number : TablesValue → List ℕ → Option ℕ
iri_number tables iri = number_of_term tables.terms (terms.Iri iri)

-- the numbers are those of the triple's terms
abbrev pub AreTermsOf : TablesValue → Triple → ℕ × ℕ × ℕ → Type 0
AreTermsOf tables triple numbers =
    (iri_number tables triple.s ≡ Some numbers.0) × (iri_number tables triple.p ≡ Some numbers.1) × (number_of_term tables.terms triple.o ≡ Some numbers.2)

-- the numbers are those of the pair's terms and of its path, and its tick
pub record AreNumbersOf (tables : TablesValue) (pair : Tagged) (numbers : Numbers) : Type 0 where
  pub s : iri_number tables pair.triple.s ≡ Some numbers.s
  pub p : iri_number tables pair.triple.p ≡ Some numbers.p
  pub o : number_of_term tables.terms pair.triple.o ≡ Some numbers.o
  pub path : number_of_path tables.paths pair.dot.path ≡ Some numbers.path
  pub tick : numbers.tick ≡ pair.dot.tick

-- all of the pair has a number
abbrev pub IsNumbered : TablesValue → Tagged → Type 0
IsNumbered tables pair = (numbers : Numbers) × AreNumbersOf tables pair numbers

-- a row stands with the numbers of its pair, and names the path by its number
pub record IsOwnEntry (tables : TablesValue) (entry : Numbers × PairRow) : Type 0 where
  pub numbers : AreNumbersOf tables (row_pair tables.paths entry.1) entry.0
  pub path : entry.1.path ≡ entry.0.path

-- each of the rows does
abbrev pub HaveOwnNumbers : TablesValue → List (Numbers × PairRow) → Type 0
HaveOwnNumbers tables entries = (entry : Numbers × PairRow) → Has entries entry → IsOwnEntry tables entry

-- what is noted of the paths of a list is their numbers
abbrev pub AreNoted : TablesValue → List (List ℕ) → List (Option ℕ) → Type 0
AreNoted tables paths noted = (at number : ℕ) → slice_index_or noted at None ≡ Some number → number_of_path tables.paths (path_numbered paths at) ≡ Some number

-- what had a number has the same
pub record KeepsNumbers (old new : TablesValue) : Type 0 where
  pub terms : (term : Term) (number : ℕ) → number_of_term old.terms term ≡ Some number → number_of_term new.terms term ≡ Some number
  pub paths : (path : List ℕ) (number : ℕ) → number_of_path old.paths path ≡ Some number → number_of_path new.paths path ≡ Some number

-- the number of what is given, where it has one; where nothing is given, no number is wanted
abbrev pub number_given : {X : Type 0} → (X → Option ℕ) → Option X → Option (Option ℕ)
number_given number None = Some None
number_given number (Some given) = option_map (λ n. Some n) (number given)

-- these numbers are wanted of the parts that are given
pub record ArePlaces (tables : TablesValue) (s p : Option (List ℕ)) (o : Option Term) (wanted : Places) : Type 0 where
  pub s_is : number_given (iri_number tables) s ≡ Some wanted.s
  pub p_is : number_given (iri_number tables) p ≡ Some wanted.p
  pub o_is : number_given (number_of_term tables.terms) o ≡ Some wanted.o

-- one of the parts that are given has no number
abbrev pub LackNumber : TablesValue → Option (List ℕ) → Option (List ℕ) → Option Term → Type 0
LackNumber tables s p o = (number_given (iri_number tables) s ≡ None) ⊎ ((number_given (iri_number tables) p ≡ None) ⊎ (number_given (number_of_term tables.terms) o ≡ None))
