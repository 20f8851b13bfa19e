-- Worked rows: what definitions compute on a small graph, against rows worked by hand.
use Rattle.std.specs.Prelude.{◌≡◌, ℕ, List, [], ◌∷◌, true, false, Option, None, Some, drop, length, map, refl, codes}
use Rattle.rdf_terms.specs.declared.terms.Term.{Term}
use Rattle.rdf_terms.specs.declared.terms.Term.TheVariants as terms
use Rattle.rdf_terms.specs.declared.terms.Triple.{Triple}
use Rattle.rdf_terms.specs.Literal.{Typed, xsd_string, xsd_integer}
use Rattle.rdf_terms.specs.Order.{term_cmp}
use Rattle.rdf_terms.specs.Spelling.{term_text}
use Rattle.jrql_ast.specs.declared.patterns.Compare.TheVariants as compares
use Rattle.jrql_ast.specs.declared.patterns.Group.{Group}
use Rattle.jrql_ast.specs.declared.patterns.PatternTriple.{PatternTriple}
use Rattle.jrql_ast.specs.declared.patterns.Slot.{Slot}
use Rattle.jrql_ast.specs.declared.patterns.Slot.TheVariants as slots
use Rattle.jrql_ast.specs.FilterMeaning.{holds}
use Rattle.jrql_ast.specs.declared.queries.Target.TheVariants as targets
use Rattle.jrql_ast.specs.QueryAnswers.{IsDescribed, described, distinct_rows, found, limited, project}

abbrev iri : List ℕ → Term
iri text = terms.Iri text

abbrev whole : List ℕ → Term
whole text = terms.Literal (Typed text xsd_integer)

abbrev text_of : List ℕ → Term
text_of text = terms.Literal (Typed text xsd_string)

abbrev triple : List ℕ → List ℕ → Term → Triple
triple s p o = record { s = s; p = p; o = o }

abbrev pattern : Slot → Slot → Slot → PatternTriple
pattern s p o = record { s = s; p = p; o = o }

abbrev named : List ℕ → Slot
named text = slots.Term (terms.Iri text)

-- a and b have 1 for p, and b has 2 for q
abbrev graph : List Triple
graph =
    triple (codes "a") (codes "p") (whole (codes "1")) ∷ triple (codes "b") (codes "p") (whole (codes "1"))
    ∷ triple (codes "b") (codes "q") (whole (codes "2")) ∷ []

-- s has v for p, and it has 1 for p or w for q; the variables are s, v and w
abbrev group : Group
group = record {
  names = codes "?s" ∷ codes "?v" ∷ codes "?w" ∷ [];
  hidden = 0;
  patterns = pattern (slots.Var 0) (named (codes "p")) (slots.Var 1) ∷ [];
  branches = (pattern (slots.Var 0) (named (codes "p")) (slots.Term (whole (codes "1"))) ∷ [])
      ∷ (pattern (slots.Var 0) (named (codes "q")) (slots.Var 2) ∷ []) ∷ [];
  filters = [];
}

union_rows : map (project (1 ∷ 2 ∷ [])) (found graph group)
    ≡ (Some (whole (codes "1")) ∷ None ∷ []) ∷ (Some (whole (codes "1")) ∷ None ∷ []) ∷ (Some (whole (codes "1")) ∷ Some (whole (codes "2")) ∷ []) ∷ []
unfolding term_cmp term_text xsd_integer xsd_string
union_rows = refl

-- each row once
distinct_union_rows : distinct_rows true (map (project (1 ∷ 2 ∷ [])) (found graph group))
    ≡ (Some (whole (codes "1")) ∷ None ∷ []) ∷ (Some (whole (codes "1")) ∷ Some (whole (codes "2")) ∷ []) ∷ []
unfolding term_cmp term_text xsd_integer xsd_string
distinct_union_rows = refl

-- no row is behind five
rows_behind_five : limited {X = List (Option Term)} None (drop 5 (map (project (1 ∷ 2 ∷ [])) (found graph group))) ≡ []
unfolding term_cmp term_text xsd_integer xsd_string
rows_behind_five = refl

-- what is greater than one, however that is written
abbrev greater_group : Group
greater_group = record {
  names = codes "?s" ∷ codes "?w" ∷ [];
  hidden = 0;
  patterns = pattern (slots.Var 0) (named (codes "q")) (slots.Var 1) ∷ [];
  branches = [];
  filters = (record { op = compares.Gt; left = slots.Var 1; right = slots.Term (whole (codes "+01")) }) ∷ [];
}

greater_rows : map (project (0 ∷ [])) (found graph greater_group) ≡ (Some (iri (codes "b")) ∷ []) ∷ []
unfolding term_cmp term_text xsd_integer xsd_string
greater_rows = refl

-- a filter of a variable that is unbound holds of nothing, whatever it asks
unbound_side : holds (record { op = compares.Neq; left = slots.Var 0; right = slots.Term (whole (codes "1")) }) (None ∷ []) ≡ false
unbound_side = refl

-- numbers by value, strings by their bytes, and nothing else has an order; a number and the same one written otherwise are two terms
same_number : holds (record { op = compares.Lte; left = slots.Term (whole (codes "-0")); right = slots.Term (whole (codes "00")) }) [] ≡ true
unfolding term_cmp term_text xsd_integer xsd_string
same_number = refl

other_term : holds (record { op = compares.Eq; left = slots.Term (whole (codes "1")); right = slots.Term (whole (codes "01")) }) [] ≡ false
unfolding term_cmp term_text xsd_integer xsd_string
other_term = refl

lesser_string : holds (record { op = compares.Lt; left = slots.Term (text_of (codes "10")); right = slots.Term (text_of (codes "9")) }) [] ≡ true
unfolding term_cmp term_text xsd_integer xsd_string
lesser_string = refl

no_order : holds (record { op = compares.Gte; left = slots.Term (text_of (codes "1")); right = slots.Term (whole (codes "1")) }) [] ≡ false
unfolding term_cmp term_text xsd_integer xsd_string
no_order = refl

-- two patterns of one subject have a row for each choice of both values
abbrev pairs_group : Group
pairs_group = record {
  names = codes "?a" ∷ codes "?b" ∷ [];
  hidden = 0;
  patterns = pattern (named (codes "a")) (named (codes "p")) (slots.Var 0) ∷ pattern (named (codes "a")) (named (codes "p")) (slots.Var 1) ∷ [];
  branches = [];
  filters = [];
}

four_rows : length (found (triple (codes "a") (codes "p") (text_of (codes "x")) ∷ triple (codes "a") (codes "p") (text_of (codes "y")) ∷ []) pairs_group) ≡ 4
unfolding term_cmp term_text xsd_integer xsd_string
four_rows = refl

-- the subjects that the rows have, each with its triples; what is named and is no subject is left out
described_rows : IsDescribed graph group (targets.Var 0 ∷ targets.Iri (codes "c") ∷ []) (described graph (codes "a") ∷ described graph (codes "b") ∷ [])
unfolding term_cmp term_text xsd_integer xsd_string
described_rows = refl
