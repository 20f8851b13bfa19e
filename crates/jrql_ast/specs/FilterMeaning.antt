-- When a filter holds (SPARQL 1.1 Query Language, section 17: the operators of section 17.3 over xsd:integer and xsd:string alone,
-- with =, != as the comparison of terms, and without errors, which here are false).
use Rattle.std.specs.Prelude.{ℕ, ℤ, List, Bool, false, not, ◌&&◌, nat_le, length, Option, None, Some, if◌then◌else◌}
use Rattle.std.specs.Cmp.Lexicographic.{slice_cmp}
use Rattle.std.specs.Option.{option_map, option_map_or, option_or, option_zip}
use Rattle.std.specs.Ordering.{nat_cmp, int_cmp, is_lt, is_le, is_gt, is_ge, is_some_and}
use Rattle.std.specs.Str.{all_ascii_digits}
use Rattle.std.specs.Str.Parse.{without_leading_sign, signed_digits_value}
use Rattle.std.specs.declared.cmp.Ordering.{Ordering}
use Rattle.text_rules.specs.Integers.{plain_digit_limit}
use Rattle.rdf_terms.specs.declared.terms.Term.{Term}
use Rattle.rdf_terms.specs.declared.terms.Term.TheVariants as terms
use Rattle.rdf_terms.specs.Literal.{has_datatype, lexical_form, xsd_string, xsd_integer}
use Rattle.jrql_ast.specs.declared.patterns.Compare.{Compare}
use Rattle.jrql_ast.specs.declared.patterns.Compare.TheVariants as compares
use Rattle.jrql_ast.specs.declared.patterns.Filter.{Filter}
use Rattle.jrql_ast.specs.declared.patterns.Slot.{Slot}
use Rattle.jrql_ast.specs.declared.patterns.Slot.TheVariants as slots
use Rattle.jrql_ast.specs.Solutions.{is_same_term, value_of}

-- the text is a sign or none, and 1 to 30 digits, of which the first ones may be `0`
abbrev pub is_integer_text : List ℕ → Bool
is_integer_text text =
    let digits = without_leading_sign text in
    nat_le 1 (length digits) && (nat_le (length digits) plain_digit_limit && all_ascii_digits digits)

-- the number that a term is, where it is an xsd:integer of such a text
abbrev pub number_value : Term → Option ℤ
number_value (terms.Iri iri) = None
number_value (terms.Literal literal) =
    if has_datatype xsd_integer literal && is_integer_text (lexical_form literal) then Some (signed_digits_value 10 (lexical_form literal)) else None

-- the lexical form of an xsd:string
abbrev pub string_of : Term → Option (List ℕ)
string_of (terms.Iri iri) = None
string_of (terms.Literal literal) = if has_datatype xsd_string literal then Some (lexical_form literal) else None

-- how two values are ordered, where both are there
abbrev pub order_of : {X : Type 0} → (X → X → Ordering) → Option X → Option X → Option Ordering
order_of order left right = option_map (λ both. order both.0 both.1) (option_zip left right)

-- how two terms are ordered, where they are: two numbers by their values, two strings by their bytes
abbrev pub value_cmp : Term → Term → Option Ordering
value_cmp left right =
    option_or (order_of int_cmp (number_value left) (number_value right)) (order_of (slice_cmp nat_cmp) (string_of left) (string_of right))

-- the two terms compare so
abbrev pub compares_so : Compare → Term → Term → Bool
compares_so compares.Eq left right = is_same_term left right
compares_so compares.Neq left right = not (is_same_term left right)
compares_so compares.Lt left right = is_some_and is_lt (value_cmp left right)
compares_so compares.Lte left right = is_some_and is_le (value_cmp left right)
compares_so compares.Gt left right = is_some_and is_gt (value_cmp left right)
compares_so compares.Gte left right = is_some_and is_ge (value_cmp left right)

-- the term of a side of a filter: none, where it is a variable that is unbound
abbrev pub side_value : Slot → List (Option Term) → Option Term
side_value (slots.Term term) row = Some term
side_value (slots.Var variable) row = value_of variable row
side_value (slots.Fresh subject) row = None

-- the filter holds of the row: both its sides are bound, and compare as it says
abbrev pub holds : Filter → List (Option Term) → Bool
holds filter row = option_map_or (λ both. compares_so filter.op both.0 both.1) (option_zip (side_value filter.left row) (side_value filter.right row)) false
