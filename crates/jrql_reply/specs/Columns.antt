-- The columns of rows in the order of their names, and the members that a row has by them. Words of private contracts.
use Rattle.std.specs.Prelude.{◌≡◌, ℕ, ◌+◌, ◌++◌, List, [], ◌∷◌, Bool, true, false, Option, Some, None, slice_get, unwrap_or}
use Rattle.std.specs.Cmp.Lexicographic.{slice_cmp}
use Rattle.std.specs.Ordering.{nat_cmp, ordering_then}
use Rattle.std.specs.declared.cmp.Ordering.{Ordering}
use Rattle.json.specs.Written.{Written}
use Rattle.serde_json.specs.Data.{Members, no_members, member}
use Rattle.rdf_terms.specs.Literal.{is_same}
use Rattle.rdf_terms.specs.declared.terms.Term.{Term}
use Rattle.jsonld_context.specs.Context.{ContextValue}
use Rattle.jrql_patterns.specs.jsonld_values.TermWriting.{term_data}
use Rattle.jrql_patterns.specs.jsonld_values.WrittenTokens.{tokens_of_members}
use Rattle.jrql_reply.specs.AnswerText.{name_of}

-- a column: the name under which its values are written, and its place in a row
pub record ColumnValue : Type 0 where
  pub name : List ℕ
  pub place : ℕ

-- one for each variable, from a place on
abbrev pub columns_from : List (List ℕ) → ℕ → List ℕ → List ColumnValue
columns_from names place [] = []
columns_from names place (variable ∷ variables) = record { name = name_of names variable; place = place } ∷ columns_from names (place + 1) variables

-- they come by their names, and those of one name by their places
abbrev pub column_cmp : ColumnValue → ColumnValue → Ordering
column_cmp column other = ordering_then (slice_cmp nat_cmp column.name other.name) (nat_cmp column.place other.place)

-- what a row has at a place
abbrev pub value_at : List (Option Term) → ℕ → Option Term
value_at row place = unwrap_or (slice_get row place) None

-- whether a name is the last one that was written
abbrev pub is_last : Option (List ℕ) → List ℕ → Bool
is_last None name = false
is_last (Some last) name = is_same name last

-- a value in front of members, where it is bound and is to be written; else other members
abbrev pub member_or : ContextValue → List ℕ → Option Term → Bool → Members → Members → Members
member_or context name None again behind others = others
member_or context name (Some term) true behind others = others
member_or context name (Some term) false behind others = member name (term_data context term) behind

-- the members of a row by columns in order: of those of one name the first that is bound
abbrev pub members_by : ContextValue → List (Option Term) → Option (List ℕ) → List ColumnValue → Members
members_by context row last [] = no_members
members_by context row last (column ∷ columns) =
    member_or context column.name (value_at row column.place) (is_last last column.name) (members_by context row (Some column.name) columns) (members_by context row last columns)

-- a column is written in front of whatever others come behind it, and this name is then the last one
abbrev pub WritesColumn : ContextValue → List (Option Term) → ColumnValue → Option (List ℕ) → Option (List ℕ) → Written → Written → Type 0
WritesColumn context row column last after old new = (behind : List ColumnValue)
    → new.tokens ++ tokens_of_members (members_by context row after behind) ≡ old.tokens ++ tokens_of_members (members_by context row last (column ∷ behind))
