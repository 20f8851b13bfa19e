-- The variables that a text has met, and its subjects without an id (SPARQL 1.1 sections 4.1.3, Query Variables, and 4.1.4, Blank
-- Nodes; SPARQL 1.1 Update section 3.1.3, where blank nodes of an insert are made anew).
use Rattle.std.specs.Prelude.{◌≡◌, ◌≢◌, ℕ, ◌+◌, ◌≤◌, Bool, List, [], ◌∷◌, ◌++◌, false, true, nat_lt, length, replicate, slice_index_or, slice_set, Result, Ok, Err, codes, if◌then◌else◌}
use Rattle.std.specs.List.{AllPairs, list_any, position_or_len}
use Rattle.jrql_ast.specs.InForm.{variable_limit}
use Rattle.jrql_ast.specs.declared.patterns.Slot.{Slot}
use Rattle.jrql_ast.specs.declared.patterns.Slot.TheVariants as slots
use Rattle.jsonld_context.specs.declared.faults.JsonFault.{JsonFault}
use Rattle.jsonld_context.specs.declared.faults.JsonFault.TheVariants as faults
use Rattle.rdf_terms.specs.Literal.{is_same}

-- the named variables in the order in which they were met, how many hidden ones were, and how many fresh subjects; and which of the
-- named ones were met since a mark
pub record NamesValue : Type 0 where
  pub named : List (List ℕ)
  pub hidden : ℕ
  pub fresh : ℕ
  pub since : List Bool

-- nothing was met
abbrev pub no_names : NamesValue
no_names = record { named = []; hidden = 0; fresh = 0; since = [] }

-- how many variables were met
abbrev pub variables_met : NamesValue → ℕ
variables_met names = length names.named + names.hidden

-- whether a variable was met, and its number: the place where it stands, or would be put
abbrev pub is_named : NamesValue → List ℕ → Bool
is_named names name = list_any (is_same name) names.named

abbrev pub name_number : NamesValue → List ℕ → ℕ
name_number names name = position_or_len (is_same name) names.named

-- names with one more variable
abbrev pub named_too : NamesValue → List ℕ → NamesValue
named_too names name = record names { named = names.named ++ name ∷ []; since = names.since ++ true ∷ [] }

-- names of which a variable is met again
abbrev pub met_again : NamesValue → ℕ → NamesValue
met_again names number = record names { since = slice_set names.since number true }

-- a variable is met: the first time it is put behind the others, where the limit allows one more
abbrev pub meet_variable : NamesValue → List ℕ → Result (NamesValue × Slot) JsonFault
meet_variable names name =
    if is_named names name then Ok (met_again names (name_number names name), slots.Var (name_number names name))
    else (if nat_lt (variables_met names) variable_limit then Ok (named_too names name, slots.Var (name_number names name))
    else Err (faults.BadQuery name))

-- a subject without an id is met in a pattern: a variable that has no name. Its number is one behind those of all named ones that there
-- may be, as how many there are is known only behind the text
abbrev pub meet_hidden : NamesValue → Result (NamesValue × Slot) JsonFault
meet_hidden names =
    if nat_lt (variables_met names) variable_limit
    then Ok (record names { hidden = names.hidden + 1 }, slots.Var (variable_limit + names.hidden))
    else Err (faults.BadQuery (codes "@id"))

-- one is met in an insert: a fresh subject
abbrev pub meet_fresh : NamesValue → NamesValue × Slot
meet_fresh names = (record names { fresh = names.fresh + 1 }, slots.Fresh names.fresh)

-- a mark is set: no variable was met since
abbrev pub marked : NamesValue → NamesValue
marked names = record names { since = replicate (length names.named) false }

-- whether the variable of a number was met since the mark
abbrev pub was_met : NamesValue → ℕ → Bool
was_met names number = slice_index_or names.since number false

-- what is kept of names: variables differ, and are within the limit, and of each it is known whether it was met since the mark
pub record IsNames (names : NamesValue) : Type 0 where
  pub differ : AllPairs (λ name other. name ≢ other) names.named
  pub known : length names.since ≡ length names.named
  pub limit : variables_met names ≤ variable_limit
