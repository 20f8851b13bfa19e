-- A group that is being read (SPARQL 1.1 Query Language section 5, Graph Patterns), and what may not stand in a query.
use Rattle.std.specs.Prelude.{ℕ, List, [], Bool, false, true, Result, if◌then◌else◌}
use Rattle.jrql_ast.specs.declared.patterns.Filter.{Filter}
use Rattle.jrql_ast.specs.declared.patterns.Group.{Group}
use Rattle.jrql_ast.specs.declared.patterns.PatternTriple.{PatternTriple}
use Rattle.serde_json.specs.Data.{Data, number, Members, no_members, member}
use Rattle.serde_json.specs.Find.{is_float}
use Rattle.jsonld_context.specs.declared.faults.JsonFault.{JsonFault}
use Rattle.jsonld_context.specs.declared.faults.JsonFault.TheVariants as faults
use Rattle.jsonld_subjects.specs.jsonld_values.Literals.{made_of}
use Rattle.jsonld_subjects.specs.jsonld_values.Numbering.{group_read}
use Rattle.jsonld_subjects.specs.jsonld_values.VariableNames.{NamesValue, name_number, meet_variable}

-- what was read of a group so far: the names that its text has met, its patterns, its filters, and the branches of its union, where it
-- has one
pub record OpenGroup : Type 0 where
  pub names : NamesValue
  pub patterns : List PatternTriple
  pub is_united : Bool
  pub branches : List (List PatternTriple)
  pub filters : List Filter

-- of which nothing was read, in a text that has met these names
abbrev pub empty_group : NamesValue → OpenGroup
empty_group names = record { names = names; patterns = []; is_united = false; branches = []; filters = [] }

-- names were met
abbrev pub with_group_names : OpenGroup → NamesValue → OpenGroup
with_group_names so_far names = record so_far { names = names }

-- a variable is met: its number
abbrev pub meet_number : NamesValue → List ℕ → Result (NamesValue × ℕ) JsonFault
meet_number names name = made_of (meet_variable names name) (λ met. (met.0, name_number names name))

-- the group, once its text is read whole
abbrev pub group_of : OpenGroup → Group
group_of so_far = group_read so_far.names so_far.patterns so_far.branches so_far.filters

-- a value that may not stand under a key; a number that isn't whole is told as such wherever it stands
abbrev pub not_under : List ℕ → Data → JsonFault
not_under key (number value) = if is_float value then faults.Fraction else faults.BadQuery key
not_under key other = faults.BadQuery key

-- an object with one member alone
abbrev pub has_one : Members → Bool
has_one (member key value no_members) = true
has_one other = false
