-- What is meant by a query, in words of its text: this holds of each text that is read as one, beside the order in which it is read. An
-- object has members (RFC 8259 section 4, Objects), whose keys are keywords as those of JSON-LD 1.1 (section 9.15, Keywords).
use Rattle.std.specs.Prelude.{◌≡◌, ◌⊎◌, ℕ, List, All, Any, false, Ok, IsTrue, codes}
use Rattle.jrql_ast.specs.declared.patterns.Group.{Group}
use Rattle.jrql_ast.specs.declared.patterns.PatternTriple.{PatternTriple}
use Rattle.jrql_ast.specs.declared.patterns.Slot.TheVariants as slots
use Rattle.jrql_ast.specs.declared.queries.Query.{Query}
use Rattle.jrql_ast.specs.declared.queries.What.{What}
use Rattle.jrql_ast.specs.declared.queries.What.TheVariants as kinds
use Rattle.serde_json.specs.Data.{object, Members}
use Rattle.jsonld_subjects.specs.jsonld_values.ValueObjects.{has_member}
use Rattle.jrql_patterns.specs.QueryReading.{json_of}

-- an object has a member with this key, or lacks it
abbrev pub HasKey : List ℕ → Members → Type 0
HasKey key members = IsTrue (has_member key members)

abbrev pub LacksKey : List ℕ → Members → Type 0
LacksKey key members = has_member key members ≡ false

-- ---- query forms (SPARQL 1.1 Query Language section 16, Query Forms)

-- there is one of `@select` and `@describe`, and not both
abbrev pub HasOneTarget : Members → Type 0
HasOneTarget members =
    (HasKey (codes "@select") members × LacksKey (codes "@describe") members) ⊎ (HasKey (codes "@describe") members × LacksKey (codes "@select") members)

-- `@select` asks for rows, beside `@where` (section 16.1, SELECT); `@describe` for subjects (section 16.4, DESCRIBE)
abbrev pub IsOfItsForm : Members → What → Type 0
IsOfItsForm members (kinds.Select select) = HasKey (codes "@select") members × HasKey (codes "@where") members
IsOfItsForm members (kinds.Describe targets) = HasKey (codes "@describe") members

-- ---- solution modifiers (SPARQL 1.1 Query Language section 15, Solution Sequences and Modifiers)

-- nothing says how rows are cut
pub record LacksModifiers (members : Members) : Type 0 where
  pub distinct : LacksKey (codes "@distinct") members
  pub offset : LacksKey (codes "@offset") members
  pub limit : LacksKey (codes "@limit") members

-- so it is beside `@describe`, which has no rows
abbrev pub HasModifiersForRowsAlone : Members → Type 0
HasModifiersForRowsAlone members = HasKey (codes "@describe") members → LacksModifiers members

-- ---- columns (SPARQL 1.1 Query Language sections 16.1.1, Projection, and 18.2.1, Variable Scope)

-- a triple has a variable as its subject, its predicate or its object
abbrev pub HasVariable : ℕ → PatternTriple → Type 0
HasVariable variable triple = (triple.s ≡ slots.Var variable) ⊎ ((triple.p ≡ slots.Var variable) ⊎ (triple.o ≡ slots.Var variable))

-- a variable stands in a triple of a group: in one of its patterns (section 5.1, Basic Graph Patterns), or in one of a branch (section 7,
-- Matching Alternatives)
abbrev pub StandsInGroup : Group → ℕ → Type 0
StandsInGroup group variable = Any (HasVariable variable) group.patterns ⊎ Any (Any (HasVariable variable)) group.branches

-- each column does
abbrev pub HasColumnsInGroup : Group → What → Type 0
HasColumnsInGroup group (kinds.Select select) = All (StandsInGroup group) select.vars
HasColumnsInGroup group (kinds.Describe targets) = Unit {0}

-- ---- a text

-- a text is an object of which all this holds
pub record MeansQuery (bytes : List ℕ) (query : Query) : Type 0 where
  pub members : Members
  pub text : json_of bytes ≡ Ok (object members)
  pub one_target : HasOneTarget members
  pub form : IsOfItsForm members query.what
  pub modifiers : HasModifiersForRowsAlone members
  pub columns : HasColumnsInGroup query.group query.what
