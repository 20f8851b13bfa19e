-- The text of an answer to a query: compact JSON (RFC 8259; values and subjects after JSON-LD 1.1 API section 8.5, RDF to Object Conversion;
-- rows after SPARQL 1.1 Query Results JSON Format section 3.2, in this profile's own form).
use Rattle.std.specs.Prelude.{◌≡◌, ℕ, List, [], ◌∷◌, Option, Some, None, map, slice_get, unwrap_or}
use Rattle.serde_json.specs.Data.{Data, array, object, Members, no_members, put}
use Rattle.serde_json.specs.View.{items_of}
use Rattle.serde_json.specs.Written.{compact_text}
use Rattle.rdf_terms.specs.declared.terms.Term.{Term}
use Rattle.jrql_ast.specs.declared.answers.Answer.{Answer}
use Rattle.jrql_ast.specs.declared.answers.Answer.TheVariants.{Rows, Subjects}
use Rattle.jrql_ast.specs.declared.answers.Described.{Described}
use Rattle.jrql_ast.specs.declared.queries.Query.{Query}
use Rattle.jrql_ast.specs.declared.queries.What.{What}
use Rattle.jrql_ast.specs.declared.queries.What.TheVariants.{Select, Describe}
use Rattle.jsonld_context.specs.Context.{ContextValue}
use Rattle.jrql_patterns.specs.jsonld_values.TermWriting.{term_data}
use Rattle.jrql_patterns.specs.jsonld_subjects.SubjectWriting.{SaysSubject}

-- the name of the variable of a number
abbrev pub name_of : List (List ℕ) → ℕ → List ℕ
name_of names variable = unwrap_or (slice_get names variable) []

-- a variable's value under its name, where it is bound
abbrev pub with_variable : ContextValue → List ℕ → Option Term → Members → Members
with_variable context name None members = members
with_variable context name (Some term) members = put name (term_data context term) members

-- the members of a row: each of these variables that is bound, under its name
abbrev pub row_members : ContextValue → List (List ℕ) → List ℕ → List (Option Term) → Members
row_members context names (variable ∷ variables) (value ∷ row) = with_variable context (name_of names variable) value (row_members context names variables row)
row_members context names variables row = no_members

-- a row as an object
abbrev pub row_data : ContextValue → List (List ℕ) → List ℕ → List (Option Term) → Data
row_data context names variables row = object (row_members context names variables row)

-- the objects say these subjects, in order
abbrev pub SaysEach : ContextValue → List Described → List Data → Type 0
SaysEach context [] [] = Unit {0}
SaysEach context (subject ∷ subjects) (said ∷ others) = SaysSubject context subject said × SaysEach context subjects others
SaysEach context subjects objects = ⊥

-- rows are those of a select, as objects in order
abbrev pub SaysRows : ContextValue → List (List ℕ) → What → List (List (Option Term)) → Data → Type 0
SaysRows context names (Select select) rows said = said ≡ array (items_of (map (row_data context names select.vars) rows))
SaysRows context names (Describe targets) rows said = ⊥

-- rows are an array of objects, one for each row of the listed variables; subjects an array of objects that say them
abbrev pub SaysAnswer : ContextValue → Query → Answer → Data → Type 0
SaysAnswer context query (Rows rows) said = SaysRows context query.group.names query.what rows said
SaysAnswer context query (Subjects subjects) said = (objects : List Data) × SaysEach context subjects objects × (said ≡ array (items_of objects))

-- the text of an answer: what says it, with no space
abbrev pub SpellsAnswer : ContextValue → Query → Answer → List ℕ → Type 0
SpellsAnswer context query answer text = (said : Data) × SaysAnswer context query answer said × (text ≡ compact_text said)

-- an answer has one text
abbrev pub HasOneText : Type 0
HasOneText = (context : ContextValue) (query : Query) (answer : Answer) (text other : List ℕ)
    → SpellsAnswer context query answer text → SpellsAnswer context query answer other → text ≡ other
