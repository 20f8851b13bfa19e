-- A subject with its triples as a JSON object (JSON-LD 1.1 API section 8.5, RDF to Object Conversion; JSON-LD 1.1 section 4.5, Embedding).
use Rattle.std.specs.Prelude.{◌≡◌, ℕ, List, [], ◌∷◌, codes, map, IsPermutation, IsSorted, if◌then◌else◌}
use Rattle.std.specs.Cmp.Lexicographic.{slice_cmp}
use Rattle.std.specs.declared.cmp.Ordering.{Ordering}
use Rattle.std.specs.Ordering.{nat_cmp, ordering_then}
use Rattle.jrql_ast.specs.declared.answers.Described.{Described}
use Rattle.rdf_terms.specs.Literal.{is_same}
use Rattle.rdf_terms.specs.ReplyOrder.{reply_cmp}
use Rattle.rdf_terms.specs.declared.terms.Term.{Term}
use Rattle.rdf_terms.specs.declared.terms.Term.TheVariants as terms
use Rattle.rdf_terms.specs.declared.terms.Triple.{Triple}
use Rattle.serde_json.specs.Data.{Data, string, array, object, item, no_items, Members, no_members, member, put}
use Rattle.jsonld_context.specs.Context.{ContextValue}
use Rattle.jsonld_context.specs.ShortForms.{compact_key, compact_id}
use Rattle.jsonld_values.specs.TermWriting.{term_data}
use Rattle.jsonld_subjects.specs.SubjectReading.{rdf_type}

-- a value of a subject: the key under which it stands, and the term that it is
pub record KeyedTerm : Type 0 where
  pub key : List ℕ
  pub term : Term

-- an IRI that is a type stands under `@type`, any other object under the key of its property
abbrev pub key_of : ContextValue → List ℕ → Term → List ℕ
key_of context property (terms.Iri iri) = if is_same property rdf_type then codes "@type" else compact_key context property
key_of context property (terms.Literal literal) = compact_key context property

abbrev pub keyed_of : ContextValue → Triple → KeyedTerm
keyed_of context triple = record { key = key_of context triple.p triple.o; term = triple.o }

-- the order of the values under one key: that of replies
abbrev pub within_key_cmp : Term → Term → Ordering
within_key_cmp = reply_cmp

-- values come in the order of their keys, and under one key in their own
abbrev pub keyed_cmp : KeyedTerm → KeyedTerm → Ordering
keyed_cmp keyed other = ordering_then (slice_cmp nat_cmp keyed.key other.key) (within_key_cmp keyed.term other.term)

-- a term under a key: under `@type` an IRI is the bare key for it
abbrev pub data_under : ContextValue → List ℕ → Term → Data
data_under context key (terms.Iri iri) = if is_same key (codes "@type") then string (compact_key context iri) else term_data context (terms.Iri iri)
data_under context key (terms.Literal literal) = term_data context (terms.Literal literal)

-- a value in front of those of its key: one stands alone, several stand in an array
abbrev pub with_value : Data → Data → Data
with_value value (array items) = array (item value items)
with_value value other = array (item value (item other no_items))

-- a keyed value in front of members, whose first one may have its key
abbrev pub with_keyed : ContextValue → KeyedTerm → Members → Members
with_keyed context keyed no_members = member keyed.key (data_under context keyed.key keyed.term) no_members
with_keyed context keyed (member key value rest) =
    if is_same keyed.key key then member key (with_value (data_under context keyed.key keyed.term) value) rest
    else member keyed.key (data_under context keyed.key keyed.term) (member key value rest)

-- the members of values in order
abbrev pub members_of_keyed : ContextValue → List KeyedTerm → Members
members_of_keyed context [] = no_members
members_of_keyed context (keyed ∷ rest) = with_keyed context keyed (members_of_keyed context rest)

-- an object says a subject: its id, and its values in order, each triple's once
pub record SaysSubject (context : ContextValue) (described : Described) (object_said : Data) : Type 0 where
  pub values : List KeyedTerm
  pub all : IsPermutation (map (keyed_of context) described.triples) values
  pub ordered : IsSorted keyed_cmp values
  pub says : object_said ≡ object (put (codes "@id") (string (compact_id context described.id)) (members_of_keyed context values))
