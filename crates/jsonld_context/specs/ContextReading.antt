-- What a JSON value says as a context, or its first fault (JSON-LD 1.1 sections 4.1, 4.2.3 and 9.15;
-- JSON-LD 1.1 API sections 4.1, Context Processing, and 4.2, Create Term Definition). `@context` is read first, then the other members in
-- the byte order of their keys.
use Rattle.std.specs.Prelude.{ℕ, List, [], ◌∷◌, ◌++◌, Bool, false, ◌&&◌, ◌||◌, not, Option, Some, None, Result, Ok, Err, codes, if◌then◌else◌}
use Rattle.std.specs.Option.{option_map, option_map_or, option_and_then, option_or, is_some, unwrap_or}
use Rattle.text_rules.specs.Iri.{is_absolute}
use Rattle.rdf_terms.specs.Literal.{is_same, rdf_lang_string}
use Rattle.serde_json.specs.Data.{Data, string, object, Members, no_members, member}
use Rattle.serde_json.specs.Find.{as_str, get_member}
use Rattle.jsonld_context.specs.Context.{ContextValue}
use Rattle.jsonld_context.specs.Prefixes.{prefix_at, expanded}
use Rattle.text_rules.specs.TextForms.{has_colon, ends_in_delimiter, is_term_name}
use Rattle.jsonld_context.specs.declared.definitions.Definition.{Definition}
use Rattle.jsonld_context.specs.declared.definitions.TermType.{TermType}
use Rattle.jsonld_context.specs.declared.definitions.TermType.TheVariants as types
use Rattle.jsonld_context.specs.declared.faults.JsonFault.{JsonFault}
use Rattle.jsonld_context.specs.declared.faults.JsonFault.TheVariants as faults

-- ---- keywords (JSON-LD 1.1 section 9.15)

-- `@base`
abbrev pub is_base_key : List ℕ → Bool
is_base_key key = is_same key (codes "@base")

-- `@vocab`
abbrev pub is_vocabulary_key : List ℕ → Bool
is_vocabulary_key key = is_same key (codes "@vocab")

-- `@id`
abbrev pub is_id_key : List ℕ → Bool
is_id_key key = is_same key (codes "@id")

-- `@type`
abbrev pub is_type_key : List ℕ → Bool
is_type_key key = is_same key (codes "@type")

-- ---- what the parts of a context stand for

-- the defaults of a domain: the base is its root, and the vocabulary the root with an empty fragment
abbrev pub domain_base : List ℕ → List ℕ
domain_base domain = codes "http://" ++ domain ++ codes "/"

abbrev pub domain_vocabulary : List ℕ → List ℕ
domain_vocabulary domain = codes "http://" ++ domain ++ codes "/#"

-- the string of the member with a key, where it is one
abbrev pub string_at : List ℕ → Members → Option (List ℕ)
string_at key members = option_and_then as_str (get_member key members)

-- the string of a prefix: an absolute IRI that ends as prefixes do (JSON-LD 1.1 section 4.1.5)
abbrev pub is_prefix_string : List ℕ → Bool
is_prefix_string text = is_absolute text && ends_in_delimiter text

-- the IRI of a string that makes its term a prefix
abbrev pub prefix_string : List ℕ → Option (List ℕ)
prefix_string text = if is_prefix_string text then Some text else None

-- the IRI of a prefix among the members of a context, by its name
abbrev pub prefix_among : Members → List ℕ → Option (List ℕ)
prefix_among all name = if is_term_name name then option_and_then prefix_string (string_at name all) else None

-- what a string stands for as the IRI of a term or a datatype
abbrev pub meant : Members → List ℕ → List ℕ
meant all text = expanded (prefix_among all) text

-- the IRI of a term whose value is an object: that of its `@id`, else the vocabulary and the term
abbrev pub object_iri : List ℕ → Members → List ℕ → Option (List ℕ) → List ℕ
object_iri vocabulary all term id = option_map_or (meant all) id (vocabulary ++ term)

-- the type of a term's values: `@id`, or a datatype (JSON-LD 1.1 section 4.2.3)
abbrev pub type_meant : Members → List ℕ → TermType
type_meant all text = if is_id_key text then types.Id else types.Datatype (meant all text)

-- the term that a member defines, where its value is a string or an object
abbrev pub definition : List ℕ → Members → List ℕ → Data → Definition
definition vocabulary all term (string text) =
    record { name = term; iri = meant all text; coercion = None; is_prefix = is_prefix_string text }
definition vocabulary all term (object parts) =
    record {
      name = term;
      iri = object_iri vocabulary all term (string_at (codes "@id") parts);
      coercion = option_map (type_meant all) (string_at (codes "@type") parts);
      is_prefix = false;
    }
definition vocabulary all term other = record { name = term; iri = vocabulary ++ term; coercion = None; is_prefix = false }

-- every member but `@base` and `@vocab` defines a term
abbrev pub definitions : List ℕ → Members → Members → List Definition
definitions vocabulary all no_members = []
definitions vocabulary all (member key value rest) =
    if is_base_key key || is_vocabulary_key key then definitions vocabulary all rest
    else definition vocabulary all key value ∷ definitions vocabulary all rest

-- ---- faults

-- the first fault among members, in their order
abbrev pub first_fault : (List ℕ → Data → Option JsonFault) → Members → Option JsonFault
first_fault fault no_members = None
first_fault fault (member key value rest) = option_or (fault key value) (first_fault fault rest)

-- an IRI has to be absolute; the fault tells what was written for it
abbrev pub fault_of_iri : List ℕ → List ℕ → Option JsonFault
fault_of_iri written iri = if is_absolute iri then None else Some (faults.BadIri written)

-- `@base` and `@vocab` have absolute IRIs
abbrev pub fault_of_keyword : List ℕ → Data → Option JsonFault
fault_of_keyword key (string text) = fault_of_iri text text
fault_of_keyword key other = Some (faults.BadContext key)

-- a string that looks like a prefix's may not begin with a prefix: it would be two IRIs, as a prefix and as a term
abbrev pub is_extended_prefix : Members → List ℕ → Bool
is_extended_prefix all text = ends_in_delimiter text && is_some (prefix_at (prefix_among all) text)

-- the string of a term has a `:` and an absolute IRI
abbrev pub fault_of_string : Members → List ℕ → List ℕ → Option JsonFault
fault_of_string all term text =
    if has_colon text && not (is_extended_prefix all text) then fault_of_iri text (meant all text) else Some (faults.BadContext term)

-- so has the `@id` of a term
abbrev pub fault_of_id : Members → List ℕ → List ℕ → Option JsonFault
fault_of_id all term text = if has_colon text then fault_of_iri text (meant all text) else Some (faults.BadContext term)

-- the `@type` of a term is `@id`, or a datatype that literals may have
abbrev pub fault_of_type : Members → List ℕ → List ℕ → Option JsonFault
fault_of_type all term text =
    if is_id_key text then None
    else (if has_colon text && not (is_same (meant all text) rdf_lang_string) then fault_of_iri text (meant all text) else Some (faults.BadContext term))

-- a term's object has no other part
abbrev pub fault_of_part : Members → List ℕ → List ℕ → Data → Option JsonFault
fault_of_part all term key (string text) =
    if is_id_key key then fault_of_id all term text
    else (if is_type_key key then fault_of_type all term text else Some (faults.BadContext term))
fault_of_part all term key other = Some (faults.BadContext term)

-- where a term's object has no `@id`, its IRI is that of the vocabulary and the term, which is found behind all its parts;
-- with no vocabulary it has none, and no fault by it
abbrev pub fault_without_id : Option (List ℕ) → List ℕ → Option (List ℕ) → Option JsonFault
fault_without_id None term id = None
fault_without_id (Some vocabulary) term None = fault_of_iri term (vocabulary ++ term)
fault_without_id (Some vocabulary) term (Some id) = None

-- the value of a term is a string or an object
abbrev pub fault_of_value : Option (List ℕ) → Members → List ℕ → Data → Option JsonFault
fault_of_value vocabulary all term (string text) = fault_of_string all term text
fault_of_value vocabulary all term (object parts) =
    option_or (first_fault (fault_of_part all term) parts) (fault_without_id vocabulary term (string_at (codes "@id") parts))
fault_of_value vocabulary all term other = Some (faults.BadContext term)

-- a member of a context is `@base`, `@vocab` or a term
abbrev pub fault_of_member : Option (List ℕ) → Members → List ℕ → Data → Option JsonFault
fault_of_member vocabulary all key value =
    if is_base_key key || is_vocabulary_key key then fault_of_keyword key value
    else (if is_term_name key then fault_of_value vocabulary all key value else Some (faults.BadContext key))

-- the first fault of all the members of a context, by its vocabulary, or by none where that isn't known
abbrev pub fault_by_vocabulary : Option (List ℕ) → Members → Option JsonFault
fault_by_vocabulary vocabulary all = first_fault (fault_of_member vocabulary all) all

-- what a `@vocab` gives, where there is one: the default where there is none, and nothing where it is no string
abbrev pub vocabulary_given : List ℕ → Option Data → Option (List ℕ)
vocabulary_given domain None = Some (domain_vocabulary domain)
vocabulary_given domain (Some value) = as_str value

-- the vocabulary by which terms have IRIs
abbrev pub known_vocabulary : List ℕ → Members → Option (List ℕ)
known_vocabulary domain all = vocabulary_given domain (get_member (codes "@vocab") all)

-- the first fault: `@context`, which no context has, is read before all others
abbrev pub fault_of_members : List ℕ → Members → Option JsonFault
fault_of_members domain all =
    if is_some (get_member (codes "@context") all) then Some (faults.BadContext (codes "@context"))
    else fault_by_vocabulary (known_vocabulary domain all) all

-- ---- the context

-- the context of a domain alone
abbrev pub domain_context : List ℕ → ContextValue
domain_context domain = record { base = domain_base domain; vocabulary = domain_vocabulary domain; terms = [] }

-- the vocabulary of the members of a context
abbrev pub vocabulary_of : List ℕ → Members → List ℕ
vocabulary_of domain all = unwrap_or (string_at (codes "@vocab") all) (domain_vocabulary domain)

-- the context that members say
abbrev pub context_of : List ℕ → Members → ContextValue
context_of domain all =
    record {
      base = unwrap_or (string_at (codes "@base") all) (domain_base domain);
      vocabulary = vocabulary_of domain all;
      terms = definitions (vocabulary_of domain all) all all;
    }

-- a value, where there is no fault
abbrev pub unless_fault : {X : Type 0} → Option JsonFault → X → Result X JsonFault
unless_fault None value = Ok value
unless_fault (Some fault) value = Err fault

-- a context is an object; a string would name one that stands elsewhere
unfoldable pub read_context : List ℕ → Data → Result ContextValue JsonFault
read_context domain (object all) = unless_fault (fault_of_members domain all) (context_of domain all)
read_context domain (string text) = Err faults.Remote
read_context domain other = Err (faults.BadContext [])

-- ---- words of private contracts

-- the fault of the IRI of a term whose value is an object with such an `@id`
abbrev pub fault_of_object_iri : List ℕ → Members → List ℕ → Option (List ℕ) → Option JsonFault
fault_of_object_iri vocabulary all term id = option_map_or (fault_of_id all term) id (fault_of_iri term (vocabulary ++ term))

-- the fault of such an `@type`, where there is one
abbrev pub fault_of_object_type : Members → List ℕ → Option (List ℕ) → Option JsonFault
fault_of_object_type all term kind = option_map_or (fault_of_type all term) kind None
