-- What `@where` says (SPARQL 1.1 Query Language sections 5.1, Basic Graph Patterns, 5.2, Group Graph Patterns, and 7, Matching
-- Alternatives; subjects are those of JSON-LD 1.1 section 9.2, Node Objects).
use Rattle.std.specs.Prelude.{ℕ, List, [], ◌∷◌, ◌++◌, true, Option, None, Result, Ok, Err, codes, if◌then◌else◌}
use Rattle.std.specs.Option.{option_map_or}
use Rattle.serde_json.specs.Data.{Data, array, object, Items, no_items, item, Members}
use Rattle.serde_json.specs.Find.{get_member}
use Rattle.jsonld_context.specs.Context.{ContextValue}
use Rattle.jsonld_context.specs.declared.faults.JsonFault.{JsonFault}
use Rattle.jsonld_context.specs.declared.faults.JsonFault.TheVariants as faults
use Rattle.jsonld_subjects.specs.jsonld_values.Literals.{followed_by, made_of}
use Rattle.jsonld_subjects.specs.SubjectReading.{Found, subjects_read}
use Rattle.jsonld_subjects.specs.declared.places.Place.TheVariants.{Pattern}
use Rattle.jrql_patterns.specs.OpenGroups.{OpenGroup, not_under, has_one}
use Rattle.jrql_patterns.specs.FilterReading.{read_filter}

-- ---- subjects and unions

-- triples that every solution has
abbrev pub with_patterns : OpenGroup → Found → OpenGroup
with_patterns so_far found = record so_far { names = found.names; patterns = so_far.patterns ++ found.triples }

-- triples that the solutions of one more branch have
abbrev pub with_branch : OpenGroup → Found → OpenGroup
with_branch so_far found = record so_far { names = found.names; branches = so_far.branches ++ found.triples ∷ [] }

-- a subject whose triples are patterns
abbrev pub read_pattern : ContextValue → Data → OpenGroup → Result OpenGroup JsonFault
read_pattern context value so_far = made_of (subjects_read context Pattern so_far.names value) (with_patterns so_far)

-- a branch is a subject or an array of subjects
abbrev pub read_branch : ContextValue → Data → OpenGroup → Result OpenGroup JsonFault
read_branch context value so_far = made_of (subjects_read context Pattern so_far.names value) (with_branch so_far)

abbrev pub read_branches : ContextValue → Items → OpenGroup → Result OpenGroup JsonFault
read_branches context no_items so_far = Ok so_far
read_branches context (item value rest) so_far =
    followed_by (read_branch context value so_far) (read_branches context rest)

-- a union is an array of branches
abbrev pub read_alternatives : ContextValue → Data → OpenGroup → Result OpenGroup JsonFault
read_alternatives context (array branches) so_far = read_branches context branches (record so_far { is_united = true })
read_alternatives context other so_far = Err (not_under (codes "@union") other)

-- the value of `@union`. There is one in all; that this is the second is found before its value
abbrev pub read_union : ContextValue → Data → OpenGroup → Result OpenGroup JsonFault
read_union context value so_far =
    if so_far.is_united then Err (faults.BadQuery (codes "@union")) else read_alternatives context value so_far

-- ---- `@where`

-- the value of a key that stands alone
abbrev pub sole_member : List ℕ → Members → Option Data
sole_member key members = if has_one members then get_member key members else None

-- an item of `@where`: a filter, a union, or else a subject
abbrev pub read_condition : ContextValue → Data → OpenGroup → Result OpenGroup JsonFault
read_condition context (object members) so_far =
    option_map_or (λ value. read_filter context value so_far) (sole_member (codes "@filter") members)
    (option_map_or (λ value. read_union context value so_far) (sole_member (codes "@union") members)
    (read_pattern context (object members) so_far))
read_condition context other so_far = Err (faults.BadSubject [])

abbrev pub read_conditions : ContextValue → Items → OpenGroup → Result OpenGroup JsonFault
read_conditions context no_items so_far = Ok so_far
read_conditions context (item value rest) so_far =
    followed_by (read_condition context value so_far) (read_conditions context rest)

-- the value of `@where`: an object, or an array of items
unfoldable pub read_where : ContextValue → Data → OpenGroup → Result OpenGroup JsonFault
read_where context (object members) so_far = read_condition context (object members) so_far
read_where context (array items) so_far = read_conditions context items so_far
read_where context other so_far = Err (not_under (codes "@where") other)
