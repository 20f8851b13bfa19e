-- Filters (SPARQL 1.1 Query Language sections 5.2.2, Scope of Filters, and 17.3, Operator Mapping). A filter is an object with one
-- comparison of two sides. Each breach of its own form is told by `@filter`; what is wrong within a side, by a key of that.
use Rattle.std.specs.Prelude.{ℕ, List, [], ◌∷◌, ◌++◌, Option, Some, None, Result, Ok, Err, codes, if◌then◌else◌}
use Rattle.jrql_ast.specs.declared.patterns.Compare.{Compare}
use Rattle.jrql_ast.specs.declared.patterns.Compare.TheVariants as compares
use Rattle.jrql_ast.specs.declared.patterns.Filter.{Filter}
use Rattle.jrql_ast.specs.declared.patterns.Slot.{Slot}
use Rattle.jrql_ast.specs.declared.patterns.PatternTriple.{PatternTriple}
use Rattle.rdf_terms.specs.Literal.{is_same}
use Rattle.serde_json.specs.Data.{Data, array, object, Items, no_items, item, Members, no_members, member}
use Rattle.jsonld_context.specs.Context.{ContextValue}
use Rattle.jsonld_context.specs.declared.faults.JsonFault.{JsonFault}
use Rattle.jsonld_context.specs.declared.faults.JsonFault.TheVariants as faults
use Rattle.jsonld_subjects.specs.jsonld_values.Literals.{followed_by, made_of}
use Rattle.jsonld_subjects.specs.jsonld_values.ValueObjects.{has_member}
use Rattle.jsonld_subjects.specs.jsonld_values.VariableNames.{NamesValue}
use Rattle.jsonld_subjects.specs.ObjectReading.{stands_alone, object_read}
use Rattle.jsonld_subjects.specs.declared.places.Place.TheVariants.{Pattern}
use Rattle.jrql_patterns.specs.OpenGroups.{OpenGroup, not_under, has_one}

-- ---- comparisons

-- how a key compares
abbrev pub compare_of : List ℕ → Option Compare
compare_of key =
    if is_same key (codes "@eq") then Some compares.Eq
    else (if is_same key (codes "@neq") then Some compares.Neq
    else (if is_same key (codes "@lt") then Some compares.Lt
    else (if is_same key (codes "@lte") then Some compares.Lte
    else (if is_same key (codes "@gt") then Some compares.Gt
    else (if is_same key (codes "@gte") then Some compares.Gte else None)))))

-- ---- sides

-- what a value gives is a side where it is one object and no triple
abbrev pub operand_of : NamesValue → List PatternTriple → Option Slot → Result (NamesValue × Slot) JsonFault
operand_of names [] (Some slot) = Ok (names, slot)
operand_of names triples slot = Err (faults.BadQuery (codes "@filter"))

-- a side is a value that may stand alone
abbrev pub read_operand : ContextValue → NamesValue → Data → Result (NamesValue × Slot) JsonFault
read_operand context names value =
    if stands_alone value
    then followed_by (object_read context Pattern names value) (λ read. operand_of read.found.names read.found.triples read.object)
    else Err (faults.BadQuery (codes "@filter"))

-- ---- a filter

-- nothing stands behind the second side
abbrev pub read_end : Filter → NamesValue → Items → Result (NamesValue × Filter) JsonFault
read_end filter names no_items = Ok (names, filter)
read_end filter names (item value rest) = Err (not_under (codes "@filter") value)

-- the second side
abbrev pub read_right : ContextValue → Compare → NamesValue × Slot → Items → Result (NamesValue × Filter) JsonFault
read_right context compare left no_items = Err (faults.BadQuery (codes "@filter"))
read_right context compare left (item value rest) =
    followed_by (read_operand context left.0 value)
    (λ right. read_end (record { op = compare; left = left.1; right = right.1 }) right.0 rest)

-- two sides in an array
abbrev pub read_sides : ContextValue → Compare → NamesValue → Data → Result (NamesValue × Filter) JsonFault
read_sides context compare names (array (item value rest)) =
    followed_by (read_operand context names value) (λ left. read_right context compare left rest)
read_sides context compare names other = Err (not_under (codes "@filter") other)

-- a filter was read, and names with it
abbrev pub with_filter : OpenGroup → NamesValue × Filter → OpenGroup
with_filter so_far read = record so_far { names = read.0; filters = so_far.filters ++ read.1 ∷ [] }

-- a member of a filter compares
abbrev pub read_comparison : ContextValue → Option Compare → Data → OpenGroup → Result OpenGroup JsonFault
read_comparison context None value so_far = Err (faults.BadQuery (codes "@filter"))
read_comparison context (Some compare) value so_far = made_of (read_sides context compare so_far.names value) (with_filter so_far)

abbrev pub read_comparisons : ContextValue → Members → OpenGroup → Result OpenGroup JsonFault
read_comparisons context no_members so_far = Ok so_far
read_comparisons context (member key value rest) so_far =
    followed_by (read_comparison context (compare_of key) value so_far) (read_comparisons context rest)

-- a filter has one comparison; that it has another is found behind all of them
abbrev pub unless_several : Members → OpenGroup → Result OpenGroup JsonFault
unless_several members read = if has_one members then Ok read else Err (faults.BadQuery (codes "@filter"))

-- the value of `@filter`; a context, which it may not have, would be read first
abbrev pub read_filter : ContextValue → Data → OpenGroup → Result OpenGroup JsonFault
read_filter context (object members) so_far =
    if has_member (codes "@context") members then Err (faults.BadQuery (codes "@filter"))
    else followed_by (read_comparisons context members so_far) (unless_several members)
read_filter context other so_far = Err (not_under (codes "@filter") other)
