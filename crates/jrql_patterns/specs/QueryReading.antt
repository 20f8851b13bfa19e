-- Queries (SPARQL 1.1 Query Language sections 15, Solution Sequences and Modifiers, 16.1, SELECT, and 16.4, DESCRIBE; JSON-LD 1.1
-- section 3.1, The Context). Of an object `@context` is read first, then the other members in the byte order of their keys; what is
-- missing, and what breaks a rule of several keys, is found behind all of them.
use Rattle.std.specs.Prelude.{ℕ, List, [], ◌∷◌, ◌++◌, Bool, true, false, ◌&&◌, ◌||◌, ◌==◌, not, length, Option, Some, None, Result, Ok, Err, codes, if◌then◌else◌}
use Rattle.std.specs.Cmp.Lexicographic.{slice_cmp}
use Rattle.std.specs.List.{filter, list_any, range_with_len, slice_index_or}
use Rattle.std.specs.List.Sorted.{IsPermutation, IsSorted}
use Rattle.std.specs.Ordering.{nat_cmp, is_lt}
use Rattle.std.specs.declared.cmp.Ordering.{Ordering}
use Rattle.std.specs.Option.{option_map_or, option_or}
use Rattle.std.specs.Str.{is_utf8}
use Rattle.jrql_ast.specs.declared.patterns.PatternTriple.{PatternTriple}
use Rattle.jrql_ast.specs.declared.patterns.Slot.{Slot}
use Rattle.jrql_ast.specs.declared.patterns.Slot.TheVariants as slots
use Rattle.jrql_ast.specs.declared.queries.Query.{Query}
use Rattle.jrql_ast.specs.declared.queries.Select.{Select}
use Rattle.jrql_ast.specs.declared.queries.Target.{Target}
use Rattle.jrql_ast.specs.declared.queries.Target.TheVariants as targets
use Rattle.jrql_ast.specs.declared.queries.What.{What}
use Rattle.jrql_ast.specs.declared.queries.What.TheVariants as kinds
use Rattle.rdf_terms.specs.Literal.{is_same}
use Rattle.serde_json.specs.Data.{Data, boolean, number, string, array, object, unsigned, Items, no_items, item, Members, no_members, member}
use Rattle.serde_json.specs.Find.{get_member}
use Rattle.serde_json.specs.Read.{read}
use Rattle.jsonld_context.specs.Context.{ContextValue}
use Rattle.jsonld_context.specs.ContextReading.{domain_context, read_context, unless_fault}
use Rattle.jsonld_context.specs.Expanding.{expand_id}
use Rattle.jsonld_context.specs.Texts.{is_variable}
use Rattle.jsonld_context.specs.declared.faults.JsonFault.{JsonFault}
use Rattle.jsonld_context.specs.declared.faults.JsonFault.TheVariants as faults
use Rattle.jsonld_subjects.specs.jsonld_values.Literals.{followed_by, made_of}
use Rattle.jsonld_subjects.specs.jsonld_values.ValueObjects.{has_member}
use Rattle.jsonld_subjects.specs.jsonld_values.VariableNames.{NamesValue, no_names, marked, was_met}
use Rattle.jrql_patterns.specs.OpenGroups.{OpenGroup, empty_group, with_group_names, meet_number, group_of, not_under}
use Rattle.jrql_patterns.specs.WhereReading.{read_where}
use Rattle.jrql_patterns.specs.declared.queries.ReadQuery.{ReadQuery}

-- what was read of a query so far: its group, with the names of the text; the targets of `@describe`; of `@select` the variables, and
-- whether it asks for all; and how rows are cut
pub record OpenQuery : Type 0 where
  pub group : OpenGroup
  pub targets : List Target
  pub columns : List ℕ
  pub is_every : Bool
  pub distinct : Bool
  pub offset : ℕ
  pub limit : Option ℕ

-- of which nothing was read
abbrev pub empty_query : OpenQuery
empty_query =
    record { group = empty_group no_names; targets = []; columns = []; is_every = false; distinct = false; offset = 0; limit = None }

-- names were met
abbrev pub with_query_names : OpenQuery → NamesValue → OpenQuery
with_query_names so_far names = record so_far { group = with_group_names so_far.group names }

-- ---- `@describe`

abbrev pub with_target : OpenQuery → Target → OpenQuery
with_target so_far target = record so_far { targets = so_far.targets ++ target ∷ [] }

-- a target is a string: a variable, or an id
abbrev pub read_target : ContextValue → Data → OpenQuery → Result OpenQuery JsonFault
read_target context (string text) so_far =
    if is_variable text
    then made_of (meet_number so_far.group.names text) (λ met. with_target (with_query_names so_far met.0) (targets.Var met.1))
    else made_of (expand_id context text) (λ iri. with_target so_far (targets.Iri iri))
read_target context other so_far = Err (not_under (codes "@describe") other)

abbrev pub read_each_target : ContextValue → Items → OpenQuery → Result OpenQuery JsonFault
read_each_target context no_items so_far = Ok so_far
read_each_target context (item value rest) so_far = followed_by (read_target context value so_far) (read_each_target context rest)

-- a target, or an array of targets
abbrev pub read_describe : ContextValue → Data → OpenQuery → Result OpenQuery JsonFault
read_describe context (array items) so_far = read_each_target context items so_far
read_describe context other so_far = read_target context other so_far

-- ---- `@select`

-- a variable is among others
abbrev pub is_among : List ℕ → ℕ → Bool
is_among variables variable = list_any (λ other. other == variable) variables

-- one more variable, which isn't listed yet
abbrev pub with_column : OpenQuery → ℕ → Result OpenQuery JsonFault
with_column so_far variable =
    if is_among so_far.columns variable then Err (faults.BadQuery (codes "@select"))
    else Ok (record so_far { columns = so_far.columns ++ variable ∷ [] })

-- a column is a variable
abbrev pub read_column : Data → OpenQuery → Result OpenQuery JsonFault
read_column (string text) so_far =
    if is_variable text then followed_by (meet_number so_far.group.names text) (λ met. with_column (with_query_names so_far met.0) met.1)
    else Err (faults.BadQuery (codes "@select"))
read_column other so_far = Err (not_under (codes "@select") other)

abbrev pub read_columns : Items → OpenQuery → Result OpenQuery JsonFault
read_columns no_items so_far = Ok so_far
read_columns (item value rest) so_far = followed_by (read_column value so_far) (read_columns rest)

-- `*` for all, a column, or an array of one column or more
abbrev pub read_select : Data → OpenQuery → Result OpenQuery JsonFault
read_select (string text) so_far =
    if is_same text (codes "*") then Ok (record so_far { is_every = true }) else read_column (string text) so_far
read_select (array (item value rest)) so_far = read_columns (item value rest) so_far
read_select other so_far = Err (not_under (codes "@select") other)

-- ---- `@distinct`, `@offset` and `@limit`

abbrev pub read_distinct : Data → OpenQuery → Result OpenQuery JsonFault
read_distinct (boolean value) so_far = Ok (record so_far { distinct = value })
read_distinct other so_far = Err (not_under (codes "@distinct") other)

-- how many rows are left out in front, and how many are given at most
abbrev pub with_offset : OpenQuery → ℕ → OpenQuery
with_offset so_far count = record so_far { offset = count }

abbrev pub with_limit : OpenQuery → ℕ → OpenQuery
with_limit so_far count = record so_far { limit = Some count }

-- a number of rows
abbrev pub read_count : List ℕ → Data → Result ℕ JsonFault
read_count key (number (unsigned value)) = Ok value
read_count key other = Err (not_under key other)

-- ---- members

-- `@where`: its variables are those that are met since its begin
abbrev pub read_group : ContextValue → Data → OpenQuery → Result OpenQuery JsonFault
read_group context value so_far =
    made_of (read_where context value (with_group_names so_far.group (marked so_far.group.names))) (λ group. record so_far { group = group })

-- the member of a key; the context is read before all of them
abbrev pub read_part : ContextValue → List ℕ → Data → OpenQuery → Result OpenQuery JsonFault
read_part context key value so_far =
    if is_same key (codes "@context") then Ok so_far
    else (if is_same key (codes "@describe") then read_describe context value so_far
    else (if is_same key (codes "@distinct") then read_distinct value so_far
    else (if is_same key (codes "@limit") then made_of (read_count key value) (with_limit so_far)
    else (if is_same key (codes "@offset") then made_of (read_count key value) (with_offset so_far)
    else (if is_same key (codes "@select") then read_select value so_far
    else (if is_same key (codes "@where") then read_group context value so_far
    else Err (faults.BadQuery key)))))))

abbrev pub read_parts : ContextValue → Members → OpenQuery → Result OpenQuery JsonFault
read_parts context no_members so_far = Ok so_far
read_parts context (member key value rest) so_far = followed_by (read_part context key value so_far) (read_parts context rest)

-- ---- variables of `@where`

-- a slot is the variable of a number; a triple has it in some place
abbrev pub is_variable_slot : ℕ → Slot → Bool
is_variable_slot variable (slots.Var other) = other == variable
is_variable_slot variable slot = false

abbrev pub has_variable : ℕ → PatternTriple → Bool
has_variable variable triple =
    is_variable_slot variable triple.s || is_variable_slot variable triple.p || is_variable_slot variable triple.o

-- a variable stands in a triple of a group
abbrev pub stands_in : OpenGroup → ℕ → Bool
stands_in group variable = list_any (has_variable variable) group.patterns || list_any (list_any (has_variable variable)) group.branches

-- the named variables that do
abbrev pub standing_variables : OpenGroup → List ℕ
standing_variables group = filter (stands_in group) (range_with_len 0 (length group.names.named))

-- a target is a variable; one that was not met in `@where`
abbrev pub is_asked : Target → Bool
is_asked (targets.Var variable) = true
is_asked (targets.Iri iri) = false

abbrev pub is_apart : NamesValue → Target → Bool
is_apart names (targets.Var variable) = not (was_met names variable)
is_apart names (targets.Iri iri) = false

-- ---- breaches of rules of several keys

-- a fault of a key, where a rule of several keys is broken there
abbrev pub fault_where : Bool → List ℕ → Option JsonFault
fault_where true key = Some (faults.BadQuery key)
fault_where false key = None

-- each variable that `@describe` names stands in `@where`
abbrev pub breaks_describe : Members → OpenQuery → Bool
breaks_describe members read = has_member (codes "@where") members && list_any (is_apart read.group.names) read.targets

-- `@distinct`, `@limit` and `@offset` don't stand beside `@describe` alone
abbrev pub breaks_rows : Members → List ℕ → Bool
breaks_rows members key = has_member key members && has_member (codes "@describe") members && not (has_member (codes "@select") members)

-- there is one of `@select` and `@describe`, and not both
abbrev pub has_kind : Members → Bool
has_kind members =
    if has_member (codes "@select") members then not (has_member (codes "@describe") members) else has_member (codes "@describe") members

-- some variable that `@select` lists stands in no triple of `@where`
abbrev pub misses_columns : OpenQuery → Bool
misses_columns read = list_any (λ variable. not (is_among (standing_variables read.group) variable)) read.columns

abbrev pub breaks_select : Members → OpenQuery → Bool
breaks_select members read =
    not (has_kind members) || (has_member (codes "@where") members && misses_columns read)

-- there is a `@where` for a select, and for a describe of a variable
abbrev pub breaks_where : Members → OpenQuery → Bool
breaks_where members read =
    not (has_member (codes "@where") members) && (has_member (codes "@select") members || list_any is_asked read.targets)

-- the first such breach, in the byte order of keys
abbrev pub breach : Members → OpenQuery → Option JsonFault
breach members read =
    option_or (fault_where (breaks_describe members read) (codes "@describe"))
    (option_or (fault_where (breaks_rows members (codes "@distinct")) (codes "@distinct"))
    (option_or (fault_where (breaks_rows members (codes "@limit")) (codes "@limit"))
    (option_or (fault_where (breaks_rows members (codes "@offset")) (codes "@offset"))
    (option_or (fault_where (breaks_select members read) (codes "@select"))
    (fault_where (breaks_where members read) (codes "@where"))))))

-- ---- the query

-- the name of a variable is before that of another, in the order of bytes
abbrev pub name_cmp : List (List ℕ) → ℕ → ℕ → Ordering
name_cmp named variable other = slice_cmp nat_cmp (slice_index_or named variable []) (slice_index_or named other [])

abbrev pub is_before : List (List ℕ) → ℕ → ℕ → Bool
is_before named variable other = is_lt (name_cmp named variable other)

-- a variable is put among others in this order, and variables one by one
abbrev pub placed : List (List ℕ) → ℕ → List ℕ → List ℕ
placed named variable [] = variable ∷ []
placed named variable (other ∷ rest) =
    if is_before named variable other then variable ∷ other ∷ rest else other ∷ placed named variable rest

abbrev pub each_placed : List (List ℕ) → List ℕ → List ℕ → List ℕ
each_placed named [] others = others
each_placed named (variable ∷ rest) others = each_placed named rest (placed named variable others)

-- every variable that stands in a triple, in the byte order of names
abbrev pub every_column : OpenGroup → List ℕ
every_column group = each_placed group.names.named (standing_variables group) []

-- these variables, each once, in that order
pub record AreInNameOrder (named : List (List ℕ)) (given ordered : List ℕ) : Type 0 where
  pub same : IsPermutation given ordered
  pub ascending : IsSorted (name_cmp named) ordered

-- the rows that are asked for
abbrev pub select_of : OpenQuery → Select
select_of read =
    record {
      vars = if read.is_every then every_column read.group else read.columns;
      distinct = read.distinct;
      offset = read.offset;
      limit = read.limit;
    }

-- what is asked: rows, or subjects
abbrev pub asked_of : Bool → OpenQuery → What
asked_of is_select read = if is_select then kinds.Select (select_of read) else kinds.Describe read.targets

abbrev pub query_of : Bool → OpenQuery → Query
query_of is_select read = record { group = group_of read.group; what = asked_of is_select read }

-- the query of members under a context: they are read one by one, and then what needs several of them
abbrev pub query_under : ContextValue → Members → Result Query JsonFault
query_under context members =
    followed_by (read_parts context members empty_query)
    (λ read. unless_fault (breach members read) (query_of (has_member (codes "@select") members) read))

-- ---- a text

-- the context of an object: that of `@context` over the defaults of a domain, else these alone
abbrev pub context_said : List ℕ → Members → Result ContextValue JsonFault
context_said domain members = option_map_or (read_context domain) (get_member (codes "@context") members) (Ok (domain_context domain))

-- a query is an object
abbrev pub query_said : List ℕ → Data → Result ReadQuery JsonFault
query_said domain (object members) =
    followed_by (context_said domain members)
    (λ context. made_of (query_under context members) (λ query. record { query = query; context = context }))
query_said domain other = Err (not_under [] other)

-- the value of a JSON text (RFC 8259)
abbrev pub json_of : List ℕ → Result Data JsonFault
json_of bytes = option_map_or (λ value. Ok value) (if is_utf8 bytes then read bytes else None) (Err faults.NotJson)

-- what a text says as a query in a domain, and the context under which it does; or its first fault
unfoldable pub query_read : List ℕ → List ℕ → Result ReadQuery JsonFault
query_read domain bytes = followed_by (json_of bytes) (query_said domain)
