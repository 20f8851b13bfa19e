-- A query that was read is in form.
use Rattle.std.proofs.Common.{◌≡◌, ℕ, zero, suc, ◌+◌, ◌<◌, ◌≤◌, List, [], ◌∷◌, ◌++◌, Bool, true, false, length, Option, Some, None, Result, Ok, Err, IfOk, refl, sym, subst, cond, if◌then◌else◌, arith}
use Rattle.std.specs.Prelude.{codes}
use Rattle.std.specs.List.{All, filter, range_with_len}
use Rattle.std.proofs.lemmas.List.{append-nil, length-replicate}
use Rattle.std.proofs.lemmas.List.Elements.{All-nil, All-cons, All-head, All-tail, All-push, All-weaker}
use Rattle.jrql_ast.specs.InForm.{IsTargetWithin, IsAskedInForm, IsQueryInForm}
use Rattle.jrql_ast.specs.declared.queries.Query.{Query}
use Rattle.jrql_ast.specs.declared.queries.Target.{Target}
use Rattle.jrql_ast.specs.declared.queries.Target.TheVariants as targets
use Rattle.jrql_ast.specs.declared.queries.What.TheVariants as kinds
use Rattle.rdf_terms.specs.Literal.{is_same}
use Rattle.serde_json.specs.Data.{Data, null, boolean, number, string, array, object, Items, no_items, item, Members, no_members, member}
use Rattle.jsonld_context.specs.Context.{ContextValue}
use Rattle.jsonld_context.specs.ContextReading.{unless_fault}
use Rattle.jsonld_context.specs.Expanding.{expand_id}
use Rattle.jsonld_context.specs.Texts.{is_variable}
use Rattle.jsonld_context.specs.declared.faults.JsonFault.{JsonFault}
use Rattle.jsonld_context.specs.declared.faults.JsonFault.TheVariants as faults
use Rattle.jsonld_subjects.specs.jsonld_values.Numbering.{HasGrown, IsPatternOf, IsFilterOf}
use Rattle.jsonld_subjects.specs.jsonld_values.ValueObjects.{has_member}
use Rattle.jsonld_subjects.specs.jsonld_values.VariableNames.{NamesValue, IsNames, no_names, meet_variable, marked}
use Rattle.jsonld_subjects.proofs.of_jsonld_values.Meeting.{met_behind}
use Rattle.jsonld_subjects.proofs.of_jsonld_values.NumberingLaws.{grown_named, group_in_form}
use Rattle.jsonld_subjects.proofs.KeptNames.{ok_same, no_fault, made_is, followed_is, either_is}
use Rattle.jrql_patterns.specs.OpenGroups.{OpenGroup, with_group_names, meet_number, group_of, not_under}
use Rattle.jrql_patterns.specs.GroupsKept.{IsGroupKept, ReadsOn}
use Rattle.jrql_patterns.specs.WhereReading.{read_where}
use Rattle.jrql_patterns.specs.QueryReading.{OpenQuery, empty_query, with_query_names, with_target, read_target, read_each_target, read_describe, is_among, with_column, read_column, read_columns, read_select, read_distinct, read_count, read_group, read_part, read_parts, stands_in, standing_variables, breach, is_before, placed, each_placed, every_column, select_of, query_of, query_under, context_said, query_said}
use Rattle.jrql_patterns.specs.declared.queries.ReadQuery.{ReadQuery}
use Rattle.jrql_patterns.proofs.MetNumbers.{met_number}
use Rattle.jrql_patterns.proofs.KeptGroups.{more_and_more, names_on, where_read}

-- a target is an IRI or a named variable
abbrev pub IsTargetOf : NamesValue → Target → Type 0
IsTargetOf names (targets.Iri iri) = Unit {0}
IsTargetOf names (targets.Var variable) = variable < length names.named

abbrev pub IsColumnOf : NamesValue → ℕ → Type 0
IsColumnOf names variable = variable < length names.named

-- what was read of a query has the variables that were met
pub record IsQueryKept (read : OpenQuery) : Type 0 where
  pub group : IsGroupKept read.group
  pub targets : All (IsTargetOf read.group.names) read.targets
  pub columns : All (IsColumnOf read.group.names) read.columns

target_keeps : (before after : NamesValue) (target : Target) → HasGrown before after → IsTargetOf before target → IsTargetOf after target
target_keeps before after (targets.Iri iri) grown is = tt
target_keeps before after (targets.Var variable) grown is = let longer = grown_named before after grown in omega arith

-- more of the group was read
group_on : (read : OpenQuery) (group : OpenGroup) → ReadsOn read.group group → IsQueryKept read → IsQueryKept (record read { group = group })
group_on read group on kept = record {
  group = on.kept kept.group;
  targets = All-weaker (IsTargetOf read.group.names) (IsTargetOf group.names) (λ target is. target_keeps read.group.names group.names target on.grown is) read.targets kept.targets;
  columns = All-weaker (IsColumnOf read.group.names) (IsColumnOf group.names) (λ column is. let longer = grown_named read.group.names group.names on.grown in omega arith) read.columns kept.columns;
}

-- ---- variables

record IsNumberMet (names : NamesValue) (met : NamesValue × ℕ) : Type 0 where
  grown : HasGrown names met.0
  still : IsNames names → IsNames met.0
  named : met.1 < length met.0.named

number_met : (names : NamesValue) (name : List ℕ) (met : NamesValue × ℕ) → meet_number names name ≡ Ok met → IsNumberMet names met
number_met names name met reads =
    made_is (IsNumberMet names) (meet_variable names name) _ met reads
    (λ behind found. let is = met_behind names name behind found in record { grown = is.grown; still = is.still; named = (met_number names name behind found).named })

names_query_on : (read : OpenQuery) (met : NamesValue × ℕ) → IsNumberMet read.group.names met → IsQueryKept read → IsQueryKept (with_query_names read met.0)
names_query_on read met is kept = group_on read (with_group_names read.group met.0) (names_on read.group met.0 is.grown is.still) kept

-- ---- `@describe`

target_put : (read : OpenQuery) (target : Target) → IsTargetOf read.group.names target → IsQueryKept read → IsQueryKept (with_target read target)
target_put read target is kept = record {
  group = kept.group;
  targets = All-push (IsTargetOf read.group.names) read.targets target kept.targets is;
  columns = kept.columns;
}

target_read : (context : ContextValue) (value : Data) (read after : OpenQuery) → read_target context value read ≡ Ok after → IsQueryKept read → IsQueryKept after
target_read context (string text) read after reads kept =
    either_is (IsQueryKept after) (is_variable text) _ _ after reads
    (λ h. made_is IsQueryKept (meet_number read.group.names text) _ after h
    (λ met found. let is = number_met read.group.names text met found in
    target_put (with_query_names read met.0) (targets.Var met.1) is.named (names_query_on read met is kept)))
    (λ h. made_is IsQueryKept (expand_id context text) _ after h (λ iri found. target_put read (targets.Iri iri) tt kept))
target_read context (array items) read after reads kept = absurd (no_fault after (not_under (codes "@describe") (array items)) reads)
target_read context (object members) read after reads kept = absurd (no_fault after (not_under (codes "@describe") (object members)) reads)
target_read context null read after reads kept = absurd (no_fault after (not_under (codes "@describe") null) reads)
target_read context (boolean value) read after reads kept = absurd (no_fault after (not_under (codes "@describe") (boolean value)) reads)
target_read context (number value) read after reads kept = absurd (no_fault after (not_under (codes "@describe") (number value)) reads)

targets_read : (context : ContextValue) (items : Items) (read after : OpenQuery) → read_each_target context items read ≡ Ok after → IsQueryKept read → IsQueryKept after
targets_read context no_items read after reads kept = subst IsQueryKept (ok_same read after reads) kept
targets_read context (item value rest) read after reads kept =
    followed_is (IsQueryKept after) (read_target context value read) (read_each_target context rest) after reads
    (λ next found more. targets_read context rest next after more (target_read context value read next found kept))

describe_read : (context : ContextValue) (value : Data) (read after : OpenQuery) → read_describe context value read ≡ Ok after → IsQueryKept read → IsQueryKept after
describe_read context (array items) read after reads kept = targets_read context items read after reads kept
describe_read context (string text) read after reads kept = target_read context (string text) read after reads kept
describe_read context (object members) read after reads kept = target_read context (object members) read after reads kept
describe_read context null read after reads kept = target_read context null read after reads kept
describe_read context (boolean value) read after reads kept = target_read context (boolean value) read after reads kept
describe_read context (number value) read after reads kept = target_read context (number value) read after reads kept

-- ---- `@select`

column_put : (read after : OpenQuery) (variable : ℕ) → IsColumnOf read.group.names variable → with_column read variable ≡ Ok after → IsQueryKept read → IsQueryKept after
column_put read after variable is reads kept =
    either_is (IsQueryKept after) (is_among read.columns variable) _ _ after reads
    (λ h. absurd (no_fault after (faults.BadQuery (codes "@select")) h))
    (λ h. subst IsQueryKept (ok_same (record read { columns = read.columns ++ variable ∷ [] }) after h)
    (record {
      group = kept.group;
      targets = kept.targets;
      columns = All-push (IsColumnOf read.group.names) read.columns variable kept.columns is;
    }))

column_read : (value : Data) (read after : OpenQuery) → read_column value read ≡ Ok after → IsQueryKept read → IsQueryKept after
column_read (string text) read after reads kept =
    either_is (IsQueryKept after) (is_variable text) _ _ after reads
    (λ h. followed_is (IsQueryKept after) (meet_number read.group.names text) _ after h
    (λ met found more. let is = number_met read.group.names text met found in
    column_put (with_query_names read met.0) after met.1 is.named more (names_query_on read met is kept)))
    (λ h. absurd (no_fault after (faults.BadQuery (codes "@select")) h))
column_read (array items) read after reads kept = absurd (no_fault after (not_under (codes "@select") (array items)) reads)
column_read (object members) read after reads kept = absurd (no_fault after (not_under (codes "@select") (object members)) reads)
column_read null read after reads kept = absurd (no_fault after (not_under (codes "@select") null) reads)
column_read (boolean value) read after reads kept = absurd (no_fault after (not_under (codes "@select") (boolean value)) reads)
column_read (number value) read after reads kept = absurd (no_fault after (not_under (codes "@select") (number value)) reads)

columns_read : (items : Items) (read after : OpenQuery) → read_columns items read ≡ Ok after → IsQueryKept read → IsQueryKept after
columns_read no_items read after reads kept = subst IsQueryKept (ok_same read after reads) kept
columns_read (item value rest) read after reads kept =
    followed_is (IsQueryKept after) (read_column value read) (read_columns rest) after reads
    (λ next found more. columns_read rest next after more (column_read value read next found kept))

select_read : (value : Data) (read after : OpenQuery) → read_select value read ≡ Ok after → IsQueryKept read → IsQueryKept after
select_read (string text) read after reads kept =
    either_is (IsQueryKept after) (is_same text (codes "*")) _ _ after reads
    (λ h. subst IsQueryKept (ok_same (record read { is_every = true }) after h) (record { group = kept.group; targets = kept.targets; columns = kept.columns }))
    (λ h. column_read (string text) read after h kept)
select_read (array (item value rest)) read after reads kept = columns_read (item value rest) read after reads kept
select_read (array no_items) read after reads kept = absurd (no_fault after (not_under (codes "@select") (array no_items)) reads)
select_read (object members) read after reads kept = absurd (no_fault after (not_under (codes "@select") (object members)) reads)
select_read null read after reads kept = absurd (no_fault after (not_under (codes "@select") null) reads)
select_read (boolean value) read after reads kept = absurd (no_fault after (not_under (codes "@select") (boolean value)) reads)
select_read (number value) read after reads kept = absurd (no_fault after (not_under (codes "@select") (number value)) reads)

-- ---- members

distinct_read : (value : Data) (read after : OpenQuery) → read_distinct value read ≡ Ok after → IsQueryKept read → IsQueryKept after
distinct_read (boolean value) read after reads kept =
    subst IsQueryKept (ok_same (record read { distinct = value }) after reads) (record { group = kept.group; targets = kept.targets; columns = kept.columns })
distinct_read (array items) read after reads kept = absurd (no_fault after (not_under (codes "@distinct") (array items)) reads)
distinct_read (object members) read after reads kept = absurd (no_fault after (not_under (codes "@distinct") (object members)) reads)
distinct_read null read after reads kept = absurd (no_fault after (not_under (codes "@distinct") null) reads)
distinct_read (string text) read after reads kept = absurd (no_fault after (not_under (codes "@distinct") (string text)) reads)
distinct_read (number value) read after reads kept = absurd (no_fault after (not_under (codes "@distinct") (number value)) reads)

-- a mark is set
mark_on : (group : OpenGroup) → ReadsOn group (with_group_names group (marked group.names))
mark_on group = names_on group (marked group.names)
    (record { more = []; named = sym (append-nil group.names.named); hidden = omega arith; fresh = omega arith })
    (λ kept. record { differ = kept.differ; known = length-replicate (length group.names.named) false; limit = kept.limit })

group_read : (context : ContextValue) (value : Data) (read after : OpenQuery) → read_group context value read ≡ Ok after → IsQueryKept read → IsQueryKept after
group_read context value read after reads kept =
    let begun = with_group_names read.group (marked read.group.names) in
    made_is IsQueryKept (read_where context value begun) _ after reads
    (λ group found. group_on read group (more_and_more read.group begun group (mark_on read.group) (where_read context value begun group found)) kept)

part_read : (context : ContextValue) (key : List ℕ) (value : Data) (read after : OpenQuery) → read_part context key value read ≡ Ok after → IsQueryKept read → IsQueryKept after
part_read context key value read after reads kept =
    either_is (IsQueryKept after) (is_same key (codes "@context")) _ _ after reads
    (λ h. subst IsQueryKept (ok_same read after h) kept)
    (λ h. either_is (IsQueryKept after) (is_same key (codes "@describe")) _ _ after h
    (λ h. describe_read context value read after h kept)
    (λ h. either_is (IsQueryKept after) (is_same key (codes "@distinct")) _ _ after h
    (λ h. distinct_read value read after h kept)
    (λ h. either_is (IsQueryKept after) (is_same key (codes "@limit")) _ _ after h
    (λ h. made_is IsQueryKept (read_count key value) _ after h (λ count found. record { group = kept.group; targets = kept.targets; columns = kept.columns }))
    (λ h. either_is (IsQueryKept after) (is_same key (codes "@offset")) _ _ after h
    (λ h. made_is IsQueryKept (read_count key value) _ after h (λ count found. record { group = kept.group; targets = kept.targets; columns = kept.columns }))
    (λ h. either_is (IsQueryKept after) (is_same key (codes "@select")) _ _ after h
    (λ h. select_read value read after h kept)
    (λ h. either_is (IsQueryKept after) (is_same key (codes "@where")) _ _ after h
    (λ h. group_read context value read after h kept)
    (λ h. absurd (no_fault after (faults.BadQuery key) h))))))))

pub parts_read : (context : ContextValue) (members : Members) (read after : OpenQuery) → read_parts context members read ≡ Ok after → IsQueryKept read → IsQueryKept after
parts_read context no_members read after reads kept = subst IsQueryKept (ok_same read after reads) kept
parts_read context (member key value rest) read after reads kept =
    followed_is (IsQueryKept after) (read_part context key value read) (read_parts context rest) after reads
    (λ next found more. parts_read context rest next after more (part_read context key value read next found kept))

-- ---- the query

pub begins_kept : IsQueryKept empty_query
begins_kept = record {
  group = record {
    names = record { differ = λ i j d before within. absurd (omega arith); known = refl; limit = omega arith };
    patterns = All-nil (IsPatternOf no_names 0);
    branches = All-nil (All (IsPatternOf no_names 0));
    filters = All-nil (IsFilterOf no_names);
  };
  targets = All-nil (IsTargetOf no_names);
  columns = All-nil (IsColumnOf no_names);
}

module _ (P : ℕ → Type 0) where
  kept_by : (test : ℕ → Bool) (numbers : List ℕ) → All P numbers → All P (filter test numbers)
  kept_by test [] all = all
  kept_by test (variable ∷ rest) all =
      let more = kept_by test rest (All-tail P variable rest all) in
      elim (test variable) as (λ b. All P (cond b (variable ∷ filter test rest) (filter test rest))) [
        | true ↦ All-cons P variable (filter test rest) (All-head P variable rest all) more
        | false ↦ more
      ]

  placed_all : (named : List (List ℕ)) (variable : ℕ) (others : List ℕ) → P variable → All P others → All P (placed named variable others)
  placed_all named variable [] is all = All-cons P variable [] is all
  placed_all named variable (other ∷ rest) is all =
      let more = placed_all named variable rest is (All-tail P other rest all) in
      elim (is_before named variable other) as (λ b. All P (if b then variable ∷ other ∷ rest else other ∷ placed named variable rest)) [
        | true ↦ All-cons P variable (other ∷ rest) is all
        | false ↦ All-cons P other (placed named variable rest) (All-head P other rest all) more
      ]

  pub each_placed_all : (named : List (List ℕ)) (numbers others : List ℕ) → All P numbers → All P others → All P (each_placed named numbers others)
  each_placed_all named [] others all each = each
  each_placed_all named (variable ∷ rest) others all each =
      each_placed_all named rest (placed named variable others) (All-tail P variable rest all) (placed_all named variable others (All-head P variable rest all) each)

range_below : (first count high : ℕ) → first + count ≤ high → All (λ variable. variable < high) (range_with_len first count)
range_below first zero high h = All-nil (λ variable. variable < high)
range_below first (suc count) high h = All-cons (λ variable. variable < high) first (range_with_len (first + 1) count) (omega arith) (range_below (first + 1) count high (omega arith))

every_below : (group : OpenGroup) → All (IsColumnOf group.names) (every_column group)
every_below group =
    let size = length group.names.named in
    each_placed_all (λ variable. variable < size) group.names.named (standing_variables group) []
    (kept_by (λ variable. variable < size) (stands_in group) (range_with_len 0 size) (range_below 0 size size (omega arith)))
    (All-nil (λ variable. variable < size))

pub columns_below : (read : OpenQuery) (every : Bool) → IsQueryKept read → All (IsColumnOf read.group.names) (if every then every_column read.group else read.columns)
columns_below read true kept = every_below read.group
columns_below read false kept = kept.columns

target_within : (names : NamesValue) (target : Target) → IsTargetOf names target → IsTargetWithin (length names.named + names.hidden) target
target_within names (targets.Iri iri) is = tt
target_within names (targets.Var variable) is = omega arith

asked_in_form : (read : OpenQuery) (is_select : Bool) → IsQueryKept read
    → IsAskedInForm (group_of read.group) (if is_select then kinds.Select (select_of read) else kinds.Describe read.targets)
asked_in_form read true kept = columns_below read read.is_every kept
asked_in_form read false kept =
    All-weaker (IsTargetOf read.group.names) (IsTargetWithin (length read.group.names.named + read.group.names.hidden)) (λ target is. target_within read.group.names target is) read.targets kept.targets

query_in_form : (is_select : Bool) (read : OpenQuery) → IsQueryKept read → IsQueryInForm (query_of is_select read)
query_in_form is_select read kept = record {
  group = group_in_form read.group.names read.group.patterns read.group.branches read.group.filters kept.group.names kept.group.patterns kept.group.branches kept.group.filters;
  what = asked_in_form read is_select kept;
}

unless_is : {X : Type 0} (P : X → Type 0) (fault : Option JsonFault) (value x : X) → unless_fault fault value ≡ Ok x → P value → P x
unless_is P None value x reads is = subst P (ok_same value x reads) is
unless_is P (Some fault) value x reads is = absurd (no_fault x fault reads)

under_in_form : (context : ContextValue) (members : Members) (query : Query) → query_under context members ≡ Ok query → IsQueryInForm query
under_in_form context members query reads =
    followed_is (IsQueryInForm query) (read_parts context members empty_query) _ query reads
    (λ read found more. unless_is IsQueryInForm (breach members read) (query_of (has_member (codes "@select") members) read) query more
    (query_in_form (has_member (codes "@select") members) read (parts_read context members empty_query read found begins_kept)))

said_in_form : (domain : List ℕ) (value : Data) (read : ReadQuery) → query_said domain value ≡ Ok read → IsQueryInForm read.query
said_in_form domain (object members) read reads =
    followed_is (IsQueryInForm read.query) (context_said domain members) _ read reads
    (λ context found more. made_is (λ (r : ReadQuery). IsQueryInForm r.query) (query_under context members) _ read more
    (λ query is. under_in_form context members query is))
said_in_form domain (array items) read reads = absurd (no_fault read (not_under [] (array items)) reads)
said_in_form domain null read reads = absurd (no_fault read (not_under [] null) reads)
said_in_form domain (boolean value) read reads = absurd (no_fault read (not_under [] (boolean value)) reads)
said_in_form domain (number value) read reads = absurd (no_fault read (not_under [] (number value)) reads)
said_in_form domain (string text) read reads = absurd (no_fault read (not_under [] (string text)) reads)

pub ok_in_form : (domain : List ℕ) (value : Data) (told : Result ReadQuery JsonFault) → IfOk told (λ read. query_said domain value ≡ Ok read)
    → IfOk told (λ read. IsQueryInForm read.query)
ok_in_form domain value (Ok read) is = said_in_form domain value read is
ok_in_form domain value (Err fault) is = tt
