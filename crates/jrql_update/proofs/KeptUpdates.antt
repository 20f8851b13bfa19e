-- The plan of an update that was read is in form.
use Rattle.std.proofs.Common.{◌≡◌, ℕ, List, [], ◌++◌, Bool, true, false, ◌&&◌, not, Option, Some, None, Result, Ok, Err, IfOk, subst, if◌then◌else◌, arith}
use Rattle.std.specs.Prelude.{codes}
use Rattle.std.specs.List.{All}
use Rattle.std.proofs.lemmas.List.Elements.{All-nil, All-append}
use Rattle.jrql_ast.specs.InForm.{IsPlanInForm}
use Rattle.jrql_ast.specs.declared.plans.UpdatePlan.{UpdatePlan}
use Rattle.rdf_terms.specs.Literal.{is_same}
use Rattle.serde_json.specs.Data.{Data, null, boolean, number, string, array, object, Members, no_members, member}
use Rattle.jsonld_context.specs.Context.{ContextValue}
use Rattle.jsonld_context.specs.ContextReading.{unless_fault}
use Rattle.jsonld_context.specs.declared.faults.JsonFault.{JsonFault}
use Rattle.jsonld_context.specs.declared.faults.JsonFault.TheVariants as faults
use Rattle.jrql_patterns.specs.jsonld_values.Numbering.{IsPatternOf, IsFilterOf, plan_read}
use Rattle.jrql_patterns.specs.jsonld_values.ValueObjects.{has_member}
use Rattle.jrql_patterns.specs.jsonld_values.VariableNames.{no_names}
use Rattle.jrql_patterns.proofs.of_jsonld_values.NumberingLaws.{none_named, patterns_keep, plan_in_form}
use Rattle.jrql_patterns.specs.jsonld_subjects.NamesKept.{KeepsToNames}
use Rattle.jrql_patterns.specs.jsonld_subjects.SubjectReading.{Found, subjects_read}
use Rattle.jrql_patterns.specs.jsonld_subjects.declared.places.Place.TheVariants.{Pattern, Insert}
use Rattle.jrql_patterns.proofs.of_jsonld_subjects.KeptNames.{ok_same, no_fault, made_is, followed_is, either_is, subjects_keep}
use Rattle.jrql_patterns.specs.OpenGroups.{OpenGroup, with_group_names, group_of, not_under}
use Rattle.jrql_patterns.specs.GroupsKept.{IsGroupKept, ReadsOn}
use Rattle.jrql_patterns.specs.QueryReading.{context_said}
use Rattle.jrql_patterns.specs.WhereReading.{read_where}
use Rattle.jrql_patterns.proofs.KeptGroups.{names_on, where_read}
use Rattle.jrql_update.specs.UpdateReading.{OpenUpdate, empty_update, with_deletes, with_inserts, with_where, read_deleted, read_inserted, read_matched, read_clause, read_clauses, update_breach, plan_said, is_subject_alone, members_beside, update_under, update_said}

-- what was read of an update has the variables that were met, and fresh subjects in its inserts alone
record IsUpdateKept (read : OpenUpdate) : Type 0 where
  group : IsGroupKept read.group
  deletes : All (IsPatternOf read.group.names 0) read.deletes
  inserts : All (IsPatternOf read.group.names read.group.names.fresh) read.inserts

begins_kept : IsUpdateKept empty_update
begins_kept = record {
  group = record {
    names = none_named;
    patterns = All-nil (IsPatternOf no_names 0);
    branches = All-nil (All (IsPatternOf no_names 0));
    filters = All-nil (IsFilterOf no_names);
  };
  deletes = All-nil (IsPatternOf no_names 0);
  inserts = All-nil (IsPatternOf no_names 0);
}

-- ---- members

-- more of the group was read
group_on : (read : OpenUpdate) (group : OpenGroup) → ReadsOn read.group group → IsUpdateKept read → IsUpdateKept (with_where read group)
group_on read group on kept = record {
  group = on.kept kept.group;
  deletes = patterns_keep read.group.names group.names 0 0 read.deletes on.grown (omega arith) kept.deletes;
  inserts = patterns_keep read.group.names group.names read.group.names.fresh group.names.fresh read.inserts on.grown on.grown.fresh kept.inserts;
}

deletes_put : (read : OpenUpdate) (found : Found) → KeepsToNames Pattern read.group.names found → IsUpdateKept read → IsUpdateKept (with_deletes read found)
deletes_put read found keeps kept =
    let on = group_on read (with_group_names read.group found.names) (names_on read.group found.names keeps.met.grown keeps.met.names) kept in
    record { group = on.group; deletes = keeps.triples; inserts = on.inserts }

inserts_put : (read : OpenUpdate) (found : Found) → KeepsToNames Insert read.group.names found → IsUpdateKept read → IsUpdateKept (with_inserts read found)
inserts_put read found keeps kept =
    let on = group_on read (with_group_names read.group found.names) (names_on read.group found.names keeps.met.grown keeps.met.names) kept in
    record { group = on.group; deletes = on.deletes; inserts = keeps.triples }

deleted_read : (context : ContextValue) (value : Data) (read after : OpenUpdate) → read_deleted context value read ≡ Ok after → IsUpdateKept read → IsUpdateKept after
deleted_read context value read after reads kept =
    made_is IsUpdateKept (subjects_read context Pattern read.group.names value) (with_deletes read) after reads
    (λ found is. deletes_put read found (subjects_keep context Pattern read.group.names value found is) kept)

inserted_read : (context : ContextValue) (value : Data) (read after : OpenUpdate) → read_inserted context value read ≡ Ok after → IsUpdateKept read → IsUpdateKept after
inserted_read context value read after reads kept =
    made_is IsUpdateKept (subjects_read context Insert read.group.names value) (with_inserts read) after reads
    (λ found is. inserts_put read found (subjects_keep context Insert read.group.names value found is) kept)

matched_read : (context : ContextValue) (value : Data) (read after : OpenUpdate) → read_matched context value read ≡ Ok after → IsUpdateKept read → IsUpdateKept after
matched_read context value read after reads kept =
    made_is IsUpdateKept (read_where context value read.group) (with_where read) after reads
    (λ group is. group_on read group (where_read context value read.group group is) kept)

clause_read : (context : ContextValue) (key : List ℕ) (value : Data) (read after : OpenUpdate) → read_clause context key value read ≡ Ok after → IsUpdateKept read → IsUpdateKept after
clause_read context key value read after reads kept =
    let P = IsUpdateKept after in
    either_is P (is_same key (codes "@context")) _ _ after reads (λ h. subst IsUpdateKept (ok_same read after h) kept)
    (λ other. either_is P (is_same key (codes "@delete")) _ _ after other (λ h. deleted_read context value read after h kept)
    (λ other. either_is P (is_same key (codes "@insert")) _ _ after other (λ h. inserted_read context value read after h kept)
    (λ other. either_is P (is_same key (codes "@where")) _ _ after other
    (λ h. matched_read context value read after h kept)
    (λ h. absurd (no_fault after (faults.BadQuery key) h)))))

clauses_read : (context : ContextValue) (members : Members) (read after : OpenUpdate) → read_clauses context members read ≡ Ok after → IsUpdateKept read → IsUpdateKept after
clauses_read context no_members read after reads kept = subst IsUpdateKept (ok_same read after reads) kept
clauses_read context (member key value rest) read after reads kept =
    followed_is (IsUpdateKept after) (read_clause context key value read) (read_clauses context rest) after reads
    (λ next found more. clauses_read context rest next after more (clause_read context key value read next found kept))

-- ---- the plan

plan_kept : (has_where : Bool) (read : OpenUpdate) → IsUpdateKept read → IsPlanInForm (plan_said has_where read)
plan_kept has_where read kept = by (not has_where && read.has_variables)
  where
    by : (b : Bool) → IsPlanInForm (plan_read read.group.names (group_of (if b then record read.group { patterns = read.group.patterns ++ read.deletes } else read.group)) read.deletes read.inserts)
    by true =
        plan_in_form read.group.names (read.group.patterns ++ read.deletes) read.deletes read.inserts read.group.branches read.group.filters kept.group.names
        (All-append (IsPatternOf read.group.names 0) read.group.patterns read.deletes kept.group.patterns kept.deletes)
        kept.group.branches kept.group.filters kept.deletes kept.inserts
    by false =
        plan_in_form read.group.names read.group.patterns read.deletes read.inserts read.group.branches read.group.filters kept.group.names
        kept.group.patterns kept.group.branches kept.group.filters kept.deletes kept.inserts

unless_is : {X : Type 0} (P : X → Type 0) (fault : Option JsonFault) (value x : X) → unless_fault fault value ≡ Ok x → P value → P x
unless_is P None value x reads is = subst P (ok_same value x reads) is
unless_is P (Some fault) value x reads is = absurd (no_fault x fault reads)

under_in_form : (context : ContextValue) (members : Members) (plan : UpdatePlan) → update_under context members ≡ Ok plan → IsPlanInForm plan
under_in_form context members plan reads =
    either_is (IsPlanInForm plan) (is_subject_alone members) _ _ plan reads
    (λ h. made_is IsPlanInForm (read_inserted context (object (members_beside (codes "@context") members)) empty_update) (plan_said false) plan h
    (λ read found. plan_kept false read (inserted_read context _ empty_update read found begins_kept)))
    (λ h. followed_is (IsPlanInForm plan) (read_clauses context members empty_update) _ plan h
    (λ read found more. unless_is IsPlanInForm (update_breach members read) (plan_said (has_member (codes "@where") members) read) plan more
    (plan_kept (has_member (codes "@where") members) read (clauses_read context members empty_update read found begins_kept))))

said_in_form : (domain : List ℕ) (value : Data) (plan : UpdatePlan) → update_said domain value ≡ Ok plan → IsPlanInForm plan
said_in_form domain (object members) plan reads =
    followed_is (IsPlanInForm plan) (context_said domain members) _ plan reads
    (λ context found more. under_in_form context members plan more)
said_in_form domain (array items) plan reads = absurd (no_fault plan (not_under [] (array items)) reads)
said_in_form domain null plan reads = absurd (no_fault plan (not_under [] null) reads)
said_in_form domain (boolean value) plan reads = absurd (no_fault plan (not_under [] (boolean value)) reads)
said_in_form domain (number value) plan reads = absurd (no_fault plan (not_under [] (number value)) reads)
said_in_form domain (string text) plan reads = absurd (no_fault plan (not_under [] (string text)) reads)

pub ok_in_form : (domain : List ℕ) (value : Data) (told : Result UpdatePlan JsonFault) → IfOk told (λ plan. update_said domain value ≡ Ok plan)
    → IfOk told IsPlanInForm
ok_in_form domain value (Ok plan) is = said_in_form domain value plan is
ok_in_form domain value (Err fault) is = tt
