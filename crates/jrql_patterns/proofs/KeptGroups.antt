-- What is read of a group keeps to the names that are met.
use Rattle.std.proofs.Common.{◌≡◌, List, [], ◌∷◌, true, Option, Some, None, IfSome, Result, Ok, subst, arith}
use Rattle.std.specs.Prelude.{codes}
use Rattle.std.specs.List.{All}
use Rattle.std.specs.Option.{option_map_or}
use Rattle.std.proofs.lemmas.List.Elements.{All-append, All-push, All-weaker}
use Rattle.jrql_ast.specs.declared.patterns.Compare.{Compare}
use Rattle.jrql_ast.specs.declared.patterns.Filter.{Filter}
use Rattle.jrql_ast.specs.declared.patterns.PatternTriple.{PatternTriple}
use Rattle.jrql_ast.specs.declared.patterns.Slot.{Slot}
use Rattle.serde_json.specs.Data.{Data, null, boolean, number, string, array, object, Items, no_items, item, Members, no_members, member}
use Rattle.jsonld_context.specs.Context.{ContextValue}
use Rattle.jsonld_context.specs.declared.faults.JsonFault.{JsonFault}
use Rattle.jsonld_context.specs.declared.faults.JsonFault.TheVariants as faults
use Rattle.jsonld_subjects.specs.jsonld_values.Literals.{made_of}
use Rattle.jsonld_subjects.specs.jsonld_values.Numbering.{IsSlotOf, IsPatternOf, IsFilterOf, HasGrown}
use Rattle.jsonld_subjects.specs.jsonld_values.ValueObjects.{has_member}
use Rattle.jsonld_subjects.specs.jsonld_values.VariableNames.{NamesValue, IsNames}
use Rattle.jsonld_subjects.proofs.of_jsonld_values.NumberingLaws.{grown_begins, grown_on, slot_keeps, patterns_keep, filters_keep}
use Rattle.jsonld_subjects.specs.NamesKept.{KeepsToNames}
use Rattle.jsonld_subjects.specs.ObjectReading.{stands_alone, object_read}
use Rattle.jsonld_subjects.specs.SubjectReading.{Found, subjects_read}
use Rattle.jsonld_subjects.specs.declared.places.Place.TheVariants.{Pattern}
use Rattle.jsonld_subjects.proofs.KeptNames.{ok_same, no_fault, made_is, followed_is, either_is, subjects_keep, object_keeps}
use Rattle.jrql_patterns.specs.OpenGroups.{OpenGroup, with_group_names, not_under, has_one}
use Rattle.jrql_patterns.specs.GroupsKept.{ReadsOn}
use Rattle.jrql_patterns.specs.FilterReading.{compare_of, operand_of, read_operand, read_end, read_right, read_sides, with_filter, read_comparison, read_comparisons, unless_several, read_filter}
use Rattle.jrql_patterns.specs.WhereReading.{with_patterns, with_branch, read_branches, read_alternatives, read_union, sole_member, read_condition, read_conditions, read_where}

-- names that were met behind others
record AreMetBehind (before after : NamesValue) : Type 0 where
  grown : HasGrown before after
  still : IsNames before → IsNames after

pub nothing_more : (group : OpenGroup) → ReadsOn group group
nothing_more group = record { grown = grown_begins group.names; kept = λ kept. kept }

pub more_and_more : (first second third : OpenGroup) → ReadsOn first second → ReadsOn second third → ReadsOn first third
more_and_more first second third one two = record {
  grown = grown_on first.names second.names third.names one.grown two.grown;
  kept = λ kept. two.kept (one.kept kept);
}

branches_keep : (before after : NamesValue) (branches : List (List PatternTriple)) → HasGrown before after
    → All (All (IsPatternOf before 0)) branches → All (All (IsPatternOf after 0)) branches
branches_keep before after branches grown all =
    All-weaker (All (IsPatternOf before 0)) (All (IsPatternOf after 0)) (λ branch is. patterns_keep before after 0 0 branch grown (omega arith) is) branches all

-- names grow
pub names_on : (group : OpenGroup) (names : NamesValue) → HasGrown group.names names → (IsNames group.names → IsNames names) → ReadsOn group (with_group_names group names)
names_on group names grown still = record {
  grown = grown;
  kept = λ kept. record {
    names = still kept.names;
    patterns = patterns_keep group.names names 0 0 group.patterns grown (omega arith) kept.patterns;
    branches = branches_keep group.names names group.branches grown kept.branches;
    filters = filters_keep group.names names group.filters grown kept.filters;
  };
}

-- triples are found
patterns_on : (group : OpenGroup) (found : Found) → KeepsToNames Pattern group.names found → ReadsOn group (with_patterns group found)
patterns_on group found keeps = record {
  grown = keeps.met.grown;
  kept = λ kept. let on = (names_on group found.names keeps.met.grown keeps.met.names).kept kept in record {
    names = on.names;
    patterns = All-append (IsPatternOf found.names 0) group.patterns found.triples on.patterns keeps.triples;
    branches = on.branches;
    filters = on.filters;
  };
}

branch_on : (group : OpenGroup) (found : Found) → KeepsToNames Pattern group.names found → ReadsOn group (with_branch group found)
branch_on group found keeps = record {
  grown = keeps.met.grown;
  kept = λ kept. let on = (names_on group found.names keeps.met.grown keeps.met.names).kept kept in record {
    names = on.names;
    patterns = on.patterns;
    branches = All-push (All (IsPatternOf found.names 0)) group.branches found.triples on.branches keeps.triples;
    filters = on.filters;
  };
}

-- ---- filters

-- a side that was met
record IsSideMet (names : NamesValue) (met : NamesValue × Slot) : Type 0 where
  behind : AreMetBehind names met.0
  slot : IsSlotOf met.0 0 met.1

-- a filter that was
record IsFilterMet (names : NamesValue) (met : NamesValue × Filter) : Type 0 where
  behind : AreMetBehind names met.0
  filter : IsFilterOf met.0 met.1

filter_on : (group : OpenGroup) (met : NamesValue × Filter) → IsFilterMet group.names met → ReadsOn group (with_filter group met)
filter_on group met is = record {
  grown = is.behind.grown;
  kept = λ kept. let on = (names_on group met.0 is.behind.grown is.behind.still).kept kept in record {
    names = on.names;
    patterns = on.patterns;
    branches = on.branches;
    filters = All-push (IsFilterOf met.0) group.filters met.1 on.filters is.filter;
  };
}

side_by : (names after : NamesValue) (triples : List PatternTriple) (slot : Option Slot) (met : NamesValue × Slot) → AreMetBehind names after → IfSome slot (IsSlotOf after 0)
    → operand_of after triples slot ≡ Ok met → IsSideMet names met
side_by names after [] (Some slot) met behind is reads = subst (IsSideMet names) (ok_same (after, slot) met reads) (record { behind = behind; slot = is })
side_by names after [] None met behind is reads = absurd (no_fault met (faults.BadQuery (codes "@filter")) reads)
side_by names after (triple ∷ rest) slot met behind is reads = absurd (no_fault met (faults.BadQuery (codes "@filter")) reads)

side_read : (context : ContextValue) (names : NamesValue) (value : Data) (met : NamesValue × Slot) → read_operand context names value ≡ Ok met → IsSideMet names met
side_read context names value met reads =
    either_is (IsSideMet names met) (stands_alone value) _ _ met reads
    (λ h. followed_is (IsSideMet names met) (object_read context Pattern names value) _ met h
    (λ read found side. let keeps = object_keeps context Pattern names value read found in
    side_by names read.found.names read.found.triples read.object met (record { grown = keeps.found.met.grown; still = keeps.found.met.names }) keeps.object side))
    (λ h. absurd (no_fault met (faults.BadQuery (codes "@filter")) h))

end_read : (filter : Filter) (names : NamesValue) (items : Items) (met : NamesValue × Filter) → read_end filter names items ≡ Ok met → (names, filter) ≡ met
end_read filter names no_items met reads = ok_same (names, filter) met reads
end_read filter names (item value rest) met reads = absurd (no_fault met (not_under (codes "@filter") value) reads)

-- both sides
both_met : (names : NamesValue) (compare : Compare) (left right : NamesValue × Slot) → IsSideMet names left → IsSideMet left.0 right
    → IsFilterMet names (right.0, record { op = compare; left = left.1; right = right.1 })
both_met names compare left right one two = record {
  behind = record {
    grown = grown_on names left.0 right.0 one.behind.grown two.behind.grown;
    still = λ kept. two.behind.still (one.behind.still kept);
  };
  filter = record { left = slot_keeps left.0 right.0 0 0 left.1 two.behind.grown (omega arith) one.slot; right = two.slot };
}

right_read : (context : ContextValue) (compare : Compare) (names : NamesValue) (left : NamesValue × Slot) (items : Items) (met : NamesValue × Filter) → IsSideMet names left
    → read_right context compare left items ≡ Ok met → IsFilterMet names met
right_read context compare names left no_items met one reads = absurd (no_fault met (faults.BadQuery (codes "@filter")) reads)
right_read context compare names left (item value rest) met one reads =
    followed_is (IsFilterMet names met) (read_operand context left.0 value) _ met reads
    (λ right found ends. subst (IsFilterMet names) (end_read (record { op = compare; left = left.1; right = right.1 }) right.0 rest met ends)
    (both_met names compare left right one (side_read context left.0 value right found)))

sides_read : (context : ContextValue) (compare : Compare) (names : NamesValue) (value : Data) (met : NamesValue × Filter) → read_sides context compare names value ≡ Ok met → IsFilterMet names met
sides_read context compare names (array (item value rest)) met reads =
    followed_is (IsFilterMet names met) (read_operand context names value) _ met reads
    (λ left found right. right_read context compare names left rest met (side_read context names value left found) right)
sides_read context compare names (array no_items) met reads = absurd (no_fault met (not_under (codes "@filter") (array no_items)) reads)
sides_read context compare names null met reads = absurd (no_fault met (not_under (codes "@filter") null) reads)
sides_read context compare names (boolean value) met reads = absurd (no_fault met (not_under (codes "@filter") (boolean value)) reads)
sides_read context compare names (number value) met reads = absurd (no_fault met (not_under (codes "@filter") (number value)) reads)
sides_read context compare names (string text) met reads = absurd (no_fault met (not_under (codes "@filter") (string text)) reads)
sides_read context compare names (object members) met reads = absurd (no_fault met (not_under (codes "@filter") (object members)) reads)

comparison_read : (context : ContextValue) (compare : Option Compare) (value : Data) (group after : OpenGroup) → read_comparison context compare value group ≡ Ok after → ReadsOn group after
comparison_read context None value group after reads = absurd (no_fault after (faults.BadQuery (codes "@filter")) reads)
comparison_read context (Some compare) value group after reads =
    made_is (ReadsOn group) (read_sides context compare group.names value) (with_filter group) after reads
    (λ met found. filter_on group met (sides_read context compare group.names value met found))

comparisons_read : (context : ContextValue) (members : Members) (group after : OpenGroup) → read_comparisons context members group ≡ Ok after → ReadsOn group after
comparisons_read context no_members group after reads = subst (ReadsOn group) (ok_same group after reads) (nothing_more group)
comparisons_read context (member key value rest) group after reads =
    followed_is (ReadsOn group after) (read_comparison context (compare_of key) value group) (read_comparisons context rest) after reads
    (λ next found more. more_and_more group next after (comparison_read context (compare_of key) value group next found) (comparisons_read context rest next after more))

pub one_alone : (members : Members) (read after : OpenGroup) → unless_several members read ≡ Ok after → read ≡ after
one_alone members read after reads =
    either_is (read ≡ after) (has_one members) _ _ after reads
    (λ h. ok_same read after h)
    (λ h. absurd (no_fault after (faults.BadQuery (codes "@filter")) h))

filter_read : (context : ContextValue) (value : Data) (group after : OpenGroup) → read_filter context value group ≡ Ok after → ReadsOn group after
filter_read context (object members) group after reads =
    either_is (ReadsOn group after) (has_member (codes "@context") members) _ _ after reads
    (λ h. absurd (no_fault after (faults.BadQuery (codes "@filter")) h))
    (λ h. followed_is (ReadsOn group after) (read_comparisons context members group) (unless_several members) after h
    (λ read found alone. subst (ReadsOn group) (one_alone members read after alone) (comparisons_read context members group read found)))
filter_read context (array items) group after reads = absurd (no_fault after (not_under (codes "@filter") (array items)) reads)
filter_read context null group after reads = absurd (no_fault after (not_under (codes "@filter") null) reads)
filter_read context (boolean value) group after reads = absurd (no_fault after (not_under (codes "@filter") (boolean value)) reads)
filter_read context (number value) group after reads = absurd (no_fault after (not_under (codes "@filter") (number value)) reads)
filter_read context (string text) group after reads = absurd (no_fault after (not_under (codes "@filter") (string text)) reads)

-- ---- unions

branches_read : (context : ContextValue) (items : Items) (group after : OpenGroup) → read_branches context items group ≡ Ok after → ReadsOn group after
branches_read context no_items group after reads = subst (ReadsOn group) (ok_same group after reads) (nothing_more group)
branches_read context (item value rest) group after reads =
    followed_is (ReadsOn group after) (made_of (subjects_read context Pattern group.names value) (with_branch group)) (read_branches context rest) after reads
    (λ next read more. more_and_more group next after
    (made_is (ReadsOn group) (subjects_read context Pattern group.names value) (with_branch group) next read
    (λ found is. branch_on group found (subjects_keep context Pattern group.names value found is)))
    (branches_read context rest next after more))

united_on : (group : OpenGroup) → ReadsOn group (record group { is_united = true })
united_on group = record {
  grown = grown_begins group.names;
  kept = λ kept. record { names = kept.names; patterns = kept.patterns; branches = kept.branches; filters = kept.filters };
}

alternatives_read : (context : ContextValue) (value : Data) (group after : OpenGroup) → read_alternatives context value group ≡ Ok after → ReadsOn group after
alternatives_read context (array items) group after reads =
    more_and_more group (record group { is_united = true }) after (united_on group) (branches_read context items (record group { is_united = true }) after reads)
alternatives_read context (object members) group after reads = absurd (no_fault after (not_under (codes "@union") (object members)) reads)
alternatives_read context null group after reads = absurd (no_fault after (not_under (codes "@union") null) reads)
alternatives_read context (boolean value) group after reads = absurd (no_fault after (not_under (codes "@union") (boolean value)) reads)
alternatives_read context (number value) group after reads = absurd (no_fault after (not_under (codes "@union") (number value)) reads)
alternatives_read context (string text) group after reads = absurd (no_fault after (not_under (codes "@union") (string text)) reads)

union_read : (context : ContextValue) (value : Data) (group after : OpenGroup) → read_union context value group ≡ Ok after → ReadsOn group after
union_read context value group after reads =
    either_is (ReadsOn group after) group.is_united _ _ after reads
    (λ h. absurd (no_fault after (faults.BadQuery (codes "@union")) h))
    (λ h. alternatives_read context value group after h)

-- ---- `@where`

-- one of two ways, by whether there is a value
pub where_some : {X Y : Type 0} (P : Type 0) (o : Option X) (next : X → Result Y JsonFault) (other : Result Y JsonFault) (y : Y) → option_map_or next o other ≡ Ok y
    → ((x : X) → next x ≡ Ok y → P) → (other ≡ Ok y → P) → P
where_some P (Some x) next other y reads first second = first x reads
where_some P None next other y reads first second = second reads

condition_read : (context : ContextValue) (value : Data) (group after : OpenGroup) → read_condition context value group ≡ Ok after → ReadsOn group after
condition_read context (object members) group after reads =
    where_some (ReadsOn group after) (sole_member (codes "@filter") members) _ _ after reads
    (λ value h. filter_read context value group after h)
    (λ h. where_some (ReadsOn group after) (sole_member (codes "@union") members) _ _ after h
    (λ value k. union_read context value group after k)
    (λ k. made_is (ReadsOn group) (subjects_read context Pattern group.names (object members)) (with_patterns group) after k
    (λ found is. patterns_on group found (subjects_keep context Pattern group.names (object members) found is))))
condition_read context (array items) group after reads = absurd (no_fault after (faults.BadSubject []) reads)
condition_read context null group after reads = absurd (no_fault after (faults.BadSubject []) reads)
condition_read context (boolean value) group after reads = absurd (no_fault after (faults.BadSubject []) reads)
condition_read context (number value) group after reads = absurd (no_fault after (faults.BadSubject []) reads)
condition_read context (string text) group after reads = absurd (no_fault after (faults.BadSubject []) reads)

conditions_read : (context : ContextValue) (items : Items) (group after : OpenGroup) → read_conditions context items group ≡ Ok after → ReadsOn group after
conditions_read context no_items group after reads = subst (ReadsOn group) (ok_same group after reads) (nothing_more group)
conditions_read context (item value rest) group after reads =
    followed_is (ReadsOn group after) (read_condition context value group) (read_conditions context rest) after reads
    (λ next found more. more_and_more group next after (condition_read context value group next found) (conditions_read context rest next after more))

pub where_read : (context : ContextValue) (value : Data) (group after : OpenGroup) → read_where context value group ≡ Ok after → ReadsOn group after
unfolding read_where
where_read context (object members) group after reads = condition_read context (object members) group after reads
where_read context (array items) group after reads = conditions_read context items group after reads
where_read context null group after reads = absurd (no_fault after (not_under (codes "@where") null) reads)
where_read context (boolean value) group after reads = absurd (no_fault after (not_under (codes "@where") (boolean value)) reads)
where_read context (number value) group after reads = absurd (no_fault after (not_under (codes "@where") (number value)) reads)
where_read context (string text) group after reads = absurd (no_fault after (not_under (codes "@where") (string text)) reads)
