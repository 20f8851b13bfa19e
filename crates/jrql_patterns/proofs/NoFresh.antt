-- What is read of a group meets no fresh subject.
use Rattle.std.proofs.Common.{◌≡◌, ◌∙◌, List, [], ◌∷◌, true, Option, Some, None, Ok, refl, subst}
use Rattle.std.specs.Prelude.{codes}
use Rattle.jrql_ast.specs.declared.patterns.Compare.{Compare}
use Rattle.jrql_ast.specs.declared.patterns.Filter.{Filter}
use Rattle.jrql_ast.specs.declared.patterns.PatternTriple.{PatternTriple}
use Rattle.jrql_ast.specs.declared.patterns.Slot.{Slot}
use Rattle.serde_json.specs.Data.{Data, null, boolean, number, string, array, object, Items, no_items, item, Members, no_members, member}
use Rattle.jsonld_context.specs.Context.{ContextValue}
use Rattle.jsonld_context.specs.declared.faults.JsonFault.TheVariants as faults
use Rattle.jsonld_subjects.specs.jsonld_values.Literals.{made_of}
use Rattle.jsonld_subjects.specs.jsonld_values.ValueObjects.{has_member}
use Rattle.jsonld_subjects.specs.jsonld_values.VariableNames.{NamesValue}
use Rattle.jsonld_subjects.specs.ObjectReading.{stands_alone, object_read}
use Rattle.jsonld_subjects.specs.SubjectReading.{subjects_read}
use Rattle.jsonld_subjects.specs.declared.places.Place.TheVariants.{Pattern}
use Rattle.jsonld_subjects.proofs.KeptNames.{ok_same, no_fault, made_is, followed_is, either_is, subjects_keep, object_keeps}
use Rattle.jrql_patterns.specs.OpenGroups.{OpenGroup, not_under}
use Rattle.jrql_patterns.specs.FilterReading.{compare_of, operand_of, read_operand, read_end, read_right, read_sides, with_filter, read_comparison, read_comparisons, unless_several, read_filter}
use Rattle.jrql_patterns.specs.WhereReading.{with_patterns, with_branch, read_branches, read_alternatives, read_union, sole_member, read_condition, read_conditions, read_where}
use Rattle.jrql_patterns.proofs.KeptGroups.{where_some, one_alone}

abbrev SameFresh : NamesValue → NamesValue → Type 0
SameFresh before after = after.fresh ≡ before.fresh

abbrev SameIn : OpenGroup → OpenGroup → Type 0
SameIn before after = SameFresh before.names after.names

-- ---- filters

side_by : (names after : NamesValue) (triples : List PatternTriple) (slot : Option Slot) (met : NamesValue × Slot) → SameFresh names after
    → operand_of after triples slot ≡ Ok met → SameFresh names met.0
side_by names after [] (Some slot) met same reads = subst (λ (m : NamesValue × Slot). SameFresh names m.0) (ok_same (after, slot) met reads) same
side_by names after [] None met same reads = absurd (no_fault met (faults.BadQuery (codes "@filter")) reads)
side_by names after (triple ∷ rest) slot met same reads = absurd (no_fault met (faults.BadQuery (codes "@filter")) reads)

side_same : (context : ContextValue) (names : NamesValue) (value : Data) (met : NamesValue × Slot) → read_operand context names value ≡ Ok met → SameFresh names met.0
side_same context names value met reads =
    either_is (SameFresh names met.0) (stands_alone value) _ _ met reads
    (λ h. followed_is (SameFresh names met.0) (object_read context Pattern names value) _ met h
    (λ read found side. side_by names read.found.names read.found.triples read.object met (object_keeps context Pattern names value read found).found.met.place_kept side))
    (λ h. absurd (no_fault met (faults.BadQuery (codes "@filter")) h))

end_same : (filter : Filter) (names : NamesValue) (items : Items) (met : NamesValue × Filter) → read_end filter names items ≡ Ok met → SameFresh names met.0
end_same filter names no_items met reads = subst (λ (m : NamesValue × Filter). SameFresh names m.0) (ok_same (names, filter) met reads) refl
end_same filter names (item value rest) met reads = absurd (no_fault met (not_under (codes "@filter") value) reads)

right_same : (context : ContextValue) (compare : Compare) (left : NamesValue × Slot) (items : Items) (met : NamesValue × Filter)
    → read_right context compare left items ≡ Ok met → SameFresh left.0 met.0
right_same context compare left no_items met reads = absurd (no_fault met (faults.BadQuery (codes "@filter")) reads)
right_same context compare left (item value rest) met reads =
    followed_is (SameFresh left.0 met.0) (read_operand context left.0 value) _ met reads
    (λ right found ends. end_same (record { op = compare; left = left.1; right = right.1 }) right.0 rest met ends ∙ side_same context left.0 value right found)

sides_same : (context : ContextValue) (compare : Compare) (names : NamesValue) (value : Data) (met : NamesValue × Filter) → read_sides context compare names value ≡ Ok met
    → SameFresh names met.0
sides_same context compare names (array (item value rest)) met reads =
    followed_is (SameFresh names met.0) (read_operand context names value) _ met reads
    (λ left found right. right_same context compare left rest met right ∙ side_same context names value left found)
sides_same context compare names (array no_items) met reads = absurd (no_fault met (not_under (codes "@filter") (array no_items)) reads)
sides_same context compare names null met reads = absurd (no_fault met (not_under (codes "@filter") null) reads)
sides_same context compare names (boolean value) met reads = absurd (no_fault met (not_under (codes "@filter") (boolean value)) reads)
sides_same context compare names (number value) met reads = absurd (no_fault met (not_under (codes "@filter") (number value)) reads)
sides_same context compare names (string text) met reads = absurd (no_fault met (not_under (codes "@filter") (string text)) reads)
sides_same context compare names (object members) met reads = absurd (no_fault met (not_under (codes "@filter") (object members)) reads)

comparison_same : (context : ContextValue) (compare : Option Compare) (value : Data) (group after : OpenGroup) → read_comparison context compare value group ≡ Ok after
    → SameIn group after
comparison_same context None value group after reads = absurd (no_fault after (faults.BadQuery (codes "@filter")) reads)
comparison_same context (Some compare) value group after reads =
    made_is (SameIn group) (read_sides context compare group.names value) (with_filter group) after reads
    (λ met found. sides_same context compare group.names value met found)

comparisons_same : (context : ContextValue) (members : Members) (group after : OpenGroup) → read_comparisons context members group ≡ Ok after → SameIn group after
comparisons_same context no_members group after reads = subst (SameIn group) (ok_same group after reads) refl
comparisons_same context (member key value rest) group after reads =
    followed_is (SameIn group after) (read_comparison context (compare_of key) value group) (read_comparisons context rest) after reads
    (λ next found more. comparisons_same context rest next after more ∙ comparison_same context (compare_of key) value group next found)

filter_same : (context : ContextValue) (value : Data) (group after : OpenGroup) → read_filter context value group ≡ Ok after → SameIn group after
filter_same context (object members) group after reads =
    either_is (SameIn group after) (has_member (codes "@context") members) _ _ after reads
    (λ h. absurd (no_fault after (faults.BadQuery (codes "@filter")) h))
    (λ h. followed_is (SameIn group after) (read_comparisons context members group) (unless_several members) after h
    (λ read found alone. subst (SameIn group) (one_alone members read after alone) (comparisons_same context members group read found)))
filter_same context (array items) group after reads = absurd (no_fault after (not_under (codes "@filter") (array items)) reads)
filter_same context null group after reads = absurd (no_fault after (not_under (codes "@filter") null) reads)
filter_same context (boolean value) group after reads = absurd (no_fault after (not_under (codes "@filter") (boolean value)) reads)
filter_same context (number value) group after reads = absurd (no_fault after (not_under (codes "@filter") (number value)) reads)
filter_same context (string text) group after reads = absurd (no_fault after (not_under (codes "@filter") (string text)) reads)

-- ---- unions

branches_same : (context : ContextValue) (items : Items) (group after : OpenGroup) → read_branches context items group ≡ Ok after → SameIn group after
branches_same context no_items group after reads = subst (SameIn group) (ok_same group after reads) refl
branches_same context (item value rest) group after reads =
    followed_is (SameIn group after) (made_of (subjects_read context Pattern group.names value) (with_branch group)) (read_branches context rest) after reads
    (λ next read more. branches_same context rest next after more
    ∙ made_is (SameIn group) (subjects_read context Pattern group.names value) (with_branch group) next read
    (λ found is. (subjects_keep context Pattern group.names value found is).met.place_kept))

alternatives_same : (context : ContextValue) (value : Data) (group after : OpenGroup) → read_alternatives context value group ≡ Ok after → SameIn group after
alternatives_same context (array items) group after reads = branches_same context items (record group { is_united = true }) after reads
alternatives_same context (object members) group after reads = absurd (no_fault after (not_under (codes "@union") (object members)) reads)
alternatives_same context null group after reads = absurd (no_fault after (not_under (codes "@union") null) reads)
alternatives_same context (boolean value) group after reads = absurd (no_fault after (not_under (codes "@union") (boolean value)) reads)
alternatives_same context (number value) group after reads = absurd (no_fault after (not_under (codes "@union") (number value)) reads)
alternatives_same context (string text) group after reads = absurd (no_fault after (not_under (codes "@union") (string text)) reads)

union_same : (context : ContextValue) (value : Data) (group after : OpenGroup) → read_union context value group ≡ Ok after → SameIn group after
union_same context value group after reads =
    either_is (SameIn group after) group.is_united _ _ after reads
    (λ h. absurd (no_fault after (faults.BadQuery (codes "@union")) h))
    (λ h. alternatives_same context value group after h)

-- ---- `@where`

condition_same : (context : ContextValue) (value : Data) (group after : OpenGroup) → read_condition context value group ≡ Ok after → SameIn group after
condition_same context (object members) group after reads =
    where_some (SameIn group after) (sole_member (codes "@filter") members) _ _ after reads
    (λ value h. filter_same context value group after h)
    (λ h. where_some (SameIn group after) (sole_member (codes "@union") members) _ _ after h
    (λ value k. union_same context value group after k)
    (λ k. made_is (SameIn group) (subjects_read context Pattern group.names (object members)) (with_patterns group) after k
    (λ found is. (subjects_keep context Pattern group.names (object members) found is).met.place_kept)))
condition_same context (array items) group after reads = absurd (no_fault after (faults.BadSubject []) reads)
condition_same context null group after reads = absurd (no_fault after (faults.BadSubject []) reads)
condition_same context (boolean value) group after reads = absurd (no_fault after (faults.BadSubject []) reads)
condition_same context (number value) group after reads = absurd (no_fault after (faults.BadSubject []) reads)
condition_same context (string text) group after reads = absurd (no_fault after (faults.BadSubject []) reads)

conditions_same : (context : ContextValue) (items : Items) (group after : OpenGroup) → read_conditions context items group ≡ Ok after → SameIn group after
conditions_same context no_items group after reads = subst (SameIn group) (ok_same group after reads) refl
conditions_same context (item value rest) group after reads =
    followed_is (SameIn group after) (read_condition context value group) (read_conditions context rest) after reads
    (λ next found more. conditions_same context rest next after more ∙ condition_same context value group next found)

pub where_same : (context : ContextValue) (value : Data) (group after : OpenGroup) → read_where context value group ≡ Ok after → after.names.fresh ≡ group.names.fresh
unfolding read_where
where_same context (object members) group after reads = condition_same context (object members) group after reads
where_same context (array items) group after reads = conditions_same context items group after reads
where_same context null group after reads = absurd (no_fault after (not_under (codes "@where") null) reads)
where_same context (boolean value) group after reads = absurd (no_fault after (not_under (codes "@where") (boolean value)) reads)
where_same context (number value) group after reads = absurd (no_fault after (not_under (codes "@where") (number value)) reads)
where_same context (string text) group after reads = absurd (no_fault after (not_under (codes "@where") (string text)) reads)
