-- What is meant by an update that was read.
use Rattle.std.proofs.Common.{◌≡◌, ◌∙◌, ◌⊎◌, ℕ, zero, suc, ◌+◌, ◌<◌, List, [], Bool, true, false, ◌&&◌, not, Result, Ok, Err, IfOk, refl, sym, ap, subst, inl, inr, ⊎_elim, true≢false, if◌then◌else◌, arith}
use Rattle.std.specs.Prelude.{codes}
use Rattle.std.proofs.lemmas.Bool.Decides.{Decides-ltb}
use Rattle.jrql_ast.specs.declared.plans.UpdatePlan.{UpdatePlan}
use Rattle.rdf_terms.specs.Literal.{is_same}
use Rattle.serde_json.specs.Data.{Data, null, boolean, number, string, array, object, Members, no_members, member}
use Rattle.jsonld_context.specs.Context.{ContextValue}
use Rattle.jsonld_context.specs.declared.faults.JsonFault.{JsonFault}
use Rattle.jsonld_context.specs.declared.faults.JsonFault.TheVariants as faults
use Rattle.jsonld_context.proofs.TextLaws.{same}
use Rattle.jrql_patterns.specs.jsonld_values.ValueObjects.{has_member}
use Rattle.jrql_patterns.specs.jsonld_subjects.OwnSubjects.{missing_ids}
use Rattle.jrql_patterns.specs.jsonld_subjects.SubjectReading.{subjects_read}
use Rattle.jrql_patterns.specs.jsonld_subjects.declared.places.Place.TheVariants.{Pattern, Insert}
use Rattle.jrql_patterns.proofs.of_jsonld_subjects.KeptNames.{ok_same, no_fault, made_is, followed_is, either_is, subjects_keep}
use Rattle.jrql_patterns.proofs.of_jsonld_subjects.OwnSubjects.{either_so, subjects_own}
use Rattle.jrql_patterns.specs.OpenGroups.{not_under}
use Rattle.jrql_patterns.specs.QueryReading.{context_said, fault_where, json_of}
use Rattle.jrql_patterns.specs.WhereReading.{read_where}
use Rattle.jrql_patterns.proofs.KeptGroups.{where_read}
use Rattle.jrql_patterns.proofs.MeantQueries.{nothing_told, neither_told, not_told, none_missed}
use Rattle.jrql_patterns.proofs.NoFresh.{where_same}
use Rattle.jrql_update.specs.UpdateReading.{OpenUpdate, empty_update, with_deletes, with_inserts, with_where, read_deleted, read_inserted, read_matched, read_clause, read_clauses, breaks_delete, breaks_insert, update_breach, plan_said, is_subject_alone, members_beside, update_under, update_said}
use Rattle.jrql_update.specs.UpdateMeaning.{HasClause, missing_at, MeansUpdate}

-- ---- subjects of `@delete`

-- a subject without an id was found in `@delete`
record IsHiding (read : OpenUpdate) : Type 0 where
  told : read.has_hidden ≡ true
  some : 0 < read.group.names.hidden

deleted_hides : (context : ContextValue) (value : Data) (read after : OpenUpdate) → read_deleted context value read ≡ Ok after
    → 0 < read.group.names.hidden + missing_ids value → IsHiding after
deleted_hides context value read after reads some =
    made_is IsHiding (subjects_read context Pattern read.group.names value) (with_deletes read) after reads
    (λ found is.
    let count = (subjects_own context Pattern read.group.names value found is).count in
    let more : 0 < found.names.hidden = omega arith in
    record { told = (Decides-ltb 0 found.names.hidden).1 more; some = more })

clause_hides : (context : ContextValue) (key : List ℕ) (value : Data) (read after : OpenUpdate) → read_clause context key value read ≡ Ok after → IsHiding read → IsHiding after
clause_hides context key value read after reads hides =
    let some = hides.some in
    either_is (IsHiding after) (is_same key (codes "@context")) _ _ after reads (λ h. subst IsHiding (ok_same read after h) hides)
    (λ other. either_is (IsHiding after) (is_same key (codes "@delete")) _ _ after other (λ h. deleted_hides context value read after h (omega arith))
    (λ other. either_is (IsHiding after) (is_same key (codes "@insert")) _ _ after other
    (λ h. made_is IsHiding (subjects_read context Insert read.group.names value) (with_inserts read) after h
    (λ found is. let kept = (subjects_keep context Insert read.group.names value found is).met.place_kept in record { told = hides.told; some = omega arith }))
    (λ other. either_is (IsHiding after) (is_same key (codes "@where")) _ _ after other
    (λ h. made_is IsHiding (read_where context value read.group) (with_where read) after h
    (λ group is. let more = (where_read context value read.group group is).grown.hidden in record { told = hides.told; some = omega arith }))
    (λ h. absurd (no_fault after (faults.BadQuery key) h)))))

clauses_hide : (context : ContextValue) (members : Members) (read after : OpenUpdate) → read_clauses context members read ≡ Ok after → IsHiding read → IsHiding after
clauses_hide context no_members read after reads hides = subst IsHiding (ok_same read after reads) hides
clauses_hide context (member key value rest) read after reads hides =
    followed_is (IsHiding after) (read_clause context key value read) (read_clauses context rest) after reads
    (λ next found more. clauses_hide context rest next after more (clause_hides context key value read next found hides))

-- a key isn't another
other_key : (key one other : List ℕ) → is_same key one ≡ true → is_same one other ≡ false → is_same key other ≡ false
other_key key one other is differ = ap (λ (k : List ℕ). is_same k other) (same key one is) ∙ differ

-- a subject without an id is found, or there is none under the key
found_or_none : (context : ContextValue) (value : Data) (read after : OpenUpdate) (missing : ℕ) → missing_ids value ≡ missing → read_deleted context value read ≡ Ok after
    → IsHiding after ⊎ (missing ≡ 0)
found_or_none context value read after zero is reads = inr refl
found_or_none context value read after (suc n) is reads = inl (deleted_hides context value read after reads (omega arith))

clause_finds : (context : ContextValue) (key : List ℕ) (value : Data) (read after : OpenUpdate) (deletes : Bool) → is_same key (codes "@delete") ≡ deletes
    → read_clause context key value read ≡ Ok after → IsHiding after ⊎ ((if deletes then missing_ids value else 0) ≡ 0)
clause_finds context key value read after false is reads = inr refl
clause_finds context key value read after true is reads =
    let P = IsHiding after ⊎ (missing_ids value ≡ 0) in
    either_so P (is_same key (codes "@context")) _ _ after reads
    (λ context_key h. absurd (true≢false (sym is ∙ other_key key (codes "@context") (codes "@delete") context_key refl)))
    (λ other next. either_so P (is_same key (codes "@delete")) _ _ after next
    (λ delete_key h. found_or_none context value read after (missing_ids value) refl h)
    (λ no_delete h. absurd (true≢false (sym is ∙ no_delete))))

none_hidden : (context : ContextValue) (members : Members) (read after : OpenUpdate) → read_clauses context members read ≡ Ok after → after.has_hidden ≡ false
    → missing_at (codes "@delete") members ≡ 0
none_hidden context no_members read after reads none = refl
none_hidden context (member key value rest) read after reads none =
    followed_is (missing_at (codes "@delete") (member key value rest) ≡ 0) (read_clause context key value read) (read_clauses context rest) after reads
    (λ next found more.
    let later = none_hidden context rest next after more none in
    ⊎_elim (λ hides. absurd (true≢false (sym (clauses_hide context rest next after more hides).told ∙ none))) (λ first. omega arith)
    (clause_finds context key value read next (is_same key (codes "@delete")) refl found))

-- ---- fresh subjects

-- so many were met
record HasMetFresh (before after : OpenUpdate) (more : ℕ) : Type 0 where
  count : after.group.names.fresh ≡ before.group.names.fresh + more

inserted_fresh : (context : ContextValue) (value : Data) (read after : OpenUpdate) → read_inserted context value read ≡ Ok after → HasMetFresh read after (missing_ids value)
inserted_fresh context value read after reads =
    made_is (λ (a : OpenUpdate). HasMetFresh read a (missing_ids value)) (subjects_read context Insert read.group.names value) (with_inserts read) after reads
    (λ found is. record { count = (subjects_own context Insert read.group.names value found is).count })

deleted_fresh : (context : ContextValue) (value : Data) (read after : OpenUpdate) → read_deleted context value read ≡ Ok after → HasMetFresh read after 0
deleted_fresh context value read after reads =
    made_is (λ (a : OpenUpdate). HasMetFresh read a 0) (subjects_read context Pattern read.group.names value) (with_deletes read) after reads
    (λ found is. let kept = (subjects_keep context Pattern read.group.names value found is).met.place_kept in record { count = omega arith })

matched_fresh : (context : ContextValue) (value : Data) (read after : OpenUpdate) → read_matched context value read ≡ Ok after → HasMetFresh read after 0
matched_fresh context value read after reads =
    made_is (λ (a : OpenUpdate). HasMetFresh read a 0) (read_where context value read.group) (with_where read) after reads
    (λ group is. let kept = where_same context value read.group group is in record { count = omega arith })

none_fresh : (read : OpenUpdate) → HasMetFresh read read 0
none_fresh read = record { count = omega arith }

-- what is met under a key
met_under : (read after : OpenUpdate) (key : List ℕ) (value : Data) (inserts : Bool) → is_same key (codes "@insert") ≡ inserts
    → HasMetFresh read after (if inserts then missing_ids value else 0) → HasMetFresh read after (if is_same key (codes "@insert") then missing_ids value else 0)
met_under read after key value inserts is met = subst (λ (b : Bool). HasMetFresh read after (if b then missing_ids value else 0)) (sym is) met

clause_fresh : (context : ContextValue) (key : List ℕ) (value : Data) (read after : OpenUpdate) → read_clause context key value read ≡ Ok after
    → HasMetFresh read after (if is_same key (codes "@insert") then missing_ids value else 0)
clause_fresh context key value read after reads =
    let P = HasMetFresh read after (if is_same key (codes "@insert") then missing_ids value else 0) in
    either_so P (is_same key (codes "@context")) _ _ after reads
    (λ is h. met_under read after key value false (other_key key (codes "@context") (codes "@insert") is refl)
    (subst (λ (a : OpenUpdate). HasMetFresh read a 0) (ok_same read after h) (none_fresh read)))
    (λ other next. either_so P (is_same key (codes "@delete")) _ _ after next
    (λ is h. met_under read after key value false (other_key key (codes "@delete") (codes "@insert") is refl) (deleted_fresh context value read after h))
    (λ other next. either_so P (is_same key (codes "@insert")) _ _ after next
    (λ is h. met_under read after key value true is (inserted_fresh context value read after h))
    (λ other next. either_so P (is_same key (codes "@where")) _ _ after next
    (λ is h. met_under read after key value false other (matched_fresh context value read after h))
    (λ other h. absurd (no_fault after (faults.BadQuery key) h)))))

clauses_fresh : (context : ContextValue) (members : Members) (read after : OpenUpdate) → read_clauses context members read ≡ Ok after
    → HasMetFresh read after (missing_at (codes "@insert") members)
clauses_fresh context no_members read after reads = subst (λ (a : OpenUpdate). HasMetFresh read a 0) (ok_same read after reads) (none_fresh read)
clauses_fresh context (member key value rest) read after reads =
    followed_is (HasMetFresh read after (missing_at (codes "@insert") (member key value rest))) (read_clause context key value read) (read_clauses context rest) after reads
    (λ next found more.
    let one = (clause_fresh context key value read next found).count in
    let others = (clauses_fresh context rest next after more).count in
    record { count = omega arith })

-- ---- a text

alone_unmatched : (deletes inserts matched selects describes : Bool) → (not deletes && not inserts && not matched && not selects && not describes) ≡ true → matched ≡ false
alone_unmatched true inserts matched selects describes h = absurd (true≢false (sym h))
alone_unmatched false true matched selects describes h = absurd (true≢false (sym h))
alone_unmatched false false true selects describes h = absurd (true≢false (sym h))
alone_unmatched false false false selects describes h = refl

one_clause : (deletes inserts : Bool) → (not deletes && not inserts) ≡ false → (deletes ≡ true) ⊎ (inserts ≡ true)
one_clause true inserts h = inl refl
one_clause false true h = inr refl
one_clause false false h = absurd (true≢false h)

module _ (bytes : List ℕ) (members : Members) (text : json_of bytes ≡ Ok (object members)) where
  means : (plan : UpdatePlan) (alone : Bool) → is_subject_alone members ≡ alone → HasClause members
      → (has_member (codes "@where") members ≡ true → missing_at (codes "@delete") members ≡ 0)
      → plan.fresh ≡ (if alone then missing_ids (object (members_beside (codes "@context") members)) else missing_at (codes "@insert") members)
      → MeansUpdate bytes plan
  means plan alone is clause deletes fresh = record {
    members = members;
    text = text;
    clause = clause;
    deletes = deletes;
    fresh = subst (λ (b : Bool). plan.fresh ≡ (if b then missing_ids (object (members_beside (codes "@context") members)) else missing_at (codes "@insert") members)) (sym is) fresh;
  }

  alone_means : (read : OpenUpdate) → is_subject_alone members ≡ true → HasMetFresh empty_update read (missing_ids (object (members_beside (codes "@context") members)))
      → MeansUpdate bytes (plan_said false read)
  alone_means read is met =
      let count = met.count in
      let unmatched = alone_unmatched (has_member (codes "@delete") members) (has_member (codes "@insert") members) (has_member (codes "@where") members)
      (has_member (codes "@select") members) (has_member (codes "@describe") members) is in
      means (plan_said false read) true is (inl is) (λ matched. absurd (true≢false (sym matched ∙ unmatched))) (omega arith)

  clauses_mean : (context : ContextValue) (read : OpenUpdate) → is_subject_alone members ≡ false → read_clauses context members empty_update ≡ Ok read
      → breaks_delete members read ≡ false → breaks_insert members ≡ false → MeansUpdate bytes (plan_said (has_member (codes "@where") members) read)
  clauses_mean context read is reads deletes inserts =
      let count = (clauses_fresh context members empty_update read reads).count in
      means (plan_said (has_member (codes "@where") members) read) false is
      (inr (one_clause (has_member (codes "@delete") members) (has_member (codes "@insert") members) inserts))
      (λ matched. none_hidden context members empty_update read reads (none_missed (has_member (codes "@where") members) read.has_hidden deletes matched))
      (omega arith)

  under_means : (context : ContextValue) (plan : UpdatePlan) → update_under context members ≡ Ok plan → MeansUpdate bytes plan
  under_means context plan reads =
      either_so (MeansUpdate bytes plan) (is_subject_alone members) _ _ plan reads
      (λ is h. made_is (MeansUpdate bytes) (read_inserted context (object (members_beside (codes "@context") members)) empty_update) (plan_said false) plan h
      (λ read found. alone_means read is (inserted_fresh context (object (members_beside (codes "@context") members)) empty_update read found)))
      (λ is h. followed_is (MeansUpdate bytes plan) (read_clauses context members empty_update) _ plan h
      (λ read found more.
      let told = nothing_told (update_breach members read) (plan_said (has_member (codes "@where") members) read) plan more in
      let parts = neither_told (fault_where (breaks_delete members read) (codes "@delete")) (fault_where (breaks_insert members) (codes "@insert")) told.0 in
      subst (MeansUpdate bytes) told.1
      (clauses_mean context read is found (not_told (breaks_delete members read) (codes "@delete") parts.0) (not_told (breaks_insert members) (codes "@insert") parts.1))))

said_means : (bytes domain : List ℕ) (value : Data) (plan : UpdatePlan) → json_of bytes ≡ Ok value → update_said domain value ≡ Ok plan → MeansUpdate bytes plan
said_means bytes domain (object members) plan text reads =
    followed_is (MeansUpdate bytes plan) (context_said domain members) _ plan reads
    (λ context found more. under_means bytes members text context plan more)
said_means bytes domain (array items) plan text reads = absurd (no_fault plan (not_under [] (array items)) reads)
said_means bytes domain null plan text reads = absurd (no_fault plan (not_under [] null) reads)
said_means bytes domain (boolean value) plan text reads = absurd (no_fault plan (not_under [] (boolean value)) reads)
said_means bytes domain (number value) plan text reads = absurd (no_fault plan (not_under [] (number value)) reads)
said_means bytes domain (string other) plan text reads = absurd (no_fault plan (not_under [] (string other)) reads)

pub ok_means : (bytes domain : List ℕ) (value : Data) (told : Result UpdatePlan JsonFault) → json_of bytes ≡ Ok value → IfOk told (λ plan. update_said domain value ≡ Ok plan)
    → IfOk told (λ plan. MeansUpdate bytes plan)
ok_means bytes domain value (Ok plan) text is = said_means bytes domain value plan text is
ok_means bytes domain value (Err fault) text is = tt
