-- What is meant by a query that was read.
use Rattle.std.proofs.Common.{◌≡◌, ◌∙◌, ◌⊎◌, ℕ, suc, ◌+◌, ◌-◌, ◌<◌, List, [], ◌∷◌, Bool, true, false, ◌&&◌, ◌||◌, not, nat_lt, length, map, cond, Option, Some, None, Result, Ok, Err, IfOk, refl, sym, ap, subst, inl, inr, ⊎_elim, true≢false, if◌then◌else◌, ltb-false, arith}
use Rattle.std.specs.Prelude.{All, Any, codes}
use Rattle.std.specs.List.{filter, list_any, range_with_len}
use Rattle.std.specs.Option.{option_or}
use Rattle.std.proofs.lemmas.Bool.Decides.{eqb_tells}
use Rattle.std.proofs.lemmas.List.Elements.{All-nil, All-cons, All-head, All-tail}
use Rattle.jrql_ast.specs.InForm.{variable_limit}
use Rattle.jrql_ast.specs.declared.patterns.PatternTriple.{PatternTriple}
use Rattle.jrql_ast.specs.declared.patterns.Slot.{Slot}
use Rattle.jrql_ast.specs.declared.patterns.Slot.TheVariants as slots
use Rattle.jrql_ast.specs.declared.queries.Query.{Query}
use Rattle.serde_json.specs.Data.{Data, null, boolean, number, string, array, object, Members}
use Rattle.jsonld_context.specs.Context.{ContextValue}
use Rattle.jsonld_context.specs.ContextReading.{unless_fault}
use Rattle.jsonld_context.specs.declared.faults.JsonFault.{JsonFault}
use Rattle.jsonld_context.specs.declared.faults.JsonFault.TheVariants as faults
use Rattle.jsonld_subjects.specs.jsonld_values.Numbering.{numbered_slot, numbered_triple, numbered_triples}
use Rattle.jsonld_subjects.specs.jsonld_values.ValueObjects.{has_member}
use Rattle.jsonld_subjects.proofs.KeptNames.{ok_same, no_fault, made_is, followed_is}
use Rattle.jrql_patterns.specs.OpenGroups.{OpenGroup, group_of, not_under}
use Rattle.jrql_patterns.specs.QueryReading.{OpenQuery, empty_query, read_parts, is_variable_slot, has_variable, is_among, stands_in, standing_variables, misses_columns, fault_where, breaks_describe, breaks_rows, has_kind, breaks_select, breaks_where, breach, every_column, asked_of, query_of, query_under, context_said, query_said, json_of}
use Rattle.jrql_patterns.specs.QueryMeaning.{HasOneTarget, IsOfItsForm, LacksModifiers, HasVariable, StandsInGroup, HasColumnsInGroup, MeansQuery}
use Rattle.jrql_patterns.specs.declared.queries.ReadQuery.{ReadQuery}
use Rattle.jrql_patterns.proofs.KeptQueries.{IsQueryKept, begins_kept, parts_read, columns_below, each_placed_all}

-- ---- no rule of several keys is broken

some_none : {X : Type 0} (x : X) → ◌≡◌ {A = Option X} (Some x) None → ⊥
some_none x h = cc

pub nothing_told : {X : Type 0} (fault : Option JsonFault) (value x : X) → unless_fault fault value ≡ Ok x → (fault ≡ None) × (value ≡ x)
nothing_told None value x reads = (refl, ok_same value x reads)
nothing_told (Some fault) value x reads = absurd (no_fault x fault reads)

pub neither_told : (first second : Option JsonFault) → option_or first second ≡ None → (first ≡ None) × (second ≡ None)
neither_told None second h = (refl, h)
neither_told (Some fault) second h = absurd (some_none fault h)

pub not_told : (broken : Bool) (key : List ℕ) → fault_where broken key ≡ None → broken ≡ false
not_told true key h = absurd (some_none (faults.BadQuery key) h)
not_told false key h = refl

record IsUnbroken (members : Members) (read : OpenQuery) : Type 0 where
  distinct : breaks_rows members (codes "@distinct") ≡ false
  limit : breaks_rows members (codes "@limit") ≡ false
  offset : breaks_rows members (codes "@offset") ≡ false
  select : breaks_select members read ≡ false
  matched : breaks_where members read ≡ false

unbroken : (members : Members) (read : OpenQuery) → breach members read ≡ None → IsUnbroken members read
unbroken members read h =
    let describe = neither_told (fault_where (breaks_describe members read) (codes "@describe")) _ h in
    let distinct = neither_told (fault_where (breaks_rows members (codes "@distinct")) (codes "@distinct")) _ describe.1 in
    let limit = neither_told (fault_where (breaks_rows members (codes "@limit")) (codes "@limit")) _ distinct.1 in
    let offset = neither_told (fault_where (breaks_rows members (codes "@offset")) (codes "@offset")) _ limit.1 in
    let select = neither_told (fault_where (breaks_select members read) (codes "@select")) _ offset.1 in
    record {
      distinct = not_told (breaks_rows members (codes "@distinct")) (codes "@distinct") distinct.0;
      limit = not_told (breaks_rows members (codes "@limit")) (codes "@limit") limit.0;
      offset = not_told (breaks_rows members (codes "@offset")) (codes "@offset") offset.0;
      select = not_told (breaks_select members read) (codes "@select") select.0;
      matched = not_told (breaks_where members read) (codes "@where") select.1;
    }

-- ---- what that says of the keys

one_kind : (select describe : Bool) → (if select then not describe else describe) ≡ true
    → ((select ≡ true) × (describe ≡ false)) ⊎ ((describe ≡ true) × (select ≡ false))
one_kind true true h = absurd (true≢false (sym h))
one_kind true false h = inl (refl, refl)
one_kind false true h = inr (refl, refl)
one_kind false false h = absurd (true≢false (sym h))

both_kept : (kind missed : Bool) → (not kind || missed) ≡ false → (kind ≡ true) × (missed ≡ false)
both_kept true missed h = (refl, h)
both_kept false missed h = absurd (true≢false h)

is_matched : (matched select asked : Bool) → (not matched && (select || asked)) ≡ false → select ≡ true → matched ≡ true
is_matched true select asked h is = refl
is_matched false true asked h is = absurd (true≢false h)
is_matched false false asked h is = absurd (true≢false (sym is))

pub none_missed : (matched missed : Bool) → (matched && missed) ≡ false → matched ≡ true → missed ≡ false
none_missed true missed h is = h
none_missed false missed h is = absurd (true≢false (sym is))

is_lacking : (key describe select : Bool) → (key && describe && not select) ≡ false → describe ≡ true → select ≡ false → key ≡ false
is_lacking false describe select h is other = refl
is_lacking true true true h is other = absurd (true≢false other)
is_lacking true true false h is other = absurd (true≢false h)
is_lacking true false select h is other = absurd (true≢false (sym is))

module _ (members : Members) (read : OpenQuery) (whole : IsUnbroken members read) where
  one_target : HasOneTarget members
  one_target =
      one_kind (has_member (codes "@select") members) (has_member (codes "@describe") members) (both_kept (has_kind members) _ whole.select).0

  no_select : has_member (codes "@describe") members ≡ true → has_member (codes "@select") members ≡ false
  no_select is = ⊎_elim (λ select. absurd (true≢false (sym is ∙ select.1))) (λ describe. describe.1) one_target

  a_describe : has_member (codes "@select") members ≡ false → has_member (codes "@describe") members ≡ true
  a_describe is = ⊎_elim (λ select. absurd (true≢false (sym select.0 ∙ is))) (λ describe. describe.0) one_target

  modifiers : has_member (codes "@describe") members ≡ true → LacksModifiers members
  modifiers is =
      let describe = has_member (codes "@describe") members in
      let select = has_member (codes "@select") members in
      record {
        distinct = is_lacking (has_member (codes "@distinct") members) describe select whole.distinct is (no_select is);
        offset = is_lacking (has_member (codes "@offset") members) describe select whole.offset is (no_select is);
        limit = is_lacking (has_member (codes "@limit") members) describe select whole.limit is (no_select is);
      }

  matched : has_member (codes "@select") members ≡ true → has_member (codes "@where") members ≡ true
  matched is = is_matched (has_member (codes "@where") members) (has_member (codes "@select") members) _ whole.matched is

  form : (is_select : Bool) → has_member (codes "@select") members ≡ is_select → IsOfItsForm members (asked_of is_select read)
  form true is = (is, matched is)
  form false is = a_describe is

  not_missed : has_member (codes "@select") members ≡ true → misses_columns read ≡ false
  not_missed is = none_missed (has_member (codes "@where") members) (misses_columns read) (both_kept (has_kind members) _ whole.select).1 (matched is)

-- ---- columns

either_passes : (one other : Bool) → (one || other) ≡ true → (one ≡ true) ⊎ (other ≡ true)
either_passes true other h = inl refl
either_passes false other h = inr h

neither_passes : (one other : Bool) → (one || other) ≡ false → (one ≡ false) × (other ≡ false)
neither_passes true other h = absurd (true≢false h)
neither_passes false other h = (refl, h)

not_false : (b : Bool) → not b ≡ false → b ≡ true
not_false true h = refl
not_false false h = absurd (true≢false h)

-- what a test finds is found in what the list is turned into
found_in : {X Y : Type 0} (test : X → Bool) (P : Y → Type 0) (turned : X → Y) → ((x : X) → test x ≡ true → P (turned x)) → (xs : List X) → list_any test xs ≡ true
    → Any P (map turned xs)
found_in test P turned each [] h = absurd (true≢false (sym h))
found_in test P turned each (x ∷ xs) h =
    ⊎_elim (λ first. (0, turned x, omega arith, refl, each x first))
    (λ later. let found = found_in test P turned each xs later in let within = found.2 in (suc found.0, found.1, omega arith, found.3, found.4))
    (either_passes (test x) (list_any test xs) h)

-- a named variable keeps its number
low_number : (named variable : ℕ) (low : Bool) → nat_lt variable variable_limit ≡ low → variable < variable_limit
    → (if low then variable else named + (variable - variable_limit)) ≡ variable
low_number named variable true low h = refl
low_number named variable false low h = let over = ltb-false variable variable_limit low in absurd (omega arith)

slot_is : (variable : ℕ) (slot : Slot) → is_variable_slot variable slot ≡ true → slot ≡ slots.Var variable
slot_is variable (slots.Var other) h =
    ⊎_elim (λ same. ap (λ n. slots.Var n) same.1) (λ differs. absurd (true≢false (sym h ∙ differs.0))) (eqb_tells other variable)
slot_is variable (slots.Term term) h = absurd (true≢false (sym h))
slot_is variable (slots.Fresh subject) h = absurd (true≢false (sym h))

module _ (named variable : ℕ) (low : variable < variable_limit) where
  slot_stays : (slot : Slot) → is_variable_slot variable slot ≡ true → numbered_slot named slot ≡ slots.Var variable
  slot_stays slot h =
      ap (numbered_slot named) (slot_is variable slot h) ∙ ap (λ n. slots.Var n) (low_number named variable (nat_lt variable variable_limit) refl low)

  triple_has : (triple : PatternTriple) → has_variable variable triple ≡ true → HasVariable variable (numbered_triple named triple)
  triple_has triple h =
      let s = is_variable_slot variable triple.s in
      let p = is_variable_slot variable triple.p in
      let o = is_variable_slot variable triple.o in
      ⊎_elim (λ front. ⊎_elim (λ is. inl (slot_stays triple.s is)) (λ is. inr (inl (slot_stays triple.p is))) (either_passes s p front))
      (λ is. inr (inr (slot_stays triple.o is))) (either_passes (s || p) o h)

  triples_have : (triples : List PatternTriple) → list_any (has_variable variable) triples ≡ true → Any (HasVariable variable) (map (numbered_triple named) triples)
  triples_have triples h = found_in (has_variable variable) (HasVariable variable) (numbered_triple named) triple_has triples h

stands_still : (group : OpenGroup) (variable : ℕ) → variable < variable_limit → stands_in group variable ≡ true → StandsInGroup (group_of group) variable
stands_still group variable low h =
    let named = length group.names.named in
    ⊎_elim (λ is. inl (triples_have named variable low group.patterns is))
    (λ is. inr (found_in (list_any (has_variable variable)) (Any (HasVariable variable)) (numbered_triples group.names) (triples_have named variable low) group.branches is))
    (either_passes (list_any (has_variable variable) group.patterns) (list_any (list_any (has_variable variable)) group.branches) h)

-- what is kept by a test passes it
kept_at : (test : ℕ → Bool) (first : ℕ) (kept : List ℕ) (passes : Bool) → test first ≡ passes → All (λ n. test n ≡ true) kept
    → All (λ n. test n ≡ true) (cond passes (first ∷ kept) kept)
kept_at test first kept true is all = All-cons (λ n. test n ≡ true) first kept is all
kept_at test first kept false is all = all

kept_pass : (test : ℕ → Bool) (numbers : List ℕ) → All (λ n. test n ≡ true) (filter test numbers)
kept_pass test [] = All-nil (λ n. test n ≡ true)
kept_pass test (first ∷ rest) = kept_at test first (filter test rest) (test first) refl (kept_pass test rest)

-- what is among others is one of them
one_of : (P : ℕ → Type 0) (others : List ℕ) (variable : ℕ) → is_among others variable ≡ true → All P others → P variable
one_of P [] variable h all = absurd (true≢false (sym h))
one_of P (other ∷ rest) variable h all =
    ⊎_elim (λ same. subst P same.1 (All-head P other rest all))
    (λ differs. one_of P rest variable (sym (ap (λ b. b || is_among rest variable) differs.0) ∙ h) (All-tail P other rest all))
    (eqb_tells other variable)

-- where none is missed, each is one of them
each_among : (P : ℕ → Type 0) (others columns : List ℕ) → All P others → list_any (λ variable. not (is_among others variable)) columns ≡ false → All P columns
each_among P others [] all h = All-nil P
each_among P others (variable ∷ rest) all h =
    let parts = neither_passes (not (is_among others variable)) (list_any (λ variable. not (is_among others variable)) rest) h in
    All-cons P variable rest (one_of P others variable (not_false (is_among others variable) parts.0) all) (each_among P others rest all parts.1)

columns_stand : (read : OpenQuery) (every : Bool) → misses_columns read ≡ false
    → All (λ variable. stands_in read.group variable ≡ true) (if every then every_column read.group else read.columns)
columns_stand read true h =
    let stands : ℕ → Type 0 = λ variable. stands_in read.group variable ≡ true in
    each_placed_all stands read.group.names.named (standing_variables read.group) []
    (kept_pass (stands_in read.group) (range_with_len 0 (length read.group.names.named))) (All-nil stands)
columns_stand read false h =
    each_among (λ variable. stands_in read.group variable ≡ true) (standing_variables read.group) read.columns
    (kept_pass (stands_in read.group) (range_with_len 0 (length read.group.names.named))) h

columns_in_group : (read : OpenQuery) (is_select : Bool) → IsQueryKept read → (is_select ≡ true → misses_columns read ≡ false)
    → HasColumnsInGroup (group_of read.group) (asked_of is_select read)
columns_in_group read true kept found =
    let stand = columns_stand read read.is_every (found refl) in
    let below = columns_below read read.is_every kept in
    let limit = kept.group.names.limit in
    λ place other within.
    let named = below place other within in
    stands_still read.group _ (omega arith) (stand place other within)
columns_in_group read false kept found = tt

-- ---- a text

means : (bytes : List ℕ) (members : Members) (read : OpenQuery) → json_of bytes ≡ Ok (object members) → IsUnbroken members read → IsQueryKept read
    → MeansQuery bytes (query_of (has_member (codes "@select") members) read)
means bytes members read text whole kept = record {
  members = members;
  text = text;
  one_target = one_target members read whole;
  form = form members read whole (has_member (codes "@select") members) refl;
  modifiers = modifiers members read whole;
  columns = columns_in_group read (has_member (codes "@select") members) kept (not_missed members read whole);
}

under_means : (bytes : List ℕ) (context : ContextValue) (members : Members) (query : Query) → json_of bytes ≡ Ok (object members)
    → query_under context members ≡ Ok query → MeansQuery bytes query
under_means bytes context members query text reads =
    followed_is (MeansQuery bytes query) (read_parts context members empty_query) _ query reads
    (λ read found more.
    let told = nothing_told (breach members read) (query_of (has_member (codes "@select") members) read) query more in
    subst (MeansQuery bytes) told.1 (means bytes members read text (unbroken members read told.0) (parts_read context members empty_query read found begins_kept)))

said_means : (bytes domain : List ℕ) (value : Data) (read : ReadQuery) → json_of bytes ≡ Ok value → query_said domain value ≡ Ok read → MeansQuery bytes read.query
said_means bytes domain (object members) read text reads =
    followed_is (MeansQuery bytes read.query) (context_said domain members) _ read reads
    (λ context found more. made_is (λ (r : ReadQuery). MeansQuery bytes r.query) (query_under context members) _ read more
    (λ query is. under_means bytes context members query text is))
said_means bytes domain (array items) read text reads = absurd (no_fault read (not_under [] (array items)) reads)
said_means bytes domain null read text reads = absurd (no_fault read (not_under [] null) reads)
said_means bytes domain (boolean value) read text reads = absurd (no_fault read (not_under [] (boolean value)) reads)
said_means bytes domain (number value) read text reads = absurd (no_fault read (not_under [] (number value)) reads)
said_means bytes domain (string other) read text reads = absurd (no_fault read (not_under [] (string other)) reads)

pub ok_means : (bytes domain : List ℕ) (value : Data) (told : Result ReadQuery JsonFault) → json_of bytes ≡ Ok value → IfOk told (λ read. query_said domain value ≡ Ok read)
    → IfOk told (λ read. MeansQuery bytes read.query)
ok_means bytes domain value (Ok read) text is = said_means bytes domain value read text is
ok_means bytes domain value (Err fault) text is = tt
