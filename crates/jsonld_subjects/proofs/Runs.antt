-- Laws of runs of values that stand under one key.
use Rattle.std.proofs.Common.{◌≡◌, ◌≢◌, ◌∙◌, ℕ, suc, ◌+◌, ◌-◌, ◌<◌, Bool, true, false, List, [], ◌∷◌, ◌++◌, map, length, take, drop, get_or, Option, Some, None, codes, if◌then◌else◌, min, refl, sym, ap, subst, inl, inr, arith}
use Rattle.std.proofs.lemmas.Bool.{cases_lt, true≢false}
use Rattle.std.proofs.lemmas.Cmp.{nat_list_cmp_total, on_total, then_total}
use Rattle.std.proofs.lemmas.List.{get_or-take, get_or-drop, length-take, length-take-le, length-drop, take-append-drop}
use Rattle.std.proofs.lemmas.Map.Lookups.{exact_bytes}
use Rattle.std.specs.Cmp.{IsTotalOrder}
use Rattle.std.specs.Cmp.Lexicographic.{slice_cmp}
use Rattle.std.specs.List.Sorted.{IsSorted}
use Rattle.std.specs.Option.{option_map_or}
use Rattle.std.specs.Ordering.{nat_cmp, is_lt, ordering_reverse, ordering_then}
use Rattle.std.specs.declared.cmp.Ordering.{Ordering}
use Rattle.std.specs.declared.cmp.Ordering.TheVariants.{Less, Equal, Greater}
use Rattle.rdf_terms.specs.Literal.{LiteralValue, Typed, Tagged, is_same, xsd_string, xsd_integer}
use Rattle.rdf_terms.specs.ReplyLaws.{reply_total}
use Rattle.rdf_terms.specs.declared.terms.Term.{Term}
use Rattle.rdf_terms.specs.declared.terms.Term.TheVariants as terms
use Rattle.serde_json.specs.Data.{Data, null, boolean, number, string, array, object, Num, Members, no_members, member, put}
use Rattle.jsonld_context.specs.Context.{ContextValue}
use Rattle.jsonld_context.proofs.TextLaws.{same, itself, less_differ}
use Rattle.jsonld_context.specs.Texts.{is_variable}
use Rattle.jsonld_values.specs.Literals.{xsd_boolean}
use Rattle.jsonld_values.specs.TermWriting.{plain_number, literal_data, term_data}
use Rattle.jsonld_subjects.specs.KeyRuns.{EndsFirstRun, data_of_keyed, data_of_run}
use Rattle.jsonld_subjects.specs.SubjectWriting.{KeyedTerm, within_key_cmp, keyed_cmp, data_under, with_value, with_keyed, members_of_keyed}

-- ---- keys

-- the order of keyed values is total
pub keyed_total : IsTotalOrder keyed_cmp
keyed_total = then_total (on_total (λ (keyed : KeyedTerm). keyed.key) nat_list_cmp_total) (on_total (λ (keyed : KeyedTerm). keyed.term) reply_total)

-- of two values in order that have different keys, the first key is below the second
pub key_below : (first second : KeyedTerm) → is_lt (keyed_cmp second first) ≡ false → first.key ≢ second.key → slice_cmp nat_cmp first.key second.key ≡ Less
key_below first second order apart = nat_list_cmp_total.antisymm first.key second.key ∙ turned (slice_cmp nat_cmp second.key first.key) refl order
  where
    turned : (o : Ordering) → slice_cmp nat_cmp second.key first.key ≡ o → is_lt (ordering_then o (within_key_cmp second.term first.term)) ≡ false → ordering_reverse o ≡ Less
    turned Less e h = absurd (true≢false h)
    turned Equal e h = absurd (apart (sym (exact_bytes second.key first.key e)))
    turned Greater e h = refl

-- ---- members

-- a key that is below that of the first member
abbrev pub IsBelowFirst : List ℕ → Members → Type 0
IsBelowFirst key no_members = Unit {0}
IsBelowFirst key (member first value rest) = slice_cmp nat_cmp key first ≡ Less

-- values in front of members
abbrev pub keyed_before : ContextValue → List KeyedTerm → Members → Members
keyed_before context [] behind = behind
keyed_before context (keyed ∷ rest) behind = with_keyed context keyed (keyed_before context rest behind)

-- in front of none they are the members of the values
pub before_none : (context : ContextValue) (values : List KeyedTerm) → keyed_before context values no_members ≡ members_of_keyed context values
before_none context [] = refl
before_none context (keyed ∷ rest) = ap (with_keyed context keyed) (before_none context rest)

-- values in two parts
pub before_append : (context : ContextValue) (values others : List KeyedTerm) (behind : Members)
    → keyed_before context (values ++ others) behind ≡ keyed_before context values (keyed_before context others behind)
before_append context [] others behind = refl
before_append context (keyed ∷ rest) others behind = ap (with_keyed context keyed) (before_append context rest others behind)

-- ---- no array

is_array : Data → Bool
is_array null = false
is_array (boolean value) = false
is_array (number value) = false
is_array (string text) = false
is_array (array items) = true
is_array (object behind) = false

-- one of two values, neither of which is an array
either_no_array : (b : Bool) (value other : Data) → is_array value ≡ false → is_array other ≡ false → is_array (if b then value else other) ≡ false
unfolding is_array
either_no_array true value other h g = h
either_no_array false value other h g = g

integer_no_array : (value : Option Num) (other : Data) → is_array other ≡ false → is_array (option_map_or (λ n. number n) value other) ≡ false
unfolding is_array
integer_no_array None other h = h
integer_no_array (Some n) other h = refl

literal_no_array : (context : ContextValue) (literal : LiteralValue) → is_array (literal_data context literal) ≡ false
unfolding is_array
literal_no_array context (Tagged lexical tag) = refl
literal_no_array context (Typed lexical datatype) =
    either_no_array (is_same datatype xsd_string) _ _
    (either_no_array (is_variable lexical) _ _ refl refl)
    (either_no_array (is_same datatype xsd_boolean) _ _
    (either_no_array (is_same lexical (codes "true")) _ _ refl (either_no_array (is_same lexical (codes "false")) _ _ refl refl))
    (either_no_array (is_same datatype xsd_integer) _ _ (integer_no_array (plain_number lexical) _ refl) refl))

term_no_array : (context : ContextValue) (term : Term) → is_array (term_data context term) ≡ false
unfolding is_array term_data
term_no_array context (terms.Iri iri) = refl
term_no_array context (terms.Literal literal) = literal_no_array context literal

data_no_array : (context : ContextValue) (key : List ℕ) (term : Term) → is_array (data_under context key term) ≡ false
unfolding is_array
data_no_array context key (terms.Iri iri) = either_no_array (is_same key (codes "@type")) _ _ refl (term_no_array context (terms.Iri iri))
data_no_array context key (terms.Literal literal) = term_no_array context (terms.Literal literal)

-- a keyed value is no array
no_array : (context : ContextValue) (keyed : KeyedTerm) → is_array (data_of_keyed context keyed) ≡ false
no_array context keyed = data_no_array context keyed.key keyed.term

-- ---- one key

-- every value of a list is under a key
abbrev pub AreUnder : List ℕ → List KeyedTerm → Type 0
AreUnder key [] = Unit {0}
AreUnder key (keyed ∷ rest) = (keyed.key ≡ key) × AreUnder key rest

-- the values of one key as JSON
abbrev pub run_data : ContextValue → List KeyedTerm → Data
run_data context run = data_of_run (map (data_of_keyed context) run)

-- a value in front of those of its key, of which the last is no array
with_run : (value other : Data) (more : List Data) → is_array other ≡ false → with_value value (data_of_run (other ∷ more)) ≡ data_of_run (value ∷ other ∷ more)
unfolding is_array
with_run value null [] h = refl
with_run value (boolean b) [] h = refl
with_run value (number n) [] h = refl
with_run value (string text) [] h = refl
with_run value (array items) [] h = absurd (true≢false h)
with_run value (object behind) [] h = refl
with_run value other (last ∷ more) h = refl

-- the first value of a key in front of members of others
one_before : (context : ContextValue) (key : List ℕ) (keyed : KeyedTerm) (behind : Members) → keyed.key ≡ key → IsBelowFirst key behind
    → with_keyed context keyed behind ≡ member key (data_of_keyed context keyed) behind
one_before context key keyed no_members is below = ap (λ k. member k (data_of_keyed context keyed) no_members) is
one_before context key keyed (member first value rest) is below =
    let apart : is_same keyed.key first ≡ false = less_differ keyed.key first (subst (λ k. slice_cmp nat_cmp k first ≡ Less) (sym is) below) in
    rw apart (ap (λ k. member k (data_of_keyed context keyed) (member first value rest)) is)

-- one more value of a key that stands in front
more_before : (context : ContextValue) (key : List ℕ) (keyed : KeyedTerm) (value : Data) (behind : Members) → keyed.key ≡ key
    → with_keyed context keyed (member key value behind) ≡ member key (with_value (data_of_keyed context keyed) value) behind
more_before context key keyed value behind is =
    let same : is_same keyed.key key ≡ true = subst (λ k. is_same keyed.key k ≡ true) is (itself keyed.key) in
    rw same refl

-- the values of a key in front of members whose keys are above it are one member more
pub run_before : (context : ContextValue) (key : List ℕ) (keyed : KeyedTerm) (run : List KeyedTerm) (behind : Members) → AreUnder key (keyed ∷ run) → IsBelowFirst key behind
    → keyed_before context (keyed ∷ run) behind ≡ member key (run_data context (keyed ∷ run)) behind
run_before context key keyed [] behind under below = one_before context key keyed behind under.0 below
run_before context key keyed (next ∷ run) behind under below =
    ap (with_keyed context keyed) (run_before context key next run behind under.1 below)
    ∙ more_before context key keyed (run_data context (next ∷ run)) behind under.0
    ∙ ap (λ value. member key value behind) (with_run (data_of_keyed context keyed) (data_of_keyed context next) (map (data_of_keyed context) run) (no_array context next))

-- what is told of each place of a list is told of its values
under_from : (key : List ℕ) (run : List KeyedTerm) → ((at : ℕ) (other : KeyedTerm) → at < length run → (get_or run at other).key ≡ key) → AreUnder key run
under_from key [] same = tt
under_from key (keyed ∷ rest) same = (same 0 keyed (omega arith), under_from key rest (λ at other h. same (suc at) other (omega arith)))

-- ---- the first run of a list

-- the values of a run in front of members, by their first one
run_before_some : (context : ContextValue) (key : List ℕ) (run : List KeyedTerm) (behind : Members) → 0 < length run → AreUnder key run → IsBelowFirst key behind
    → keyed_before context run behind ≡ member key (run_data context run) behind
run_before_some context key [] behind some under below = absurd (omega arith)
run_before_some context key (keyed ∷ run) behind some under below = run_before context key keyed run behind under below

-- a key that is below that of a value is below the first key of members that begin with it
below_keyed : (context : ContextValue) (key : List ℕ) (keyed : KeyedTerm) (members : Members) → slice_cmp nat_cmp key keyed.key ≡ Less → IsBelowFirst key (with_keyed context keyed members)
below_keyed context key keyed no_members less = less
below_keyed context key keyed (member first value rest) less = by (is_same keyed.key first) refl
  where
    by : (b : Bool) → is_same keyed.key first ≡ b
        → IsBelowFirst key (if b then member first (with_value (data_of_keyed context keyed) value) rest else member keyed.key (data_of_keyed context keyed) (member first value rest))
    by true is = subst (λ (other : List ℕ). slice_cmp nat_cmp key other ≡ Less) (same keyed.key first is) less
    by false is = less

below_members : (context : ContextValue) (key : List ℕ) (values : List KeyedTerm) → ((first : KeyedTerm) → 0 < length values → slice_cmp nat_cmp key (get_or values 0 first).key ≡ Less)
    → IsBelowFirst key (members_of_keyed context values)
below_members context key [] below = tt
below_members context key (keyed ∷ rest) below = below_keyed context key keyed (members_of_keyed context rest) (below keyed (omega arith))

-- the rest of a list in order is in order
pub rest_sorted : (values : List KeyedTerm) (place : ℕ) → IsSorted keyed_cmp values → IsSorted keyed_cmp (drop place values)
rest_sorted values place sorted k other low high =
    let long : length (drop place values) ≡ length values - place = length-drop place values in
    let next : place + (k + 1) ≡ (place + k) + 1 = omega arith in
    let first : get_or (drop place values) k other ≡ get_or values (place + k) other = get_or-drop place values k other in
    let second : get_or (drop place values) (k + 1) other ≡ get_or values ((place + k) + 1) other =
    get_or-drop place values (k + 1) other ∙ ap (λ (n : ℕ). get_or values n other) next in
    rw (first, second) (sorted (place + k) other (omega arith) (omega arith))

module _ (context : ContextValue) (rest : List KeyedTerm) (first : KeyedTerm) (place : ℕ) (some : 0 < length rest) (is : get_or rest 0 first ≡ first) (sorted : IsSorted keyed_cmp rest)
    (ends : EndsFirstRun rest first.key place) where
  -- a run has a value
  run_some : 0 < place
  run_some = elim (cases_lt 0 place) [
    | inl less ↦ less
    | inr all ↦
        let begin : place ≡ 0 = omega arith in
        absurd (ends.others first (omega arith) (rw begin (ap (λ (keyed : KeyedTerm). keyed.key) is)))
  ]

  -- its values are under the key
  run_under : AreUnder first.key (take place rest)
  run_under = under_from first.key (take place rest) (λ at other h.
      let within = ends.within in
      let long : length (take place rest) ≡ place = length-take-le place rest within in
      rw (get_or-take place rest at other (omega arith)) (ends.same at other (omega arith)))

  -- the values behind it have keys above its own
  run_above : (other : KeyedTerm) → 0 < length (drop place rest) → slice_cmp nat_cmp first.key (get_or (drop place rest) 0 other).key ≡ Less
  run_above other h =
      let long : length (drop place rest) ≡ length rest - place = length-drop place rest in
      let begun = run_some in
      let last = get_or rest (place - 1) other in
      let next = get_or rest place other in
      let under : last.key ≡ first.key = ends.same (place - 1) other (omega arith) in
      let step : (place - 1) + 1 ≡ place = omega arith in
      let order : is_lt (keyed_cmp next last) ≡ false = subst (λ (n : ℕ). is_lt (keyed_cmp (get_or rest n other) last) ≡ false) step (sorted (place - 1) other (omega arith) (omega arith)) in
      let less : slice_cmp nat_cmp last.key next.key ≡ Less = key_below last next order (λ e. ends.others other (omega arith) (sym e ∙ under)) in
      let here : place + 0 ≡ place = omega arith in
      let at : get_or (drop place rest) 0 other ≡ next = get_or-drop place rest 0 other ∙ ap (λ (n : ℕ). get_or rest n other) here in
      rw at (subst (λ (key : List ℕ). slice_cmp nat_cmp key next.key ≡ Less) under less)

  -- the members of a list begin with that of its first run
  pub run_in_front : members_of_keyed context rest ≡ member first.key (run_data context (take place rest)) (members_of_keyed context (drop place rest))
  run_in_front =
      let within = ends.within in
      let long : length (take place rest) ≡ place = length-take-le place rest within in
      let begun = run_some in
      sym (before_none context rest)
      ∙ ap (λ (values : List KeyedTerm). keyed_before context values no_members) (sym (take-append-drop place rest))
      ∙ before_append context (take place rest) (drop place rest) no_members
      ∙ ap (keyed_before context (take place rest)) (before_none context (drop place rest))
      ∙ run_before_some context first.key (take place rest) (members_of_keyed context (drop place rest)) (omega arith) run_under (below_members context first.key (drop place rest) run_above)
