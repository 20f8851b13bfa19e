-- The subjects that are described are those of the graph that a target names or has, in order.
use Rattle.std.proofs.Common.{◌≡◌, ◌∙◌, ℕ, zero, suc, ◌+◌, ◌<◌, ◌↔◌, List, [], ◌∷◌, ◌++◌, Bool, true, false, ◌||◌, cond, Option, None, Some, Vec, Bor, length, get_or, take, map, filter, flat_map, refl, sym, ap, subst, inl, inr, true≢false, arith}
use Rattle.std.specs.List.{cons_option, dedup, dedup_from, list_any}
use Rattle.std.specs.List.Sorted.{IsSorted}
use Rattle.std.specs.Ordering.{eq_by_cmp, is_lt, ordering_reverse, ordering_then}
use Rattle.std.specs.declared.cmp.Ordering.{Ordering}
use Rattle.std.specs.declared.cmp.Ordering.TheVariants.{Less, Equal, Greater}
use Rattle.std.specs.Cmp.{eq_by_cmp_equiv}
use Rattle.std.proofs.lemmas.Bool.{and_parts, cases_Bool, or_cases}
use Rattle.std.proofs.lemmas.List.{map-append, take_more}
use Rattle.std.proofs.lemmas.List.Elements.{filter_map-append}
use Rattle.std.specs.Option.{option_to_list}
use Rattle.std.proofs.lemmas.Slice.Eq.{bytes_eq-Decides}
use Rattle.std.proofs.lemmas.Map.Views.{tells_apart}
use Rattle.jrql_rows.specs.rdf_terms.declared.terms.Term.{Term}
use Rattle.jrql_rows.specs.rdf_terms.declared.terms.Term.TheVariants as terms
use Rattle.jrql_rows.specs.rdf_terms.declared.terms.Triple.{Triple}
use Rattle.jrql_rows.specs.rdf_terms.Literal.{is_same}
use Rattle.jrql_rows.specs.rdf_terms.Order.{iri_cmp, triple_cmp}
use Rattle.jrql_rows.specs.rdf_terms.OrderLaws.{term_exact}
use Rattle.jrql_rows.specs.tree_clock.Lists.{Has, IsAscending}
use Rattle.jrql_rows.specs.mld_ops.InOrder.{IsPutInOrder}
use Rattle.jrql_rows.proofs.of_mld_ops.AscendingLaws.{has_append, has_left, has_right, has_filter, ascending_filter, same_ascending}
use Rattle.jrql_rows.proofs.of_mld_ops.Keeping.{once_ascends, once_members}
use Rattle.jrql_rows.proofs.of_mld_ops.PropertiesLaws.{iri_total, iri_exact}
use Rattle.jrql_rows.specs.jrql_ast.declared.answers.Described.{Described}
use Rattle.jrql_rows.specs.jrql_ast.declared.queries.Target.{Target}
use Rattle.jrql_rows.specs.jrql_ast.declared.queries.Target.TheVariants as targets
use Rattle.jrql_rows.specs.jrql_ast.QueryAnswers.{described, is_iri_value, subjects_of, targets_iri}
use Rattle.jrql_rows.specs.jrql_ast.Solutions.{is_same_term, value_of}
use Rattle.jrql_eval.specs.Asked.{IsDescribedBy, all_targeted, bound_iris, described_by, described_where, targeted_by}
use Rattle.jrql_rows.specs.graph_index.Graphs.{GraphValue}
use Rattle.jrql_rows.specs.Bindings.{row_numbered}
use Rattle.jrql_eval.specs.Evaluating.{has_parts, iri_of_term}
use Rattle.jrql_rows.proofs.of_jrql_ast.BoundSlots.{same_refl, some_is, none_some}

is_there : {X : Type 0} → List X → Bool
is_there [] = false
is_there (x ∷ xs) = true

abbrev about : List Triple → List ℕ → List Triple
about graph iri = filter (λ (triple : Triple). is_same triple.s iri) graph

-- an IRI is described where it has triples
described_one : (iri : List ℕ) (triples : List Triple) → described_by iri triples ≡ cond (is_there triples) (record { id = iri; triples = triples } ∷ []) []
unfolding is_there
described_one iri [] = refl
described_one iri (triple ∷ triples) = refl

one_more : (graph : List Triple) (iri : List ℕ) (b : Bool) (l : List Described) (iris : List (List ℕ)) → l ≡ map (described graph) iris
    → cond b (described graph iri ∷ []) [] ++ l ≡ map (described graph) (cond b (iri ∷ iris) iris)
one_more graph iri true l iris e = ap (λ z. described graph iri ∷ z) e
one_more graph iri false l iris e = e

described_all : (graph : List Triple) (iris : List (List ℕ)) → flat_map (described_where graph) iris ≡ map (described graph) (filter (λ iri. is_there (about graph iri)) iris)
described_all graph [] = refl
described_all graph (iri ∷ iris) =
    ap (λ z. z ++ flat_map (described_where graph) iris) (described_one iri (about graph iri))
    ∙ one_more graph iri (is_there (about graph iri)) (flat_map (described_where graph) iris) (filter (λ iri. is_there (about graph iri)) iris) (described_all graph iris)

-- two texts are the same
same_is : (a b : List ℕ) → is_same a b ≡ true → a ≡ b
same_is a b h = (bytes_eq-Decides a b).0 h

is_itself : (a : List ℕ) → is_same a a ≡ true
is_itself a = (bytes_eq-Decides a a).1 refl

pub agree_tests : (b c : Bool) → (b ≡ true → c ≡ true) → (c ≡ true → b ≡ true) → b ≡ c
agree_tests true c f g = sym (f refl)
agree_tests false true f g = g refl
agree_tests false false f g = refl

same_by_order : (a b : List ℕ) → is_same a b ≡ eq_by_cmp iri_cmp a b
same_by_order a b =
    agree_tests (is_same a b) (eq_by_cmp iri_cmp a b) (λ h. subst (λ z. eq_by_cmp iri_cmp a z ≡ true) (same_is a b h) ((eq_by_cmp_equiv iri_total).refl a))
    (λ h. subst (λ z. is_same a z ≡ true) (tells_apart iri_exact a b h) (is_itself a))

from_alike : {X : Type 0} (E F : X → X → Bool) → ((a b : X) → E a b ≡ F a b) → (k : X) (xs : List X) → dedup_from E k xs ≡ dedup_from F k xs
from_alike E F h k [] = refl
from_alike E F h k (x ∷ xs) = let e = h x k in let a = from_alike E F h k xs in let b = from_alike E F h x xs in λ i. cond (e i) (a i) (k ∷ b i)

pub dedup_alike : {X : Type 0} (E F : X → X → Bool) → ((a b : X) → E a b ≡ F a b) → (xs : List X) → dedup E xs ≡ dedup F xs
dedup_alike E F h [] = refl
dedup_alike E F h (x ∷ xs) = from_alike E F h x xs

abbrev subject_list : List Triple → List (List ℕ)
subject_list graph = map (λ (triple : Triple). triple.s) graph

subjects_is : (graph : List Triple) → subjects_of graph ≡ dedup (eq_by_cmp iri_cmp) (subject_list graph)
subjects_is graph = dedup_alike is_same (eq_by_cmp iri_cmp) same_by_order (subject_list graph)

-- the subjects of an ascending graph are sorted
not_above : (o p : Ordering) → ordering_then o p ≡ Less → is_lt (ordering_reverse o) ≡ false
not_above Less p h = refl
not_above Equal p h = refl
not_above Greater p h = let f : Greater ≡ Less = h in cc

first_sorted : (a b : Triple) → triple_cmp a b ≡ Less → is_lt (iri_cmp b.s a.s) ≡ false
unfolding triple_cmp
first_sorted a b h = ap is_lt (iri_total.antisymm b.s a.s) ∙ not_above (iri_cmp a.s b.s) _ h

sorted_subjects : (graph : List Triple) → IsAscending triple_cmp graph → IsSorted iri_cmp (subject_list graph)
sorted_subjects [] a k d l h = absurd (omega (arith, h))
sorted_subjects (first ∷ []) a k d l h = absurd (omega (arith, h))
sorted_subjects (first ∷ second ∷ graph) a zero d l h = first_sorted first second a.0.0
sorted_subjects (first ∷ second ∷ graph) a (suc k) d l h =
    let e : suc k + 1 ≡ suc (k + 1) = omega arith in rw e (sorted_subjects (second ∷ graph) a.1 k d (omega arith) (omega (arith, h)))

subjects_ascend : (graph : List Triple) → IsAscending triple_cmp graph → IsAscending iri_cmp (subjects_of graph)
subjects_ascend graph a = subst (IsAscending iri_cmp) (sym (subjects_is graph)) (once_ascends iri_cmp iri_total iri_exact (subject_list graph) (sorted_subjects graph a))

has_subject : (graph : List Triple) (iri : List ℕ) → Has (subjects_of graph) iri ↔ Has (subject_list graph) iri
has_subject graph iri = subst (λ l. Has l iri ↔ Has (subject_list graph) iri) (sym (subjects_is graph)) (once_members iri_cmp iri_total iri_exact (subject_list graph) iri)

-- a subject has triples
there_from : (graph : List Triple) (iri : List ℕ) → Has (subject_list graph) iri → is_there (about graph iri) ≡ true
unfolding is_there
there_from [] iri h = absurd h
there_from (triple ∷ graph) iri (inl e) = ap (λ b. is_there (cond b (triple ∷ about graph iri) (about graph iri))) (subst (λ z. is_same triple.s z ≡ true) e (is_itself triple.s))
there_from (triple ∷ graph) iri (inr h) = by (is_same triple.s iri) (there_from graph iri h)
  where
    by : (b : Bool) → is_there (about graph iri) ≡ true → is_there (cond b (triple ∷ about graph iri) (about graph iri)) ≡ true
    by true e = refl
    by false e = e

from_there : (graph : List Triple) (iri : List ℕ) → is_there (about graph iri) ≡ true → Has (subject_list graph) iri
unfolding is_there
from_there [] iri h = absurd (true≢false (sym h))
from_there (triple ∷ graph) iri h = elim (cases_Bool (is_same triple.s iri)) [
  | inl passed ↦ inl (same_is triple.s iri passed)
  | inr failed ↦ inr (from_there graph iri (sym (ap (λ b. is_there (cond b (triple ∷ about graph iri) (about graph iri))) failed) ∙ h))
]

-- a value that is an IRI
value_from : (iri : List ℕ) (value : Option Term) → is_iri_value iri value ≡ true → iri_of_term value ≡ Some iri
value_from iri None h = absurd (true≢false (sym h))
value_from iri (Some term) h = sym (ap (λ t. iri_of_term (Some t)) (tells_apart term_exact (terms.Iri iri) term h))

value_is : (iri : List ℕ) (value : Option Term) → iri_of_term value ≡ Some iri → is_iri_value iri value ≡ true
value_is iri None h = none_some h
value_is iri (Some (terms.Iri own)) h = subst (λ z. is_same_term (terms.Iri z) (terms.Iri own) ≡ true) (some_is own iri h) (same_refl (terms.Iri own))
value_is iri (Some (terms.Literal literal)) h = none_some h

pub or_left : (b c : Bool) → b ≡ true → (b || c) ≡ true
or_left b c e = ap (λ z. z || c) e

pub or_right : (b c : Bool) → c ≡ true → (b || c) ≡ true
or_right true c e = refl
or_right false c e = e

-- the IRIs that rows have
bound_from : (iri : List ℕ) (variable : ℕ) (rows : List (List (Option Term))) → list_any (λ row. is_iri_value iri (value_of variable row)) rows ≡ true → Has (bound_iris variable rows) iri
bound_from iri variable [] h = absurd (true≢false (sym h))
bound_from iri variable (row ∷ rows) h = elim (or_cases (is_iri_value iri (value_of variable row)) (list_any (λ row. is_iri_value iri (value_of variable row)) rows) h) [
  | inl passed ↦ subst (λ o. Has (cons_option o (bound_iris variable rows)) iri) (sym (value_from iri (value_of variable row) passed)) (inl refl)
  | inr later ↦ behind (iri_of_term (value_of variable row)) (bound_iris variable rows) iri (bound_from iri variable rows later)
]
  where
    behind : (o : Option (List ℕ)) (l : List (List ℕ)) (i : List ℕ) → Has l i → Has (cons_option o l) i
    behind None l i g = g
    behind (Some x) l i g = inr g

bound_is : (iri : List ℕ) (variable : ℕ) (rows : List (List (Option Term))) → Has (bound_iris variable rows) iri → list_any (λ row. is_iri_value iri (value_of variable row)) rows ≡ true
bound_is iri variable [] h = absurd h
bound_is iri variable (row ∷ rows) h = by (iri_of_term (value_of variable row)) refl h (bound_is iri variable rows)
  where
    by : (o : Option (List ℕ)) → iri_of_term (value_of variable row) ≡ o → Has (cons_option o (bound_iris variable rows)) iri
        → (Has (bound_iris variable rows) iri → list_any (λ row. is_iri_value iri (value_of variable row)) rows ≡ true)
        → (is_iri_value iri (value_of variable row) || list_any (λ row. is_iri_value iri (value_of variable row)) rows) ≡ true
    by None e g later = or_right (is_iri_value iri (value_of variable row)) _ (later g)
    by (Some x) e (inl same) later = or_left _ _ (value_is iri (value_of variable row) (e ∙ ap Some same))
    by (Some x) e (inr g) later = or_right (is_iri_value iri (value_of variable row)) _ (later g)

-- the IRIs that targets name or have
target_from : (rows : List (List (Option Term))) (iri : List ℕ) (target : Target) → targets_iri rows iri target ≡ true → Has (targeted_by rows target) iri
target_from rows iri (targets.Iri named) h = inl (same_is named iri h)
target_from rows iri (targets.Var variable) h = bound_from iri variable rows h

target_is : (rows : List (List (Option Term))) (iri : List ℕ) (target : Target) → Has (targeted_by rows target) iri → targets_iri rows iri target ≡ true
target_is rows iri (targets.Iri named) (inl e) = subst (λ z. is_same named z ≡ true) e (is_itself named)
target_is rows iri (targets.Iri named) (inr h) = absurd h
target_is rows iri (targets.Var variable) h = bound_is iri variable rows h

targeted_from : (rows : List (List (Option Term))) (iri : List ℕ) (targets : List Target) → list_any (targets_iri rows iri) targets ≡ true → Has (all_targeted rows targets) iri
targeted_from rows iri [] h = absurd (true≢false (sym h))
targeted_from rows iri (target ∷ targets) h = elim (or_cases (targets_iri rows iri target) (list_any (targets_iri rows iri) targets) h) [
  | inl passed ↦ has_left (targeted_by rows target) (all_targeted rows targets) iri (target_from rows iri target passed)
  | inr later ↦ has_right (targeted_by rows target) (all_targeted rows targets) iri (targeted_from rows iri targets later)
]

targeted_is : (rows : List (List (Option Term))) (iri : List ℕ) (targets : List Target) → Has (all_targeted rows targets) iri → list_any (targets_iri rows iri) targets ≡ true
targeted_is rows iri [] h = absurd h
targeted_is rows iri (target ∷ targets) h = elim (has_append (targeted_by rows target) (all_targeted rows targets) iri h) [
  | inl here ↦ or_left _ _ (target_is rows iri target here)
  | inr later ↦ or_right (targets_iri rows iri target) _ (targeted_is rows iri targets later)
]

no_member : {X : Type 0} (xs : List X) → ((x : X) → Has xs x → ⊥) → xs ≡ []
no_member [] h = refl
no_member (x ∷ xs) h = absurd (h x (inl refl))

-- so the IRIs that have triples are the subjects that are targeted; where none is, the graph need not ascend
pub described_are : (graph : List Triple) (rows : List (List (Option Term))) (targets : List Target) (iris : List (List ℕ))
    → (0 < length iris → IsAscending triple_cmp graph) → IsPutInOrder iri_cmp (all_targeted rows targets) iris → IsDescribedBy graph rows targets (flat_map (described_where graph) iris)
described_are graph rows targets [] some put =
    sym (ap (map (described graph)) (no_member (filter (λ iri. list_any (targets_iri rows iri) targets) (subjects_of graph))
    (λ iri h. (put.members iri).1 (targeted_from rows iri targets ((has_filter (λ iri. list_any (targets_iri rows iri) targets) (subjects_of graph) iri).0 h).1))))
described_are graph rows targets (first ∷ others) some put =
    let iris = first ∷ others in
    let a = some (omega arith) in
    described_all graph iris
    ∙ ap (map (described graph)) (same_ascending iri_cmp iri_total iri_exact
    (filter (λ iri. is_there (about graph iri)) iris) (filter (λ iri. list_any (targets_iri rows iri) targets) (subjects_of graph))
    (ascending_filter iri_cmp (λ iri. is_there (about graph iri)) iris put.ascending)
    (ascending_filter iri_cmp (λ iri. list_any (targets_iri rows iri) targets) (subjects_of graph) (subjects_ascend graph a))
    (λ iri h. let f = (has_filter (λ iri. is_there (about graph iri)) iris iri).0 h in
    (has_filter (λ iri. list_any (targets_iri rows iri) targets) (subjects_of graph) iri).1 (
      (has_subject graph iri).1 (from_there graph iri f.1),
      targeted_is rows iri targets ((put.members iri).0 f.0),
    ))
    (λ iri h. let f = (has_filter (λ iri. list_any (targets_iri rows iri) targets) (subjects_of graph) iri).0 h in
    (has_filter (λ iri. is_there (about graph iri)) iris iri).1 (
      (put.members iri).1 (targeted_from rows iri targets f.1),
      there_from graph iri ((has_subject graph iri).0 f.0),
    )))

-- the IRIs of one row more
pub bound_more : (variable : ℕ) (rows : List (List (Option Term))) (i : ℕ) → i < length rows
    → bound_iris variable (take (i + 1) rows) ≡ bound_iris variable (take i rows) ++ option_to_list (iri_of_term (value_of variable (get_or rows i [])))
bound_more variable rows i l =
    ap (bound_iris variable) (take_more rows i [] l)
    ∙ filter_map-append (λ r. iri_of_term (value_of variable r)) (take i rows) (get_or rows i [] ∷ [])
    ∙ ap (λ zs. bound_iris variable (take i rows) ++ zs) (one (iri_of_term (value_of variable (get_or rows i []))))
  where
    one : (o : Option (List ℕ)) → cons_option o [] ≡ option_to_list o
    one None = refl
    one (Some x) = refl

-- the triples of a subject
subject_parts : (iri : List ℕ) (triple : Triple) → has_parts (Some iri) None None triple ≡ is_same triple.s iri
subject_parts iri triple =
    agree_tests (has_parts (Some iri) None None triple) (is_same triple.s iri)
    (λ h. subst (λ z. is_same triple.s z ≡ true) (sym (same_is iri triple.s (and_parts (is_same iri triple.s) true h).0)) (is_itself triple.s))
    (λ h. subst (λ z. has_parts (Some z) None None triple ≡ true) (same_is triple.s iri h) (rw (is_itself triple.s) refl))

pub filter_alike : {X : Type 0} (p q : X → Bool) → ((x : X) → p x ≡ q x) → (xs : List X) → filter p xs ≡ filter q xs
filter_alike p q h [] = refl
filter_alike p q h (x ∷ xs) = let r = filter_alike p q h xs in λ i. cond (h x i) (x ∷ r i) (r i)

pub about_is : (graph : List Triple) (iri : List ℕ) → filter (has_parts (Some iri) None None) graph ≡ filter (λ (triple : Triple). is_same triple.s iri) graph
about_is graph iri = filter_alike (has_parts (Some iri) None None) (λ (triple : Triple). is_same triple.s iri) (subject_parts iri) graph

-- a subject that is found with its triples, or without any
pub described_found : (graph : List Triple) (iri : List ℕ) (triples : List Triple) → triples ≡ filter (has_parts (Some iri) None None) graph
    → described_where graph iri ≡ described_by iri triples
described_found graph iri triples e = ap (described_by iri) (sym (e ∙ about_is graph iri))

pub described_none : (iri : List ℕ) (triples : List (Bor Triple)) → length triples ≡ 0 → described_by iri (map (λ x. x.now) triples) ≡ []
described_none iri [] e = refl
described_none iri (triple ∷ triples) e = absurd (omega (arith, e))

pub described_some : (iri : List ℕ) (triples : List (Bor Triple)) → (length triples ≡ 0 → ⊥) → described_by iri (map (λ x. x.now) triples) ≡ record { id = iri; triples = map (λ x. x.now) triples } ∷ []
described_some iri [] n = absurd (n refl)
described_some iri (triple ∷ triples) n = refl
