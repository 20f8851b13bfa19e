-- A graph and a query have one answer.
use Rattle.std.proofs.Common.{◌≡◌, ◌∙◌, List, [], ◌∷◌, Option, None, Some, map, drop, refl, sym, ap}
use Rattle.std.specs.Cmp.{IsTotalOrder}
use Rattle.std.specs.Cmp.Lexicographic.{slice_cmp, lists_total, options_total}
use Rattle.std.specs.Option.{option_cmp}
use Rattle.std.specs.Ordering.{ordering_then}
use Rattle.std.specs.declared.cmp.Ordering.{Ordering}
use Rattle.std.specs.declared.cmp.Ordering.TheVariants.{Less, Equal, Greater}
use Rattle.std.proofs.lemmas.Map.Lookups.{CmpEqualImpliesEq}
use Rattle.rdf_terms.specs.declared.terms.Term.{Term}
use Rattle.rdf_terms.specs.Order.{term_cmp}
use Rattle.rdf_terms.specs.declared.terms.Triple.{Triple}
use Rattle.rdf_terms.specs.OrderLaws.{term_total, term_exact}
use Rattle.rdf_terms.specs.ReplyLaws.{reply_total, reply_exact}
use Rattle.rdf_terms.specs.ReplyOrder.{reply_cmp}
use Rattle.jrql_ast.specs.declared.answers.Answer.{Answer}
use Rattle.jrql_ast.specs.declared.answers.Answer.TheVariants as answers
use Rattle.jrql_ast.specs.declared.patterns.Group.{Group}
use Rattle.jrql_ast.specs.declared.queries.Query.{Query}
use Rattle.jrql_ast.specs.declared.queries.Select.{Select}
use Rattle.jrql_ast.specs.declared.queries.What.{What}
use Rattle.jrql_ast.specs.declared.queries.What.TheVariants as kinds
use Rattle.jrql_ast.specs.QueryAnswers.{place_cmp, reply_place_cmp, project, found, distinct_rows, limited, IsSelected, IsAnswerBy, IsAnswer}
use Rattle.jrql_ast.proofs.Sortings.{one_sorting}

-- orders that tell apart
both_equal : (o p : Ordering) → ordering_then o p ≡ Equal → (o ≡ Equal) × (p ≡ Equal)
both_equal Less p h = cc
both_equal Equal p h = (refl, h)
both_equal Greater p h = cc

pub exact_list : {X : Type 0} (R : X → X → Ordering) → CmpEqualImpliesEq R → CmpEqualImpliesEq (slice_cmp R)
exact_list R exact [] [] h = refl
exact_list R exact [] (y ∷ ys) h = let f : Less ≡ Equal = h in cc
exact_list R exact (x ∷ xs) [] h = let f : Greater ≡ Equal = h in cc
exact_list R exact (x ∷ xs) (y ∷ ys) h =
    let b = both_equal (R x y) (slice_cmp R xs ys) h in
    let e = exact x y b.0 in
    let r = exact_list R exact xs ys b.1 in
    λ i. e i ∷ r i

exact_option : {X : Type 0} (R : X → X → Ordering) → CmpEqualImpliesEq R → CmpEqualImpliesEq (option_cmp R)
exact_option R exact None None h = refl
exact_option R exact None (Some y) h = let f : Less ≡ Equal = h in cc
exact_option R exact (Some x) None h = let f : Greater ≡ Equal = h in cc
exact_option R exact (Some x) (Some y) h = ap Some (exact x y h)

-- the plain order of rows
pub exact_place : CmpEqualImpliesEq place_cmp
exact_place = exact_option term_cmp term_exact

pub values_total : IsTotalOrder (slice_cmp place_cmp)
values_total = lists_total (options_total term_total)

-- and that of replies
pub exact_reply_place : CmpEqualImpliesEq reply_place_cmp
exact_reply_place = exact_option reply_cmp reply_exact

pub replies_total : IsTotalOrder (slice_cmp reply_place_cmp)
replies_total = lists_total (options_total reply_total)

-- a select's rows
one_selected : (graph : List Triple) (group : Group) (select : Select) (rows others : List (List (Option Term))) → IsSelected graph group select rows → IsSelected graph group select others → rows ≡ others
one_selected graph group select rows others s t =
    let e = one_sorting (slice_cmp reply_place_cmp) replies_total (λ row. Unit {0}) (λ x y p q h. exact_list reply_place_cmp exact_reply_place x y h)
    (map (project select.vars) (found graph group)) s.values t.values (λ k d l. tt) s.sorted t.sorted in
    s.whole ∙ ap (λ values. limited select.limit (drop select.offset (distinct_rows select.distinct values))) e ∙ sym t.whole

one_by : (graph : List Triple) (group : Group) (what : What) (answer other : Answer) → IsAnswerBy graph group what answer → IsAnswerBy graph group what other → answer ≡ other
one_by graph group (kinds.Select select) (answers.Rows rows) (answers.Rows others) s t = ap (λ l. answers.Rows l) (one_selected graph group select rows others s t)
one_by graph group (kinds.Select select) (answers.Rows rows) (answers.Subjects others) s t = absurd t
one_by graph group (kinds.Select select) (answers.Subjects subjects) other s t = absurd s
one_by graph group (kinds.Describe targets) (answers.Rows rows) other s t = absurd s
one_by graph group (kinds.Describe targets) (answers.Subjects subjects) (answers.Rows others) s t = absurd t
one_by graph group (kinds.Describe targets) (answers.Subjects subjects) (answers.Subjects others) s t = ap (λ l. answers.Subjects l) (s ∙ sym t)

pub one_answer : (graph : List Triple) (query : Query) (answer other : Answer) → IsAnswer graph query answer → IsAnswer graph query other → answer ≡ other
one_answer graph query answer other s t = one_by graph query.group query.what answer other s t
