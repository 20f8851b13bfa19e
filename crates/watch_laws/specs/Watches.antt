-- What a watch is: a query, and the triples that are present (SPARQL 1.1 Query Language, sections 15, 16 and 18). Its rows are those of
-- the query's answer over them. `Live` cites it.
use Rattle.std.specs.Prelude.{◌≡◌, ◌<◌, ◌≤◌, List, ◌⊎◌, ◌↔◌, Bool, true, false, ◌&&◌, ◌||◌, length, Option, None}
use Rattle.std.specs.List.{filter, list_any}
use Rattle.rdf_terms.specs.declared.terms.Term.{Term}
use Rattle.rdf_terms.specs.declared.terms.Term.TheVariants as terms
use Rattle.rdf_terms.specs.declared.terms.Triple.{Triple}
use Rattle.rdf_terms.specs.Order.{triple_cmp}
use Rattle.tree_clock.specs.Lists.{Has, IsAscending}
use Rattle.jrql_ast.specs.declared.answers.Answer.TheVariants as answers
use Rattle.jrql_ast.specs.declared.patterns.Group.{Group}
use Rattle.jrql_ast.specs.declared.patterns.PatternTriple.{PatternTriple}
use Rattle.jrql_ast.specs.declared.patterns.Slot.{Slot}
use Rattle.jrql_ast.specs.declared.patterns.Slot.TheVariants as slots
use Rattle.jrql_ast.specs.declared.queries.Query.{Query}
use Rattle.jrql_ast.specs.declared.queries.What.{What}
use Rattle.jrql_ast.specs.declared.queries.What.TheVariants as kinds
use Rattle.jrql_ast.specs.QueryAnswers.{IsAnswer, found, solution_limit}
use Rattle.jrql_ast.specs.Solutions.{is_same_term}

-- all rows of a select are asked for: none is left out in front, and none behind a limit
abbrev pub AsksAllRows : What → Type 0
AsksAllRows (kinds.Select select) = (select.offset ≡ 0) × (select.limit ≡ None)
AsksAllRows (kinds.Describe targets) = ⊥

-- a term may stand in a slot: a given term is this one
abbrev pub may_be : Slot → Term → Bool
may_be (slots.Term given) term = is_same_term given term
may_be (slots.Var variable) term = true
may_be (slots.Fresh subject) term = false

-- a triple has the terms that a pattern gives
abbrev pub may_match : PatternTriple → Triple → Bool
may_match pattern triple = may_be pattern.s (terms.Iri triple.s) && (may_be pattern.p (terms.Iri triple.p) && may_be pattern.o triple.o)

-- a triple matters for a group where it has the terms that one of its patterns gives, of those of its branches too
abbrev pub matters : Group → Triple → Bool
matters group triple =
    list_any (λ pattern. may_match pattern triple) group.patterns
    || list_any (λ branch. list_any (λ pattern. may_match pattern triple) branch) group.branches

-- what contracts see of a watch: its query, those of the triples that are present that matter for it, and its rows
pub record WatchValue : Type 0 where
  pub query : Query
  pub kept : List Triple
  pub rows : List (List (Option Term))

-- these triples are present for a watch: its rows are those of its query's answer over them, and its group has no more solutions over them than it may have
pub record Watches (watch : WatchValue) (present : List Triple) : Type 0 where
  pub ascending : IsAscending triple_cmp present
  pub kept : watch.kept ≡ filter (matters watch.query.group) present
  pub few : length (found present watch.query.group) ≤ solution_limit
  pub answer : IsAnswer present watch.query (answers.Rows watch.rows)

-- the triples that were present and aren't removed, and those that are added, ascending
pub record IsChanged (present removed added changed : List Triple) : Type 0 where
  pub ascending : IsAscending triple_cmp changed
  pub members : (triple : Triple) → Has changed triple ↔ ((Has present triple × ¬ Has removed triple) ⊎ Has added triple)

-- a change of what is present for a watch would give its group more solutions than it may have
abbrev pub WouldHaveTooMany : WatchValue → List Triple → List Triple → Type 0
WouldHaveTooMany watch removed added =
    (present changed : List Triple) → Watches watch present → IsChanged present removed added changed → solution_limit < length (found changed watch.query.group)

-- a watch whose triples are changed is the other one
abbrev pub IsFollowedBy : WatchValue → List Triple → List Triple → WatchValue → Type 0
IsFollowedBy old removed added new = (present changed : List Triple) → Watches old present → IsChanged present removed added changed → Watches new changed
