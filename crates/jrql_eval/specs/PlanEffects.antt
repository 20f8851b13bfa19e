-- The effect of an update (SPARQL 1.1 Update, section 3.1.3, for what DELETE, INSERT and WHERE mean; SU-Set, for which pairs a deleted triple
-- has): its patterns are matched on the triples that are present before, and each solution makes triples to delete and to insert.
-- `effect` and `one_effect` cite it.
use Rattle.std.specs.Prelude.{◌≡◌, ℕ, ◌<◌, ◌≤◌, List, ◌↔◌, Option, length}
use Rattle.jrql_rows.specs.rdf_terms.declared.terms.Term.{Term}
use Rattle.jrql_rows.specs.rdf_terms.declared.terms.Triple.{Triple}
use Rattle.jrql_rows.specs.rdf_terms.Order.{triple_cmp}
use Rattle.jrql_rows.specs.tree_clock.declared.dots.Dot.{Dot}
use Rattle.jrql_rows.specs.tree_clock.Lists.{Has, IsAscending}
use Rattle.jrql_rows.specs.mld_ops.declared.tagged.Tagged.{Tagged}
use Rattle.jrql_rows.specs.mld_ops.Tagged.{tagged_cmp}
use Rattle.jrql_rows.specs.mld_ops.InOrder.{IsPutInOrder}
use Rattle.jrql_rows.specs.mld_ops.Effects.{EffectValue}
use Rattle.jrql_rows.specs.mld_ops.Present.{present}
use Rattle.jrql_rows.specs.jrql_ast.declared.plans.UpdatePlan.{UpdatePlan}
use Rattle.jrql_rows.specs.jrql_ast.InForm.{IsPlanInForm}
use Rattle.jrql_rows.specs.jrql_ast.QueryAnswers.{solution_limit, found, IsSolutions}
use Rattle.jrql_rows.specs.jrql_ast.Templates.{made_from}
use Rattle.jrql_rows.specs.jrql_ast.FreshNames.{fresh_name}

-- of a list of pairs those of some triples, ascending
pub record ArePairsOfAny (triples : List Triple) (pairs chosen : List Tagged) : Type 0 where
  pub ascending : IsAscending tagged_cmp chosen
  pub members : (pair : Tagged) → Has chosen pair ↔ (Has pairs pair × Has triples pair.triple)

-- the effect of a plan by these solutions: the pairs of each triple that a solution makes of a template to delete, and each triple that a
-- solution makes of a template to insert
pub record IsEffectBy (domain : List ℕ) (dot : Dot) (pairs : List Tagged) (plan : UpdatePlan) (rows : List (List (Option Term))) (effect : EffectValue) : Type 0 where
  pub deletes : ArePairsOfAny (made_from (fresh_name domain dot plan.fresh) plan.deletes 0 rows) pairs effect.deletes
  pub inserts : IsPutInOrder triple_cmp (made_from (fresh_name domain dot plan.fresh) plan.inserts 0 rows) effect.inserts

-- the effect of a plan, in a domain and at a dot, on pairs: by its solutions over the triples that are present, of which there are no more
-- than there may be
pub record IsPlanEffect (domain : List ℕ) (dot : Dot) (pairs : List Tagged) (plan : UpdatePlan) (effect : EffectValue) : Type 0 where
  pub few : length (found (present pairs) plan.group) ≤ solution_limit
  pub rows : List (List (Option Term))
  pub solutions : IsSolutions (present pairs) plan.group rows
  pub does : IsEffectBy domain dot pairs plan rows effect

-- a plan has more solutions than it may have
abbrev pub HasTooMany : List Tagged → UpdatePlan → Type 0
HasTooMany pairs plan = solution_limit < length (found (present pairs) plan.group)

-- a plan in form has one effect
abbrev pub OneEffect : Type 0
OneEffect = (domain : List ℕ) (dot : Dot) (pairs : List Tagged) (plan : UpdatePlan) (effect other : EffectValue) → IsPlanInForm plan
    → IsPlanEffect domain dot pairs plan effect → IsPlanEffect domain dot pairs plan other → effect ≡ other
