-- A clone has one state at a clock, and an operation is taken back by one plan.
use Rattle.std.proofs.Common.{◌≡◌, ◌∙◌, ℕ, List, map, refl, sym, ap, subst, arith}
use Rattle.rdf_terms.specs.declared.terms.Triple.{Triple}
use Rattle.tree_clock.specs.declared.dots.Dot.{Dot}
use Rattle.mld_ops.specs.declared.tagged.Tagged.{Tagged}
use Rattle.mld_ops.specs.Entry.{EntryValue}
use Rattle.mld_ops.specs.Ready.{last_dot, IsKnownEntry}
use Rattle.jrql_ast.specs.declared.plans.UpdatePlan.{UpdatePlan}
use Rattle.mld_model.specs.Local.{LocalClone, LeadsTo, IsLocal}
use Rattle.mld_model.proofs.LeadsLaws.{leads_once}
use Rattle.clone_history.specs.PastStates.{IsStateAt}
use Rattle.clone_history.specs.Undoing.{triples_plan, IsTakenOut, IsPutBack, TakesBack, IsUndo}
use Rattle.clone_history.proofs.KeptLists.{keeps_one}
use Rattle.clone_history.proofs.Restoring.{one_range}

pub one_state : (clone : LocalClone) (ticks : List (List ℕ × ℕ)) (pairs other : List Tagged) → IsStateAt clone ticks pairs → IsStateAt clone ticks other → pairs ≡ other
one_state clone ticks pairs other one two =
    let kept : one.entries ≡ two.entries = keeps_one (IsKnownEntry ticks) clone.entries one.entries two.entries one.kept two.kept in
    (leads_once clone.base clone.base clone.base_pairs two.entries ticks ticks pairs other (λ path. refl)
    (subst (λ (es : List EntryValue). LeadsTo clone.base clone.base_pairs es ticks pairs) kept one.leads) two.leads).1

-- over the same pairs there is one plan for an entry
one_plan : (entry : EntryValue) (pairs : List Tagged) (plan other : UpdatePlan) → TakesBack entry pairs plan → TakesBack entry pairs other → plan ≡ other
one_plan entry pairs plan other one two =
    let gone : one.gone ≡ two.gone =
    keeps_one (IsTakenOut (last_dot entry.range) entry.deletes pairs) (map (λ (insert : Triple × ℕ). insert.0) entry.inserts) one.gone two.gone one.goes two.goes in
    let back : one.back ≡ two.back = keeps_one (IsPutBack pairs) entry.deletes one.back two.back one.comes two.comes in
    one.is ∙ (λ i. triples_plan (gone i) (map (λ (pair : Tagged). pair.triple) (back i))) ∙ sym two.is

pub one_undo : (clone : LocalClone) (dot : Dot) (plan other : UpdatePlan) → IsLocal clone → IsUndo clone dot plan → IsUndo clone dot other → plan ≡ other
one_undo clone dot plan other local one two =
    let same : one.entry ≡ two.entry =
    one_range clone.base clone.base_pairs clone.entries clone.ticks clone.pairs one.entry two.entry local.leads one.own.kept.stands two.own.kept.stands
    (one.own.kept.same ∙ sym two.own.kept.same) (let f = one.own.is.first in let l = one.own.is.last in omega (arith, f, l)) in
    one_plan two.entry clone.pairs plan other (subst (λ (e : EntryValue). TakesBack e clone.pairs plan) same one.takes_back) two.takes_back
