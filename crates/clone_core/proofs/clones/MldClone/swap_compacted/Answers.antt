use Rattle.std.proofs.Common.{◌≡◌, ◌∙◌, ◌∷◌, [], List, ℕ, false, inl, inr, refl, sym, ap, subst}
use Rattle.std.proofs.lemmas.Result.{err_from_is_err_and}
use Rattle.journal_sides.specs.Heads.{HeadValue, head_value}
use Rattle.journal_sides.specs.Pairs.{Kept}
use Rattle.journal_store.specs.Calls.{KeptBy, swapped}
use Rattle.journal_store.specs.Standing.{KeepsNow}
use Rattle.journal_store.specs.declared.faults.Why.{Why}
use Rattle.journal_store.specs.declared.faults.Why.TheVariants as why
use Rattle.clone_parts.specs.Replays.{AreReadyEntries}
use Rattle.clone_parts.specs.BankCalls.{swap_calls}
use Rattle.clone_parts.specs.KeptSteps.{KeptStep, Swapped}
use Rattle.clone_parts.specs.CloneFaults.{keep_fault_of}
use Rattle.clone_core.specs.CloneClosing.{keep_stop}
use Rattle.clone_core.specs.DurableCalls.{SwapsTo}
use Rattle.clone_core.specs.View.{local_of}
use Rattle.clone_parts.specs.declared.faults.KeepFault.{KeepFault}
use Rattle.clone_parts.specs.declared.faults.KeepFault.TheVariants as keep
use Rattle.clone_core.proofs.AppendLaws.{swapped_on_banks, refused_on_banks}
use Rattle.clone_core.proofs.DurableLaws.{changes_none, changes_made, done_metered, keep_tells, swap_refused}
use Rattle.clone_core.proofs.StopLaws.{keep_stops}
use Rattle.tree_clock.specs.Lists.{Has}
use Rattle.mld_ops.specs.Entry.{EntryValue, IsEntry}
use Rattle.op_fusion.specs.Compacting.{AreFusedRuns}
use Rattle.mld_model.specs.Local.{LocalClone, LocallyCompacts}
use Rattle.clone_core.specs.Banked.{BankedClone, head_of, head_over}
use Rattle.clone_core.proofs.Swapping.{compacted_is, compacted_is_local, compacted_ready}
use Rattle.clone_core.proofs.clones.MldClone.swap_compacted.Goals as goal

pub swap_kept-requires-clause-left : goal.swap_kept-requires-clause-left
swap_kept-requires-clause-left g c = λ last. c.requires.due.left (sym (ap (λ v. v.generation) c.self.view_is) ∙ last)

pub swap_kept-requires-clause-ready : goal.swap_kept-requires-clause-ready
swap_kept-requires-clause-ready g c =
    let old = local_of c.self.inside in
    let entries = c.in_ok-entries.entries.items in
    let fused = subst (λ (es : List EntryValue). AreFusedRuns es entries) c.deref.ensures.value c.in_ok-entries.ensures.fused in
    let are = subst (λ (es : List EntryValue). (entry : EntryValue) → Has es entry → IsEntry entry) c.deref.ensures.value c.in_ok-entries.ensures.entries in
    let base : c.in_ok-head.head.base.ticks ≡ old.base =
    ap (λ (h : HeadValue). h.base.ticks) c.in_ok-head.ensures ∙ c.in_ok-base.ensures.ok in
    subst (λ (ts : List (List ℕ × ℕ)). AreReadyEntries ts c.deref-2.result.now) (sym base)
    (subst (λ (es : List EntryValue). AreReadyEntries old.base es) (sym c.deref-2.ensures.value) (compacted_ready old entries c.self.invariant.0 fused are))

pub returns-in_err-entries-clause-durable : goal.returns-in_err-entries-clause-durable
returns-in_err-entries-clause-durable g c =
    let p = err_from_is_err_and c.from_residual.result c.from_residual.ensures.1 in
    rw (p.1, p.2) ([], inl refl, changes_none g.B.Banks.log g.B.Banks.meter c.args.self.now c.args.self.now.banks refl (λ f. absurd cc))

pub returns-in_err-base-clause-durable : goal.returns-in_err-base-clause-durable
returns-in_err-base-clause-durable g c =
    let p = err_from_is_err_and c.from_residual-in_err-base.result c.from_residual-in_err-base.ensures.1 in
    rw (p.1, p.2) ([], inl refl, changes_none g.B.Banks.log g.B.Banks.meter c.args.self.now c.args.self.now.banks refl (λ f. absurd cc))

pub returns-in_err-pairs-clause-durable : goal.returns-in_err-pairs-clause-durable
returns-in_err-pairs-clause-durable g c =
    let p = err_from_is_err_and c.from_residual-in_err-pairs.result c.from_residual-in_err-pairs.ensures.1 in
    rw (p.1, p.2) ([], inl refl, changes_none g.B.Banks.log g.B.Banks.meter c.args.self.now c.args.self.now.banks refl (λ f. absurd cc))

pub returns-in_err-head-clause-durable : goal.returns-in_err-head-clause-durable
returns-in_err-head-clause-durable g c =
    let p = err_from_is_err_and c.from_residual-in_err-head.result c.from_residual-in_err-head.ensures.1 in
    rw (p.1, p.2) ([], inl refl, changes_none g.B.Banks.log g.B.Banks.meter c.args.self.now c.args.self.now.banks refl (λ f. absurd cc))

pub invariant_of-self : goal.invariant_of-self
invariant_of-self g c =
    let old = local_of c.self.inside in (
      c.self.invariant.0,
      refused_on_banks g.B.Banks.log c.self.inside.journal c.swap_kept.new.journal old c.self.invariant.1 (ap (λ v. v.closed) c.self.view_is ∙ c.requires.opened) g.B.Banks.meter false
          c.in_err-swap_kept.field-0.0 c.in_err-swap_kept.ensures.err,
    )

pub returns-in_err-swap_kept-clause-left : goal.returns-in_err-swap_kept-clause-left
returns-in_err-swap_kept-clause-left g c =
    let told = c.in_err-swap_kept.field-0.0 in
    let p = err_from_is_err_and c.from_residual-in_err-swap_kept.result c.from_residual-in_err-swap_kept.ensures.1 in
    rw (p.1, p.2)
    (keep_stops g.B.Banks.log g.B.Banks.meter {Swaps = ⊥} c.requires.due false (λ e. absurd cc) c.self.inside.journal c.swap_kept.new.journal (local_of c.self.inside) c.args.self.now c.self.view_is told
    c.in_err-swap_kept.ensures.err)

module _ {B : Type 0} where
  abbrev Compacts : BankedClone B → List KeptStep → Type 0
  Compacts clone made = (next : LocalClone) × LocallyCompacts clone.local next × SwapsTo next made

pub returns-in_err-swap_kept-clause-durable : goal.returns-in_err-swap_kept-clause-durable
returns-in_err-swap_kept-clause-durable g c =
    let old = local_of c.self.inside in
    let was = c.self.inside.journal in
    let now = c.swap_kept.new.journal in
    let entries = c.in_ok-entries.entries.items in
    let told = c.in_err-swap_kept.field-0.0 in
    let p = err_from_is_err_and c.from_residual-in_err-swap_kept.result c.from_residual-in_err-swap_kept.ensures.1 in
    let head = head_value c.in_ok-head.head in
    let fused = subst (λ (es : List EntryValue). AreFusedRuns es entries) c.deref.ensures.value c.in_ok-entries.ensures.fused in
    let are = subst (λ (es : List EntryValue). (entry : EntryValue) → Has es entry → IsEntry entry) c.deref.ensures.value c.in_ok-entries.ensures.entries in
    let pairs_are = c.in_ok-pairs.ensures in
    let head_is : head ≡ head_of old = c.in_ok-head.ensures ∙ sym (ap (λ (v : BankedClone _). head_over v.local c.in_ok-base.base.ticks c.in_ok-pairs.pairs) c.self.view_is)
    ∙ (λ i. head_over old (c.in_ok-base.ensures.ok i) (pairs_are i)) in
    let step = Swapped head c.deref-2.result.now in
    let would = subst (λ (clone : BankedClone _). Compacts clone (step ∷ [])) c.self.view_is
    (record old { entries = entries }, compacted_is old entries c.self.invariant.0 fused are, λ i. Swapped (head_is i) (c.deref-2.ensures.value i) ∷ []) in
    rw (p.1, p.2)
    (swap_refused (Unit {0}) (Unit {0}) g.B.Banks.log g.B.Banks.meter was now old c.args.self.now c.self.view_is c.self.invariant.1 (ap (λ v. v.closed) c.self.view_is ∙ c.requires.opened)
    c.swap_kept.ensures.told (Compacts c.args.self.now) step [] would c.swap_kept.ensures.moments KeepFault keep.Device keep_fault_of keep_stop keep_tells refl refl told
    c.in_err-swap_kept.ensures.meter)

pub invariant_of-self-2 : goal.invariant_of-self-2
invariant_of-self-2 g c =
    let old = local_of c.self.inside in
    let was = c.self.inside.journal in
    let now = c.swap_kept.new.journal in
    let entries = c.in_ok-entries.entries.items in
    let head = head_value c.in_ok-head.head in
    let fused = subst (λ (es : List EntryValue). AreFusedRuns es entries) c.deref.ensures.value c.in_ok-entries.ensures.fused in
    let are = subst (λ (es : List EntryValue). (entry : EntryValue) → Has es entry → IsEntry entry) c.deref.ensures.value c.in_ok-entries.ensures.entries in
    let pairs_are = c.in_ok-pairs.ensures in
    let head_is : head ≡ head_of old = c.in_ok-head.ensures ∙ sym (ap (λ (v : BankedClone _). head_over v.local c.in_ok-base.base.ticks c.in_ok-pairs.pairs) c.self.view_is)
    ∙ (λ i. head_over old (c.in_ok-base.ensures.ok i) (pairs_are i)) in
    let keeps = λ (kept : Kept) (k : KeptBy (g.B.Banks.log was.banks) was.closed kept).
    subst (λ (es : List EntryValue). KeepsNow (swapped head es kept) (g.B.Banks.log now.banks)) c.deref-2.ensures.value (c.in_ok-swap_kept.ensures.kept kept k) in (
      compacted_is_local old entries c.self.invariant.0 fused are,
      swapped_on_banks g.B.Banks.log was now old c.self.invariant.1 (ap (λ v. v.closed) c.self.view_is ∙ c.requires.opened) g.B.Banks.meter head (record old { entries = entries })
          c.swap_kept.ensures.told keeps c.in_ok-swap_kept.ensures.ok head_is,
    )

pub returns-clause-durable : goal.returns-clause-durable
returns-clause-durable g c =
    let old = local_of c.self.inside in
    let was = c.self.inside.journal in
    let now = c.swap_kept.new.journal in
    let head = head_value c.in_ok-head.head in
    let pairs_are = c.in_ok-pairs.ensures in
    let head_is : head ≡ head_of old = c.in_ok-head.ensures ∙ sym (ap (λ (v : BankedClone _). head_over v.local c.in_ok-base.base.ticks c.in_ok-pairs.pairs) c.self.view_is)
    ∙ (λ i. head_over old (c.in_ok-base.ensures.ok i) (pairs_are i)) in
    let step = Swapped head c.deref-2.result.now in (
      step ∷ [],
      inr (c.requires.due.due, λ i. Swapped (head_is i) (c.deref-2.ensures.value i) ∷ []),
      changes_made g.B.Banks.log g.B.Banks.meter was now old c.args.self.now c.self.view_is c.self.invariant.1 (ap (λ v. v.closed) c.self.view_is ∙ c.requires.opened)
          c.swap_kept.ensures.told step [] c.swap_kept.ensures.moments
          (done_metered {U = Unit {0}} {E = Why} {T = Unit {0}} {F = KeepFault} swap_calls (g.B.Banks.meter was.banks) (g.B.Banks.meter now.banks) tt tt why.Device keep.Device
          c.in_ok-swap_kept.ensures.meter),
    )
