use Rattle.std.proofs.Common.{◌≡◌, ◌∙◌, ℕ, ◌-◌, ◌∷◌, [], List, length, take, drop, false, inl, inr, refl, sym, ap, subst, arith}
use Rattle.std.proofs.lemmas.List.{take_rest}
use Rattle.std.proofs.lemmas.Result.{err_from_is_err_and}
use Rattle.journal_sides.specs.Heads.{HeadValue, head_value}
use Rattle.journal_sides.specs.Pairs.{Kept}
use Rattle.journal_store.specs.Calls.{KeptBy, swapped}
use Rattle.journal_store.specs.Standing.{KeepsNow}
use Rattle.journal_store.specs.declared.faults.Why.{Why}
use Rattle.journal_store.specs.declared.faults.Why.TheVariants as why
use Rattle.clone_parts.specs.Replays.{AreReadyEntries}
use Rattle.clone_parts.specs.BankCalls.{swap_calls}
use Rattle.clone_parts.specs.KeptSteps.{KeptStep, Swapped}
use Rattle.clone_parts.specs.CloneFaults.{keep_fault_of}
use Rattle.clone_core.specs.CloneClosing.{keep_stop}
use Rattle.clone_core.specs.DurableCalls.{SwapsTo}
use Rattle.clone_core.specs.View.{local_of}
use Rattle.clone_parts.specs.declared.faults.KeepFault.{KeepFault}
use Rattle.clone_parts.specs.declared.faults.KeepFault.TheVariants as keep
use Rattle.clone_core.proofs.AppendLaws.{swapped_on_banks, refused_on_banks}
use Rattle.clone_core.proofs.DurableLaws.{changes_none, changes_made, done_metered, keep_tells, swap_refused}
use Rattle.clone_core.proofs.StopLaws.{keep_stops}
use Rattle.mld_ops.specs.Entry.{EntryValue}
use Rattle.mld_model.specs.Local.{LocalClone, IsLocal, LeadsTo, LocallyTruncates}
use Rattle.clone_core.specs.Banked.{BankedClone, head_over}
use Rattle.clone_core.proofs.Cutting.{front_ready, cut_clone, cut_truncates, cut_is_local, rest_ready}
use Rattle.clone_core.proofs.clones.MldClone.swap_truncated.Goals as goal

pub led_to-requires-clause-ready : goal.led_to-requires-clause-ready
led_to-requires-clause-ready g c =
    let old = local_of c.self.inside in
    let cut = c.len.result - c.args.keep in
    subst (λ (es : List EntryValue). AreReadyEntries old.base (take cut es)) (sym c.deref.ensures.value) (front_ready old cut c.self.invariant.0)

pub swap_kept-requires-clause-left : goal.swap_kept-requires-clause-left
swap_kept-requires-clause-left g c = λ last. c.requires.due.left (sym (ap (λ v. v.generation) c.self.view_is) ∙ last)

pub swap_kept-requires-clause-ready : goal.swap_kept-requires-clause-ready
swap_kept-requires-clause-ready g c =
    let old = local_of c.self.inside in
    let keep = c.args.keep in
    let cut = c.len.result - keep in
    let count : cut ≡ length old.entries - keep = omega (arith, c.len.ensures) in
    let base = c.in_ok-base.base.ticks in
    let pairs = c.in_ok-base.pairs in
    let leads = subst (λ (n : ℕ). LeadsTo old.base old.base_pairs (take n old.entries) base pairs) count
    (subst (λ (es : List EntryValue). LeadsTo old.base old.base_pairs (take cut es) base pairs) c.deref.ensures.value c.in_ok-base.ensures.leads) in
    let local = cut_is_local old keep base pairs leads c.self.invariant.0 c.in_ok-base.ensures.covered c.tell_clock.ensures c.in_ok-base.ensures.clock in
    let same : c.in_ok-head.head.base.ticks ≡ base = ap (λ (h : HeadValue). h.base.ticks) c.in_ok-head.ensures in
    let rest = take_rest c.deref-2.result.now cut ∙ ap (λ (es : List EntryValue). drop cut es) c.deref-2.ensures.value ∙ ap (λ (n : ℕ). drop n old.entries) count in
    subst (λ (ts : List (List ℕ × ℕ)). AreReadyEntries ts (take (length c.deref-2.result.now - cut) (drop cut c.deref-2.result.now))) (sym same)
    (subst (λ (es : List EntryValue). AreReadyEntries base es) (sym rest) (rest_ready old keep base pairs leads local))

pub returns-in_err-base-clause-durable : goal.returns-in_err-base-clause-durable
returns-in_err-base-clause-durable g c =
    let p = err_from_is_err_and c.from_residual.result c.from_residual.ensures.1 in
    rw (p.1, p.2) ([], inl refl, changes_none g.B.Banks.log g.B.Banks.meter c.args.self.now c.args.self.now.banks refl (λ f. absurd cc))

pub returns-in_err-head-clause-durable : goal.returns-in_err-head-clause-durable
returns-in_err-head-clause-durable g c =
    let p = err_from_is_err_and c.from_residual-in_err-head.result c.from_residual-in_err-head.ensures.1 in
    rw (p.1, p.2) ([], inl refl, changes_none g.B.Banks.log g.B.Banks.meter c.args.self.now c.args.self.now.banks refl (λ f. absurd cc))

pub invariant_of-self : goal.invariant_of-self
invariant_of-self g c =
    let old = local_of c.self.inside in (
      c.self.invariant.0,
      refused_on_banks g.B.Banks.log c.self.inside.journal c.swap_kept.new.journal old c.self.invariant.1 (ap (λ v. v.closed) c.self.view_is ∙ c.requires.opened) g.B.Banks.meter false
          c.in_err-swap_kept.field-0.0 c.in_err-swap_kept.ensures.err,
    )

pub returns-in_err-swap_kept-clause-left : goal.returns-in_err-swap_kept-clause-left
returns-in_err-swap_kept-clause-left g c =
    let told = c.in_err-swap_kept.field-0.0 in
    let p = err_from_is_err_and c.from_residual-in_err-swap_kept.result c.from_residual-in_err-swap_kept.ensures.1 in
    rw (p.1, p.2)
    (keep_stops g.B.Banks.log g.B.Banks.meter {Swaps = ⊥} c.requires.due false (λ e. absurd cc) c.self.inside.journal c.swap_kept.new.journal (local_of c.self.inside) c.args.self.now c.self.view_is told
    c.in_err-swap_kept.ensures.err)

module _ {B : Type 0} where
  abbrev Truncates : ℕ → BankedClone B → List KeptStep → Type 0
  Truncates count clone made = (next : LocalClone) × LocallyTruncates clone.local count next × SwapsTo next made

pub returns-in_err-swap_kept-clause-durable : goal.returns-in_err-swap_kept-clause-durable
returns-in_err-swap_kept-clause-durable g c =
    let old = local_of c.self.inside in
    let was = c.self.inside.journal in
    let now = c.swap_kept.new.journal in
    let keep_count = c.args.keep in
    let cut = c.len.result - keep_count in
    let count : cut ≡ length old.entries - keep_count = omega (arith, c.len.ensures) in
    let base = c.in_ok-base.base.ticks in
    let pairs = c.in_ok-base.pairs in
    let head = head_value c.in_ok-head.head in
    let leads = subst (λ (n : ℕ). LeadsTo old.base old.base_pairs (take n old.entries) base pairs) count
    (subst (λ (es : List EntryValue). LeadsTo old.base old.base_pairs (take cut es) base pairs) c.deref.ensures.value c.in_ok-base.ensures.leads) in
    let rest = take_rest c.deref-2.result.now cut ∙ ap (λ (es : List EntryValue). drop cut es) c.deref-2.ensures.value ∙ ap (λ (n : ℕ). drop n old.entries) count in
    let entries = take (length c.deref-2.result.now - cut) (drop cut c.deref-2.result.now) in
    let told = c.in_err-swap_kept.field-0.0 in
    let p = err_from_is_err_and c.from_residual-in_err-swap_kept.result c.from_residual-in_err-swap_kept.ensures.1 in
    let head_is : head ≡ head_over old base pairs = c.in_ok-head.ensures ∙ sym (ap (λ (v : BankedClone _). head_over v.local base pairs) c.self.view_is) in
    let step = Swapped head entries in
    let would = subst (λ (clone : BankedClone _). Truncates keep_count clone (step ∷ [])) c.self.view_is
    (cut_clone old keep_count base pairs leads, cut_truncates old keep_count base pairs leads, λ i. Swapped (head_is i) (rest i) ∷ []) in
    rw (p.1, p.2)
    (swap_refused (Unit {0}) (Unit {0}) g.B.Banks.log g.B.Banks.meter was now old c.args.self.now c.self.view_is c.self.invariant.1 (ap (λ v. v.closed) c.self.view_is ∙ c.requires.opened)
    c.swap_kept.ensures.told (Truncates keep_count c.args.self.now) step [] would c.swap_kept.ensures.moments KeepFault keep.Device keep_fault_of keep_stop keep_tells refl refl told
    c.in_err-swap_kept.ensures.meter)

pub returns-clause-durable : goal.returns-clause-durable
returns-clause-durable g c =
    let old = local_of c.self.inside in
    let was = c.self.inside.journal in
    let now = c.swap_kept.new.journal in
    let keep_count = c.args.keep in
    let cut = c.len.result - keep_count in
    let count : cut ≡ length old.entries - keep_count = omega (arith, c.len.ensures) in
    let base = c.in_ok-base.base.ticks in
    let pairs = c.in_ok-base.pairs in
    let head = head_value c.in_ok-head.head in
    let leads = subst (λ (n : ℕ). LeadsTo old.base old.base_pairs (take n old.entries) base pairs) count
    (subst (λ (es : List EntryValue). LeadsTo old.base old.base_pairs (take cut es) base pairs) c.deref.ensures.value c.in_ok-base.ensures.leads) in
    let rest = take_rest c.deref-2.result.now cut ∙ ap (λ (es : List EntryValue). drop cut es) c.deref-2.ensures.value ∙ ap (λ (n : ℕ). drop n old.entries) count in
    let entries = take (length c.deref-2.result.now - cut) (drop cut c.deref-2.result.now) in
    let base_is : c.replace_base.new.base.ticks ≡ base = c.replace_base.ensures.base ∙ ap (λ (h : HeadValue). h.base.ticks) c.in_ok-head.ensures in
    let pairs_are : c.replace_base.new.pairs ≡ pairs = c.replace_base.ensures.pairs ∙ ap (λ (h : HeadValue). h.base.pairs) c.in_ok-head.ensures in
    let dropped : c.drop_front.new.entries.items ≡ drop (length old.entries - keep_count) old.entries = c.drop_front.ensures ∙ ap (λ (n : ℕ). drop n old.entries) count in
    let head_is : head ≡ head_over old c.replace_base.new.base.ticks c.replace_base.new.pairs =
    c.in_ok-head.ensures ∙ sym (ap (λ (v : BankedClone _). head_over v.local base pairs) c.self.view_is) ∙ (λ i. head_over old (sym base_is i) (sym pairs_are i)) in
    let left = rest ∙ sym dropped in
    let step = Swapped head entries in (
      step ∷ [],
      inr (c.requires.due.due, λ i. Swapped (head_is i) (left i) ∷ []),
      changes_made g.B.Banks.log g.B.Banks.meter was now old c.args.self.now c.self.view_is c.self.invariant.1 (ap (λ v. v.closed) c.self.view_is ∙ c.requires.opened)
          c.swap_kept.ensures.told step [] c.swap_kept.ensures.moments
          (done_metered {U = Unit {0}} {E = Why} {T = Unit {0}} {F = KeepFault} swap_calls (g.B.Banks.meter was.banks) (g.B.Banks.meter now.banks) tt tt why.Device keep.Device
          c.in_ok-swap_kept.ensures.meter),
    )

pub invariant_of-self-2 : goal.invariant_of-self-2
invariant_of-self-2 g c =
    let old = local_of c.self.inside in
    let was = c.self.inside.journal in
    let now = c.swap_kept.new.journal in
    let keep = c.args.keep in
    let cut = c.len.result - keep in
    let count : cut ≡ length old.entries - keep = omega (arith, c.len.ensures) in
    let base = c.in_ok-base.base.ticks in
    let pairs = c.in_ok-base.pairs in
    let head = head_value c.in_ok-head.head in
    let leads = subst (λ (n : ℕ). LeadsTo old.base old.base_pairs (take n old.entries) base pairs) count
    (subst (λ (es : List EntryValue). LeadsTo old.base old.base_pairs (take cut es) base pairs) c.deref.ensures.value c.in_ok-base.ensures.leads) in
    let local = cut_is_local old keep base pairs leads c.self.invariant.0 c.in_ok-base.ensures.covered c.tell_clock.ensures c.in_ok-base.ensures.clock in
    let new = record old { base = c.replace_base.new.base.ticks; base_pairs = c.replace_base.new.pairs; entries = c.drop_front.new.entries.items } in
    let base_is : c.replace_base.new.base.ticks ≡ base = c.replace_base.ensures.base ∙ ap (λ (h : HeadValue). h.base.ticks) c.in_ok-head.ensures in
    let pairs_are : c.replace_base.new.pairs ≡ pairs = c.replace_base.ensures.pairs ∙ ap (λ (h : HeadValue). h.base.pairs) c.in_ok-head.ensures in
    let dropped : c.drop_front.new.entries.items ≡ drop (length old.entries - keep) old.entries = c.drop_front.ensures ∙ ap (λ (n : ℕ). drop n old.entries) count in
    let same : cut_clone old keep base pairs leads ≡ new = λ i. record old { base = sym base_is i; base_pairs = sym pairs_are i; entries = sym dropped i } in
    let head_is : head ≡ head_over old new.base new.base_pairs = c.in_ok-head.ensures ∙ sym (ap (λ (v : BankedClone _). head_over v.local base pairs) c.self.view_is)
    ∙ (λ i. head_over old (sym base_is i) (sym pairs_are i)) in
    let rest = take_rest c.deref-2.result.now cut ∙ ap (λ (es : List EntryValue). drop cut es) c.deref-2.ensures.value ∙ sym c.drop_front.ensures in
    let keeps = λ (kept : Kept) (k : KeptBy (g.B.Banks.log was.banks) was.closed kept).
    subst (λ (es : List EntryValue). KeepsNow (swapped head es kept) (g.B.Banks.log now.banks)) rest (c.in_ok-swap_kept.ensures.kept kept k) in (
      subst (λ (clone : LocalClone). IsLocal clone) same local,
      swapped_on_banks g.B.Banks.log was now old c.self.invariant.1 (ap (λ v. v.closed) c.self.view_is ∙ c.requires.opened) g.B.Banks.meter head new c.swap_kept.ensures.told keeps
          c.in_ok-swap_kept.ensures.ok head_is,
    )
