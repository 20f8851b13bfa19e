use Rattle.std.proofs.Common.{◌≡◌, ◌∙◌, ℕ, ◌+◌, ◌∷◌, [], List, Ok, Err, IsOk, IsErrOf, true, inl, refl, sym, ap, subst}
use Rattle.std.proofs.lemmas.Result.{err_from_is_err_and}
use Rattle.mld_io.specs.Arm.{Metered}
use Rattle.mld_ops.specs.declared.messages.Message.TheVariants as message
use Rattle.mld_ops.specs.Entry.{EntryValue}
use Rattle.mld_ops.specs.Messages.{snapshot_value}
use Rattle.mld_model.specs.Local.{LocalClone, IsLocal, KnowsSnapshot}
use Rattle.journal_sides.specs.Heads.{HeadValue, head_value}
use Rattle.journal_sides.specs.Pairs.{Kept}
use Rattle.journal_store.specs.Calls.{KeptBy, swapped}
use Rattle.journal_store.specs.Standing.{KeepsNow}
use Rattle.journal_store.specs.declared.faults.Why.{Why}
use Rattle.journal_store.specs.declared.faults.Why.TheVariants as why
use Rattle.clone_parts.specs.Replays.{AreReadyEntries}
use Rattle.clone_parts.specs.BankCalls.{swap_calls}
use Rattle.clone_parts.specs.KeptSteps.{Swapped, appends}
use Rattle.clone_parts.proofs.Appended.{appends_calls}
use Rattle.clone_core.specs.Banked.{BankedClone, head_over}
use Rattle.clone_parts.specs.CloneFaults.{receive_fault_of}
use Rattle.clone_core.specs.CloneClosing.{receive_stop}
use Rattle.clone_core.specs.DurableCalls.{WouldReceive}
use Rattle.clone_core.specs.View.{local_of}
use Rattle.clone_parts.specs.declared.answers.Got.{Got}
use Rattle.clone_parts.specs.declared.answers.Got.TheVariants as got
use Rattle.clone_parts.specs.declared.faults.ReceiveFault.{ReceiveFault}
use Rattle.clone_parts.specs.declared.faults.ReceiveFault.TheVariants as receive
use Rattle.clone_core.proofs.AppendLaws.{keeps_some, swapped_on_banks, refused_on_banks}
use Rattle.clone_core.proofs.DurableLaws.{changes_none, changes_made, done_metered, err_same, receive_tells, swap_refused}
use Rattle.clone_core.proofs.Merged.{released_ready, merged_clone, merged_is_local, merged_step, never_spent}
use Rattle.clone_core.proofs.StopLaws.{receive_stops}
use Rattle.clone_core.proofs.clones.MldClone.merge.Goals as goal

pub returns-in_err-base-clause-durable : goal.returns-in_err-base-clause-durable
returns-in_err-base-clause-durable g c =
    let p = err_from_is_err_and c.from_residual.result c.from_residual.ensures.1 in
    rw (p.1, p.2) ([], inl refl, changes_none g.B.Banks.log g.B.Banks.meter c.args.self.now c.args.self.now.banks refl (λ f. absurd cc))

pub returns-in_err-head-clause-durable : goal.returns-in_err-head-clause-durable
returns-in_err-head-clause-durable g c =
    let p = err_from_is_err_and c.from_residual-in_err-head.result c.from_residual-in_err-head.ensures.1 in
    rw (p.1, p.2) ([], inl refl, changes_none g.B.Banks.log g.B.Banks.meter c.args.self.now c.args.self.now.banks refl (λ f. absurd cc))

pub swap_and_append-requires-clause-keeps : goal.swap_and_append-requires-clause-keeps
swap_and_append-requires-clause-keeps g c =
    keeps_some g.B.Banks.log c.self.inside.journal (local_of c.self.inside) c.self.invariant.1 (ap (λ v. v.closed) c.self.view_is ∙ c.requires.opened)

pub swap_and_append-requires-clause-left : goal.swap_and_append-requires-clause-left
swap_and_append-requires-clause-left g c = λ last. c.requires.due.left (sym (ap (λ v. v.generation) c.self.view_is) ∙ last)

pub swap_and_append-requires-clause-ready : goal.swap_and_append-requires-clause-ready
swap_and_append-requires-clause-ready g c =
    let merge = c.in_ok-base.field-0 in
    let same : c.in_ok-head.head.base.ticks ≡ merge.base.ticks = ap (λ (h : HeadValue). h.base.ticks) c.in_ok-head.ensures in
    subst (λ (ts : List (List ℕ × ℕ)). AreReadyEntries ts c.deref.result.now) (sym same)
    (subst (λ (es : List EntryValue). AreReadyEntries merge.base.ticks es) (sym c.deref.ensures.value)
    (released_ready (local_of c.self.inside) (snapshot_value c.args.snapshot.now) merge c.in_ok-base.ensures))

pub returns-in_err-swap_and_append-clause-ok : goal.returns-in_err-swap_and_append-clause-ok
returns-in_err-swap_and_append-clause-ok g c =
    let p = err_from_is_err_and c.from_residual-in_err-swap_and_append.result c.from_residual-in_err-swap_and_append.ensures.1 in
    rw p.1 tt

pub returns-in_err-swap_and_append-clause-unspent : goal.returns-in_err-swap_and_append-clause-unspent
returns-in_err-swap_and_append-clause-unspent g c =
    let told = c.in_err-swap_and_append.field-0.0 in
    let p = err_from_is_err_and c.from_residual-in_err-swap_and_append.result c.from_residual-in_err-swap_and_append.ensures.1 in
    rw (p.1, p.2) (λ e. never_spent told (err_same e))

pub returns-in_err-swap_and_append-clause-left : goal.returns-in_err-swap_and_append-clause-left
returns-in_err-swap_and_append-clause-left g c =
    let told = c.in_err-swap_and_append.field-0.0 in
    let p = err_from_is_err_and c.from_residual-in_err-swap_and_append.result c.from_residual-in_err-swap_and_append.ensures.1 in
    rw (p.1, p.2)
    (receive_stops g.B.Banks.log g.B.Banks.meter {Swaps = Unit {0}} c.requires.due true (λ e. tt) c.self.inside.journal c.swap_and_append.new.journal (local_of c.self.inside) c.args.self.now c.self.view_is told
    c.in_err-swap_and_append.ensures.err)

pub returns-in_err-swap_and_append-clause-durable : goal.returns-in_err-swap_and_append-clause-durable
returns-in_err-swap_and_append-clause-durable g c =
    let old = local_of c.self.inside in
    let was = c.self.inside.journal in
    let now = c.swap_and_append.new.journal in
    let merge = c.in_ok-base.field-0 in
    let told = c.in_err-swap_and_append.field-0.0 in
    let p = err_from_is_err_and c.from_residual-in_err-swap_and_append.result c.from_residual-in_err-swap_and_append.ensures.1 in
    let snapshot = snapshot_value c.args.snapshot.now in
    let head = head_value c.in_ok-head.head in
    let entries = c.deref.result.now in
    let lacks = subst (λ (clone : BankedClone _). ¬ KnowsSnapshot clone.local snapshot) (sym c.self.view_is) c.requires.due.due.lacks in
    let head_is : head ≡ head_over old merge.base.ticks merge.base_pairs =
    c.in_ok-head.ensures ∙ sym (ap (λ (v : BankedClone _). head_over v.local merge.base.ticks merge.base_pairs) c.self.view_is) in
    let step = merged_step old snapshot merge c.in_ok-base.ensures lacks head head_is entries c.deref.ensures.value in
    let would = subst (λ (clone : BankedClone _). WouldReceive clone.local (message.Snapshot c.args.snapshot.now) (Swapped head [] ∷ appends entries)) c.self.view_is step in
    let metered = subst (λ (n : ℕ). Metered (swap_calls + n) (g.B.Banks.meter was.banks) (g.B.Banks.meter now.banks) (IsOk {T = Unit {0}} {E = Why} (Err told)) (IsErrOf {T = Unit {0}} {E = Why} (Err told) why.Device)) (sym (appends_calls entries)) c.in_err-swap_and_append.ensures.meter in
    rw (p.1, p.2)
    (swap_refused (Unit {0}) Got g.B.Banks.log g.B.Banks.meter was now old c.args.self.now c.self.view_is c.self.invariant.1 (ap (λ v. v.closed) c.self.view_is ∙ c.requires.opened)
    c.swap_and_append.ensures.told (WouldReceive c.args.self.now.local (message.Snapshot c.args.snapshot.now)) (Swapped head []) (appends entries) would c.swap_and_append.ensures.moments ReceiveFault receive.Device
    receive_fault_of receive_stop receive_tells refl refl told metered)

pub invariant_of-self : goal.invariant_of-self
invariant_of-self g c =
    let old = local_of c.self.inside in (
      c.self.invariant.0,
      refused_on_banks g.B.Banks.log c.self.inside.journal c.swap_and_append.new.journal old c.self.invariant.1 (ap (λ v. v.closed) c.self.view_is ∙ c.requires.opened) g.B.Banks.meter true
          c.in_err-swap_and_append.field-0.0 c.in_err-swap_and_append.ensures.err,
    )

pub invariant_of-self-2 : goal.invariant_of-self-2
invariant_of-self-2 g c =
    let old = local_of c.self.inside in
    let was = c.self.inside.journal in
    let now = c.swap_and_append.new.journal in
    let merge = c.in_ok-base.field-0 in
    let snapshot = snapshot_value c.args.snapshot.now in
    let held = c.replace_held.new.held in
    let head = head_value c.in_ok-head.head in
    let lacks = subst (λ (clone : BankedClone _). ¬ KnowsSnapshot clone.local snapshot) (sym c.self.view_is) c.requires.due.due.lacks in
    let local = merged_is_local old snapshot merge c.in_ok-base.ensures held c.replace_held.ensures c.self.invariant.0 lacks in
    let merged = merged_clone old snapshot merge c.in_ok-base.ensures held c.replace_held.ensures in
    let new = record merged { base = c.replace_base.new.base.ticks; base_pairs = c.replace_base.new.pairs } in
    let base_is : c.replace_base.new.base.ticks ≡ merge.base.ticks = c.replace_base.ensures.base ∙ ap (λ (h : HeadValue). h.base.ticks) c.in_ok-head.ensures in
    let pairs_are : c.replace_base.new.pairs ≡ merge.base_pairs = c.replace_base.ensures.pairs ∙ ap (λ (h : HeadValue). h.base.pairs) c.in_ok-head.ensures in
    let same : merged ≡ new = λ i. record merged { base = sym base_is i; base_pairs = sym pairs_are i } in
    let head_is : head ≡ head_over old new.base new.base_pairs =
    c.in_ok-head.ensures ∙ sym (ap (λ (v : BankedClone _). head_over v.local merge.base.ticks merge.base_pairs) c.self.view_is)
    ∙ (λ i. head_over old (sym base_is i) (sym pairs_are i)) in
    let keeps = λ (kept : Kept) (k : KeptBy (g.B.Banks.log was.banks) was.closed kept).
    subst (λ (es : List EntryValue). KeepsNow (swapped head es kept) (g.B.Banks.log now.banks)) c.deref.ensures.value (c.in_ok-swap_and_append.ensures.kept kept k) in (
      subst (λ (clone : LocalClone). IsLocal clone) same local,
      swapped_on_banks g.B.Banks.log was now old c.self.invariant.1 (ap (λ v. v.closed) c.self.view_is ∙ c.requires.opened) g.B.Banks.meter head new c.swap_and_append.ensures.told keeps
          c.in_ok-swap_and_append.ensures.ok head_is,
    )

pub returns-clause-durable : goal.returns-clause-durable
returns-clause-durable g c =
    let old = local_of c.self.inside in
    let was = c.self.inside.journal in
    let now = c.swap_and_append.new.journal in
    let merge = c.in_ok-base.field-0 in
    let head = head_value c.in_ok-head.head in
    let entries = c.deref.result.now in
    let base_is : c.replace_base.new.base.ticks ≡ merge.base.ticks = c.replace_base.ensures.base ∙ ap (λ (h : HeadValue). h.base.ticks) c.in_ok-head.ensures in
    let pairs_are : c.replace_base.new.pairs ≡ merge.base_pairs = c.replace_base.ensures.pairs ∙ ap (λ (h : HeadValue). h.base.pairs) c.in_ok-head.ensures in
    let head_is : head ≡ head_over old c.replace_base.new.base.ticks c.replace_base.new.pairs =
    c.in_ok-head.ensures ∙ sym (ap (λ (v : BankedClone _). head_over v.local merge.base.ticks merge.base_pairs) c.self.view_is)
    ∙ (λ i. head_over old (sym base_is i) (sym pairs_are i)) in
    let metered = subst (λ (n : ℕ). Metered (swap_calls + n) (g.B.Banks.meter was.banks) (g.B.Banks.meter now.banks) (IsOk {T = Unit {0}} {E = Why} (Ok tt)) (IsErrOf {T = Unit {0}} {E = Why} (Ok tt) why.Device)) (sym (appends_calls entries)) c.in_ok-swap_and_append.ensures.meter in (
      Swapped head [] ∷ appends entries,
      λ i. Swapped (head_is i) [] ∷ appends (c.deref.ensures.value i),
      changes_made g.B.Banks.log g.B.Banks.meter was now old c.args.self.now c.self.view_is c.self.invariant.1 (ap (λ v. v.closed) c.self.view_is ∙ c.requires.opened)
          c.swap_and_append.ensures.told (Swapped head []) (appends entries) c.swap_and_append.ensures.moments
          (done_metered {U = Unit {0}} {E = Why} {T = Got} {F = ReceiveFault} _ (g.B.Banks.meter was.banks) (g.B.Banks.meter now.banks) tt (got.Merged merge.after.ranges) why.Device
          receive.Device metered),
    )
