use Rattle.std.proofs.Common.{◌≡◌, ◌∙◌, ◌*◌, ◌++◌, ◌∷◌, [], List, length, inl, refl, sym, ap, subst}
use Rattle.std.proofs.lemmas.Result.{err_from_is_err_and}
use Rattle.mld_ops.specs.declared.tagged.Tagged.{Tagged}
use Rattle.mld_ops.specs.declared.messages.Message.TheVariants as message
use Rattle.mld_ops.specs.Applies.{Applies}
use Rattle.mld_ops.specs.Entry.{EntryValue}
use Rattle.mld_ops.specs.Ready.{IsReadyEntry}
use Rattle.journal_store.specs.declared.faults.Why.{Why}
use Rattle.journal_store.specs.declared.faults.Why.TheVariants as why
use Rattle.mld_model.specs.Local.{LocallyAccepts}
use Rattle.clone_parts.specs.Appending.{MayAppendAll}
use Rattle.clone_parts.specs.BankCalls.{append_calls}
use Rattle.clone_parts.specs.KeptSteps.{appends}
use Rattle.clone_core.specs.Banked.{BankedClone}
use Rattle.clone_parts.specs.CloneFaults.{receive_fault_of}
use Rattle.clone_core.specs.DurableCalls.{WouldReceive}
use Rattle.clone_core.specs.View.{local_of}
use Rattle.clone_parts.specs.declared.answers.Got.{Got}
use Rattle.clone_parts.specs.declared.answers.Got.TheVariants as got
use Rattle.clone_parts.specs.declared.faults.ReceiveFault.{ReceiveFault}
use Rattle.clone_parts.specs.declared.faults.ReceiveFault.TheVariants as receive
use Rattle.clone_core.proofs.AppendLaws.{plan_may, taken_on_banks}
use Rattle.clone_core.proofs.DurableLaws.{changes_none, appends_made, done_metered, stopped_metered, receive_tells, receive_would}
use Rattle.clone_parts.proofs.MakingLaws.{local_ascends, taken_by}
use Rattle.clone_core.proofs.Taking.{planned, planned_local, planned_accepts, planned_step}
use Rattle.clone_core.proofs.clones.MldClone.accept.Goals as goal

pub prepare_plan-requires-clause-pairs : goal.prepare_plan-requires-clause-pairs
prepare_plan-requires-clause-pairs g c = local_ascends (local_of c.self.inside) c.self.invariant.0

pub append_entries-requires : goal.append_entries-requires
append_entries-requires g c =
    let journal = c.self.inside.journal in
    subst (λ (es : List EntryValue). MayAppendAll g.B.Banks.log journal es) (sym c.deref.ensures.value)
    (plan_may g.B.Banks.log journal (local_of c.self.inside) c.self.invariant.1 (ap (λ v. v.closed) c.self.view_is ∙ c.requires.opened) c.in_ok-plan.plan c.self.invariant.0
    c.in_ok-plan.ensures.plan.leads)

pub invariant_of-self-2 : goal.invariant_of-self-2
invariant_of-self-2 g c =
    let old = local_of c.self.inside in
    let plan = c.in_ok-plan.plan in
    let of = c.in_ok-plan.ensures.plan in
    let pairs = c.apply.new.self.pairs in
    let entries = c.push_all.new.journal.items in
    let held = c.replace_held.new.held in
    let applies = subst (λ (ps : List Tagged). Applies plan.cut.drops.items plan.cut.adds.items ps pairs) c.prepare_plan.ensures.pairs c.apply.ensures in
    let behind = c.push_all.ensures ∙ ap (λ (es : List EntryValue). es ++ plan.entries.items) c.prepare_plan.ensures.entries in
    let taken = behind ∙ ap (λ (es : List EntryValue). old.entries ++ es) (sym c.deref.ensures.value) in (
      planned_local old c.args.entry.now plan pairs entries held of applies behind c.replace_held.ensures c.self.invariant.0,
      taken_on_banks g.B.Banks.log c.self.inside.journal c.append_entries.new.journal old c.self.invariant.1 (ap (λ v. v.closed) c.self.view_is ∙ c.requires.opened) c.deref.result.now
          (record (taken_by old [] held plan.clock.ticks pairs) { entries = entries }) c.append_entries.ensures.told c.in_ok-append_entries.ensures.kept c.in_ok-append_entries.ensures.ok refl taken,
    )

pub returns-clause-ok : goal.returns-clause-ok
returns-clause-ok g c =
    let old = local_of c.self.inside in
    let plan = c.in_ok-plan.plan in
    let of = c.in_ok-plan.ensures.plan in
    let pairs = c.apply.new.self.pairs in
    let entries = c.push_all.new.journal.items in
    let held = c.replace_held.new.held in
    let applies = subst (λ (ps : List Tagged). Applies plan.cut.drops.items plan.cut.adds.items ps pairs) c.prepare_plan.ensures.pairs c.apply.ensures in
    let behind = c.push_all.ensures ∙ ap (λ (es : List EntryValue). es ++ plan.entries.items) c.prepare_plan.ensures.entries in
    let ready = subst (λ (clone : BankedClone _). IsReadyEntry clone.local.ticks c.args.entry.now) (sym c.self.view_is) c.requires.due.ready in
    subst (λ (clone : BankedClone _). LocallyAccepts clone.local c.args.entry.now (planned old c.args.entry.now plan pairs entries held of applies behind c.replace_held.ensures) plan.ranges) c.self.view_is
    (planned_accepts old c.args.entry.now plan pairs entries held of applies behind c.replace_held.ensures ready)

pub returns-clause-durable : goal.returns-clause-durable
returns-clause-durable g c =
    let old = local_of c.self.inside in
    let was = c.self.inside.journal in
    let now = c.append_entries.new.journal in
    let plan = c.in_ok-plan.plan in
    let of = c.in_ok-plan.ensures.plan in
    let behind = c.push_all.ensures ∙ ap (λ (es : List EntryValue). es ++ plan.entries.items) c.prepare_plan.ensures.entries in
    let is : c.deref.result.now ≡ c.args.entry.now ∷ of.taken = c.deref.ensures.value ∙ of.entries in
    let n = append_calls * length c.deref.result.now in
    let came = behind ∙ ap (λ (es : List EntryValue). old.entries ++ es) of.entries in (
      appends (c.args.entry.now ∷ of.taken),
      (c.args.entry.now ∷ of.taken, came ∙ ap (λ (clone : BankedClone _). clone.local.entries ++ (c.args.entry.now ∷ of.taken)) c.self.view_is, refl),
      appends_made g.B.Banks.log g.B.Banks.meter was now old c.args.self.now c.self.view_is c.self.invariant.1 (ap (λ v. v.closed) c.self.view_is ∙ c.requires.opened) c.append_entries.ensures.told
          c.args.entry.now of.taken c.deref.result.now is c.append_entries.ensures.moments
          (done_metered {U = Unit {0}} {E = Why} {T = Got} {F = ReceiveFault} n (g.B.Banks.meter was.banks) (g.B.Banks.meter now.banks) tt (got.Took plan.ranges) why.Device receive.Device
          c.in_ok-append_entries.ensures.meter),
    )

pub returns-in_err-plan-clause-durable : goal.returns-in_err-plan-clause-durable
returns-in_err-plan-clause-durable g c =
    let p = err_from_is_err_and c.from_residual.result c.from_residual.ensures.1 in
    rw (p.1, p.2) ([], inl refl, changes_none g.B.Banks.log g.B.Banks.meter c.args.self.now c.self.inside.journal.banks (ap (λ v. v.banks) c.self.view_is) (λ f. absurd cc))

pub returns-in_err-append_entries-clause-durable : goal.returns-in_err-append_entries-clause-durable
returns-in_err-append_entries-clause-durable g c =
    let old = local_of c.self.inside in
    let was = c.self.inside.journal in
    let now = c.append_entries.new.journal in
    let of = c.in_ok-plan.ensures.plan in
    let told = c.in_err-append_entries.field-0.0 in
    let p = err_from_is_err_and c.from_residual-in_err-append_entries.result c.from_residual-in_err-append_entries.ensures.1 in
    let is : c.deref.result.now ≡ c.args.entry.now ∷ of.taken = c.deref.ensures.value ∙ of.entries in
    let n = append_calls * length c.deref.result.now in
    let made = appends (c.args.entry.now ∷ of.taken) in
    let ready = subst (λ (clone : BankedClone _). IsReadyEntry clone.local.ticks c.args.entry.now) (sym c.self.view_is) c.requires.due.ready in
    let step = planned_step old c.args.entry.now c.in_ok-plan.plan c.self.invariant.0 of ready in
    let would = subst (λ (clone : BankedClone _). WouldReceive clone.local (message.Range c.args.entry.now) made) c.self.view_is
    (step.0, step.1, step.2, (c.args.entry.now ∷ of.taken, step.3 ∙ ap (λ (es : List EntryValue). old.entries ++ es) of.entries, refl)) in
    rw (p.1, p.2) (
      made,
      receive_would (WouldReceive c.args.self.now.local (message.Range c.args.entry.now)) told made would,
      appends_made g.B.Banks.log g.B.Banks.meter was now old c.args.self.now c.self.view_is c.self.invariant.1 (ap (λ v. v.closed) c.self.view_is ∙ c.requires.opened) c.append_entries.ensures.told
          c.args.entry.now of.taken c.deref.result.now is c.append_entries.ensures.moments
          (stopped_metered {U = Unit {0}} {E = Why} {T = Got} {F = ReceiveFault} n (g.B.Banks.meter was.banks) (g.B.Banks.meter now.banks) why.Device receive.Device told (receive_fault_of told)
          (receive_tells told) c.in_err-append_entries.ensures.meter),
    )
