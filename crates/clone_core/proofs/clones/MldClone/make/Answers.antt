use Rattle.std.proofs.Common.{◌≡◌, ◌∙◌, ◌*◌, ◌++◌, ◌∷◌, [], List, length, inl, refl, sym, ap, subst}
use Rattle.std.proofs.lemmas.Result.{err_from_is_err_and}
use Rattle.tree_clock.specs.Clock.{RaisesTo, HasRoom}
use Rattle.mld_ops.specs.declared.tagged.Tagged.{Tagged}
use Rattle.mld_ops.specs.Applies.{Applies}
use Rattle.mld_ops.specs.Entry.{EntryValue}
use Rattle.journal_store.specs.declared.faults.Why.{Why}
use Rattle.journal_store.specs.declared.faults.Why.TheVariants as why
use Rattle.mld_model.specs.Local.{LocalClone, next_dot}
use Rattle.clone_parts.specs.Appending.{MayAppendAll}
use Rattle.clone_parts.specs.BankCalls.{append_calls}
use Rattle.clone_parts.specs.KeptSteps.{KeptStep, Appended}
use Rattle.clone_core.specs.Banked.{BankedClone}
use Rattle.clone_parts.specs.CloneFaults.{update_fault_of}
use Rattle.clone_parts.specs.Making.{IsNextEntry}
use Rattle.clone_core.specs.CallParts.{MakesDone}
use Rattle.clone_core.specs.View.{local_of}
use Rattle.clone_parts.specs.declared.answers.Done.{Done}
use Rattle.clone_parts.specs.declared.answers.Done.TheVariants as done
use Rattle.clone_parts.specs.declared.faults.UpdateFault.{UpdateFault}
use Rattle.clone_parts.specs.declared.faults.UpdateFault.TheVariants as update
use Rattle.clone_core.proofs.AppendLaws.{own_may, taken_on_banks}
use Rattle.clone_core.proofs.DurableLaws.{changes_none, appends_made, done_metered, stopped_metered, update_tells, update_would}
use Rattle.clone_parts.proofs.MakingLaws.{path_is, taken_by}
use Rattle.clone_core.proofs.OwnEntries.{made_local, makes_done}
use Rattle.clone_core.proofs.clones.MldClone.make.Goals as goal

pub append_entries-requires : goal.append_entries-requires
append_entries-requires g c =
    let next = subst (λ (clone : BankedClone _). IsNextEntry clone.local.ticks c.args.dot.now c.args.entry) (sym c.self.view_is) c.requires.next in
    subst (λ (es : List EntryValue). MayAppendAll g.B.Banks.log c.self.inside.journal es) (sym c.from_ref.ensures.value)
    (own_may g.B.Banks.log c.self.inside.journal (local_of c.self.inside) c.self.invariant.1 (ap (λ v. v.closed) c.self.view_is ∙ c.requires.opened) c.args.dot.now c.args.entry
    c.self.invariant.0 next)

pub raise-requires : goal.raise-requires
raise-requires g c =
    let next = subst (λ (clone : BankedClone _). IsNextEntry clone.local.ticks c.args.dot.now c.args.entry) (sym c.self.view_is) c.requires.next in
    subst (λ p. HasRoom c.prepare_own.new.clock p) (path_is c.self.inside.clock.ticks c.args.dot.now c.args.entry next) c.in_ok-cut.ensures.clock_room

pub invariant_of-self-2 : goal.invariant_of-self-2
invariant_of-self-2 g c =
    let old = local_of c.self.inside in
    let dot = c.args.dot.now in
    let entry = c.args.entry in
    let cut = c.in_ok-cut.cut in
    let pairs = c.apply.new.self.pairs in
    let entries = c.push_reserved.new.self.items in
    let after = c.raise.new.self.ticks in
    let next = subst (λ (clone : BankedClone _). IsNextEntry clone.local.ticks dot entry) (sym c.self.view_is) c.requires.next in
    let raised = subst (λ ts. RaisesTo ts after dot) c.prepare_own.ensures.ticks c.raise.ensures.raised in
    let applies = subst (λ (ps : List Tagged). Applies cut.drops.items cut.adds.items ps pairs) c.prepare_own.ensures.pairs c.apply.ensures in
    let behind = c.push_reserved.ensures.items ∙ ap (λ (es : List EntryValue). es ++ entry ∷ []) c.prepare_own.ensures.entries in
    let taken = behind ∙ ap (λ (es : List EntryValue). old.entries ++ es) (sym c.from_ref.ensures.value) in (
      made_local old after pairs cut.drops.items cut.adds.items entries dot entry c.in_ok-cut.ensures.cut applies c.self.invariant.0 next c.prepare_own.ensures.entry raised behind,
      taken_on_banks g.B.Banks.log c.self.inside.journal c.append_entries.new.journal old c.self.invariant.1 (ap (λ v. v.closed) c.self.view_is ∙ c.requires.opened) c.from_ref.result.now
          (record (taken_by old [] old.held after pairs) { entries = entries }) c.append_entries.ensures.told c.in_ok-append_entries.ensures.kept c.in_ok-append_entries.ensures.ok refl taken,
    )

pub returns-clause-ok : goal.returns-clause-ok
returns-clause-ok g c =
    let old = local_of c.self.inside in
    let dot = c.args.dot.now in
    let entry = c.args.entry in
    let cut = c.in_ok-cut.cut in
    let pairs = c.apply.new.self.pairs in
    let entries = c.push_reserved.new.self.items in
    let after = c.raise.new.self.ticks in
    let next = subst (λ (clone : BankedClone _). IsNextEntry clone.local.ticks dot entry) (sym c.self.view_is) c.requires.next in
    let at = subst (λ (clone : BankedClone _). dot ≡ next_dot clone.local) (sym c.self.view_is) c.requires.dot in
    let raised = subst (λ ts. RaisesTo ts after dot) c.prepare_own.ensures.ticks c.raise.ensures.raised in
    let applies = subst (λ (ps : List Tagged). Applies cut.drops.items cut.adds.items ps pairs) c.prepare_own.ensures.pairs c.apply.ensures in
    let behind = c.push_reserved.ensures.items ∙ ap (λ (es : List EntryValue). es ++ entry ∷ []) c.prepare_own.ensures.entries in
    let new : LocalClone = record (taken_by old [] old.held after pairs) { entries = entries } in
    subst (λ (clone : BankedClone _). MakesDone clone.local entry new (done.Made c.in_ok-made.made)) c.self.view_is
    (makes_done old after pairs cut.drops.items cut.adds.items entries dot entry c.in_ok-cut.ensures.cut applies at next raised behind c.in_ok-made.made c.in_ok-made.ensures)

pub returns-in_err-made-clause-durable : goal.returns-in_err-made-clause-durable
returns-in_err-made-clause-durable g c =
    let p = err_from_is_err_and c.from_residual.result c.from_residual.ensures.1 in
    rw (p.1, p.2) ([], inl refl, changes_none g.B.Banks.log g.B.Banks.meter c.args.self.now c.args.self.now.banks refl (λ f. absurd cc))

pub returns-in_err-cut-clause-durable : goal.returns-in_err-cut-clause-durable
returns-in_err-cut-clause-durable g c =
    let p = err_from_is_err_and c.from_residual-in_err-cut.result c.from_residual-in_err-cut.ensures.1 in
    rw (p.1, p.2) ([], inl refl, changes_none g.B.Banks.log g.B.Banks.meter c.args.self.now c.self.inside.journal.banks (ap (λ v. v.banks) c.self.view_is) (λ f. absurd cc))

pub returns-in_err-append_entries-clause-durable : goal.returns-in_err-append_entries-clause-durable
returns-in_err-append_entries-clause-durable g c =
    let was = c.self.inside.journal in
    let now = c.append_entries.new.journal in
    let told = c.in_err-append_entries.field-0.0 in
    let p = err_from_is_err_and c.from_residual-in_err-append_entries.result c.from_residual-in_err-append_entries.ensures.1 in
    rw (p.1, p.2) (
      Appended c.args.entry ∷ [],
      update_would (λ (own : List KeptStep). own ≡ Appended c.args.entry ∷ []) told (Appended c.args.entry ∷ []) refl,
      appends_made g.B.Banks.log g.B.Banks.meter was now (local_of c.self.inside) c.args.self.now c.self.view_is c.self.invariant.1 (ap (λ v. v.closed) c.self.view_is ∙ c.requires.opened)
          c.append_entries.ensures.told c.args.entry [] c.from_ref.result.now c.from_ref.ensures.value c.append_entries.ensures.moments
          (stopped_metered {U = Unit {0}} {E = Why} {T = Done} {F = UpdateFault} (append_calls * length c.from_ref.result.now) (g.B.Banks.meter was.banks) (g.B.Banks.meter now.banks) why.Device
          update.Device told (update_fault_of told) (update_tells told) c.in_err-append_entries.ensures.meter),
    )

pub returns-clause-durable : goal.returns-clause-durable
returns-clause-durable g c =
    let was = c.self.inside.journal in
    let now = c.append_entries.new.journal in (
      Appended c.args.entry ∷ [],
      refl,
      appends_made g.B.Banks.log g.B.Banks.meter was now (local_of c.self.inside) c.args.self.now c.self.view_is c.self.invariant.1 (ap (λ v. v.closed) c.self.view_is ∙ c.requires.opened)
          c.append_entries.ensures.told c.args.entry [] c.from_ref.result.now c.from_ref.ensures.value c.append_entries.ensures.moments
          (done_metered {U = Unit {0}} {E = Why} {T = Done} {F = UpdateFault} (append_calls * length c.from_ref.result.now) (g.B.Banks.meter was.banks) (g.B.Banks.meter now.banks) tt
          (done.Made c.in_ok-made.made) why.Device update.Device c.in_ok-append_entries.ensures.meter),
    )
