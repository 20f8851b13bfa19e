use Rattle.std.proofs.Common.{◌≡◌, ◌∙◌, ◌<◌, ◌++◌, ◌∷◌, [], ℕ, List, length, false, inl, refl, sym, ap, subst}
use Rattle.std.proofs.lemmas.Result.{err_from_is_err_and}
use Rattle.mld_ops.specs.declared.messages.Give.{Give}
use Rattle.mld_ops.specs.declared.messages.Message.{Message}
use Rattle.mld_ops.specs.declared.messages.Message.TheVariants as message
use Rattle.mld_ops.specs.Messages.{snapshot_value}
use Rattle.mld_model.specs.Local.{LocalClone, snapshot_of}
use Rattle.tree_clock.specs.Limits.{path_limit}
use Rattle.tree_clock.specs.Path.{one_letter}
use Rattle.journal_store.specs.declared.faults.Why.{Why}
use Rattle.journal_store.specs.declared.faults.Why.TheVariants as why
use Rattle.clone_parts.specs.KeptSteps.{Forked}
use Rattle.clone_core.specs.Banked.{BankedClone}
use Rattle.clone_parts.specs.CloneFaults.{receive_fault_of}
use Rattle.clone_core.specs.DurableCalls.{WouldReceive}
use Rattle.clone_core.specs.Joining.{LocallyGives}
use Rattle.clone_core.specs.View.{local_of}
use Rattle.clone_parts.specs.declared.answers.Got.{Got}
use Rattle.clone_parts.specs.declared.answers.Got.TheVariants as got
use Rattle.clone_parts.specs.declared.faults.ReceiveFault.{ReceiveFault}
use Rattle.clone_parts.specs.declared.faults.ReceiveFault.TheVariants as receive
use Rattle.clone_core.proofs.AppendLaws.{fork_may, forked_on_banks, refused_on_banks}
use Rattle.clone_core.proofs.DurableLaws.{changes_none, changes_made, done_metered, stopped_metered, receive_tells, receive_would}
use Rattle.clone_core.proofs.Joining.{forks_as, forked_local, gives_good}
use Rattle.clone_core.proofs.StopLaws.{receive_stops}
use Rattle.clone_core.proofs.clones.MldClone.give.Given.{Over}
use Rattle.clone_core.proofs.clones.MldClone.give.Goals as goal

pub append_fork-requires : goal.append_fork-requires
append_fork-requires g c =
    fork_may g.B.Banks.log c.self.inside.journal (local_of c.self.inside) c.self.invariant.1 (ap (λ v. v.closed) c.self.view_is ∙ c.requires.opened)
    (subst (λ (clone : BankedClone _). length clone.local.path < path_limit) (sym c.self.view_is) c.requires.due.room)

pub child-requires : goal.child-requires
child-requires g c = subst (λ (p : List ℕ). length p < path_limit) (sym c.path.ensures) c.requires.due.room

pub invariant_of-self : goal.invariant_of-self
invariant_of-self g c = (
  c.self.invariant.0,
  refused_on_banks g.B.Banks.log c.self.inside.journal c.append_fork.new.journal (local_of c.self.inside) c.self.invariant.1 (ap (λ v. v.closed) c.self.view_is ∙ c.requires.opened) g.B.Banks.meter false
      c.in_err-append_fork.field-0.0 c.in_err-append_fork.ensures.err,
)

pub invariant_of-self-2 : goal.invariant_of-self-2
invariant_of-self-2 g c =
    let old = local_of c.self.inside in
    let left = rw c.unwrap.ensures at c.give.ensures.left in (
      forked_local old c.give.new.self c.self.invariant.0,
      forked_on_banks g.B.Banks.log c.self.inside.journal c.append_fork.new.journal old c.self.invariant.1 (ap (λ v. v.closed) c.self.view_is ∙ c.requires.opened) c.give.new.self left
          c.append_fork.ensures.told c.in_ok-append_fork.ensures.kept c.in_ok-append_fork.ensures.ok,
    )

pub returns-in_err-snapshot-clause-durable : goal.returns-in_err-snapshot-clause-durable
returns-in_err-snapshot-clause-durable g c =
    let p = err_from_is_err_and c.from_residual.result c.from_residual.ensures.1 in
    rw (p.1, p.2) ([], inl refl, changes_none g.B.Banks.log g.B.Banks.meter c.args.self.now c.args.self.now.banks refl (λ f. absurd cc))

pub returns-in_err-given-clause-durable : goal.returns-in_err-given-clause-durable
returns-in_err-given-clause-durable g c =
    let p = err_from_is_err_and c.from_residual-in_err-given.result c.from_residual-in_err-given.ensures.1 in
    rw (p.1, p.2) ([], inl refl, changes_none g.B.Banks.log g.B.Banks.meter c.args.self.now c.args.self.now.banks refl (λ f. absurd cc))

pub returns-in_err-messages-clause-durable : goal.returns-in_err-messages-clause-durable
returns-in_err-messages-clause-durable g c =
    let p = err_from_is_err_and c.from_residual-in_err-messages.result c.from_residual-in_err-messages.ensures.1 in
    rw (p.1, p.2) ([], inl refl, changes_none g.B.Banks.log g.B.Banks.meter c.args.self.now c.args.self.now.banks refl (λ f. absurd cc))

pub returns-in_err-append_fork-clause-err : goal.returns-in_err-append_fork-clause-err
returns-in_err-append_fork-clause-err g c =
    let told = c.in_err-append_fork.field-0.0 in
    let p = err_from_is_err_and c.from_residual-in_err-append_fork.result c.from_residual-in_err-append_fork.ensures.1 in
    rw (p.1, p.2)
    (receive_stops g.B.Banks.log g.B.Banks.meter {Swaps = ⊥} c.requires.due false (λ e. absurd cc) c.self.inside.journal c.append_fork.new.journal (local_of c.self.inside) c.args.self.now c.self.view_is told
    c.in_err-append_fork.ensures.err)

pub returns-in_err-append_fork-clause-durable : goal.returns-in_err-append_fork-clause-durable
returns-in_err-append_fork-clause-durable g c =
    let was = c.self.inside.journal in
    let now = c.append_fork.new.journal in
    let told = c.in_err-append_fork.field-0.0 in
    let p = err_from_is_err_and c.from_residual-in_err-append_fork.result c.from_residual-in_err-append_fork.ensures.1 in
    rw (p.1, p.2) (
      Forked ∷ [],
      receive_would (WouldReceive c.args.self.now.local (message.JoinAsk c.args.id.now)) told (Forked ∷ []) refl,
      changes_made g.B.Banks.log g.B.Banks.meter was now (local_of c.self.inside) c.args.self.now c.self.view_is c.self.invariant.1 (ap (λ v. v.closed) c.self.view_is ∙ c.requires.opened)
          c.append_fork.ensures.told Forked [] c.append_fork.ensures.moments
          (stopped_metered {U = Unit {0}} {E = Why} {T = Got} {F = ReceiveFault} 4 (g.B.Banks.meter was.banks) (g.B.Banks.meter now.banks) why.Device receive.Device told (receive_fault_of told)
          (receive_tells told) c.in_err-append_fork.ensures.meter),
    )

pub returns-clause-durable : goal.returns-clause-durable
returns-clause-durable g c =
    let was = c.self.inside.journal in
    let now = c.append_fork.new.journal in (
      Forked ∷ [],
      refl,
      changes_made g.B.Banks.log g.B.Banks.meter was now (local_of c.self.inside) c.args.self.now c.self.view_is c.self.invariant.1 (ap (λ v. v.closed) c.self.view_is ∙ c.requires.opened)
          c.append_fork.ensures.told Forked [] c.append_fork.ensures.moments
          (done_metered {U = Unit {0}} {E = Why} {T = Got} {F = ReceiveFault} 4 (g.B.Banks.meter was.banks) (g.B.Banks.meter now.banks) tt (got.Answer c.from_vec.result) why.Device receive.Device
          c.in_ok-append_fork.ensures.meter),
    )

module _ (g : Over) (c : goal.After-from_vec g) where
  abbrev old : LocalClone
  old = local_of c.self.inside

  abbrev new : LocalClone
  new = record old { path = c.give.new.self }

  gives : LocallyGives old c.args.id.now c.from_vec.result new
  gives =
      let id = c.args.id.now in
      let snapshot = c.in_ok-snapshot.snapshot in
      let room = subst (λ (clone : BankedClone _). length clone.local.path < path_limit) (sym c.self.view_is) c.requires.due.room in
      let have = subst (λ (clone : BankedClone _). snapshot_value snapshot ≡ snapshot_of clone.local) (sym c.self.view_is) c.in_ok-snapshot.ensures.copy in
      let left = rw c.unwrap.ensures at c.give.ensures.left in
      let path : c.path.result ≡ old.path = c.path.ensures ∙ sym (ap (λ (v : BankedClone _). v.local.path) c.self.view_is) in
      let right = c.child.ensures ∙ ap (λ (p : List ℕ). p ++ one_letter ∷ []) path in
      let given = c.in_ok-given.given in
      let one = c.from_vec.ensures ∙ c.push_reserved.ensures.items ∙ ap (λ (ms : List Message). ms ++ message.JoinGive given ∷ []) c.in_ok-messages.ensures.items
      ∙ ap (λ (give : Give). message.JoinGive give ∷ []) c.in_ok-given.ensures in
      forks_as old id c.give.new.self c.child.result snapshot c.from_vec.result room have left right one

pub returns-clause-ok : goal.returns-clause-ok
returns-clause-ok g c = (c.requires.due.other, subst (λ (clone : BankedClone _). LocallyGives clone.local c.args.id.now c.from_vec.result (new g c)) c.self.view_is (gives g c))

pub returns-clause-good : goal.returns-clause-good
returns-clause-good g c = gives_good (old g c) (new g c) c.args.id.now c.from_vec.result c.self.invariant.0 (gives g c)
