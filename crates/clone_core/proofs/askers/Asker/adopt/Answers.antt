use Rattle.std.proofs.Common.{◌≡◌, ap, refl, sym, subst}
use Rattle.journal_sides.specs.Heads.{HeadValue}
use Rattle.journal_store.specs.Standing.{IsBlankLog}
use Rattle.journal_store.proofs.Reading.{metered_as}
use Rattle.mld_ops.specs.Messages.{SnapshotValue, IsGoodSnapshot, give_value}
use Rattle.mld_model.specs.Local.{joined_clone}
use Rattle.clone_parts.specs.BankCalls.{create_calls}
use Rattle.clone_core.specs.Banked.{head_of}
use Rattle.clone_core.specs.DurableCalls.{Creates}
use Rattle.clone_core.proofs.DurableLaws.{creates_as, creates_none}
use Rattle.journal_store.specs.declared.faults.MakeFault.TheVariants as MakeFault
use Rattle.clone_core.proofs.askers.Asker.adopt.Goals as goal

pub create-requires : goal.create-requires
create-requires g c = record {
  name = c.self.invariant.name;
  ascending = c.self.invariant.ascending;
  base = subst (λ (s : SnapshotValue). IsGoodSnapshot s) (sym c.in-Ok.ensures.base) c.requires;
}

pub beginning-requires-clause-base : goal.beginning-requires-clause-base
beginning-requires-clause-base g c = subst (λ (s : SnapshotValue). IsGoodSnapshot s) (sym c.in-Ok.ensures.base) c.requires

pub returns-in_default-clause-durable : goal.returns-in_default-clause-durable
returns-in_default-clause-durable g c =
    creates_none g.B.Banks.log g.B.Banks.meter c.args.self.banks c.stop.result (head_of (joined_clone c.args.self.asker (give_value c.args.give.now))) c.stop.ensures.banks
    (subst (λ b. IsBlankLog (g.B.Banks.log b)) c.stop.ensures.banks c.stop.ensures.blank) (λ d. absurd d) (λ f. absurd cc)

pub returns-in-Err-clause-durable : goal.returns-in-Err-clause-durable
returns-in-Err-clause-durable g c =
    let head : HeadValue = record {
      id = c.self.inside.id;
      domain = c.self.inside.domain;
      properties = c.self.inside.properties.items;
      path = c.args.give.now.path;
      base = record { ticks = c.in-Ok.base.clock.ticks; pairs = c.in-Ok.base.tagged };
    } in
    let wanted = head_of (joined_clone c.args.self.asker (give_value c.args.give.now)) in
    let head_is : head ≡ wanted = λ i. record {
      id = (c.self.view_is i).asker.id;
      domain = (c.self.view_is i).asker.domain;
      properties = (c.self.view_is i).asker.properties;
      path = c.args.give.now.path;
      base = c.in-Ok.ensures.base i;
    } in
    let blank = c.self.inside.blank in
    subst (λ b. Creates g.B.Banks.log g.B.Banks.meter wanted b c.in-Err.banks ⊥ (c.in-Err.fault ≡ MakeFault.Device)) (ap (λ v. v.banks) c.self.view_is)
    (creates_as g.B.Banks.log g.B.Banks.meter blank c.in-Err.banks head wanted head_is c.in-Err.ensures.moments c.in-Err.ensures.told
    (metered_as create_calls (g.B.Banks.meter blank) (g.B.Banks.meter c.in-Err.banks) (λ d. absurd d) (λ f. f) (λ f. f) c.in-Err.ensures.meter))

pub returns-in-Ok-create-clause-durable : goal.returns-in-Ok-create-clause-durable
returns-in-Ok-create-clause-durable g c =
    let head : HeadValue = record {
      id = c.self.inside.id;
      domain = c.self.inside.domain;
      properties = c.self.inside.properties.items;
      path = c.args.give.now.path;
      base = record { ticks = c.in-Ok.base.clock.ticks; pairs = c.in-Ok.base.tagged };
    } in
    let wanted = head_of (joined_clone c.args.self.asker (give_value c.args.give.now)) in
    let head_is : head ≡ wanted = λ i. record {
      id = (c.self.view_is i).asker.id;
      domain = (c.self.view_is i).asker.domain;
      properties = (c.self.view_is i).asker.properties;
      path = c.args.give.now.path;
      base = c.in-Ok.ensures.base i;
    } in
    let blank = c.self.inside.blank in
    let now = c.in-Ok-create.journal.banks in
    subst (λ b. Creates g.B.Banks.log g.B.Banks.meter wanted b c.beginning.result.banks (Unit {0}) ⊥) (ap (λ v. v.banks) c.self.view_is)
    (subst (λ b. Creates g.B.Banks.log g.B.Banks.meter wanted blank b (Unit {0}) ⊥) (sym (ap (λ v. v.banks) c.beginning.ensures))
    (creates_as g.B.Banks.log g.B.Banks.meter blank now head wanted head_is c.in-Ok-create.ensures.moments c.in-Ok-create.ensures.told
    (metered_as create_calls (g.B.Banks.meter blank) (g.B.Banks.meter now) (λ d. refl) (λ f. absurd f) (λ f. absurd f) c.in-Ok-create.ensures.meter)))
