use Rattle.std.proofs.Common.{◌≡◌, [], refl, sym, ap, subst}
use Rattle.journal_sides.specs.Heads.{HeadValue}
use Rattle.journal_store.proofs.Reading.{metered_as}
use Rattle.mld_model.specs.Local.{blank_clone}
use Rattle.clone_parts.specs.BankCalls.{create_calls}
use Rattle.clone_core.specs.Banked.{head_of}
use Rattle.clone_core.specs.DurableCalls.{Creates}
use Rattle.clone_core.proofs.DurableLaws.{creates_as}
use Rattle.clone_core.proofs.clones.MldClone.genesis.Goals as goal

pub returns-in-Err-clause-durable : goal.returns-in-Err-clause-durable
returns-in-Err-clause-durable g c =
    let kept = c.kept_properties.result.items in
    let head : HeadValue = record { id = c.args.id; domain = c.args.domain; properties = kept; path = c.root.result; base = record { ticks = c.empty.result.ticks; pairs = c.new.result } } in
    let wanted = head_of (blank_clone c.args.id c.args.domain kept []) in
    let head_is : head ≡ wanted = λ i. record {
      id = c.args.id;
      domain = c.args.domain;
      properties = kept;
      path = c.root.ensures i;
      base = record { ticks = c.empty.ensures i; pairs = c.new.ensures i };
    } in (
      kept,
      c.kept_properties.ensures,
      creates_as g.B.Banks.log g.B.Banks.meter c.args.blank c.in-Err.refused.1 head wanted head_is c.in-Err.ensures.moments c.in-Err.ensures.told
          (metered_as create_calls (g.B.Banks.meter c.args.blank) (g.B.Banks.meter c.in-Err.refused.1) (λ d. absurd cc) (λ f. f) (λ f. f) c.in-Err.ensures.meter),
    )

pub returns-in-Ok-clause-durable : goal.returns-in-Ok-clause-durable
returns-in-Ok-clause-durable g c =
    let kept = c.kept_properties.result.items in
    let head : HeadValue = record { id = c.args.id; domain = c.args.domain; properties = kept; path = c.root.result; base = record { ticks = c.empty.result.ticks; pairs = c.new.result } } in
    let wanted = head_of (blank_clone c.args.id c.args.domain kept []) in
    let head_is : head ≡ wanted = λ i. record {
      id = c.args.id;
      domain = c.args.domain;
      properties = kept;
      path = c.root.ensures i;
      base = record { ticks = c.empty.ensures i; pairs = c.new.ensures i };
    } in
    let now = c.in-Ok.journal.banks in (
      kept,
      c.kept_properties.ensures,
      subst (λ b. Creates g.B.Banks.log g.B.Banks.meter wanted c.args.blank b _ _) (sym (ap (λ v. v.banks) c.beginning.ensures))
          (creates_as g.B.Banks.log g.B.Banks.meter c.args.blank now head wanted head_is c.in-Ok.ensures.moments c.in-Ok.ensures.told
          (metered_as create_calls (g.B.Banks.meter c.args.blank) (g.B.Banks.meter now) (λ d. refl) (λ f. absurd f) (λ f. absurd f) c.in-Ok.ensures.meter)),
    )
