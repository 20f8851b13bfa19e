use Rattle.std.proofs.Common.{◌≡◌, ◌∙◌, ap, subst, sym, Some}
use Rattle.mld_io.specs.Arm.{Caught, revived}
use Rattle.mld_model.specs.declared.CloneState.TheVariants as states
use Rattle.net_world.proofs.crash.cut_power.Goals as goal

pub returns : goal.returns
returns g c =
    let same = c.banks_of_state-banks.ensures.banks in
    record {
      was = c.take_state.result;
      now = c.revive.new.self;
      becomes = record { was = c.take_state.ensures.was; now = c.put_state.ensures ∙ c.take_state.ensures.back (states.Down c.revive.new.self) };
      kept = c.banks_of_state-banks.ensures.kept;
      revives = λ l is. c.revive.ensures.cut l (subst (λ (b : g.row.B.Denot). g.B.Banks.log b ≡ Some l) (sym same) is);
      meter_is = c.revive.ensures.meter ∙ ap (λ (b : g.row.B.Denot). revived (g.B.Banks.meter b)) same;
      told = (
        λ h. subst (λ (b : g.row.B.Denot). (g.B.Banks.meter b).arm ≡ Caught) same (c.stopped-is_caught.ensures.0 h),
        λ h. c.stopped-is_caught.ensures.1 (subst (λ (b : g.row.B.Denot). (g.B.Banks.meter b).arm ≡ Caught) (sym same) h),
      );
    }
