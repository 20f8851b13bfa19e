use Rattle.std.proofs.Common.{◌≡◌, ◌∙◌, ap, subst, sym, set, Some}
use Rattle.mld_model.specs.declared.CloneState.TheVariants as states
use Rattle.world_commands.proofs.StopLemmas.{told_log}
use Rattle.world_commands.proofs.stopping.stop_live.Goals as goal

pub returns : goal.returns
returns g c =
    let old = c.args.clones.now.items in
    let clone = c.in-Live.clone in
    let told = told_log (g.B.Banks.log clone.banks) (g.met.B.CrashBanks.tells clone.banks) in
    record {
      clone = clone;
      becomes = record {
        was = c.in-Live.ensures.was;
        now = c.put_state.ensures ∙ c.take_state.ensures.back (states.Down c.stop.result) ∙ ap (λ (b : g.row.B.Denot). set old c.args.number (states.Down b)) c.stop.ensures.banks;
      };
      now = told.0;
      told = told.1;
      keeps = λ opened. c.stop.ensures.kept opened told.0 (subst (λ (b : g.row.B.Denot). g.B.Banks.log b ≡ Some told.0) (sym c.stop.ensures.banks) told.1);
    }
