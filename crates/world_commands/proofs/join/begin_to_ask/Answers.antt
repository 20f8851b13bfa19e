use Rattle.std.proofs.Common.{◌∙◌}
use Rattle.mld_model.specs.declared.CloneState.TheVariants as states
use Rattle.world_commands.proofs.join.begin_to_ask.Goals as goal

pub returns : goal.returns
returns g c = record {
  blank = c.in-Absent.blank;
  asking = c.new_asker-asker.result;
  becomes = record { was = c.in-Absent.ensures.was; now = c.put_state.ensures ∙ c.take_state.ensures.back (states.Asking c.new_asker-asker.result) };
  banks = c.new_asker-asker.ensures.banks;
  begins = c.new_asker-asker.ensures.asker;
  is = c.ask-question.ensures.asks;
}
