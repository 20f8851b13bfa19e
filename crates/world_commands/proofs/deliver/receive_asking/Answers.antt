use Rattle.std.proofs.Common.{◌≡◌, ◌∙◌, set}
use Rattle.std.specs.Result.{result_err}
use Rattle.mld_model.specs.declared.CloneState.TheVariants as states
use Rattle.world_commands.specs.Doings.{doing_receive}
use Rattle.world_commands.proofs.DeliverLemmas.{asking_becomes, asking_received, asking_carried, asking_on, asking_faults}
use Rattle.world_commands.proofs.BankLemmas.{uses_set, faults_set}
use Rattle.world_commands.proofs.LeftLemmas.{left_becomes, asking_left}
use Rattle.world_commands.proofs.deliver.receive_asking.Goals as goal

pub returns : goal.returns
returns g c =
    let meter = g.B.Banks.meter in
    let old = c.args.clones.now.items in
    let new = c.put_state.new.clones.items in
    let number = c.args.number in
    let asking = c.in-Asking.asker in
    let sent = c.args.message.now in
    let what = c.receive.result in
    let told = c.told_of-state.result in
    let at = c.in-Asking.ensures.was in
    let now : new ≡ set old number told.0 = c.put_state.ensures ∙ c.take_state.ensures.back told.0 in
    let becomes = asking_becomes meter old new number asking sent told at now in
    record {
      ok = asking_received meter old new number asking sent what told at now c.receive.ensures.adopts c.told_of-state.ensures;
      carried = asking_carried meter old new number asking sent what told at now c.receive.ensures.adopts c.told_of-state.ensures;
      banks = uses_set meter old new number (states.Asking asking) told.0 becomes (asking_on meter old new number asking sent what told c.told_of-state.ensures c.receive.ensures.meter);
      faults = faults_set meter old new number (states.Asking asking) told.0 told.1 becomes (asking_faults meter old new number asking sent what told c.told_of-state.ensures c.receive.ensures.meter);
      left = left_becomes g.B.Banks.log meter (doing_receive sent) (result_err told.1) old new number (states.Asking asking) told.0 becomes
          (asking_left g.B.Banks.log meter old new number asking sent what told c.receive.ensures.adopts c.told_of-state.ensures c.receive.ensures.durable);
    }
