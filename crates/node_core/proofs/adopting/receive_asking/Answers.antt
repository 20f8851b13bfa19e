use Rattle.std.proofs.Common.{◌≡◌, sym, subst}
use Rattle.mld_ops.specs.Messages.{CarriesWant}
use Rattle.node_model.specs.journal_store.Closing.{StaysTold}
use Rattle.node_model.specs.clone_core.Banked.{BankedAsker}
use Rattle.node_model.specs.shell_session.SessionLines.{LeavesFrontOfDue, Meters}
use Rattle.node_model.specs.Exchanges.{telling}
use Rattle.node_model.specs.Keepers.{Asks, keeper_found}
use Rattle.node_model.specs.NodeMessages.{ignores}
use Rattle.node_core.specs.declared.states.NodeState.{NodeState}
use Rattle.node_core.specs.declared.states.NodeState.TheVariants as states
use Rattle.node_core.specs.NodeStates.{StateFailsOnDevice, IsOpen}
use Rattle.node_core.specs.NodeDeeds.{ReceivesOn, IsDueByMessage}
use Rattle.node_core.proofs.CallLaws.{handed_on, given_back, joined_node, joined_stops, asks_on, begun_banks, begun_fine}
use Rattle.node_model.proofs.of_shell_session.MeterLaws.{meters_of}
use Rattle.node_core.proofs.adopting.receive_asking.Goals as goal

pub returns-in-Joined-clause-done : goal.returns-in-Joined-clause-done
returns-in-Joined-clause-done g c =
    let log = g.B.Banks.log in
    let at = c.in-Joined in
    let adopts = at.ensures.adopts in
    let before = c.args.exchange.now in
    let after = c.begin.new.exchange in
    handed_on {W = after ≡ telling (CarriesWant at.clone.local.ticks) before}
    (λ (next : NodeState g.row.B.Denot). ReceivesOn log c.args.message.now (states.Asking c.args.asker) before next after)
    c.begin.result (states.Live at.clone) c.begin.ensures.same c.begin.ensures.told
    (λ tells. joined_node log g.B.Banks.meter c.args.asker c.args.message.now at.clone before after adopts.0 adopts.1 adopts.2 adopts.4
    (at.ensures.durable adopts.0 adopts.1) c.begin.ensures.kept tells)

pub returns-in-Joined-clause-opened : goal.returns-in-Joined-clause-opened
returns-in-Joined-clause-opened g c =
    let at = c.in-Joined in
    handed_on {W = c.begin.new.exchange ≡ telling (CarriesWant at.clone.local.ticks) c.args.exchange.now}
    (λ (next : NodeState g.row.B.Denot). IsOpen next) c.begin.result (states.Live at.clone) c.begin.ensures.same c.begin.ensures.told (λ tells. at.ensures.adopts.3)

pub returns-in-Joined-clause-stopped : goal.returns-in-Joined-clause-stopped
returns-in-Joined-clause-stopped g c =
    let log = g.B.Banks.log in
    let at = c.in-Joined in
    let adopts = at.ensures.adopts in
    let keeper = Asks c.args.asker.asker in
    given_back (λ (b : g.row.B.Denot). LeavesFrontOfDue (IsDueByMessage keeper c.args.message.now) log (keeper_found keeper) c.args.asker.banks b)
    c.begin.result at.clone.banks c.begin.ensures.err
    (joined_stops log g.B.Banks.meter c.args.asker c.args.message.now at.clone.banks adopts.0 adopts.1 (at.ensures.durable adopts.0 adopts.1))

pub returns-in-Joined-clause-told : goal.returns-in-Joined-clause-told
returns-in-Joined-clause-told g c =
    let log = g.B.Banks.log in
    let at = c.in-Joined in
    let adopts = at.ensures.adopts in
    subst (λ (b : g.row.B.Denot). StaysTold (log c.args.asker.banks) (log b)) (sym (begun_banks c.begin.result at.clone c.begin.ensures.same c.begin.ensures.err))
    (at.ensures.durable adopts.0 adopts.1).told

pub returns-in-Joined-clause-fault : goal.returns-in-Joined-clause-fault
returns-in-Joined-clause-fault g c =
    let meter = g.B.Banks.meter in
    let at = c.in-Joined in
    let fine = begun_fine c.begin.result at.clone c.begin.ensures.err in
    subst (λ (b : g.row.B.Denot). Meters (meter c.args.asker.banks) (meter b) (StateFailsOnDevice c.begin.result))
    (sym (begun_banks c.begin.result at.clone c.begin.ensures.same c.begin.ensures.err))
    (meters_of _ (meter c.args.asker.banks) (meter at.clone.banks) fine (λ never. absurd never) at.ensures.meter)

pub returns-in-Ignored-clause-done : goal.returns-in-Ignored-clause-done
returns-in-Ignored-clause-done g c =
    let log = g.B.Banks.log in
    let adopts = c.in-Ignored.ensures.adopts in
    let before = c.args.exchange.now in
    subst (λ (a : BankedAsker g.row.B.Denot). ReceivesOn log c.args.message.now (states.Asking c.args.asker) before (states.Asking a) before) (sym adopts.1)
    (asks_on log g.B.Banks.meter c.args.asker _ (ignores adopts.0))

pub returns-in-Refused-Device-default-clause-stopped : goal.returns-in-Refused-Device-default-clause-stopped
returns-in-Refused-Device-default-clause-stopped g c =
    let at = c.in-Refused-Device-default in
    let adopts = at.ensures.adopts in
    joined_stops g.B.Banks.log g.B.Banks.meter c.args.asker c.args.message.now at.banks adopts.0 adopts.1 (at.ensures.durable adopts.0 adopts.1)

pub returns-in-Refused-NoMemory-default-clause-stopped : goal.returns-in-Refused-NoMemory-default-clause-stopped
returns-in-Refused-NoMemory-default-clause-stopped g c =
    let at = c.in-Refused-NoMemory-default in
    let adopts = at.ensures.adopts in
    joined_stops g.B.Banks.log g.B.Banks.meter c.args.asker c.args.message.now at.banks adopts.0 adopts.1 (at.ensures.durable adopts.0 adopts.1)
