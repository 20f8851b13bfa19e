use Rattle.std.proofs.Common.{subst, sym}
use Rattle.crash_laws.specs.clone_parts.KeptSteps.{calls_of_all}
use Rattle.mld_model.specs.declared.CloneState.TheVariants as states
use Rattle.world_commands.specs.declared.keeping.Keeping.{Keeping}
use Rattle.world_commands.specs.declared.keeping.Keeping.TheVariants as keepings
use Rattle.world_commands.specs.Doings.{doing_keep}
use Rattle.world_commands.specs.KeptJournals.{fault_of_keeping}
use Rattle.world_commands.specs.LeftBanks.{LeavesState}
use Rattle.world_commands.proofs.LeftLemmas.{keep_left}
use Rattle.world_commands.proofs.keeping.kept.Goals as goal

pub returns-in-Compacted-clause-closed : goal.returns-in-Compacted-clause-closed
returns-in-Compacted-clause-closed g c why is = cc (c.requires.opened, (c.compact.ensures.closed why).0 is)

pub returns-in-Last-clause-closed : goal.returns-in-Last-clause-closed
returns-in-Last-clause-closed g c why is = cc (c.requires.opened, (c.truncate.ensures.closed why).0 is)

pub returns-in-Compacted-clause-meter : goal.returns-in-Compacted-clause-meter
returns-in-Compacted-clause-meter g c = (calls_of_all c.compact.ensures.durable.0, c.compact.ensures.durable.2.metered)

pub returns-in-Last-clause-meter : goal.returns-in-Last-clause-meter
returns-in-Last-clause-meter g c = (calls_of_all c.truncate.ensures.durable.0, c.truncate.ensures.durable.2.metered)

pub returns-in-Compacted-clause-left : goal.returns-in-Compacted-clause-left
returns-in-Compacted-clause-left g c = λ number.
    let old = c.args.clone.now in
    let new = c.compact.new.self in
    let P : Keeping → Type 0 = λ keeping. LeavesState g.B.Banks.log g.B.Banks.meter (doing_keep keeping) (fault_of_keeping number c.compact.result) (states.Live old) (states.Live new) in
    subst P (sym c.in-Compacted.is)
    (keep_left g.B.Banks.log g.B.Banks.meter number keepings.Compacted old new c.compact.result c.compact.ensures.ok c.compact.ensures.left c.compact.ensures.durable)

pub returns-in-Last-clause-left : goal.returns-in-Last-clause-left
returns-in-Last-clause-left g c = λ number.
    let old = c.args.clone.now in
    let new = c.truncate.new.self in
    let count = c.in-Last.count in
    let P : Keeping → Type 0 = λ keeping. LeavesState g.B.Banks.log g.B.Banks.meter (doing_keep keeping) (fault_of_keeping number c.truncate.result) (states.Live old) (states.Live new) in
    subst P (sym c.in-Last.is)
    (keep_left g.B.Banks.log g.B.Banks.meter number (keepings.Last count) old new c.truncate.result c.truncate.ensures.ok c.truncate.ensures.left c.truncate.ensures.durable)
