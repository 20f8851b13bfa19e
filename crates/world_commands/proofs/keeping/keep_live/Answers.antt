use Rattle.std.proofs.Common.{Result, Err, subst, ℕ}
use Rattle.crash_laws.specs.clone_parts.declared.faults.KeepFault.{KeepFault}
use Rattle.mld_model.specs.declared.CloneState.TheVariants as states
use Rattle.world_commands.specs.Doings.{doing_keep}
use Rattle.world_commands.specs.KeptJournals.{fault_of_keeping}
use Rattle.world_commands.specs.LeftBanks.{LeavesState}
use Rattle.world_commands.proofs.keeping.keep_live.Goals as goal

pub unreachable-requires : goal.unreachable-requires
unreachable-requires g c =
    absurd (c.in-Err-Closed.ensures.closed c.in-Err-Closed.field-0-0 (λ i. Err (c.in-Err-Closed.field-0-is i)))

pub unreachable-requires-in-Err-GenerationsSpent : goal.unreachable-requires-in-Err-GenerationsSpent
unreachable-requires-in-Err-GenerationsSpent g c =
    absurd (c.in-Err-GenerationsSpent.ensures.spent (λ i. Err (c.in-Err-GenerationsSpent.field-0-is i)))

pub returns-in-Ok-clause-left : goal.returns-in-Ok-clause-left
returns-in-Ok-clause-left g c = c.in-Ok.ensures.left c.args.number

pub returns-in-Err-NoMemory-clause-left : goal.returns-in-Err-NoMemory-clause-left
returns-in-Err-NoMemory-clause-left g c =
    let P : KeepFault → Type 0 = λ fault. LeavesState g.B.Banks.log g.B.Banks.meter (doing_keep c.args.keeping) (fault_of_keeping {T = ℕ} c.args.number (Err fault)) (states.Live c.args.clone.now) (states.Live c.kept.new.clone) in
    subst P c.in-Err-NoMemory.field-0-is (c.in-Err-NoMemory.ensures.left c.args.number)

pub returns-in-Err-Device-clause-left : goal.returns-in-Err-Device-clause-left
returns-in-Err-Device-clause-left g c =
    let P : KeepFault → Type 0 = λ fault. LeavesState g.B.Banks.log g.B.Banks.meter (doing_keep c.args.keeping) (fault_of_keeping {T = ℕ} c.args.number (Err fault)) (states.Live c.args.clone.now) (states.Live c.kept.new.clone) in
    subst P c.in-Err-Device.field-0-is (c.in-Err-Device.ensures.left c.args.number)
