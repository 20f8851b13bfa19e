-- The counts of a wire's faults.
use Rattle.std.proofs.Common.{◌≡◌, ℕ, refl, subst, Option, Some, Err}
use Rattle.mld_io.specs.Faults.{HasSinkCause}
use Rattle.mld_io.specs.declared.faults.IoFault.{IoFault}
use Rattle.mld_io.specs.declared.faults.IoFault.TheVariants as io
use Rattle.node_run.specs.declared.stops.NodeStop.{NodeStop}
use Rattle.node_run.specs.declared.stops.NodeStop.TheVariants as stops
use Rattle.node_run.specs.ServiceStatuses.{stop_of_wire, CountsWire}
use Rattle.node_run.specs.ServiceUnderWay.{HasTurnCause}

-- where no event was given
pub counts_next : {T : Type 0} (fault : IoFault) (before now : ℕ) → HasSinkCause {T = T} before now (Err fault) → CountsWire before now (Some (stop_of_wire fault))
counts_next io.Failed before now cause = cause.failed refl
counts_next io.NoMemory before now cause = cause.no_memory refl

-- where a turn was not done
pub counts_turn : {T B : Type 0} (stop : NodeStop) (back : B) (before now : ℕ) → HasTurnCause {T = T} {B = B} before now (Err (stop, back)) → CountsWire before now (Some stop)
counts_turn stops.WireFault back before now cause = cause.failed refl
counts_turn stops.Usage back before now cause = cause.quiet (λ same. absurd (cc (same)))
counts_turn stops.NoMemory back before now cause = cause.quiet (λ same. absurd (cc (same)))
counts_turn stops.Device back before now cause = cause.quiet (λ same. absurd (cc (same)))
counts_turn stops.OutOfTurns back before now cause = cause.quiet (λ same. absurd (cc (same)))
counts_turn (stops.Damaged side place) back before now cause = cause.quiet (λ same. absurd (cc (same)))
counts_turn stops.OtherClone back before now cause = cause.quiet (λ same. absurd (cc (same)))

-- behind what had no fault
pub counts_behind : (fault : Option NodeStop) (before mid now : ℕ) → mid ≡ before → CountsWire mid now fault → CountsWire before now fault
counts_behind fault before mid now same counts = subst (λ (n : ℕ). CountsWire n now fault) same counts

-- of what is to be sent a part was refused
pub sending_cause : {T S B : Type 0} (fault : IoFault) (back : B) (before now : ℕ) → HasSinkCause {T = S} before now (Err fault)
    → HasTurnCause {T = T} {B = B} before now (Err (stop_of_wire fault, back))
sending_cause io.Failed back before now cause = record { failed = λ same. cause.failed refl; quiet = λ other. absurd (other refl); good = tt }
sending_cause io.NoMemory back before now cause = record { failed = λ same. absurd (cc (same)); quiet = λ other. cause.no_memory refl; good = tt }
