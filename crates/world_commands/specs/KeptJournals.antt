-- What a live clone keeps of its journal, by the command and the reply. `keep` cites it.
use Rattle.std.specs.Prelude.{◌≡◌, ℕ, Option, None, Some, Result, Ok, Err, length}
use Rattle.crash_laws.specs.schedule_model.declared.Command.{Command}
use Rattle.crash_laws.specs.schedule_model.declared.Command.TheVariants as commands
use Rattle.schedule_replies.specs.declared.replies.Reply.{Reply}
use Rattle.schedule_replies.specs.declared.replies.Reply.TheVariants as replies
use Rattle.crash_laws.specs.clone_core.Banked.{BankedClone}
use Rattle.crash_laws.specs.clone_core.Keeping.{KeepsCompacted, KeepsTruncated}
use Rattle.crash_laws.specs.clone_parts.declared.faults.KeepFault.{KeepFault}
use Rattle.crash_laws.specs.clone_parts.declared.faults.KeepFault.TheVariants as keep
use Rattle.world_commands.specs.declared.faults.WorldFault.{WorldFault}
use Rattle.world_commands.specs.declared.faults.WorldFault.TheVariants as faults
use Rattle.world_commands.specs.declared.keeping.Keeping.{Keeping}
use Rattle.world_commands.specs.declared.keeping.Keeping.TheVariants as keepings

-- the command by which the clone of a number keeps so much
abbrev pub keeping_command : ℕ → Keeping → Command
keeping_command number keepings.Compacted = commands.Compact number
keeping_command number (keepings.Last count) = commands.Truncate number count

-- the journal is kept compacted, or so many entries at its end are kept
abbrev pub KeepsBy : {B : Type 0} → Keeping → BankedClone B → BankedClone B → Type 0
KeepsBy keepings.Compacted old new = KeepsCompacted old new
KeepsBy (keepings.Last count) old new = KeepsTruncated old count new

-- so much of the journal is kept, and the reply names how many entries it has then
abbrev pub KeepsAs : {B : Type 0} → Keeping → BankedClone B → BankedClone B → Reply → Type 0
KeepsAs keeping old new (replies.Kept count) = KeepsBy keeping old new × (count ≡ length new.local.entries)
KeepsAs keeping old new reply = ⊥

-- the fault of a world, if any, whose clone of the number ended so: its device failed; or memory ran out, since a clone of a world is open, and has a
-- generation left
abbrev pub fault_of_keeping : {T : Type 0} → ℕ → Result T KeepFault → Option WorldFault
fault_of_keeping number (Ok value) = None
fault_of_keeping number (Err keep.Device) = Some (faults.Device number)
fault_of_keeping number (Err fault) = Some faults.NoMemory
