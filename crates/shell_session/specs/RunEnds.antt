-- What the ends of runs over the banks of one clone have in common: `shell` of `shell_run` and `serve` of `node_run` cite `TellsUsage` and `IfFound`,
-- and their words for an end `LeavesDone`.
use Rattle.std.specs.Prelude.{◌≡◌, ◌≢◌, ◌++◌, List, Option, Some}
use Rattle.mld_io.specs.Disk.{Log, seen, LeavesOnly}
use Rattle.crash_laws.specs.journal_sides.Pairs.{read_banks}
use Rattle.crash_laws.specs.clone_parts.KeptSteps.{KeptStep}
use Rattle.shell_session.specs.Shells.{FoundOnBanks, found_in, found_after}
use Rattle.shell_session.specs.SessionLines.{ImagesFind, FindsFront, LeavesFront}

-- usage is told where the words are refused, and only there; but for want of memory they may not have been read
pub record TellsUsage {F : Type 0} (usage no_memory : F) (fault : Option F) (Refused : Type 0) : Type 0 where
  pub refused : fault ≡ Some usage → Refused
  pub read : fault ≢ Some usage → fault ≢ Some no_memory → ¬ Refused

-- this holds of what was found on the banks at first, which is what the log that they told reads to
abbrev pub IfFound : Option Log → (FoundOnBanks → Type 0) → Type 0
IfFound old P = (log : Log) → old ≡ Some log → P (found_in (read_banks (seen log)))

-- What a crash leaves of banks on which these durable steps were done, and others were due, of which a front may be done. It is claimed
-- where the same was found on all that a crash might have left at first.
pub record LeavesDone (found : FoundOnBanks) (steps due : List KeptStep) (old now : Option Log) : Type 0 where
  -- at each moment since then: what a front of all these steps makes
  pub moments : LeavesFront found (steps ++ due) old now
  -- in the end: what all that were done make, and a front of those due
  pub settled : ImagesFind found old → (log : Log) → now ≡ Some log → LeavesOnly log (FindsFront (found_after steps found) due)
