-- Which shell of the model a session stands for. `Session::line` and `Session::into_banks` cite it.
use Rattle.std.specs.Prelude.{◌≡◌, ℕ, List, Option, None, Some}
use Rattle.mld_io.specs.Disk.{Log, seen}
use Rattle.crash_laws.specs.journal_sides.Pairs.{read_banks}
use Rattle.mld_model.specs.Local.{LocalClone}
use Rattle.crash_laws.specs.clone_core.Banked.{BankedClone, KeepsClone}
use Rattle.shell_session.specs.Shells.{FoundOnBanks, found_in, Shell, Shut, Live}
use Rattle.shell_session.specs.declared.sessions.Session.{Session}
use Rattle.shell_session.specs.declared.sessions.Session.TheVariants as sessions

-- the banks of a session
abbrev pub session_banks : {B : Type 0} → Session B → B
session_banks (sessions.Shut banks) = banks
session_banks (sessions.Live clone) = clone.banks

-- the domain of the live clone, if one is live
abbrev pub domain_in : {B : Type 0} → Session B → Option (List ℕ)
domain_in (sessions.Shut banks) = None
domain_in (sessions.Live clone) = Some clone.local.domain

-- a session that may do a line: a live clone is open
abbrev pub MayDoLine : {B : Type 0} → Session B → Type 0
MayDoLine (sessions.Shut banks) = Unit {0}
MayDoLine (sessions.Live clone) = clone.closed ≡ None

-- banks tell their log, and this is found on them
pub record HasFound (found : FoundOnBanks) (now : Option Log) : Type 0 where
  pub log : Log
  pub now_is : now ≡ Some log
  pub finds : found_in (read_banks (seen log)) ≡ found

-- banks tell their log, and keep this clone at this generation, whatever a crash leaves of them
pub record HasKept (clone : LocalClone) (generation : ℕ) (now : Option Log) : Type 0 where
  pub log : Log
  pub now_is : now ≡ Some log
  pub keeps : KeepsClone clone generation log

-- a clone runs as the model's: it is open, and its banks keep it
pub record RunsAs {B : Type 0} (log : B → Option Log) (clone : BankedClone B) (generation : ℕ) (local : LocalClone) : Type 0 where
  pub opened : clone.closed ≡ None
  pub same : clone.local ≡ local
  pub counts : clone.generation ≡ generation
  pub kept : HasKept local generation (log clone.banks)

-- a session over banks that tell their log stands for a shell of the model
abbrev pub SessionStands : {B : Type 0} → (B → Option Log) → Session B → Shell → Type 0
SessionStands log (sessions.Shut banks) (Shut found) = HasFound found (log banks)
SessionStands log (sessions.Shut banks) (Live generation local) = ⊥
SessionStands log (sessions.Live clone) (Shut found) = ⊥
SessionStands log (sessions.Live clone) (Live generation local) = RunsAs log clone generation local
