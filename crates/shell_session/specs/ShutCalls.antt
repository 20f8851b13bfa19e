-- What becomes of banks that are not mounted. The private calls behind `Session::line` cite it.
use Rattle.std.specs.Prelude.{◌≡◌, ℕ, List, ◌++◌}
use Rattle.mld_io.specs.declared.banks.Side.{Side}
use Rattle.crash_laws.specs.journal_store.declared.faults.MountFault.{MountFault}
use Rattle.crash_laws.specs.journal_store.declared.faults.MountFault.TheVariants.{Damaged, Device}
use Rattle.shell_session.specs.ShellReply.{FoundDamage, shell_text}
use Rattle.shell_session.specs.declared.faults.SessionFault.{SessionFault}
use Rattle.shell_session.specs.declared.faults.SessionFault.TheVariants as faults
use Rattle.shell_session.specs.declared.sessions.Session.{Session}
use Rattle.shell_session.specs.declared.sessions.Session.TheVariants as sessions

-- banks were damaged, and that is the reply; no clone is live on them
pub record TellsDamage {B : Type 0} (fault : MountFault) (banks : B) (before : List ℕ) (next : Session B) (after : List ℕ) : Type 0 where
  pub side : Side
  pub place : ℕ
  pub damaged : fault ≡ Damaged side place
  pub same : next ≡ sessions.Shut banks
  pub written : after ≡ before ++ shell_text (FoundDamage side place)

-- banks that were not mounted are given back, and that the device failed is told where it did
pub record GivesBackUnmounted {B : Type 0} (fault : MountFault) (banks : B) (refused : SessionFault × B) : Type 0 where
  pub same : refused.1 ≡ banks
  pub told : refused.0 ≡ faults.Device → fault ≡ Device
