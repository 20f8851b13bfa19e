-- A run of the shell that is under way: the lines done so far, what they wrote, and the shell that the session stands for. The loop
-- of `do_lines` keeps `WayTold`.
use Rattle.std.specs.Prelude.{◌≡◌, ℕ, List, Option, Some, length}
use Rattle.std.specs.Io.KnownBytes.{Appends}
use Rattle.mld_io.specs.Disk.{Log}
use Rattle.input_lines.specs.Taken.{IsLeft}
use Rattle.shell_session.specs.Shells.{FoundOnBanks, found_of}
use Rattle.shell_session.specs.declared.sessions.Session.{Session}
use Rattle.shell_session.specs.Sessions.{session_banks, SessionStands}
use Rattle.shell_session.specs.SessionLines.{ImagesFind, LeavesFront}
use Rattle.shell_session.specs.RunEnds.{IfFound}
use Rattle.shell_run.specs.ShellEnds.{LinesDone}

-- so many lines are done over banks on which this was found
pub record IsShellUnderWay {B : Type 0} (log : B → Option Log) (found : FoundOnBanks) (old : Option Log) (given left before now : Option (List ℕ)) (size : ℕ) (session : Session B) (count : ℕ) : Type 0 where
  pub done : LinesDone found
  pub counted : count ≡ length done.lines
  pub stands : SessionStands log session done.shell
  pub left_of : (bytes : List ℕ) → given ≡ Some bytes → IsLeft bytes left size count done.lines
  pub written : Appends before now done.text
  pub moments : LeavesFront found done.steps old (log (session_banks session))
  pub settled : ImagesFind found old → ImagesFind (found_of done.shell) (log (session_banks session))

-- so it is where the banks told their log, on which what it reads to was found
abbrev pub WayTold : {B : Type 0} → (B → Option Log) → Option Log → (given left before now : Option (List ℕ)) → ℕ → Session B → ℕ → Type 0
WayTold log old given left before now size session count =
    IfFound old (λ found. IsShellUnderWay log found old given left before now size session count)
