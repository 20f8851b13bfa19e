-- What is found on the banks of a session.
use Rattle.std.proofs.Common.{Option, ap}
use Rattle.mld_io.specs.Disk.{Log}
use Rattle.shell_session.specs.Shells.{Shell, Shut, Live, found_in, found_of}
use Rattle.shell_session.specs.declared.sessions.Session.{Session}
use Rattle.shell_session.specs.declared.sessions.Session.TheVariants as sessions
use Rattle.shell_session.specs.Sessions.{session_banks, HasFound, SessionStands}

-- they keep what the shell that it stands for has
pub session_finds : {B : Type 0} (log : B → Option Log) (session : Session B) (shell : Shell) → SessionStands log session shell → HasFound (found_of shell) (log (session_banks session))
session_finds log (sessions.Shut banks) (Shut found) stands = stands
session_finds log (sessions.Shut banks) (Live generation clone) stands = absurd stands
session_finds log (sessions.Live clone) (Shut found) stands = absurd stands
session_finds log (sessions.Live clone) (Live generation local) stands =
    record { log = stands.kept.log; now_is = stands.kept.now_is; finds = ap found_in stands.kept.keeps.1.reads }
