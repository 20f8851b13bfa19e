-- What the wire over TCP tells.
use Rattle.std.specs.Prelude.{ℕ, IsTrue}
use Rattle.mld_io.specs.declared.events.Event.{Event}
use Rattle.mld_io.specs.Wires.{is_event}

-- what a wire over TCP is: how many events were taken, and how many faults there were
pub record TcpCounts : Type 0 where
  pub taken : ℕ
  pub faults : ℕ

-- how many events were taken
abbrev pub count_of_taken : TcpCounts → ℕ
count_of_taken wire = wire.taken

-- how many faults there were
abbrev pub faults_of : TcpCounts → ℕ
faults_of wire = wire.faults

-- a piece that came has 1 to 65,536 bytes
abbrev pub IsSizedEvent : Event → Type 0
IsSizedEvent event = IsTrue (is_event event)
