-- What a wire tells of what was done over it.
use Rattle.std.specs.Prelude.{◌≡◌, ℕ, ◌+◌, Bool, true, false, not, ◌&&◌, ◌||◌, nat_le, ◌==◌, if◌then◌else◌, List, [], ◌∷◌, ◌++◌, length, Option, Some, Result, Ok, Err, ⊤}
use Rattle.mld_io.specs.declared.events.Event.{Event}
use Rattle.mld_io.specs.declared.events.Event.TheVariants.{Opened, Bytes, Shut, End}
use Rattle.mld_io.specs.declared.events.WireCall.{WireCall}
use Rattle.mld_io.specs.declared.events.WireCall.TheVariants.{Took, Sent, Closed}
use Rattle.mld_io.specs.declared.faults.IoFault.{IoFault}

-- the most bytes of a piece that a wire gives
abbrev pub piece_limit : ℕ
piece_limit = 65536

-- a piece that came has a byte, and no more than the limit
abbrev pub is_event : Event → Bool
is_event (Opened conn) = true
is_event (Bytes conn bytes) = nat_le 1 (length bytes) && nat_le (length bytes) piece_limit
is_event (Shut conn) = true
is_event End = true

-- what was done over a wire, the newest first
abbrev pub WireLog : Type 0
WireLog = List WireCall

-- the events that were taken, the newest first
abbrev pub taken_of : WireLog → List Event
taken_of [] = []
taken_of (Took event ∷ calls) = event ∷ taken_of calls
taken_of (Sent conn bytes ∷ calls) = taken_of calls
taken_of (Closed conn ∷ calls) = taken_of calls

-- the bytes sent on a connection once one call more was made
abbrev pub sent_after : ℕ → WireCall → List ℕ → List ℕ
sent_after conn (Took event) before = before
sent_after conn (Sent on bytes) before = if on == conn then before ++ bytes else before
sent_after conn (Closed on) before = before

-- the bytes sent on a connection
abbrev pub sent_on : ℕ → WireLog → List ℕ
sent_on conn [] = []
sent_on conn (call ∷ calls) = sent_after conn call (sent_on conn calls)

-- whether a connection is open once an event more came: its end may open and shut it
abbrev pub opened_after : ℕ → Event → Bool → Bool
opened_after conn (Opened on) before = (on == conn) || before
opened_after conn (Bytes on bytes) before = before
opened_after conn (Shut on) before = not (on == conn) && before
opened_after conn End before = before

-- whether a connection is open once one call more was made
abbrev pub open_after : ℕ → WireCall → Bool → Bool
open_after conn (Took event) before = opened_after conn event before
open_after conn (Sent on bytes) before = before
open_after conn (Closed on) before = not (on == conn) && before

-- whether a connection is open: it was opened, and shut since by neither end
abbrev pub is_open : ℕ → WireLog → Bool
is_open conn [] = false
is_open conn (call ∷ calls) = open_after conn call (is_open conn calls)

-- whether a connection was shut from this end once one call more was made
abbrev pub closed_after : ℕ → WireCall → Bool → Bool
closed_after conn (Took event) before = before
closed_after conn (Sent on bytes) before = before
closed_after conn (Closed on) before = (on == conn) || before

-- whether a connection was shut from this end
abbrev pub was_closed : ℕ → WireLog → Bool
was_closed conn [] = false
was_closed conn (call ∷ calls) = closed_after conn call (was_closed conn calls)

-- the calls once a connection was shut from this end, which is nothing where it isn't open
abbrev pub after_shut : ℕ → WireLog → WireLog
after_shut conn calls = if is_open conn calls then Closed conn ∷ calls else calls

-- an answer to a call for the next event leaves that it was taken, and a refusal nothing
abbrev pub TakesEvent : WireLog → Result Event IoFault → Option WireLog → Type 0
TakesEvent log (Ok event) now = now ≡ Some (Took event ∷ log)
TakesEvent log (Err fault) now = now ≡ Some log

-- the number of events taken goes up by one with each
abbrev pub CountsEvent : ℕ → Result Event IoFault → ℕ → Type 0
CountsEvent before (Ok event) now = now ≡ before + 1
CountsEvent before (Err fault) now = now ≡ before

-- what was sent is told, and what was refused adds nothing
abbrev pub TellsSent : WireLog → ℕ → List ℕ → Result ⊤ IoFault → Option WireLog → Type 0
TellsSent log conn bytes (Ok done) now = now ≡ Some (Sent conn bytes ∷ log)
TellsSent log conn bytes (Err fault) now = now ≡ Some log
