-- A wire in memory.
use Rattle.std.specs.Prelude.{◌≡◌, ℕ, ◌≤◌, Bool, true, false, IsTrue, List, [], ◌∷◌, length, drop, Contains, Result, Ok, Err, ⊤}
use Rattle.std.specs.List.{list_all}
use Rattle.mld_io.specs.declared.events.Event.{Event}
use Rattle.mld_io.specs.declared.events.Event.TheVariants.{End}
use Rattle.mld_io.specs.declared.events.WireCall.TheVariants.{Took, Sent}
use Rattle.mld_io.specs.declared.faults.IoFault.{IoFault}
use Rattle.mld_io.specs.declared.faults.IoFault.TheVariants as io
use Rattle.mld_io.specs.Faults.{counted}
use Rattle.mld_io.specs.Wires.{WireLog, is_event}

-- what a wire in memory is: the events left, what was done over it, the faults, the number of the next call, and the numbers of
-- those that fail
pub record WireValue : Type 0 where
  pub left : List Event
  pub log : WireLog
  pub faults : ℕ
  pub calls : ℕ
  pub fails : List ℕ

-- the next of these events, which is the end where there is none
abbrev pub first_event : List Event → Event
first_event [] = End
first_event (event ∷ left) = event

-- the wire once a call failed
abbrev pub after_fault : WireValue → WireValue
after_fault old = record old { faults = counted old.faults; calls = counted old.calls }

-- a call that is to fail is counted, and no other yet
abbrev pub FailsNext : WireValue → Bool → WireValue → Type 0
FailsNext old true new = Contains old.fails old.calls × (new ≡ after_fault old)
FailsNext old false new = (¬ Contains old.fails old.calls) × (new ≡ old)

-- what a call for the next event leaves
abbrev pub NextMoves : WireValue → Result Event IoFault → WireValue → Type 0
NextMoves old (Ok event) new =
    (event ≡ first_event old.left) × (new ≡ record old { left = drop 1 old.left; log = Took event ∷ old.log; calls = counted old.calls })
NextMoves old (Err io.Failed) new = new ≡ after_fault old
NextMoves old (Err io.NoMemory) new = new ≡ old

-- what a call that sends a piece leaves
abbrev pub SendMoves : WireValue → ℕ → List ℕ → Result ⊤ IoFault → WireValue → Type 0
SendMoves old conn piece (Ok done) new = new ≡ record old { log = Sent conn piece ∷ old.log; calls = counted old.calls }
SendMoves old conn piece (Err io.Failed) new = new ≡ after_fault old
SendMoves old conn piece (Err io.NoMemory) new = new ≡ old

-- the place is one of the events or their end, and each piece of them may be given
pub record AreEvents (at : ℕ) (events : List Event) : Type 0 where
  pub within : at ≤ length events
  pub sized : IsTrue (list_all is_event events)
