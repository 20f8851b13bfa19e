-- What the parts of a clone's calls do, which are private: `make`, `give`, `accept`, `hold`, `merge`, `answer_want`, `swap_compacted`,
-- `swap_truncated` and `beginning` cite it.
use Rattle.std.specs.Prelude.{◌≡◌, ◌++◌, ◌∷◌, [], List, Option, None, Some, Result, Ok, Err}
use Rattle.mld_io.specs.Arm.{Meter}
use Rattle.mld_io.specs.Disk.{Log}
use Rattle.journal_store.specs.declared.faults.Why.{Why}
use Rattle.tree_clock.specs.Clock.{ticks_of, RaisesTo}
use Rattle.mld_ops.specs.Entry.{EntryValue}
use Rattle.mld_ops.specs.Cut.{IsCutOf}
use Rattle.causal_buffer.specs.declared.faults.HeldFault.{HeldFault}
use Rattle.causal_buffer.specs.declared.faults.HeldFault.TheVariants as held
use Rattle.mld_model.specs.Local.{LocalClone, IsSameClone, IsFullFor, next_dot}
use Rattle.clone_core.specs.Banked.{BankedClone}
use Rattle.clone_parts.specs.KeptSteps.{KeptStep, Appended}
use Rattle.clone_core.specs.CloneClosing.{LeavesClone, update_stop, receive_stop}
use Rattle.clone_core.specs.DurableCalls.{RefusedSteps}
use Rattle.clone_parts.specs.declared.answers.Done.{Done}
use Rattle.clone_parts.specs.declared.answers.Done.TheVariants as done
use Rattle.clone_parts.specs.declared.faults.ReceiveFault.{ReceiveFault}
use Rattle.clone_parts.specs.declared.faults.ReceiveFault.TheVariants as receive
use Rattle.clone_parts.specs.declared.faults.UpdateFault.{UpdateFault}
use Rattle.journal_sides.specs.Heads.{HeadValue}
use Rattle.journal_store.specs.Calls.{made}
use Rattle.journal_store.specs.Standing.{JournalValue, KeepsJust}
use Rattle.mld_io.specs.declared.banks.Side.TheVariants.{A}

-- a part that the device or memory alone can stop leaves what a call leaves
abbrev pub StopsClone : {B : Type 0} → (B → Option Log) → (B → Meter) → (Due Swaps : Type 0) → BankedClone B → BankedClone B → Option Why → Type 0
StopsClone log meter Due Swaps old new None = ⊥
StopsClone log meter Due Swaps old new (Some reason) = LeavesClone log meter Due Swaps old new (Some reason)

-- the clone takes an entry at its next dot
pub record MakesEntry (old : LocalClone) (entry : EntryValue) (new : LocalClone) : Type 0 where
  pub same : IsSameClone old new
  pub entries : new.entries ≡ old.entries ++ entry ∷ []
  pub held : new.held ≡ old.held
  pub clock : RaisesTo old.ticks new.ticks (next_dot old)
  pub pairs : IsCutOf entry (ticks_of old.ticks old.path) old.pairs new.pairs

-- the append of the entry that was to be made
abbrev pub MakeSteps : EntryValue → Result Done UpdateFault → List KeptStep → Type 0
MakeSteps entry (Ok answer) steps = steps ≡ Appended entry ∷ []
MakeSteps entry (Err refused) steps = RefusedSteps (λ own. own ≡ Appended entry ∷ []) (update_stop refused) steps

-- the clone took the entry at its next dot, and hands out a copy of it
abbrev pub MakesDone : LocalClone → EntryValue → LocalClone → Done → Type 0
MakesDone old entry new done.Nothing = ⊥
MakesDone old entry new (done.Made made) = (made ≡ entry) × MakesEntry old entry new

-- an entry isn't held: too many others are, or memory ran out
abbrev pub IsFullAt : LocalClone → EntryValue → HeldFault → Type 0
IsFullAt clone entry held.Full = IsFullFor clone entry
IsFullAt clone entry held.NoMemory = Unit {0}

-- an open clone that refuses a message isn't said to be closed
abbrev pub StopsReceiving : {B : Type 0} → (B → Option Log) → (B → Meter) → (Due Swaps : Type 0) → BankedClone B → BankedClone B → ReceiveFault → Type 0
StopsReceiving log meter Due Swaps old new (receive.Closed reason) = ⊥
StopsReceiving log meter Due Swaps old new other = LeavesClone log meter Due Swaps old new (receive_stop other)

-- a journal that was just made of a head is open, and its banks keep the head alone
pub record BeginsJournal {B : Type 0} (head : HeadValue) (journal : JournalValue B) (now : Option Log) : Type 0 where
  pub opened : journal.closed ≡ None
  pub side : journal.side ≡ A
  pub generation : journal.generation ≡ 1
  pub keeps : (log : Log) → now ≡ Some log → KeepsJust (made head) log
