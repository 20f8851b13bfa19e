-- The steps of one clone alone, whatever world it is in, and that each is a step of the model's clone that it stands for.
-- `local_steps_follow` cites it.
use Rattle.std.specs.Prelude.{◌≡◌, ◌≢◌, ℕ, ◌+◌, ◌≤◌, List, [], ◌∷◌, ◌++◌, length, map}
use Rattle.std.specs.List.{AllZip, range_with_len}
use Rattle.tree_clock.specs.Limits.{path_limit}
use Rattle.tree_clock.specs.declared.dots.Range.{Range}
use Rattle.tree_clock.specs.Lists.{Has}
use Rattle.mld_ops.specs.declared.tagged.Tagged.{Tagged}
use Rattle.mld_ops.specs.Effects.{EffectValue, ChangesNothing}
use Rattle.mld_ops.specs.Breaches.{IsFirstBreach, BreaksNone}
use Rattle.mld_ops.specs.Entry.{EntryValue}
use Rattle.mld_ops.specs.Messages.{SnapshotValue, GiveValue, MessageValue, CarriesEntry, CarriesWant, CarriesSnapshot, CarriesAsk, CarriesGive}
use Rattle.mld_ops.specs.Ready.{IsKnownEntry}
use Rattle.mld_model.specs.declared.CloneState.{CloneState}
use Rattle.mld_model.specs.declared.CloneState.TheVariants as states
use Rattle.mld_model.specs.Clone.{Absent}
use Rattle.mld_model.specs.CloneStep.{UpdatesAs, Takes, Joins, Wants, Compacts, Truncates, Stops, Reopens}
use Rattle.mld_model.specs.Local.{LocalAsker, LocalClone, IsSameClone, IsLocal, next_dot, LocallyMakes, LocallyAccepts, MustBeHeld, LocallyHolds, IsFullFor, IsForeign, IsForeignSnapshot, LocallyForks, LocallyCompacts, LocallyTruncates, KnowsSnapshot, LocallyMerges, LocallyAnswersWant, LocallyAnswersBehind, joined_clone}
use Rattle.mld_model.specs.Reply.{Reply, Did, NoOperation, Single, Took, Merged, Held, HeldFull, AlreadyKnown, Sent, Answer, NothingToSend, Kept, Joined, Deep, Ignored, Stopped, Opened}
use Rattle.mld_model.specs.Sound.{IsSound}
use Rattle.mld_model.specs.StandsFor.{LiveAt, AskingAt, DownAt, MessageStandsFor}
use Rattle.mld_model.specs.World.{World, Message, clone_at}

-- what a clone is told to do; a message that comes to it is one of the model, or one as it runs
pub data Task (M : Type 0) : Type 0 where
  -- to make an update of this effect
  Update : EffectValue → Task M
  -- to take a message
  Take : M → Task M
  -- to ask for a leaf
  Join : Task M
  -- to ask for what it lacks
  Ask : Task M
  Compact : Task M
  -- to keep so many ranges in its journal
  Truncate : ℕ → Task M
  Stop : Task M
  Open : Task M

-- a clone alone, in whatever state it is. One that is down is as it was when it stopped, and of that its device keeps a part
abbrev pub LocalState : Type 0
LocalState = CloneState (Unit {0}) LocalAsker LocalClone LocalClone

-- the message gives no leaf to the one who asks
abbrev pub GivesNoLeaf : LocalAsker → MessageValue → Type 0
GivesNoLeaf asker what = (give : GiveValue) → what ≡ CarriesGive give → give.id ≢ asker.id

-- the clone runs again by what its device has of it: it is that clone, with those entries, and holds nothing back
pub record LocallyOpens (down new : LocalClone) : Type 0 where
  pub same : IsSameClone down new
  pub entries : new.entries ≡ down.entries
  pub held : new.held ≡ []
  pub local : IsLocal new

-- a clone alone does what it is told, where so many messages were sent before: its state, the task, its reply, the messages that it sends,
-- and its state then
pub data LocalStep (count : ℕ) : LocalState → Task MessageValue → Reply → List MessageValue → LocalState → Type 0 where
  -- an update that changes nothing; one that would give a subject a second value of a single-valued property; and one that makes an
  -- operation; it deletes pairs that are there
  updates_nothing : (clone : LocalClone) (effect : EffectValue) → ChangesNothing effect → LocalStep count (states.Live clone) (Update effect) NoOperation [] (states.Live clone)
  update_breaks : (clone : LocalClone) (effect : EffectValue) (place : List ℕ × List ℕ) → ¬ ChangesNothing effect
      → IsFirstBreach clone.properties clone.pairs effect place
      → LocalStep count (states.Live clone) (Update effect) (Single place.0 place.1) [] (states.Live clone)
  updates : (old : LocalClone) (effect : EffectValue) (new : LocalClone) (entry : EntryValue) → ¬ ChangesNothing effect
      → BreaksNone old.properties old.pairs effect
      → ((pair : Tagged) → Has effect.deletes pair → Has old.pairs pair) → LocallyMakes old effect new entry
      → LocalStep count (states.Live old) (Update effect) (Did (next_dot old) (count + 1)) (CarriesEntry entry ∷ []) (states.Live new)
  -- an entry that is known, one that is ready, one that is held back, and one for which there is no room
  knows_entry : (clone : LocalClone) (entry : EntryValue) → IsKnownEntry clone.ticks entry
      → LocalStep count (states.Live clone) (Take (CarriesEntry entry)) AlreadyKnown [] (states.Live clone)
  accepts_entry : (old : LocalClone) (entry : EntryValue) (new : LocalClone) (ranges : List Range) → LocallyAccepts old entry new ranges
      → LocalStep count (states.Live old) (Take (CarriesEntry entry)) (Took ranges) [] (states.Live new)
  holds_entry : (old : LocalClone) (entry : EntryValue) (new : LocalClone) → MustBeHeld old entry → LocallyHolds old entry new
      → LocalStep count (states.Live old) (Take (CarriesEntry entry)) Held [] (states.Live new)
  is_full : (clone : LocalClone) (entry : EntryValue) → MustBeHeld clone entry → IsFullFor clone entry
      → LocalStep count (states.Live clone) (Take (CarriesEntry entry)) HeldFull [] (states.Live clone)
  -- a snapshot that is known, and one that is merged
  knows_snapshot : (clone : LocalClone) (snapshot : SnapshotValue) → KnowsSnapshot clone snapshot
      → LocalStep count (states.Live clone) (Take (CarriesSnapshot snapshot)) AlreadyKnown [] (states.Live clone)
  merges_snapshot : (old : LocalClone) (snapshot : SnapshotValue) (new : LocalClone) (ranges : List Range) → LocallyMerges old snapshot new ranges
      → LocalStep count (states.Live old) (Take (CarriesSnapshot snapshot)) (Merged ranges) [] (states.Live new)
  -- a want of one who lacks nothing, who lacks entries of the journal, and who lacks more
  sends_nothing : (clone : LocalClone) (ticks : List (List ℕ × ℕ)) → LocallyAnswersWant clone ticks []
      → LocalStep count (states.Live clone) (Take (CarriesWant ticks)) NothingToSend [] (states.Live clone)
  sends_entries : (clone : LocalClone) (ticks : List (List ℕ × ℕ)) (entries : List EntryValue) → entries ≢ [] → LocallyAnswersWant clone ticks entries
      → LocalStep count (states.Live clone) (Take (CarriesWant ticks)) (Answer (range_with_len (count + 1) (length entries))) (map CarriesEntry entries)
      (states.Live clone)
  sends_all : (clone : LocalClone) (ticks : List (List ℕ × ℕ)) (snapshot : SnapshotValue) → LocallyAnswersBehind clone ticks snapshot
      → LocalStep count (states.Live clone) (Take (CarriesWant ticks)) (Answer ((count + 1) ∷ [])) (CarriesSnapshot snapshot ∷ []) (states.Live clone)
  -- its own question for a leaf, one where its own leaf is too deep, and one for which it forks
  asks_itself : (clone : LocalClone) → LocalStep count (states.Live clone) (Take (CarriesAsk clone.id)) Ignored [] (states.Live clone)
  is_deep : (clone : LocalClone) (id : List ℕ) → id ≢ clone.id → path_limit ≤ length clone.path
      → LocalStep count (states.Live clone) (Take (CarriesAsk id)) Deep [] (states.Live clone)
  forks_leaf : (old : LocalClone) (id : List ℕ) (new : LocalClone) (give : GiveValue) → id ≢ old.id → LocallyForks old id new give
      → LocalStep count (states.Live old) (Take (CarriesAsk id)) (Answer ((count + 1) ∷ [])) (CarriesGive give ∷ []) (states.Live new)
  -- a leaf comes to a live clone, and to the one who asks for it; and any other message to one who asks
  needs_no_leaf : (clone : LocalClone) (give : GiveValue) → LocalStep count (states.Live clone) (Take (CarriesGive give)) Ignored [] (states.Live clone)
  adopts_leaf : (asker : LocalAsker) (give : GiveValue) → give.id ≡ asker.id
      → LocalStep count (states.Asking asker) (Take (CarriesGive give)) (Joined give.path) [] (states.Live (joined_clone asker give))
  passes_over : (asker : LocalAsker) (what : MessageValue) → GivesNoLeaf asker what
      → LocalStep count (states.Asking asker) (Take what) Ignored [] (states.Asking asker)
  -- it asks
  asks_for_leaf : (asker : LocalAsker) → LocalStep count (states.Asking asker) Join (Sent (count + 1)) (CarriesAsk asker.id ∷ []) (states.Asking asker)
  asks_for_rest : (clone : LocalClone) → LocalStep count (states.Live clone) Ask (Sent (count + 1)) (CarriesWant clone.ticks ∷ []) (states.Live clone)
  -- its journal, and its stops
  compacts_journal : (old new : LocalClone) → LocallyCompacts old new
      → LocalStep count (states.Live old) Compact (Kept (length new.entries)) [] (states.Live new)
  truncates_journal : (old : LocalClone) (keep : ℕ) (new : LocalClone) → LocallyTruncates old keep new
      → LocalStep count (states.Live old) (Truncate keep) (Kept (length new.entries)) [] (states.Live new)
  stops : (clone : LocalClone) → LocalStep count (states.Live clone) Stop Stopped [] (states.Down clone)
  opens : (down new : LocalClone) → LocallyOpens down new → LocalStep count (states.Down down) Open Opened [] (states.Live new)

-- the clone of the number does what it is told, in the model: its reply, and the world after it
abbrev pub DoesTask : World → ℕ → Task Message → Reply → World → Type 0
DoesTask world number (Update effect) reply next = UpdatesAs world number effect (clone_at world number) reply next
DoesTask world number (Take message) reply next = Takes world number message (clone_at world number) reply next
DoesTask world number Join reply next = Joins world number (clone_at world number) reply next
DoesTask world number Ask reply next = Wants world (clone_at world number) reply next
DoesTask world number Compact reply next = Compacts world number (clone_at world number) reply next
DoesTask world number (Truncate keep) reply next = Truncates world number keep (clone_at world number) reply next
DoesTask world number Stop reply next = Stops world number (clone_at world number) reply next
DoesTask world number Open reply next = Reopens world number (clone_at world number) reply next

-- a clone alone stands for the clone of the number, in the same state
abbrev pub StandsAt : World → ℕ → LocalState → Type 0
StandsAt world number (states.Absent blank) = clone_at world number ≡ Absent
StandsAt world number (states.Asking asker) = AskingAt world number asker
StandsAt world number (states.Down clone) = DownAt world number clone
StandsAt world number (states.Live clone) = LiveAt world number clone

-- a message that was sent in the world, and one that stands for it
pub record IsSentAs (world : World) (what : MessageValue) (message : Message) : Type 0 where
  pub sent : Has world.messages message
  pub stands : MessageStandsFor world.history what message

-- a task is one of the model: the same, and a message that comes stands for one that was sent in the world
abbrev pub IsTaskIn : World → Task MessageValue → Task Message → Type 0
IsTaskIn world (Update effect) other = other ≡ Update effect
IsTaskIn world (Take what) (Take message) = IsSentAs world what message
IsTaskIn world (Take what) other = ⊥
IsTaskIn world Join other = other ≡ Join
IsTaskIn world Ask other = other ≡ Ask
IsTaskIn world Compact other = other ≡ Compact
IsTaskIn world (Truncate keep) other = other ≡ Truncate keep
IsTaskIn world Stop other = other ≡ Stop
IsTaskIn world Open other = other ≡ Open

-- the next world has more messages, for which these stand
pub record TellsAs (world next : World) (sent : List MessageValue) : Type 0 where
  pub messages : List Message
  pub more : next.messages ≡ world.messages ++ messages
  pub stand : AllZip (MessageStandsFor next.history) sent messages

-- the clone of the number does the task in the model, with this reply. The world after it is sound, a clone alone in this state stands for
-- the clone there, and these messages for those that were sent
pub record StepStands (world : World) (number : ℕ) (task : Task Message) (reply : Reply) (sent : List MessageValue) (state : LocalState) : Type 0 where
  pub next : World
  pub does : DoesTask world number task reply next
  pub sound : IsSound next
  pub stands : StandsAt next number state
  pub tells : TellsAs world next sent

-- each step of a clone alone that stands for one of a sound world, by a task of that world, is a step of the model's
abbrev pub LocalStepsAreTheModels : Type 0
LocalStepsAreTheModels = (world : World) (number : ℕ) (old new : LocalState) (task : Task MessageValue) (other : Task Message) (reply : Reply) (sent : List MessageValue)
    → IsSound world → StandsAt world number old → IsTaskIn world task other → LocalStep (length world.messages) old task reply sent new
    → StepStands world number other reply sent new

-- an entry or a snapshot is foreign to a clone: another one has used its leaf
abbrev pub IsForeignTo : LocalClone → MessageValue → Type 0
IsForeignTo clone (CarriesEntry entry) = IsForeign clone entry
IsForeignTo clone (CarriesSnapshot snapshot) = IsForeignSnapshot clone snapshot
IsForeignTo clone other = ⊥

-- no message that was sent in a sound world is foreign to a clone of it
abbrev pub NoneIsForeign : Type 0
NoneIsForeign = (world : World) (number : ℕ) (clone : LocalClone) (what : MessageValue) (message : Message)
    → IsSound world → LiveAt world number clone → IsSentAs world what message → ¬ IsForeignTo clone what
