-- What a running world stands for in the model. The running world has content and clocks where the model has sets of
-- dots and one history. What `World::step` says of the model is made of it.
use Rattle.std.specs.Prelude.{◌≡◌, ℕ, ◌≤◌, List, [], ◌↔◌, map, nat_lt, if◌then◌else◌, slice_get, Some, length}
use Rattle.std.specs.Int.{to_be_bytes, w128}
use Rattle.std.specs.List.{range_with_len}
use Rattle.tree_clock.specs.declared.dots.Dot.{Dot}
use Rattle.tree_clock.specs.declared.dots.Range.{Range}
use Rattle.tree_clock.specs.Lists.{Has}
use Rattle.tree_clock.specs.Dot.{Knows}
use Rattle.tree_clock.specs.Clock.{Covers}
use Rattle.mld_ops.specs.Entry.{EntryValue}
use Rattle.mld_ops.specs.History.{Operation}
use Rattle.mld_ops.specs.Meaning.{IsMeaning}
use Rattle.mld_ops.specs.Messages.{SnapshotValue, GiveValue, MessageValue, CarriesEntry, CarriesWant, CarriesSnapshot, CarriesAsk, CarriesGive}
use Rattle.mld_ops.specs.Net.{IsNet}
use Rattle.std.specs.List.{AllZip}
use Rattle.mld_model.specs.declared.CloneState.{CloneState}
use Rattle.mld_model.specs.declared.CloneState.TheVariants as states
use Rattle.mld_model.specs.Clone.{Clone, Absent, Asking, Empty, Down, Live, Stored, known_of}
use Rattle.mld_model.specs.Local.{LocalAsker, LocalClone, LocalStored, stored_of, blank_clone}
use Rattle.mld_model.specs.World.{World, Message, RangeOf, Want, SnapshotOf, JoinAsk, JoinGive, clone_at, founded_path, clone_count}

-- a clone as it runs, in memory: of one that is absent or down nothing is there
abbrev pub RunningClone : Type 0
RunningClone = CloneState (Unit {0}) LocalAsker (Unit {0}) LocalClone

-- a world as it runs: its domain, its single-valued properties, its clones, the messages that were sent, and the number of steps made
pub record RunningWorld : Type 0 where
  pub domain : List ℕ
  pub properties : List (List ℕ)
  pub clones : List RunningClone
  pub messages : List MessageValue
  pub steps : ℕ

-- the id of a clone of a world: the UUID whose number is the clone's
abbrev pub id_of : ℕ → List ℕ
id_of number = to_be_bytes w128 number

-- a clone as it runs in a world that was just founded
abbrev pub founded_local : List ℕ → List (List ℕ) → ℕ → ℕ → RunningClone
founded_local domain properties count number =
    if nat_lt number count then states.Live (blank_clone (id_of number) domain properties (founded_path count number)) else states.Absent tt

-- a world as it runs when it was just founded
abbrev pub founded_running : List ℕ → List (List ℕ) → ℕ → RunningWorld
founded_running domain properties count = record {
  domain = domain;
  properties = properties;
  clones = map (founded_local domain properties count) (range_with_len 0 clone_count);
  messages = [];
  steps = 0;
}

-- an entry stands for the range of which it is the net effect
abbrev pub EntryStandsFor : List Operation → EntryValue → Range → Type 0
EntryStandsFor history entry range = IsNet history range entry

-- what a device has of a clone stands for what the model's clone keeps: the same path; a base of the same dots, with their meaning as
-- its pairs; and entries that stand for the ranges of the journal, in order
pub record StoredStandsFor (history : List Operation) (running : LocalStored) (stored : Stored) : Type 0 where
  pub path : running.path ≡ stored.path
  pub base : (dot : Dot) → Covers running.base dot ↔ Knows stored.base dot
  pub base_pairs : IsMeaning history stored.base running.base_pairs
  pub entries : AllZip (EntryStandsFor history) running.entries stored.journal

-- a clone alone stands for what a live clone of the model keeps and holds back: what its device has stands for what is kept; its held
-- entries stand for the ranges held back, in order; and its clock is that of the known dots, with their meaning as the pairs
pub record LocalStandsFor (history : List Operation) (running : LocalClone) (stored : Stored) (ranges : List Range) : Type 0 where
  pub kept : StoredStandsFor history (stored_of running) stored
  pub held : AllZip (EntryStandsFor history) running.held ranges
  pub known : (dot : Dot) → Covers running.ticks dot ↔ Knows (known_of stored) dot
  pub pairs : IsMeaning history (known_of stored) running.pairs

-- a clone alone is the one of this number in the world
pub record IsCloneOf (world : World) (number : ℕ) (running : LocalClone) : Type 0 where
  pub id : running.id ≡ id_of number
  pub domain : running.domain ≡ world.domain
  pub properties : running.properties ≡ world.properties

-- one who asks is the one of this number in the world
pub record IsAskerOf (world : World) (number : ℕ) (running : LocalAsker) : Type 0 where
  pub id : running.id ≡ id_of number
  pub domain : running.domain ≡ world.domain
  pub properties : running.properties ≡ world.properties

-- what a running clone stands for has its path
abbrev pub kept_by : LocalClone → List Range → List Range → Stored
kept_by running base journal = record { path = running.path; base = base; journal = journal }

-- a clone alone stands for the clone of the number, which is live
pub record LiveAt (world : World) (number : ℕ) (running : LocalClone) : Type 0 where
  pub base : List Range
  pub journal : List Range
  pub held : List Range
  pub live : clone_at world number ≡ Live (kept_by running base journal) held
  pub is : IsCloneOf world number running
  pub stands : LocalStandsFor world.history running (kept_by running base journal) held

-- one who asks stands for the clone of the number, which asks
pub record AskingAt (world : World) (number : ℕ) (running : LocalAsker) : Type 0 where
  pub asking : clone_at world number ≡ Asking
  pub is : IsAskerOf world number running

-- what a device has of a clone stands for what the clone of the number keeps, which is down
pub record DownAt (world : World) (number : ℕ) (running : LocalClone) : Type 0 where
  pub stored : Stored
  pub down : clone_at world number ≡ Down stored
  pub is : IsCloneOf world number running
  pub stands : StoredStandsFor world.history (stored_of running) stored

-- a clone stands for the clone of the model of its number, in the same state; of one that is down nothing is in memory
abbrev pub CloneStandsFor : World → ℕ → RunningClone → Clone → Type 0
CloneStandsFor world number (states.Absent blank) Absent = Unit {0}
CloneStandsFor world number (states.Asking running) Asking = IsAskerOf world number running
CloneStandsFor world number (states.Down device) Empty = Unit {0}
CloneStandsFor world number (states.Down device) (Down stored) = Unit {0}
CloneStandsFor world number (states.Live running) (Live stored held) = IsCloneOf world number running × LocalStandsFor world.history running stored held
CloneStandsFor world number running clone = ⊥

-- a snapshot stands for these dots: its clock has just them, and its pairs are their meaning
pub record SnapshotStandsFor (history : List Operation) (snapshot : SnapshotValue) (dots : List Range) : Type 0 where
  pub known : (dot : Dot) → Covers snapshot.ticks dot ↔ Knows dots dot
  pub pairs : IsMeaning history dots snapshot.pairs

-- a leaf that is given stands for one of the model: for the same clone, at the same path, with a snapshot of the same dots
pub record GiveStandsFor (history : List Operation) (give : GiveValue) (number : ℕ) (path : List ℕ) (dots : List Range) : Type 0 where
  pub id : give.id ≡ id_of number
  pub leaf : give.path ≡ path
  pub snapshot : SnapshotStandsFor history give.snapshot dots

-- a message that was sent stands for one of the model
abbrev pub MessageStandsFor : List Operation → MessageValue → Message → Type 0
MessageStandsFor history (CarriesEntry entry) (RangeOf range) = EntryStandsFor history entry range
MessageStandsFor history (CarriesWant ticks) (Want dots) = (dot : Dot) → Covers ticks dot ↔ Knows dots dot
MessageStandsFor history (CarriesSnapshot snapshot) (SnapshotOf dots) = SnapshotStandsFor history snapshot dots
MessageStandsFor history (CarriesAsk id) (JoinAsk number) = id ≡ id_of number
MessageStandsFor history (CarriesGive give) (JoinGive number path dots) = GiveStandsFor history give number path dots
MessageStandsFor history message other = ⊥

-- a running world stands for a world of the model
pub record StandsFor (running : RunningWorld) (world : World) : Type 0 where
  pub domain : running.domain ≡ world.domain
  pub properties : running.properties ≡ world.properties
  pub count : length running.clones ≡ clone_count
  pub clones : (number : ℕ) (state : RunningClone) → slice_get running.clones number ≡ Some state → CloneStandsFor world number state (clone_at world number)
  pub messages : AllZip (MessageStandsFor world.history) running.messages world.messages
  -- no tick is above the number of steps
  pub ticks : (operation : Operation) → Has world.history operation → operation.dot.tick ≤ running.steps
