-- Messages as plain values: what copies, bytes and what a message stands for speak of. The room of a clock is no part of them.
use Rattle.std.specs.Prelude.{ℕ, List}
use Rattle.tree_clock.specs.Clock.{Covers}
use Rattle.tree_clock.specs.Lists.{Has, IsAscending}
use Rattle.mld_ops.specs.declared.messages.Give.{Give}
use Rattle.mld_ops.specs.declared.messages.Message.{Message}
use Rattle.mld_ops.specs.declared.messages.Message.TheVariants as message
use Rattle.mld_ops.specs.declared.messages.Snapshot.{Snapshot}
use Rattle.mld_ops.specs.declared.tagged.Tagged.{Tagged}
use Rattle.mld_ops.specs.Entry.{EntryValue}
use Rattle.mld_ops.specs.Tagged.{tagged_cmp}

-- what someone has who knows these ticks
pub record SnapshotValue : Type 0 where
  pub ticks : List (List ℕ × ℕ)
  pub pairs : List Tagged

-- a leaf that is given to whoever asked with this id, with what the giver has
pub record GiveValue : Type 0 where
  pub id : List ℕ
  pub path : List ℕ
  pub snapshot : SnapshotValue

-- a message: the net effect of a range; a question for what one lacks who knows these ticks; what its sender has; a question for
-- a leaf by a new id; a leaf that is given
pub data MessageValue : Type 0 where
  CarriesEntry : EntryValue → MessageValue
  CarriesWant : List (List ℕ × ℕ) → MessageValue
  CarriesSnapshot : SnapshotValue → MessageValue
  CarriesAsk : List ℕ → MessageValue
  CarriesGive : GiveValue → MessageValue

abbrev pub snapshot_value : Snapshot → SnapshotValue
snapshot_value snapshot = record { ticks = snapshot.clock.ticks; pairs = snapshot.tagged }

abbrev pub give_value : Give → GiveValue
give_value give = record { id = give.id; path = give.path; snapshot = snapshot_value give.snapshot }

abbrev pub message_value : Message → MessageValue
message_value (message.Range entry) = CarriesEntry entry
message_value (message.Want clock) = CarriesWant clock.ticks
message_value (message.Snapshot snapshot) = CarriesSnapshot (snapshot_value snapshot)
message_value (message.JoinAsk id) = CarriesAsk id
message_value (message.JoinGive give) = CarriesGive (give_value give)

-- a snapshot that may be made and taken: its pairs ascend, and its clock has their dots
pub record IsGoodSnapshot (snapshot : SnapshotValue) : Type 0 where
  pub ascending : IsAscending tagged_cmp snapshot.pairs
  pub covered : (pair : Tagged) → Has snapshot.pairs pair → Covers snapshot.ticks pair.dot

-- a message whose snapshot, where it has one, may be taken
abbrev pub IsGoodMessage : MessageValue → Type 0
IsGoodMessage (CarriesSnapshot snapshot) = IsGoodSnapshot snapshot
IsGoodMessage (CarriesGive give) = IsGoodSnapshot give.snapshot
IsGoodMessage other = Unit {0}
