-- What a clone answers to a message, and to a comparison with another clone. `MldClone::receive`, `compare` and `entry_of` cite it.
use Rattle.std.specs.Prelude.{◌≡◌, ◌≢◌, ℕ, List}
use Rattle.tree_clock.specs.declared.dots.Range.{Range}
use Rattle.tree_clock.specs.Lists.{Has}
use Rattle.tree_clock.specs.Clock.{ticks_of}
use Rattle.mld_ops.specs.declared.messages.Message.{Message}
use Rattle.mld_ops.specs.declared.messages.Message.TheVariants as message
use Rattle.mld_ops.specs.Entry.{EntryValue}
use Rattle.mld_ops.specs.Messages.{snapshot_value}
use Rattle.mld_ops.specs.Ready.{IsKnownEntry}
use Rattle.mld_model.specs.Local.{LocalClone, LocallyAccepts, MustBeHeld, LocallyHolds, IsFullFor, IsForeign, IsForeignSnapshot}
use Rattle.mld_model.specs.Reply.{Reply, Same, Less, More, Apart}
use Rattle.clone_core.specs.Joining.{LocallyGives, RefusesAsk}
use Rattle.clone_core.specs.Merging.{ReceivesSnapshot, RefusesSnapshot}
use Rattle.clone_core.specs.Wants.{AnswersWant, RefusesWant}
use Rattle.clone_parts.specs.declared.answers.Covering.{Covering}
use Rattle.clone_parts.specs.declared.answers.Covering.TheVariants as covering
use Rattle.clone_parts.specs.declared.answers.Got.{Got}
use Rattle.clone_parts.specs.declared.answers.Got.TheVariants as got
use Rattle.clone_parts.specs.declared.faults.ReceiveFault.{ReceiveFault}
use Rattle.clone_parts.specs.declared.faults.ReceiveFault.TheVariants as fault

-- what became of an entry: it was known; or it was taken with those that it released, whose ranges are told; or it is held, where it is
-- neither known nor ready
abbrev pub ReceivesEntry : LocalClone → EntryValue → Got → LocalClone → Type 0
ReceivesEntry old entry got.Known new = IsKnownEntry old.ticks entry × (new ≡ old)
ReceivesEntry old entry (got.Took ranges) new = LocallyAccepts old entry new ranges
ReceivesEntry old entry got.Held new = MustBeHeld old entry × LocallyHolds old entry new
ReceivesEntry old entry (got.Merged ranges) new = ⊥
ReceivesEntry old entry (got.Answer messages) new = ⊥
ReceivesEntry old entry got.Nothing new = ⊥
ReceivesEntry old entry got.Ignored new = ⊥

-- why an entry was refused: it is foreign, and the fault names its last tick and the clone's own; or it would be
-- held where too many are; or the clone is closed, the device failed, or memory ran out, of which the clone says more
abbrev pub RefusesEntry : LocalClone → EntryValue → ReceiveFault → Type 0
RefusesEntry old entry (fault.ForeignTick said own) =
    IsForeign old entry × (said ≡ entry.range.last) × (own ≡ ticks_of old.ticks old.path)
RefusesEntry old entry fault.HeldFull = ¬ IsForeign old entry × MustBeHeld old entry × IsFullFor old entry
RefusesEntry old entry fault.Deep = ⊥
RefusesEntry old entry fault.GenerationsSpent = ⊥
RefusesEntry old entry (fault.Closed why) = Unit {0}
RefusesEntry old entry fault.Device = Unit {0}
RefusesEntry old entry fault.NoMemory = Unit {0}

-- what became of an ask by an id: it was the clone's own and is ignored; or the leaf was forked, and one message gives its right half
abbrev pub ReceivesAsk : LocalClone → List ℕ → Got → LocalClone → Type 0
ReceivesAsk old id got.Ignored new = (id ≡ old.id) × (new ≡ old)
ReceivesAsk old id (got.Answer messages) new = (id ≢ old.id) × LocallyGives old id messages new
ReceivesAsk old id other new = ⊥

-- what became of a message: an entry or a snapshot that isn't foreign was received, an ask for a leaf was, a want was answered, and a leaf
-- that is given is ignored
abbrev pub LocallyReceives : LocalClone → Message → Got → LocalClone → Type 0
LocallyReceives old (message.Range entry) answer new = ¬ IsForeign old entry × ReceivesEntry old entry answer new
LocallyReceives old (message.JoinAsk id) answer new = ReceivesAsk old id answer new
LocallyReceives old (message.Want clock) answer new = AnswersWant old clock.ticks answer new
LocallyReceives old (message.Snapshot snapshot) answer new =
    ¬ IsForeignSnapshot old (snapshot_value snapshot) × ReceivesSnapshot old (snapshot_value snapshot) answer new
LocallyReceives old (message.JoinGive give) answer new = (answer ≡ got.Ignored) × (new ≡ old)

-- why a message was refused: its entry was, or the ask for a leaf, the want, or the snapshot; or the clone is closed
abbrev pub Refuses : LocalClone → Message → ReceiveFault → Type 0
Refuses old (message.Range entry) refused = RefusesEntry old entry refused
Refuses old (message.JoinAsk id) refused = RefusesAsk old id refused
Refuses old (message.Want clock) refused = RefusesWant refused
Refuses old (message.Snapshot snapshot) refused = RefusesSnapshot old (snapshot_value snapshot) refused
Refuses old (message.JoinGive give) (fault.Closed why) = Unit {0}
Refuses old (message.JoinGive give) refused = ⊥

-- the entry is one of the list, and has the range
pub record HasRange (entries : List EntryValue) (range : Range) (entry : EntryValue) : Type 0 where
  pub stands : Has entries entry
  pub same : entry.range ≡ range

-- no entry of the list has the range
abbrev pub LacksRange : List EntryValue → Range → Type 0
LacksRange entries range = (entry : EntryValue) → Has entries entry → entry.range ≢ range

-- the reply that says the same
abbrev pub covering_reply : Covering → Reply
covering_reply covering.Same = Same
covering_reply covering.Less = Less
covering_reply covering.More = More
covering_reply covering.Apart = Apart
