-- How a clone that is down runs again. The private calls behind `open` cite it.
use Rattle.std.specs.Prelude.{◌≡◌, ◌≢◌, ℕ, List, Option, Some, Result, Ok, Err}
use Rattle.mld_io.specs.Disk.{Log, seen}
use Rattle.mld_io.specs.declared.banks.Side.{Side}
use Rattle.crash_laws.specs.journal_sides.Pairs.{KeepsNone, Damages, read_banks}
use Rattle.crash_laws.specs.journal_store.declared.faults.MountFault.TheVariants as mount
use Rattle.mld_model.specs.declared.CloneState.TheVariants as states
use Rattle.crash_laws.specs.clone_core.Banked.{BankedAsker, BankedClone}
use Rattle.crash_laws.specs.clone_core.Opening.{IsFoundAs, RunsAgain}
use Rattle.crash_laws.specs.clone_core.declared.mounts.Mounted.{Mounted}
use Rattle.crash_laws.specs.clone_core.declared.mounts.Mounted.TheVariants as mounted
use Rattle.world_commands.specs.declared.faults.WorldFault.{WorldFault}
use Rattle.world_commands.specs.declared.faults.WorldFault.TheVariants as faults
use Rattle.schedule_replies.specs.declared.replies.Reply.{Reply}
use Rattle.schedule_replies.specs.declared.replies.Reply.TheVariants as replies
use Rattle.world_commands.specs.States.{IsNewAsker, HasState, Becomes}
use Rattle.world_commands.specs.WorldBanks.{BankedState}

-- the clone of the number is down, and what its banks read to isn't damaged
pub record IsWholeAt {B : Type 0} (log : B → Option Log) (clones : List (BankedState B)) (number : ℕ) : Type 0 where
  pub banks : B
  pub at : HasState clones number (states.Down banks)
  pub now : Log
  pub told : log banks ≡ Some now
  pub whole : (side : Side) (place : ℕ) → read_banks (seen now) ≢ Damages side place

-- a mount found no damage
abbrev pub IsUndamaged : {B : Type 0} → Mounted B → Type 0
IsUndamaged (mounted.Refused (mount.Damaged side place) banks) = ⊥
IsUndamaged other = Unit {0}

-- who was found to keep nothing asks for a leaf from then on, on the same banks
pub record AsksAnew {B : Type 0} (domain : List ℕ) (properties : List (List ℕ)) (number : ℕ) (blank : B) (told : BankedState B × Result Reply WorldFault) : Type 0 where
  pub asking : BankedAsker B
  pub state : told.0 ≡ states.Asking asking
  pub banks : asking.banks ≡ blank
  pub begins : IsNewAsker domain properties number asking.asker
  pub answer : told.1 ≡ Ok replies.Asking

-- what a clone is now whose banks were mounted, and its answer: by what the mount found
abbrev pub IsOpenedAs : {B : Type 0} → List ℕ → List (List ℕ) → ℕ → Mounted B → BankedState B × Result Reply WorldFault → Type 0
IsOpenedAs domain properties number (mounted.Live clone) told = (told.0 ≡ states.Live clone) × (told.1 ≡ Ok replies.Opened)
IsOpenedAs domain properties number (mounted.Empty blank) told = AsksAnew domain properties number blank told
IsOpenedAs domain properties number (mounted.Refused mount.Device banks) told = (told.0 ≡ states.Down banks) × (told.1 ≡ Err (faults.Device number))
IsOpenedAs domain properties number (mounted.Refused mount.NoMemory banks) told = (told.0 ≡ states.Down banks) × (told.1 ≡ Err faults.NoMemory)
IsOpenedAs domain properties number (mounted.Refused (mount.Damaged side place) banks) told = ⊥

-- the clone of the number, which was down, is live with what its banks read to
pub record OpensLive {B : Type 0} (log : B → Option Log) (old new : List (BankedState B)) (number : ℕ) : Type 0 where
  pub banks : B
  pub clone : BankedClone B
  pub becomes : Becomes old new number (states.Down banks) (states.Live clone)
  pub found : (now : Log) → log banks ≡ Some now → IsFoundAs clone (read_banks (seen now))
  pub begins : RunsAgain clone

-- the clone of the number, which was down, asks for a leaf, since its banks keep nothing
pub record OpensAsking {B : Type 0} (log : B → Option Log) (domain : List ℕ) (properties : List (List ℕ)) (old new : List (BankedState B)) (number : ℕ) : Type 0 where
  pub banks : B
  pub asking : BankedAsker B
  pub becomes : Becomes old new number (states.Down banks) (states.Asking asking)
  pub none : (now : Log) → log banks ≡ Some now → read_banks (seen now) ≡ KeepsNone
  pub begins : IsNewAsker domain properties number asking.asker

-- what became of the clone of the number, which was down, by the reply
abbrev pub OpensBanks : {B : Type 0} → (B → Option Log) → List ℕ → List (List ℕ) → List (BankedState B) → List (BankedState B) → ℕ → Reply → Type 0
OpensBanks log domain properties old new number replies.Opened = OpensLive log old new number
OpensBanks log domain properties old new number replies.Asking = OpensAsking log domain properties old new number
OpensBanks log domain properties old new number reply = ⊥
