-- How a world is founded: the first clone forks its leaf for the others, one after another. `World::found` cites it.
use Rattle.std.specs.Prelude.{◌≡◌, ◌≢◌, ◌<◌, ◌≤◌, ℕ, List, [], ◌∷◌, None, Result, Ok, Err, OnOk, IfErr, IsTrue, Option, map, length, slice_get}
use Rattle.std.specs.List.{range_with_len}
use Rattle.mld_io.specs.Arm.{Meter}
use Rattle.mld_io.specs.Disk.{Log}
use Rattle.text_rules.specs.Domain.{is_domain}
use Rattle.rdf_terms.specs.Order.{iri_cmp}
use Rattle.tree_clock.specs.Limits.{path_limit}
use Rattle.clone_core.specs.journal_store.declared.faults.MakeFault.{MakeFault}
use Rattle.mld_ops.specs.Messages.{GiveValue, give_value, IsGoodSnapshot}
use Rattle.mld_ops.specs.declared.messages.Give.{Give}
use Rattle.mld_ops.specs.declared.messages.Message.{Message}
use Rattle.mld_ops.specs.declared.messages.Message.TheVariants as kinds
use Rattle.mld_model.specs.Local.{LocalAsker, LocallyForks, joined_clone}
use Rattle.mld_model.specs.StandsFor.{founded_local}
use Rattle.mld_model.specs.World.{World, clone_count}
use Rattle.mld_model.specs.declared.CloneState.TheVariants as states
use Rattle.clone_core.specs.Banked.{BankedAsker, BankedClone}
use Rattle.clone_core.specs.CloneClosing.{banks_of_made, StaysOpen}
use Rattle.schedule_text.specs.schedule_model.Schedule.{Setup}
use Rattle.schedule_text.specs.schedule_model.Runs.{IsFoundedBy}
use Rattle.tree_clock.specs.Lists.{Has, IsAscending}
use Rattle.world_commands.specs.declared.faults.WorldFault.{WorldFault}
use Rattle.world_commands.specs.declared.faults.WorldFault.TheVariants as faults
use Rattle.world_commands.specs.States.{HasState, Becomes}
use Rattle.world_commands.specs.WorldBanks.{BankedState, BankedWorld, StandsOnBanks, in_memory, banks_of_state, MeterGoesOn, HadNoFault, HadNoFaults, HasFailed}
use Rattle.world_commands.specs.OneCall.{HasFaultsAt}
use Rattle.world_commands.specs.WorldFaults.{fault_of_made}
use Rattle.net_world.specs.FoundingLeft.{StopsJoinBy}

-- a setup by which clones are founded, whose single-valued properties are kept: they ascend as terms, each once
pub record IsKeptSetup (setup : Setup) : Type 0 where
  pub name : IsTrue (is_domain setup.domain)
  pub some : 1 ≤ setup.count
  pub most : setup.count ≤ clone_count
  pub ascending : IsAscending iri_cmp setup.properties

-- the running world stands for the world that is founded with the setup
pub record StandsFounded {B : Type 0} (log : B → Option Log) (setup : Setup) (running : BankedWorld B) : Type 0 where
  pub world : World
  pub founds : IsFoundedBy setup world
  pub stands : StandsOnBanks log running world

-- the one message gives this leaf to the one who asks, with a snapshot that may be taken
pub record GivesLeaf (messages : List Message) (asker : LocalAsker) (leaf : GiveValue) : Type 0 where
  pub give : Give
  pub one : messages ≡ kinds.JoinGive give ∷ []
  pub is : give_value give ≡ leaf
  pub own : leaf.id ≡ asker.id
  pub good : IsGoodSnapshot leaf.snapshot

-- a live clone that was just founded: it is open, and of the first generation
pub record IsOpenFirst {B : Type 0} (clone : BankedClone B) : Type 0 where
  pub opened : clone.closed ≡ None
  pub first : clone.generation ≡ 1

-- a clone that was just founded: it is so where it is live, and absent else
abbrev pub IsOpenState : {B : Type 0} → BankedState B → Type 0
IsOpenState (states.Absent banks) = Unit {0}
IsOpenState (states.Asking asking) = ⊥
IsOpenState (states.Down banks) = ⊥
IsOpenState (states.Live clone) = IsOpenFirst clone

-- the clones of the founded world: what they have in memory, each open on its banks
pub record AreFounded {B : Type 0} (setup : Setup) (clones : List (BankedState B)) : Type 0 where
  pub memory : map in_memory clones ≡ map (founded_local setup.domain setup.properties setup.count) (range_with_len 0 clone_count)
  pub opened : (state : BankedState B) → Has clones state → IsOpenState state

-- which banks had real faults where a call was refused: a call of those of the clone that the fault names failed, and no others had any;
-- or none had any
abbrev pub HasFaultsOf : {B : Type 0} → (B → Meter) → List B → List B → WorldFault → Type 0
HasFaultsOf meter old new (faults.Device clone) = HasFailed meter clone old new
HasFaultsOf meter old new faults.NoMemory = HadNoFaults meter old new

-- and by how it ended: none had any where it was not refused
abbrev pub HasFaultsBy : {B T : Type 0} → (B → Meter) → List B → List B → Result T WorldFault → Type 0
HasFaultsBy meter old new (Ok value) = HadNoFaults meter old new
HasFaultsBy meter old new (Err fault) = HasFaultsOf meter old new fault

-- ---- the parts of founding

-- a clone while the clones below this number are founded: it is as in the world of so many clones
pub record IsFoundedTo {B : Type 0} (setup : Setup) (number place : ℕ) (state : BankedState B) : Type 0 where
  pub memory : in_memory state ≡ founded_local setup.domain setup.properties number place
  pub opened : IsOpenState state

-- so are all clones, one by one
pub record AreFoundedTo {B : Type 0} (setup : Setup) (number : ℕ) (clones : List (BankedState B)) : Type 0 where
  pub count : length clones ≡ clone_count
  pub each : (place : ℕ) (state : BankedState B) → HasState clones place state → IsFoundedTo setup number place state

-- the clones from the number on are as they were
abbrev pub StayFrom : {X : Type 0} → ℕ → List X → List X → Type 0
StayFrom number old new = (place : ℕ) → number ≤ place → slice_get new place ≡ slice_get old place

-- the clone of the number is absent
abbrev pub IsAbsentAt : {B : Type 0} → List (BankedState B) → ℕ → Type 0
IsAbsentAt {B = B} clones number = (banks : B) × HasState clones number (states.Absent banks)

-- what the first clone's place holds once that clone was made, or was not
pub record IsMadeFirst {B U : Type 0} (made : Result (BankedClone B) (MakeFault × B)) (told : BankedState B × Result U WorldFault) : Type 0 where
  pub banks : banks_of_state told.0 ≡ banks_of_made made
  pub ok : OnOk told.1 ((clone : BankedClone B) × (made ≡ Ok clone) × (told.0 ≡ states.Live clone))
  pub err : IfErr told.1 (λ fault. (refused : MakeFault × B) × (made ≡ Err refused) × (fault ≡ fault_of_made 0 refused.0))

-- the clone is open, isn't the one who asks, and its leaf may be forked
pub record MayGive {B : Type 0} (asker : LocalAsker) (first : BankedClone B) : Type 0 where
  pub opened : first.closed ≡ None
  pub other : asker.id ≢ first.local.id
  pub room : length first.local.path < path_limit

-- one who asked lives at the leaf, open, and of the first generation
pub record LivesAtLeaf {B : Type 0} (asker : LocalAsker) (leaf : GiveValue) (state : BankedState B) : Type 0 where
  pub clone : BankedClone B
  pub is : state ≡ states.Live clone
  pub opened : IsOpenFirst clone
  pub local : clone.local ≡ joined_clone asker leaf

-- a clone forked its leaf for one who asked, which lives at the right half; both are open, and the first keeps its generation
pub record TakesHalf {B : Type 0} (asker : LocalAsker) (was now : BankedClone B) (state : BankedState B) : Type 0 where
  pub leaf : GiveValue
  pub forks : LocallyForks was.local asker.id now.local leaf
  pub opened : StaysOpen was now
  pub lives : LivesAtLeaf asker leaf state

-- of the first clone and one who asked it, the first may have had a real fault, by how the call ended, or the other; not both had one
pub data HasFaultsOfTwo {U : Type 0} (number : ℕ) (giver giver_now taker taker_now : Meter) (result : Result U WorldFault) : Type 0 where
  giving : HasFaultsAt 0 giver giver_now result → HadNoFault taker taker_now → HasFaultsOfTwo number giver giver_now taker taker_now result
  taking : HadNoFault giver giver_now → HasFaultsAt number taker taker_now result → HasFaultsOfTwo number giver giver_now taker taker_now result

-- what became of one who asked the first clone, and of that clone: the leaf was given and taken, or the banks of one of them failed
pub record JoinsBy {B U : Type 0} (log : B → Option Log) (meter : B → Meter) (number : ℕ) (asking : BankedAsker B) (was now : BankedClone B) (told : BankedState B × Result U WorldFault) : Type 0 where
  pub giver : MeterGoesOn (meter was.banks) (meter now.banks)
  pub taker : MeterGoesOn (meter asking.banks) (meter (banks_of_state told.0))
  pub ok : OnOk told.1 (TakesHalf asking.asker was now told.0)
  pub faults : HasFaultsOfTwo number (meter was.banks) (meter now.banks) (meter asking.banks) (meter (banks_of_state told.0)) told.1
  pub left : IfErr told.1 (StopsJoinBy log meter number asking was now told.0)

-- the first of the clones may give a leaf to the one who asks
abbrev pub HasGiver : {B : Type 0} → LocalAsker → List (BankedState B) → Type 0
HasGiver {B = B} asker clones = (first : BankedClone B) × HasState clones 0 (states.Live first) × MayGive asker first

-- what became of one who asked the first of the clones, where no other one changed
pub record JoinsFirst {B U : Type 0} (log : B → Option Log) (meter : B → Meter) (number : ℕ) (asking : BankedAsker B) (old new : List (BankedState B)) (told : BankedState B × Result U WorldFault) : Type 0 where
  pub was : BankedClone B
  pub now : BankedClone B
  pub becomes : Becomes old new 0 (states.Live was) (states.Live now)
  pub joins : JoinsBy log meter number asking was now told
