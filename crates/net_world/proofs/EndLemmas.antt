-- The banks of a world: where it is founded, and where its clones stop.
use Rattle.std.proofs.Common.{◌≡◌, ℕ, zero, suc, List, [], ◌∷◌, Option, Some, None, MatchOption, refl, sym, ◌∙◌, arith, subst, inl, inr, map, option_map}
use Rattle.std.specs.Prelude.{slice_get, IsSome}
use Rattle.std.proofs.lemmas.Option.{slice_get-map}
use Rattle.mld_io.specs.Disk.{Log}
use Rattle.clone_core.specs.journal_store.Standing.{KeepsNothing}
use Rattle.tree_clock.specs.Lists.{Has}
use Rattle.mld_model.specs.Clone.{Clone, kept_of}
use Rattle.mld_model.specs.Clone as model
use Rattle.mld_model.specs.World.{World, clone_at, founded}
use Rattle.mld_model.specs.declared.CloneState.TheVariants as states
use Rattle.mld_model.specs.StandsFor.{RunningWorld, StandsFor, CloneStandsFor, founded_running}
use Rattle.mld_model.specs.Sound.{IsSound}
use Rattle.mld_model.proofs.FoundedLaws.{founded_sound}
use Rattle.schedule_text.specs.schedule_model.Schedule.{Setup, KeepsEachOnce}
use Rattle.schedule_text.proofs.of_schedule_model.WorldLaws.{founded_stands}
use Rattle.clone_core.specs.Banked.{kept_as}
use Rattle.net_world.specs.Founding.{IsOpenState, AreFounded, StandsFounded}
use Rattle.world_commands.specs.WorldBanks.{BankedState, BankedWorld, in_memory, banks_of_state, memory_of, KeepsNoneNow, KeepsStored, BanksStandFor, AllBanksStandFor, IsBacked, StandsOnBanks}
use Rattle.world_commands.specs.WorldEnds.{KeepsState, KeepAll}
use Rattle.world_commands.specs.Worlds.{IsStanding}
use Rattle.world_commands.proofs.BankLemmas.{memory_at}
use Rattle.world_commands.proofs.StopLemmas.{told_log}

-- what stands in a place of a list is a member of it
pub member_at : {X : Type 0} (items : List X) (place : ℕ) (item : X) → slice_get items place ≡ Some item → Has items item
member_at [] place item at = absurd (cc at)
member_at (first ∷ items) zero item at = inl (cc at)
member_at (first ∷ items) (suc before) item at = inr (member_at items before item at)

module _ {B : Type 0} (log : B → Option Log) where
  -- ---- founding

  -- a clone that was just founded is open where it is live
  pub founded_backed : (world : World) (steps number : ℕ) (state : BankedState B) → IsOpenState state → IsBacked log world steps number state
  founded_backed world steps number (states.Absent banks) opened = tt
  founded_backed world steps number (states.Asking asking) opened = absurd opened
  founded_backed world steps number (states.Down banks) opened = absurd opened
  founded_backed world steps number (states.Live clone) opened = record { opened = opened.opened; reached = omega (arith, opened.first) }

  -- the world that was founded with kept properties stands for the model's
  founded_on_banks : (setup : Setup) (running : BankedWorld B) → AreFounded setup running.clones → running.domain ≡ setup.domain → running.properties ≡ setup.properties
      → running.messages ≡ [] → running.steps ≡ 0 → StandsOnBanks log running (founded setup.domain setup.properties setup.count)
  founded_on_banks setup running are domain properties messages steps =
      let same : memory_of running ≡ founded_running setup.domain setup.properties setup.count = λ i. record {
        domain = domain i;
        properties = properties i;
        clones = are.memory i;
        messages = messages i;
        steps = steps i;
      } in
      let world : World = founded setup.domain setup.properties setup.count in
      record {
        memory = subst (λ (r : RunningWorld). StandsFor r world) (sym same) (founded_stands setup.domain setup.properties setup.count);
        backed = λ number state at. founded_backed world running.steps number state (are.opened state (member_at running.clones number state at));
      }

  -- so it does for that of a setup whose properties those are, each once
  pub founded_from : (given setup : Setup) (running : BankedWorld B) → KeepsEachOnce given.properties setup.properties → setup.domain ≡ given.domain → setup.count ≡ given.count
      → AreFounded setup running.clones → running.domain ≡ setup.domain → running.properties ≡ setup.properties → running.messages ≡ [] → running.steps ≡ 0
      → StandsFounded log given running
  founded_from given setup running each domain_is count_is are domain properties messages steps = record {
    world = founded setup.domain setup.properties setup.count;
    founds = record { kept = setup.properties; each = each; is = λ i. founded (domain_is i) setup.properties (count_is i) };
    stands = founded_on_banks setup running are domain properties messages steps;
  }

  -- which is sound
  pub founded_standing_on : (setup : Setup) (running : BankedWorld B) → StandsFounded log setup running → IsStanding log running
  founded_standing_on setup running stands = record {
    world = stands.world;
    stands = stands.stands;
    sound = subst (λ (world : World). IsSound world) (sym stands.founds.is) (founded_sound setup.domain stands.founds.kept setup.count);
  }

  -- ---- stopping

  keeps_none : (banks : B) → ((now : Log) → log banks ≡ Some now → KeepsNothing now) → IsSome (log banks) → KeepsNoneNow (log banks)
  keeps_none banks blank some =
      let now : (l : Log) × (log banks ≡ Some l) = told_log (log banks) some in
      record { log = now.0; now_is = now.1; keeps = blank now.0 now.1 }

  -- the banks of a clone that stopped
  pub stopped_stands : (world : World) (steps number : ℕ) (state : BankedState B) (clone : Clone) → CloneStandsFor world number (in_memory state) clone → IsBacked log world steps number state
      → clone_at world number ≡ clone → KeepsState log state → IsSome (log (banks_of_state state))
      → MatchOption (kept_of clone) (KeepsNoneNow (log (banks_of_state state))) (λ stored. KeepsStored world number stored (log (banks_of_state state)))
  stopped_stands world steps number (states.Down banks) clone stands backed at keeps some =
      subst (λ (c : Clone). MatchOption (kept_of c) (KeepsNoneNow (log banks)) (λ stored. KeepsStored world number stored (log banks))) at backed.stands
  stopped_stands world steps number (states.Absent banks) model.Absent stands backed at keeps some = keeps_none banks keeps some
  stopped_stands world steps number (states.Asking asking) model.Asking stands backed at keeps some = keeps_none asking.banks keeps some
  stopped_stands world steps number (states.Live live) (model.Live stored held) stands backed at keeps some =
      let now : (l : Log) × (log live.banks ≡ Some l) = told_log (log live.banks) some in
      let kept = keeps backed.opened now.0 now.1 in
      record {
        log = now.0;
        now_is = now.1;
        kept = kept_as kept.0 live.generation live.local;
        keeps = kept.1;
        id = stands.0.id;
        domain = stands.0.domain;
        properties = stands.0.properties;
        stands = stands.1.kept;
      }
  stopped_stands world steps number state clone stands backed at keeps some = absurd stands

  -- the banks of all clones keep what they stand for
  pub all_stand : (running : BankedWorld B) → ((banks : B) → IsSome (log banks)) → KeepAll log running.clones → (world : World) → StandsOnBanks log running world
      → AllBanksStandFor log world (map banks_of_state running.clones)
  all_stand running tells keeps world stands number one at =
      found (slice_get running.clones number) refl (sym (slice_get-map banks_of_state running.clones number) ∙ at)
    where
      found : (state : Option (BankedState B)) → slice_get running.clones number ≡ state → option_map banks_of_state state ≡ Some one → BanksStandFor world number (log one)
      found None there is = absurd (cc is)
      found (Some state) there is =
          let same : banks_of_state state ≡ one = cc is in
          subst (λ (b : B). BanksStandFor world number (log b)) same
          (stopped_stands world running.steps number state (clone_at world number) (stands.memory.clones number (in_memory state) (memory_at running.clones number state there))
          (stands.backed number state there) refl (keeps state (member_at running.clones number state there)) (tells (banks_of_state state)))
