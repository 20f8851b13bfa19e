-- What a crash may leave of the banks behind a line that was not done.
use Rattle.std.proofs.Common.{◌≡◌, ◌≢◌, ℕ, List, [], ◌∷◌, Option, Some, Vec, Global, refl, sym, ◌∙◌, ap, arith, subst, inl, inr}
use Rattle.std.specs.Prelude.{Result, Ok, Err, OnErr, IfErr, IsErrOf, IsSome, slice_get}
use Rattle.std.proofs.lemmas.Bool.{cases_eq}
use Rattle.std.proofs.lemmas.List.{length-map}
use Rattle.std.proofs.lemmas.Option.{slice_get_cases}
use Rattle.mld_io.specs.Arm.{Meter}
use Rattle.mld_io.specs.Disk.{Log}
use Rattle.mld_model.specs.Sound.{IsSound}
use Rattle.mld_model.specs.World.{World}
use Rattle.schedule_text.specs.schedule_model.declared.Command.{Command}
use Rattle.schedule_text.specs.schedule_model.Runs.{Stage, Waiting, SetUp, Running}
use Rattle.schedule_text.specs.schedule_model.Schedule.{SpellsCommand}
use Rattle.schedule_text.specs.schedule_model.Step.{HasCloneNumbers, number_of_clone}
use Rattle.schedule_text.proofs.of_schedule_model.ScheduleLaws.{spells_numbers}
use Rattle.schedule_text.specs.declared.refusals.LineRefusal.{LineRefusal}
use Rattle.schedule_text.specs.declared.refusals.LineRefusal.TheVariants as refusals
use Rattle.schedule_text.specs.declared.setups.Setup.{Setup}
use Rattle.schedule_text.specs.ReadLines.{setup_of, CommandIs}
use Rattle.net_world.specs.world_commands.declared.faults.WorldFault.{WorldFault}
use Rattle.net_world.specs.world_commands.declared.faults.WorldFault.TheVariants as worlds
use Rattle.net_world.specs.world_commands.WorldBanks.{BankedWorld, in_memory, banks_of, banks_of_state, StandsOnBanks, OthersStay, HasFaultsFor}
use Rattle.net_world.proofs.of_world_commands.StopLemmas.{told_log}
use Rattle.net_world.specs.DeviceUses.{UsesDeviceOf}
use Rattle.net_world.specs.FoundingLeft.{LeavesFounded}
use Rattle.net_world.specs.LeftBehind.{LeavesBanks}
use Rattle.net_world.specs.SettledWorlds.{AllImagesStand, AreBlank}
use Rattle.net_world.proofs.DeviceLemmas.{device_needs}
use Rattle.net_world.proofs.SettledBanks.{nothing_left}
use Rattle.net_world.proofs.SettledSteps.{number_within}
use Rattle.mld_replay.specs.BanksLeft.{AllReadNone, IsFoundingDueAt, StandsInCommand, AllStandInCommand, AreLeftAmid, left_blank, left_between, left_in_command, FailsAmid, fails_founding, fails_in_command}
use Rattle.mld_replay.specs.Stages.{StageStands, SpellsAt, LeavesRefusedCommand, EndsWell, banks_of_stage}
use Rattle.mld_replay.specs.Stops.{fault_at_line, stop_of, stop_of_world, LeavesAtStop, StopLeaves, LeavesAtFault}
use Rattle.mld_replay.specs.declared.stages.Stage.{Stage as RunningStage}
use Rattle.mld_replay.specs.declared.stages.Stage.TheVariants as stages
use Rattle.mld_replay.specs.declared.stops.LineStop.{LineStop}
use Rattle.mld_replay.specs.declared.stops.LineStop.TheVariants as stops
use Rattle.mld_replay.proofs.StageLemmas.{spells_founded, spells_read, spells_set_up}

-- ---- a line that no device stopped

-- it wasn't read
pub unread_unfailed : (refusal : LineRefusal) (clone : ℕ) → stop_of refusal ≢ stops.Device clone
unread_unfailed refusals.BadLine clone is = absurd (cc (is))
unread_unfailed refusals.NoMemory clone is = absurd (cc (is))

-- or memory ran out
pub want_unfailed : (stop : LineStop) → stop ≡ stops.NoMemory → (clone : ℕ) → stop ≢ stops.Device clone
want_unfailed stop want clone is = absurd (cc (sym want ∙ is))

module _ {B : Type 0} (log : B → Option Log) where
  -- ---- the banks are as they were

  read_none : (banks : List B) → AreBlank log banks → AllReadNone log banks
  read_none banks blank number one l at told image left = nothing_left l (blank number one at l told) image left

  -- they keep the stage that the state stands for
  pub still_left : (running : RunningStage B) (stage : Stage) (lines : List (List ℕ)) → StageStands log running stage → AreLeftAmid log (banks_of_stage running) stage lines
  still_left (stages.Waiting blanks) Waiting lines stands = left_blank tt (read_none blanks.items stands.1)
  still_left (stages.SetUp setup blanks) (SetUp model) lines stands = left_blank tt (read_none blanks.items stands.3)
  still_left (stages.Running running) (Running world) lines stands = left_between stands.2
  still_left (stages.Waiting blanks) (SetUp model) lines stands = absurd stands
  still_left (stages.Waiting blanks) (Running world) lines stands = absurd stands
  still_left (stages.SetUp setup blanks) Waiting lines stands = absurd stands
  still_left (stages.SetUp setup blanks) (Running world) lines stands = absurd stands
  still_left (stages.Running running) Waiting lines stands = absurd stands
  still_left (stages.Running running) (SetUp model) lines stands = absurd stands
  still_left (stages.Over banks) stage lines stands = absurd stands

  -- what is left is so for each stop
  stopped_by : (stop : LineStop) (banks : List B) (stage : Stage) (lines : List (List ℕ)) → AreLeftAmid log banks stage lines
      → ((clone : ℕ) → stop ≡ stops.Device clone → FailsAmid log banks clone stage lines) → LeavesAtStop log banks stage lines stop
  stopped_by stops.BadLine banks stage lines left fails = tt
  stopped_by (stops.Device clone) banks stage lines left fails = fails clone refl
  stopped_by stops.NoMemory banks stage lines left fails = inr left

  pub stops_still : (old : RunningStage B) (banks : List B) (lines : List (List ℕ)) (stop : LineStop) → ((clone : ℕ) → stop ≢ stops.Device clone) → banks ≡ banks_of_stage old
      → StopLeaves log old banks lines stop
  stops_still old banks lines stop unfailed same stage stands =
      stopped_by stop banks stage lines (subst (λ (l : List B). AreLeftAmid log l stage lines) (sym same) (still_left old stage lines stands)) (λ clone is. absurd (unfailed clone is))

  -- so it is where a refused call left the state as it was
  pub stops_kept : {T : Type 0} (result : Result T LineStop) (old new : RunningStage B) (line : List ℕ) → ((clone : ℕ) → ¬ IsErrOf result (stops.Device clone)) → OnErr result (new ≡ old)
      → IfErr result (λ stop. (rest : List (List ℕ)) → StopLeaves log old (banks_of_stage new) (line ∷ rest) stop)
  stops_kept (Ok value) old new line unfailed kept = tt
  stops_kept (Err stop) old new line unfailed kept = λ rest.
      stops_still old (banks_of_stage new) (line ∷ rest) stop (λ clone is. unfailed clone (ap (λ (s : LineStop). Err s) is)) (ap (λ (s : RunningStage B). banks_of_stage s) kept)

  -- ---- a command was refused

  -- what its world tells of it
  pub command_refused : (meter : B → Meter) (old : BankedWorld B) (command : Command) (new : List B) (fault : WorldFault) → LeavesBanks log old command new
      → OthersStay (number_of_clone command) (banks_of old) new → HasFaultsFor {T = Unit {0}} (number_of_clone command) meter (banks_of old) new (Err fault)
      → UsesDeviceOf log meter old command new (Some fault) → LeavesRefusedCommand log old command new (stop_of_world fault)
  command_refused meter old command new (worlds.Device number) left others faults_are uses = record {
    left = left;
    others = others;
    names = λ clone is. let same : number ≡ clone = cc (is) in sym same ∙ faults_are.0;
    needs = λ clone is world stands sound.
        device_needs log meter world command faults_are.1.was faults_are.1.now number (uses world stands sound faults_are.1.was faults_are.1.now faults_are.1.before faults_are.1.behind);
  }
  command_refused meter old command new worlds.NoMemory left others faults_are uses = record {
    left = left;
    others = others;
    names = λ clone is. absurd (cc (is));
    needs = λ clone is. absurd (cc (is));
  }

  in_command : (tells : (banks : B) → IsSome (log banks)) (old : BankedWorld B) (command : Command) (new : List B) (stop : LineStop) (world : World) → HasCloneNumbers command → StandsOnBanks log old world → IsSound world
      → AllImagesStand log world (banks_of old) → LeavesRefusedCommand log old command new stop → AllStandInCommand log world command new
  in_command tells old command new stop world numbers stands sound images stops number one l at told image crash = elim (cases_eq number (number_of_clone command)) [
    | inl same ↦
        let own : ℕ = number_of_clone command in
        let here : slice_get new own ≡ Some one = subst (λ (k : ℕ). slice_get new k ≡ Some one) same at in
        subst (λ (k : ℕ). StandsInCommand world command k image) (sym same) (elim (slice_get_cases (banks_of old) own).1 [
          | inl found ↦
              let before : (first : Log) × (log found.0 ≡ Some first) = told_log (log found.0) (tells found.0) in
              elim (stops.left world stands sound found.0 one before.0 l found.2 here before.1 told image crash) [
                | inl was ↦ inl (images own found.0 before.0 found.2 before.1 image was)
                | inr did ↦ inr (refl, did.0, did.1)
              ]
          | inr past ↦ absurd (omega (arith, past.0, number_within command numbers, length-map old.clones banks_of_state, length-map old.clones in_memory, stands.memory.count))
        ])
    | inr differs ↦ inl (images number one l (sym (stops.others number differs) ∙ at) told image crash)
  ]

  pub commanded_left : {T : Type 0} (tells : (banks : B) → IsSome (log banks)) (result : Result T LineStop) (domain line : List ℕ) (command : Command) (old new : BankedWorld B)
      → domain ≡ old.domain → SpellsCommand domain line command → IfErr result (LeavesRefusedCommand log old command (banks_of new))
      → IfErr result (λ stop. (rest : List (List ℕ)) → StopLeaves log (stages.Running old) (banks_of new) (line ∷ rest) stop)
  commanded_left tells (Ok value) domain line command old new same spells left = tt
  commanded_left tells (Err stop) domain line command old new same spells left = λ rest. at rest
    where
      at : (rest : List (List ℕ)) (stage : Stage) → StageStands log (stages.Running old) stage → LeavesAtStop log (banks_of new) stage (line ∷ rest) stop
      at rest Waiting stands = absurd stands
      at rest (SetUp model) stands = absurd stands
      at rest (Running model) stands =
          let spelled : SpellsCommand model.domain line command = subst (λ (d : List ℕ). SpellsCommand d line command) (same ∙ stands.0.memory.domain) spells in
          let stand = in_command tells old command (banks_of new) stop model (spells_numbers domain line command spells) stands.0 stands.1 stands.2 left in
          stopped_by stop (banks_of new) (Running model) (line ∷ rest) (left_in_command model command refl spelled stand)
          (λ clone is. fails_in_command model command refl spelled (left.names clone is) (left.needs clone is model stands.0 stands.1) stand)

  -- the first one
  pub started_left : {T : Type 0} (tells : (banks : B) → IsSome (log banks)) (result : Result T LineStop) (state : RunningStage B) (command : Command) (old new : BankedWorld B) → HasCloneNumbers command
      → ((stage : Stage) → StageStands log state stage → EndsWell log stage (stages.Running old)) → IfErr result (LeavesRefusedCommand log old command (banks_of new))
      → IfErr result (λ stop. (line : List ℕ) (rest : List (List ℕ)) (stage : Stage) → StageStands log state stage → SpellsAt stage line command
      → LeavesAtStop log (banks_of new) stage (line ∷ rest) stop)
  started_left tells (Ok value) state command old new numbers founded left = tt
  started_left tells (Err stop) state command old new numbers founded left = λ line rest stage stands spells.
      let ended : EndsWell log stage (stages.Running old) = founded stage stands in
      let spelled : SpellsCommand ended.world.domain line command = spells_founded stage ended.world line command ended.founds spells in
      let stand = in_command tells old command (banks_of new) stop ended.world numbers ended.stands.0 ended.stands.1 ended.stands.2 left in
      stopped_by stop (banks_of new) stage (line ∷ rest) (left_in_command ended.world command ended.founds spelled stand)
      (λ clone is. fails_in_command ended.world command ended.founds spelled (left.names clone is) (left.needs clone is ended.world ended.stands.0 ended.stands.1) stand)

  -- of the line that spells it
  pub stopped_here : {T : Type 0} (result : Result T LineStop) (state : RunningStage B) (setup : Setup) (blanks : Vec B Global) (domain line : List ℕ) (read : Option Command) (command : Command) (banks : List B)
      → state ≡ stages.SetUp setup blanks → domain ≡ setup.domain → read ≡ Some command → CommandIs domain line read
      → IfErr result (λ stop. (line : List ℕ) (rest : List (List ℕ)) (stage : Stage) → StageStands log (stages.SetUp setup blanks) stage → SpellsAt stage line command
      → LeavesAtStop log banks stage (line ∷ rest) stop)
      → IfErr result (λ stop. (rest : List (List ℕ)) → StopLeaves log state banks (line ∷ rest) stop)
  stopped_here (Ok value) state setup blanks domain line read command banks is same said reads left = tt
  stopped_here (Err stop) state setup blanks domain line read command banks is same said reads left = λ rest stage stands.
      left line rest stage (subst (λ (s : RunningStage B). StageStands log s stage) is stands)
      (spells_set_up log state setup blanks domain line command is same (spells_read domain line read command said reads) stage stands)

  -- said of a state that is the same
  pub stopped_same : {T : Type 0} (result : Result T LineStop) (old same : RunningStage B) (banks : List B) (line : List ℕ) → same ≡ old
      → IfErr result (λ stop. (rest : List (List ℕ)) → StopLeaves log same banks (line ∷ rest) stop) → IfErr result (λ stop. (rest : List (List ℕ)) → StopLeaves log old banks (line ∷ rest) stop)
  stopped_same result old same banks line is = subst (λ (s : RunningStage B). IfErr result (λ stop. (rest : List (List ℕ)) → StopLeaves log s banks (line ∷ rest) stop)) is

  -- ---- founding was refused

  pub founding_left : (setup : Setup) (banks : List B) (fault : WorldFault) (lines : List (List ℕ)) → LeavesFounded log (setup_of setup) fault banks → IsFoundingDueAt (SetUp (setup_of setup)) lines
      → LeavesAtStop log banks (SetUp (setup_of setup)) lines (stop_of_world fault)
  founding_left setup banks (worlds.Device clone) lines left due = fails_founding due left
  founding_left setup banks worlds.NoMemory lines left due = inl left

-- it is due at a command, and at the end of the lines
pub due_by : (stage : Stage) (line : List ℕ) (rest : List (List ℕ)) (command : Command) → SpellsAt stage line command → IsFoundingDueAt stage (line ∷ rest)
due_by Waiting line rest command spells = tt
due_by (SetUp setup) line rest command spells = (command, spells)
due_by (Running world) line rest command spells = tt

pub due_at_end : (stage : Stage) → IsFoundingDueAt stage []
due_at_end Waiting = tt
due_at_end (SetUp setup) = tt
due_at_end (Running world) = tt

-- ---- and by the fault by which the run ends

pub ended_by : {B : Type 0} (log : B → Option Log) (banks : List B) (stage : Stage) (lines : List (List ℕ)) (stop : LineStop) (number : ℕ) → LeavesAtStop log banks stage lines stop
    → LeavesAtFault log banks stage lines (fault_at_line stop number)
ended_by log banks stage lines stops.BadLine number left = tt
ended_by log banks stage lines (stops.Device clone) number left = left
ended_by log banks stage lines stops.NoMemory number left = left
