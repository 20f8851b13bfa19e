-- What is left of a schedule that ended.
use Rattle.std.proofs.Common.{◌≡◌, inl, Vec, Global, zero, suc, List, [], ◌∷◌, ◌++◌, Bool, refl, sym, ◌∙◌, ap, subst, Option, None, Some}
use Rattle.std.specs.Prelude.{IsSome, IsTrue, Result, Ok, IfOk}
use Rattle.std.specs.declared.alloc.AllocError.{AllocError}
use Rattle.std.proofs.lemmas.Bool.{false≢true}
use Rattle.mld_io.specs.Disk.{Log}
use Rattle.clone_core.specs.journal_store.Standing.{IsBlankLog}
use Rattle.mld_model.specs.World.{World}
use Rattle.mld_model.specs.Sound.{IsSound}
use Rattle.schedule_text.specs.schedule_model.Runs.{Stage, Running}
use Rattle.net_world.specs.world_commands.WorldBanks.{BankedWorld, StandsOnBanks, AllBanksStandFor, KeepsNoneNow}
use Rattle.net_world.specs.declared.summaries.Summary.{Summary}
use Rattle.mld_replay.specs.RunSummaries.{TellsOf}
use Rattle.mld_replay.specs.Replaying.{EndsByFault}
use Rattle.mld_replay.specs.Ran.{tells}
use Rattle.mld_replay.specs.Stages.{StageStands, banks_of_stage}
use Rattle.mld_replay.specs.KeptBanks.{AllKeepNone, BanksKeep}
use Rattle.mld_replay.specs.declared.endings.End.{End}
use Rattle.mld_replay.specs.declared.run.Ran.{Ran}
use Rattle.mld_replay.specs.declared.run.RunFault.{RunFault}
use Rattle.mld_replay.specs.declared.stages.Stage.{Stage as RunningStage}
use Rattle.mld_replay.specs.declared.stages.Stage.TheVariants as stages
use Rattle.mld_replay.proofs.StageLemmas.{running_stage}

-- banks that tell their log and are blank keep nothing
pub blank_keeps : (now : Option Log) → IsSome now → IsBlankLog now → KeepsNoneNow now
blank_keeps None told blank = absurd (false≢true told)
blank_keeps (Some log) told blank = record { log = log; now_is = refl; keeps = blank log refl }

-- one more
pub none_more : {B : Type 0} (log : B → Option Log) (banks : List B) (one : B) → KeepsNoneNow (log one) → AllKeepNone log banks → AllKeepNone log (banks ++ one ∷ [])
none_more log [] one keeps none zero other at = let same : one ≡ other = cc (at) in subst (λ b. KeepsNoneNow (log b)) same keeps
none_more log [] one keeps none (suc number) other at = absurd (cc (at))
none_more log (first ∷ banks) one keeps none zero other at = none zero other at
none_more log (first ∷ banks) one keeps none (suc number) other at = none_more log banks one keeps (λ n o there. none (suc n) o there) number other at

-- ---- a stage that ended

-- what is left of a world is left of the state that has it

pub running_tells : {B : Type 0} (log : B → Option Log) (result : Result (End B) AllocError) (state : RunningStage B) (world : BankedWorld B) → state ≡ stages.Running world
    → ((model : World) → StandsOnBanks log world model → IsSound model → IfOk result (λ end. TellsOf end.world (Running model)))
    → (stage : Stage) → StageStands log state stage → IfOk result (λ end. TellsOf end.world stage)
running_tells log result state world is tells = running_stage log (λ stage. IfOk result (λ end. TellsOf end.world stage)) state world is tells

pub running_keeps : {B : Type 0} (log : B → Option Log) (result : Result (End B) AllocError) (state : RunningStage B) (world : BankedWorld B) → state ≡ stages.Running world
    → ((model : World) → StandsOnBanks log world model → IfOk result (λ end. AllBanksStandFor log model end.banks.items))
    → (stage : Stage) → StageStands log state stage → IfOk result (λ end. BanksKeep log end.banks.items stage)
running_keeps log result state world is keeps = running_stage log (λ stage. IfOk result (λ end. BanksKeep log end.banks.items stage)) state world is (λ model stands sound. keeps model stands)

-- how the run ends is said of it
pub ends_whole : {B : Type 0} (log : B → Option Log) (result : Result (End B) AllocError) (end : End B) (told : Bool) (fault : Option RunFault) (running : RunningStage B) (ran : Ran B)
    → result ≡ Ok end → told ≡ tells fault
    → (IsTrue told → (model : Stage) → StageStands log running model → IfOk result (λ end. TellsOf end.world model))
    → (¬ IsTrue told → IfOk result (λ end. end.world ≡ None)) → IfOk result (λ end. end.banks.items ≡ banks_of_stage running)
    → ((model : Stage) → StageStands log running model → IfOk result (λ end. BanksKeep log end.banks.items model))
    → ran.fault ≡ fault → ran.banks ≡ end.banks → ran.world ≡ end.world → EndsByFault log fault running ran
ends_whole {B = B} log result end told fault running ran is told_is tells_of silent banks kept fault_is banks_is world_is =
    let R : Result (End B) AllocError = Ok end in
    inl (record {
      fault_is = fault_is;
      told = λ has stage stands.
          let P : Result (End B) AllocError → Type 0 = λ r. IfOk r (λ end. TellsOf end.world stage) in
          let Q : Option Summary → Type 0 = λ w. TellsOf w stage in
          subst Q (sym world_is) (subst P is (tells_of (told_is ∙ has) stage stands));
      silent = λ quiet.
          let P : Result (End B) AllocError → Type 0 = λ r. IfOk r (λ end. end.world ≡ None) in
          world_is ∙ subst P is (silent (λ has. quiet (sym told_is ∙ has)));
      banks_are =
          let P : Result (End B) AllocError → Type 0 = λ r. IfOk r (λ end. end.banks.items ≡ banks_of_stage running) in
          ap (λ (b : Vec B Global). b.items) banks_is ∙ subst P is banks;
      kept = λ stage stands.
          let P : Result (End B) AllocError → Type 0 = λ r. IfOk r (λ end. BanksKeep log end.banks.items stage) in
          let Q : Vec B Global → Type 0 = λ b. BanksKeep log b.items stage in
          subst Q (sym banks_is) (subst P is (kept stage stands));
    })
