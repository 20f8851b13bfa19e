-- What a line makes of a schedule's state, and what its end does.
use Rattle.std.proofs.Common.{◌≡◌, ◌≢◌, ℕ, ◌≤◌, List, [], ◌∷◌, ◌++◌, refl, sym, ◌∙◌, ap, subst, length, Option, None, Some, Vec, Global, arith}
use Rattle.std.proofs.lemmas.List.{length-append}
use Rattle.std.specs.Prelude.{Result, Ok, Err, OnOk, IfErr, IsErrOf}
use Rattle.mld_io.specs.Arm.{Meter}
use Rattle.mld_io.specs.Disk.{Log}
use Rattle.schedule_text.specs.schedule_model.declared.Command.{Command}
use Rattle.mld_model.specs.World.{World, clone_count}
use Rattle.mld_model.specs.Reply.{Ready, PropertySet}
use Rattle.mld_model.specs.Sound.{IsSound}
use Rattle.mld_model.proofs.FoundedLaws.{founded_sound}
use Rattle.schedule_text.specs.schedule_model.ReplyText.{reply_text}
use Rattle.schedule_text.specs.schedule_model.Runs.{Stage, Waiting, SetUp, Running, IsWorldOf, IsBad, says_nothing, sets_up, sets_property, commands}
use Rattle.schedule_text.specs.declared.setups.Setup.{Setup}
use Rattle.schedule_text.specs.declared.setups.SetupLine.{SetupLine}
use Rattle.schedule_text.specs.declared.setups.SetupLine.TheVariants as lines
use Rattle.schedule_text.specs.schedule_model.Schedule.{Setup as ModelSetup, SpellsSetup, SetsProperty, SpellsCommand, IsSetup, single_limit, with_property}
use Rattle.schedule_text.specs.ReadLines.{setup_of, SetupIs, CommandIs, IsBadCommand}
use Rattle.net_world.specs.Founding.{StandsFounded}
use Rattle.net_world.specs.SettledWorlds.{AllImagesStand, AreBlank, SettlesWorld, SettlesFounded}
use Rattle.net_world.specs.world_commands.WorldBanks.{BankedWorld, StandsOnBanks, banks_of}
use Rattle.mld_replay.specs.BankFaults.{ComeBackWell, all_left}
use Rattle.mld_replay.specs.Stops.{StopBringsBack}
use Rattle.mld_replay.specs.declared.stops.LineStop.TheVariants as stops
use Rattle.mld_replay.proofs.MeterLemmas.{well_same, well_then, stop_later}
use Rattle.net_world.specs.world_commands.Worlds.{Stepped, FollowsOnBanks}
use Rattle.mld_replay.specs.Stages.{StageStands, SpellsAt, steps_of_stage, GetsProperty, GetsNone, IsStandingStage, ActsWell, EndsWell}
use Rattle.mld_replay.specs.declared.stops.LineStop.{LineStop}
use Rattle.mld_replay.specs.declared.stages.Stage.{Stage as RunningStage}
use Rattle.mld_replay.specs.declared.stages.Stage.TheVariants as stages

-- ---- a line while no domain line has come

-- by what a domain line spells clones may be founded
spelled_setup : (line : List ℕ) (setup : ModelSetup) → SpellsSetup line setup → IsSetup setup
spelled_setup line setup spelled =
    let few : length setup.properties ≤ single_limit = subst (λ (l : List (List ℕ)). length l ≤ single_limit) (sym spelled.none) (omega arith) in
    record { name = spelled.name; some = spelled.some; most = spelled.most; few = few }

-- it is the domain line
pub set_up : {B : Type 0} (log : B → Option Log) (line : List ℕ) (read : SetupLine) (setup : Setup) (blanks : Vec B Global) (text : List ℕ) → read ≡ lines.Setup setup → SetupIs line None read
    → text ≡ reply_text (Ready setup.clones) → (length blanks.items ≡ clone_count) × AreBlank log blanks.items → ActsWell log Waiting line text (stages.SetUp setup blanks)
set_up log line read setup blanks text is reads writes blank =
    let P : SetupLine → Type 0 = λ r. SetupIs line None r in
    let spelled = subst P is reads in
    record {
      next = SetUp (setup_of setup);
      acts = sets_up (record { setup = setup_of setup; spells = spelled; replies = writes; changes = refl });
      stands = (refl, spelled_setup line (setup_of setup) spelled, blank.0, blank.1);
    }

-- it says nothing, and still none has come
pub still_waits : {B : Type 0} (log : B → Option Log) (line : List ℕ) (read : SetupLine) (so_far : Option Setup) (running : RunningStage B) → read ≡ lines.Other so_far → SetupIs line None read
    → StageStands log running Waiting → ActsWell log Waiting line [] running
still_waits {B = B} log line read so_far running is reads stands = let P : SetupLine → Type 0 = λ r. SetupIs line None r in waits so_far (subst P is reads)
  where
    waits : (so_far : Option Setup) → SetupIs line None (lines.Other so_far) → ActsWell log Waiting line [] running
    waits None nothing = record { next = Waiting; acts = says_nothing nothing refl refl; stands = stands }
    waits (Some setup) nothing = absurd nothing

-- the banks of a state in which none has come
pub waiting_count : {B : Type 0} (log : B → Option Log) (state : RunningStage B) (blanks : Vec B Global) → state ≡ stages.Waiting blanks → StageStands log state Waiting
    → (length blanks.items ≡ clone_count) × AreBlank log blanks.items
waiting_count {B = B} log state blanks is stands = let P : RunningStage B → Type 0 = λ s. StageStands log s Waiting in subst P is stands

-- ---- a line behind the domain line

-- it is a command
pub commanded : {B : Type 0} (log : B → Option Log) (stage : Stage) (line : List ℕ) (command : Command) (old new : BankedWorld B) (text : List ℕ)
    → Stepped log old command new [] text → SettlesWorld log old command new → (model : World) → SpellsCommand model.domain line command → IsWorldOf stage model → StandsOnBanks log old model → IsSound model
    → AllImagesStand log model (banks_of old) → ActsWell log stage line text (stages.Running new)
commanded log stage line command old new text stepped settles model spells founds stands sound images =
    let follows : FollowsOnBanks log model command stepped.reply new = stepped.follows model stands sound in
    record {
      next = Running follows.next;
      acts = commands (record {
        world = model;
        founds = founds;
        command = command;
        reply = stepped.reply;
        after = follows.next;
        spells = spells;
        steps = follows.steps;
        replies = stepped.text;
        changes = refl;
      });
      stands = (follows.stands, follows.sound, settles model stands sound images stepped.reply follows.next follows.steps follows.sound follows.stands);
    }

-- a line that was read as a command spells it
pub spells_read : (domain line : List ℕ) (read : Option Command) (command : Command) → read ≡ Some command → CommandIs domain line read → SpellsCommand domain line command
spells_read domain line read command is reads = let P : Option Command → Type 0 = λ c. CommandIs domain line c in subst P is reads

-- what is spelled at a stage is spelled in the world that its clones are founded in
pub spells_founded : (stage : Stage) (model : World) (line : List ℕ) (command : Command) → IsWorldOf stage model → SpellsAt stage line command → SpellsCommand model.domain line command
spells_founded Waiting model line command founds spells = absurd spells
spells_founded (SetUp setup) model line command founds spells = subst (λ (world : World). SpellsCommand world.domain line command) (sym founds.is) spells
spells_founded (Running now) model line command founds spells = subst (λ (world : World). SpellsCommand world.domain line command) (sym founds) spells

-- it is a command, and the clones were just founded
pub started : {B : Type 0} (log : B → Option Log) (stage : Stage) (line : List ℕ) (command : Command) (old new : BankedWorld B) (text : List ℕ)
    → SpellsAt stage line command → Stepped log old command new [] text → SettlesWorld log old command new → EndsWell log stage (stages.Running old) → ActsWell log stage line text (stages.Running new)
started log stage line command old new text spells stepped settles founded =
    commanded log stage line command old new text stepped settles founded.world (spells_founded stage founded.world line command founded.founds spells)
    founded.founds founded.stands.0 founded.stands.1 founded.stands.2

-- so it is, whatever its step answered
pub started_all : {B : Type 0} (log : B → Option Log) (result : Result (Unit {0}) LineStop) (state : RunningStage B) (command : Command) (old new : BankedWorld B) (text : List ℕ)
    → OnOk result (Stepped log old command new [] text) → OnOk result (SettlesWorld log old command new) → ((stage : Stage) → StageStands log state stage → EndsWell log stage (stages.Running old))
    → OnOk result ((stage : Stage) (line : List ℕ) → StageStands log state stage → SpellsAt stage line command → ActsWell log stage line text (stages.Running new))
started_all log (Ok done) state command old new text stepped settles founded = λ stage line stands spells. started log stage line command old new text spells stepped settles (founded stage stands)
started_all log (Err stop) state command old new text stepped settles founded = tt

pub commanded_all : {B : Type 0} (log : B → Option Log) (result : Result (Unit {0}) LineStop) (domain line : List ℕ) (command : Command) (old new : BankedWorld B) (text : List ℕ)
    → domain ≡ old.domain → SpellsCommand domain line command → OnOk result (Stepped log old command new [] text) → OnOk result (SettlesWorld log old command new)
    → OnOk result ((model : World) → StageStands log (stages.Running old) (Running model) → ActsWell log (Running model) line text (stages.Running new))
commanded_all log (Ok done) domain line command old new text same spells stepped settles = λ model stands.
    commanded log (Running model) line command old new text stepped settles model (subst (λ (d : List ℕ). SpellsCommand d line command) (same ∙ stands.0.memory.domain) spells) refl stands.0 stands.1 stands.2
commanded_all log (Err stop) domain line command old new text same spells stepped settles = tt

-- a line that is bad in its domain is bad at the stage
pub bad_running : {B : Type 0} (log : B → Option Log) (running : BankedWorld B) (domain line : List ℕ) → domain ≡ running.domain → IsBadCommand domain line
    → (model : World) → StandsOnBanks log running model → IsBad (Running model) line
bad_running log running domain line same bad model stands =
    (bad.0, λ command spells. bad.1 command (subst (λ (d : List ℕ). SpellsCommand d line command) (sym (same ∙ stands.memory.domain)) spells))

pub bad_set_up : (setup : Setup) (domain line : List ℕ) → domain ≡ setup.domain → ((property : List ℕ) → ¬ SetsProperty (setup_of setup) line property) → IsBadCommand domain line
    → IsBad (SetUp (setup_of setup)) line
bad_set_up setup domain line same none bad =
    (bad.0, (none, λ command spells. bad.1 command (subst (λ (d : List ℕ). SpellsCommand d line command) (sym same) spells)))

-- it says nothing
pub nothing_said : {B : Type 0} (log : B → Option Log) (stage : Stage) (domain line : List ℕ) (read : Option Command) (running : RunningStage B) → read ≡ None → CommandIs domain line read
    → StageStands log running stage → ActsWell log stage line [] running
nothing_said log stage domain line read running is reads stands =
    let P : Option Command → Type 0 = λ c. CommandIs domain line c in
    record { next = stage; acts = says_nothing (subst P is reads) refl refl; stands = stands }

-- ---- the stage that a state stands for

-- while the domain is set up, on blank banks
pub blank_stage : {B : Type 0} (log : B → Option Log) (P : Stage → Type 0) (state : RunningStage B) (setup : Setup) (blanks : Vec B Global) → state ≡ stages.SetUp setup blanks
    → (AreBlank log blanks.items → P (SetUp (setup_of setup))) → (stage : Stage) → StageStands log state stage → P stage
blank_stage {B = B} log P state setup blanks is h stage stands = let Q : RunningStage B → Type 0 = λ s. StageStands log s stage in at stage (subst Q is stands)
  where
    at : (stage : Stage) → StageStands log (stages.SetUp setup blanks) stage → P stage
    at Waiting stands = absurd stands
    at (SetUp model) stands = subst (λ s. P (SetUp s)) stands.0 (h stands.3)
    at (Running world) stands = absurd stands

-- and so is the setup one by which clones may be founded
pub set_up_stage : {B : Type 0} (log : B → Option Log) (P : Stage → Type 0) (state : RunningStage B) (setup : Setup) (blanks : Vec B Global) → state ≡ stages.SetUp setup blanks
    → (IsSetup (setup_of setup) → P (SetUp (setup_of setup))) → (stage : Stage) → StageStands log state stage → P stage
set_up_stage {B = B} log P state setup blanks is h stage stands = let Q : RunningStage B → Type 0 = λ s. StageStands log s stage in at stage (subst Q is stands)
  where
    at : (stage : Stage) → StageStands log (stages.SetUp setup blanks) stage → P stage
    at Waiting stands = absurd stands
    at (SetUp model) stands = subst (λ s. P (SetUp s)) stands.0 (h (subst (λ s. IsSetup s) (sym stands.0) stands.1))
    at (Running world) stands = absurd stands

-- a line that sets no property and is no command in its domain is bad
pub bad_here : {B : Type 0} (log : B → Option Log) (state : RunningStage B) (setup : Setup) (blanks : Vec B Global) (domain line : List ℕ) → state ≡ stages.SetUp setup blanks → domain ≡ setup.domain
    → GetsNone line state → IsBadCommand domain line → (stage : Stage) → StageStands log state stage → IsBad stage line
bad_here {B = B} log state setup blanks domain line is same none bad =
    set_up_stage log (λ stage. IsBad stage line) state setup blanks is (λ may. bad_set_up setup domain line same (subst (λ (s : RunningStage B). GetsNone line s) is none) bad)

-- what is spelled in the domain that is set up is spelled at that stage
pub spells_set_up : {B : Type 0} (log : B → Option Log) (state : RunningStage B) (setup : Setup) (blanks : Vec B Global) (domain line : List ℕ) (command : Command) → state ≡ stages.SetUp setup blanks
    → domain ≡ setup.domain → SpellsCommand domain line command → (stage : Stage) → StageStands log state stage → SpellsAt stage line command
spells_set_up log state setup blanks domain line command is same spells =
    set_up_stage log (λ stage. SpellsAt stage line command) state setup blanks is (λ may. subst (λ (d : List ℕ). SpellsCommand d line command) same spells)

-- so the first command was done, if its step was
pub started_here : {B : Type 0} (log : B → Option Log) (result : Result (Unit {0}) LineStop) (state : RunningStage B) (setup : Setup) (blanks : Vec B Global) (domain line : List ℕ) (read : Option Command)
    (command : Command) (new : RunningStage B) (text : List ℕ) → state ≡ stages.SetUp setup blanks → domain ≡ setup.domain → read ≡ Some command → CommandIs domain line read
    → OnOk result ((stage : Stage) (line : List ℕ) → StageStands log (stages.SetUp setup blanks) stage → SpellsAt stage line command → ActsWell log stage line text new)
    → OnOk result ((stage : Stage) → StageStands log state stage → ActsWell log stage line text new)
started_here {B = B} log (Ok done) state setup blanks domain line read command new text is same reads said does = λ stage stands.
    does stage line (subst (λ (s : RunningStage B). StageStands log s stage) is stands) (spells_set_up log state setup blanks domain line command is same (spells_read domain line read command reads said) stage stands)
started_here log (Err stop) state setup blanks domain line read command new text is same reads said does = tt

-- what is set up may be founded, on as many banks as clones
pub standing_setup : {B : Type 0} (log : B → Option Log) (state : RunningStage B) (setup : Setup) (blanks : Vec B Global) → state ≡ stages.SetUp setup blanks → IsStandingStage log state
    → IsSetup (setup_of setup) × (length blanks.items ≡ clone_count)
standing_setup {B = B} log state setup blanks is standing = let Q : RunningStage B → Type 0 = λ s. StageStands log s standing.stage in at standing.stage (subst Q is standing.stands)
  where
    at : (stage : Stage) → StageStands log (stages.SetUp setup blanks) stage → IsSetup (setup_of setup) × (length blanks.items ≡ clone_count)
    at Waiting stands = absurd stands
    at (SetUp model) stands = (subst (λ s. IsSetup s) (sym stands.0) stands.1, stands.2)
    at (Running world) stands = absurd stands

-- while none has come
pub waiting_stage : {B : Type 0} (log : B → Option Log) (P : Stage → Type 0) (state : RunningStage B) (blanks : Vec B Global) → state ≡ stages.Waiting blanks → P Waiting
    → (stage : Stage) → StageStands log state stage → P stage
waiting_stage {B = B} log P state blanks is h stage stands = let Q : RunningStage B → Type 0 = λ s. StageStands log s stage in at stage (subst Q is stands)
  where
    at : (stage : Stage) → StageStands log (stages.Waiting blanks) stage → P stage
    at Waiting stands = h
    at (SetUp model) stands = absurd stands
    at (Running world) stands = absurd stands

-- a state that waits stands for the stage that does
pub standing_waits : {B : Type 0} (log : B → Option Log) (state : RunningStage B) (blanks : Vec B Global) → state ≡ stages.Waiting blanks → IsStandingStage log state → StageStands log state Waiting
standing_waits log state blanks is standing = waiting_stage log (λ stage. StageStands log state stage → StageStands log state Waiting) state blanks is (λ stands. stands) standing.stage standing.stands standing.stands

-- once a world runs
pub running_stage : {B : Type 0} (log : B → Option Log) (P : Stage → Type 0) (state : RunningStage B) (running : BankedWorld B) → state ≡ stages.Running running
    → ((model : World) → StandsOnBanks log running model → IsSound model → P (Running model)) → (stage : Stage) → StageStands log state stage → P stage
running_stage {B = B} log P state running is h stage stands = let Q : RunningStage B → Type 0 = λ s. StageStands log s stage in at stage (subst Q is stands)
  where
    at : (stage : Stage) → StageStands log (stages.Running running) stage → P stage
    at Waiting stands = absurd stands
    at (SetUp model) stands = absurd stands
    at (Running model) stands = h model stands.0 stands.1

-- so it is of what stands for it, whole
pub running_whole : {B : Type 0} (log : B → Option Log) (P : Stage → Type 0) (state : RunningStage B) (running : BankedWorld B) → state ≡ stages.Running running
    → ((model : World) → StageStands log (stages.Running running) (Running model) → P (Running model)) → (stage : Stage) → StageStands log state stage → P stage
running_whole {B = B} log P state running is h stage stands = let Q : RunningStage B → Type 0 = λ s. StageStands log s stage in at stage (subst Q is stands)
  where
    at : (stage : Stage) → StageStands log (stages.Running running) stage → P stage
    at Waiting stands = absurd stands
    at (SetUp model) stands = absurd stands
    at (Running model) stands = h model stands

-- a state that is over stands for none
pub over_stage : {B : Type 0} (log : B → Option Log) (state : RunningStage B) (banks : Vec B Global) → state ≡ stages.Over banks → IsStandingStage log state → ⊥
over_stage {B = B} log state banks is standing = let Q : RunningStage B → Type 0 = λ s. StageStands log s standing.stage in subst Q is standing.stands

-- ---- a line that sets a property

-- one more property leaves a setup one by which clones may be founded
one_more : (setup : ModelSetup) (line property : List ℕ) → SetsProperty setup line property → IsSetup setup → IsSetup (with_property setup property)
one_more setup line property sets may =
    let few : length (setup.properties ++ property ∷ []) ≤ single_limit = omega (arith, sets.room, length-append setup.properties (property ∷ [])) in
    record { name = may.name; some = may.some; most = may.most; few = few }

-- so it is set at the stage
set_at : {B : Type 0} (log : B → Option Log) (setup next : Setup) (blanks others : Vec B Global) (line text : List ℕ) → SetupIs line (Some setup) (lines.Setup next) → others ≡ blanks
    → text ≡ reply_text PropertySet → (stage : Stage) → StageStands log (stages.SetUp setup blanks) stage → ActsWell log stage line text (stages.SetUp next others)
set_at log setup next blanks others line text is same writes Waiting stands = absurd stands
set_at {B = B} log setup next blanks others line text is same writes (SetUp model) stands =
    let sets : SetsProperty model line is.0 = subst (λ (s : ModelSetup). SetsProperty s line is.0) stands.0 is.1 in
    record {
      next = SetUp (with_property model is.0);
      acts = sets_property (record { property = is.0; sets = sets; replies = writes; changes = refl });
      stands = (
        is.2 ∙ ap (λ (s : ModelSetup). with_property s is.0) stands.0,
        one_more model line is.0 sets stands.1,
        ap (λ (b : Vec B Global). length b.items) same ∙ stands.2,
        subst (λ (b : Vec B Global). AreBlank log b.items) (sym same) stands.3,
      );
    }
set_at log setup next blanks others line text is same writes (Running world) stands = absurd stands

pub property_set : {B : Type 0} (log : B → Option Log) (line text : List ℕ) (old new : RunningStage B) → GetsProperty line old new → text ≡ reply_text PropertySet
    → (stage : Stage) → StageStands log old stage → ActsWell log stage line text new
property_set log line text (stages.SetUp setup blanks) (stages.SetUp next others) gets writes = set_at log setup next blanks others line text gets.0 gets.1 writes
property_set log line text (stages.SetUp setup blanks) (stages.Waiting others) gets writes = absurd gets
property_set log line text (stages.SetUp setup blanks) (stages.Running running) gets writes = absurd gets
property_set log line text (stages.SetUp setup blanks) (stages.Over others) gets writes = absurd gets
property_set log line text (stages.Waiting blanks) new gets writes = absurd gets
property_set log line text (stages.Running running) new gets writes = absurd gets
property_set log line text (stages.Over banks) new gets writes = absurd gets

-- no step was made
pub property_steps : {B : Type 0} (line : List ℕ) (old new : RunningStage B) → GetsProperty line old new → steps_of_stage new ≡ 0
property_steps line (stages.SetUp setup blanks) (stages.SetUp next others) gets = refl
property_steps line (stages.SetUp setup blanks) (stages.Waiting others) gets = absurd gets
property_steps line (stages.SetUp setup blanks) (stages.Running running) gets = absurd gets
property_steps line (stages.SetUp setup blanks) (stages.Over others) gets = absurd gets
property_steps line (stages.Waiting blanks) new gets = absurd gets
property_steps line (stages.Running running) new gets = absurd gets
property_steps line (stages.Over banks) new gets = absurd gets

-- what was read of the line, and put in place of what was taken out
pub got_property : {B : Type 0} (line : List ℕ) (old : RunningStage B) (setup next : Setup) (blanks : Vec B Global) → old ≡ stages.SetUp setup blanks → SetupIs line (Some setup) (lines.Setup next)
    → GetsProperty line old (stages.SetUp next blanks)
got_property {B = B} line old setup next blanks is reads = subst (λ (s : RunningStage B). GetsProperty line s (stages.SetUp next blanks)) (sym is) (reads, refl)

pub got_none : {B : Type 0} (line : List ℕ) (old : RunningStage B) (setup : Setup) (blanks : Vec B Global) (so_far : Option Setup) → old ≡ stages.SetUp setup blanks
    → SetupIs line (Some setup) (lines.Other so_far) → GetsNone line old
got_none {B = B} line old setup blanks so_far is reads = subst (λ (s : RunningStage B). GetsNone line s) (sym is) reads.1

pub same_set_up : {B : Type 0} (line : List ℕ) (old : RunningStage B) (setup other : Setup) (blanks : Vec B Global) → old ≡ stages.SetUp setup blanks
    → SetupIs line (Some setup) (lines.Other (Some other)) → stages.SetUp other blanks ≡ old
same_set_up {B = B} line old setup other blanks is reads =
    let told : ◌≡◌ {A = Option Setup} (Some other) (Some setup) = reads.0 in
    let same : other ≡ setup = cc in
    let state : Setup → RunningStage B = λ s. stages.SetUp s blanks in
    ap state same ∙ sym is

-- a line is done alike in a state that is the same
pub acted_same : {B : Type 0} (log : B → Option Log) (result : Result (Unit {0}) LineStop) (old same new : RunningStage B) (line text : List ℕ) → same ≡ old
    → OnOk result ((stage : Stage) → StageStands log same stage → ActsWell log stage line text new)
    → OnOk result ((stage : Stage) → StageStands log old stage → ActsWell log stage line text new)
acted_same {B = B} log result old same new line text is =
    subst (λ (s : RunningStage B). OnOk result ((stage : Stage) → StageStands log s stage → ActsWell log stage line text new)) is

-- ---- the end of the lines

-- the clones are founded there, where no command did
pub founded_end : {B : Type 0} (log : B → Option Log) (setup : Setup) (running : BankedWorld B) (blanks : List B) → StandsFounded log (setup_of setup) running → SettlesFounded log blanks running
    → AreBlank log blanks → EndsWell log (SetUp (setup_of setup)) (stages.Running running)
founded_end log setup running blanks stands settles blank =
    let sound : IsSound stands.world = subst (λ (world : World). IsSound world) (sym stands.founds.is) (founded_sound setup.domain stands.founds.kept setup.clones) in
    record { world = stands.world; founds = stands.founds; stands = (stands.stands, sound, settles blank stands.world stands.stands) }

-- ---- what becomes of the banks, where the clones were founded before

pub well_after : {B T : Type 0} (meter : B → Meter) (old middle new : List B) (result : Result T LineStop) → ComeBackWell meter old middle → OnOk result (ComeBackWell meter middle new)
    → OnOk result (ComeBackWell meter old new)
well_after meter old middle new (Ok value) well after = well_then meter old middle new well after
well_after meter old middle new (Err stop) well after = tt

pub stops_after : {B T : Type 0} (meter : B → Meter) (old middle new : List B) (result : Result T LineStop) → ComeBackWell meter old middle → IfErr result (StopBringsBack meter middle new)
    → IfErr result (StopBringsBack meter old new)
stops_after meter old middle new (Ok value) well after = tt
stops_after meter old middle new (Err stop) well after = stop_later meter old middle new stop well after

-- where no device was called

pub well_kept : {B T : Type 0} (meter : B → Meter) (old new : List B) (result : Result T LineStop) → new ≡ old → OnOk result (ComeBackWell meter old new)
well_kept {B = B} meter old new (Ok value) same = subst (λ (l : List B). ComeBackWell meter old l) (sym same) (well_same meter old)
well_kept meter old new (Err stop) same = tt

pub stops_kept : {B T : Type 0} (meter : B → Meter) (old new : List B) (result : Result T LineStop) → new ≡ old → ((clone : ℕ) → ¬ IsErrOf result (stops.Device clone))
    → IfErr result (StopBringsBack meter old new)
stops_kept meter old new (Ok value) same none = tt
stops_kept {B = B} meter old new (Err stop) same none = subst (λ (l : List B). StopBringsBack meter old l stop) (sym same) (at stop (λ clone is. none clone (ap (λ (s : LineStop). Err s) is)))
  where
    at : (stop : LineStop) → ((clone : ℕ) → stop ≢ stops.Device clone) → StopBringsBack meter old old stop
    at (stops.Device clone) differs = absurd (differs clone refl)
    at stops.NoMemory differs = all_left (well_same meter old)
    at stop differs = well_same meter old
