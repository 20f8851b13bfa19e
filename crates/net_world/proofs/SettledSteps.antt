-- Whatever a crash leaves of all banks stands for their clones: behind a command that was done, and behind founding.
use Rattle.std.proofs.Common.{◌≡◌, ◌≢◌, ℕ, ◌<◌, List, [], ◌∷◌, ◌++◌, Option, Some, None, MatchOption, Bool, ◌+◌, refl, sym, ◌∙◌, ap, arith, subst, inl, inr, map, set, option_map, length}
use Rattle.std.specs.Prelude.{slice_get, IsSome}
use Rattle.std.proofs.lemmas.Bool.{cases_eq, cases_lt}
use Rattle.std.proofs.lemmas.List.{get_or-set_same, length-map}
use Rattle.std.proofs.lemmas.Option.{slice_get-map, slice_get_cases}
use Rattle.mld_io.specs.Disk.{Log, Sides, MayLeave, LeavesOnly}
use Rattle.clone_core.specs.journal_sides.Pairs.{PairReading, KeepsNone, Keeps, Damages, read_banks}
use Rattle.mld_ops.specs.History.{Operation}
use Rattle.mld_model.specs.Clone.{Clone, Absent, Asking, Empty, Down, Live, Stored, kept_of}
use Rattle.mld_model.specs.CrashFronts.{down_with}
use Rattle.mld_model.specs.Durable.{DurableStep, AppendsMade, AppendsTaken, AppendsFork, Creates, Swaps, kept_after_step, kept_after, history_after}
use Rattle.mld_model.specs.Reply.{Reply}
use Rattle.mld_model.specs.Sound.{IsSound}
use Rattle.mld_model.specs.StandsFor.{LiveAt}
use Rattle.mld_model.specs.World.{World, clone_at, clone_count}
use Rattle.mld_model.specs.declared.CloneState.TheVariants as states
use Rattle.mld_model.proofs.StandsForLaws.{live_at, absent_at, asking_at}
use Rattle.schedule_text.specs.schedule_model.declared.Command.{Command}
use Rattle.schedule_text.specs.schedule_model.declared.Command.TheVariants.{Add, Remove, Update, Deliver, Show, Query, Compare, Join, Ask, Compact, Truncate, Stop, Open, Crash}
use Rattle.schedule_text.specs.schedule_model.declared.CrashTask.{CrashTask}
use Rattle.schedule_text.specs.schedule_model.Schedule.{Setup}
use Rattle.schedule_text.specs.schedule_model.Crashing.{Deed, Crashes, isnt_armed, is_caught, isnt_caught}
use Rattle.schedule_text.specs.schedule_model.DurableSteps.{LeadsDurably}
use Rattle.schedule_text.specs.schedule_model.PlainStep.{PlainStep}
use Rattle.schedule_text.specs.schedule_model.Step.{HasCloneNumbers, IsCommandInForm, Step, number_of_clone}
use Rattle.schedule_text.specs.schedule_model.Tasks.{command_of, command_done, number_of_task}
use Rattle.schedule_text.proofs.of_schedule_model.ChangesLaws.{plain_changes, step_keeps_domain, step_keeps_others, kept_still_stands}
use Rattle.schedule_text.proofs.of_schedule_model.CrashedDurable.{durable_steps_lead}
use Rattle.schedule_text.proofs.of_schedule_model.CrashedSteps.{task_number_is}
use Rattle.schedule_text.proofs.of_schedule_model.DurableLaws.{plain_leads, plain_list_once}
use Rattle.schedule_text.proofs.of_schedule_model.ScheduleLaws.{HasPlanInForm, task_has_plan}
use Rattle.schedule_text.proofs.of_schedule_model.StepLaws.{plain_once}
use Rattle.world_commands.specs.crash_laws.CarriedSteps.{Owner, owner_at, stored_in, StandsRead, StandsSome}
use Rattle.world_commands.specs.crash_laws.CrashLines.{ImageStands}
use Rattle.world_commands.proofs.of_crash_laws.Images.{stands_nothing, image_live}
use Rattle.world_commands.specs.States.{HasState}
use Rattle.world_commands.specs.WorldBanks.{BankedState, BankedWorld, in_memory, banks_of, banks_of_state, memory_of, StandsOnBanks, OthersStay}
use Rattle.world_commands.specs.WorldEnds.{KeepsState, KeepAll}
use Rattle.world_commands.proofs.BankLemmas.{memory_at}
use Rattle.world_commands.proofs.Places.{elsewhere_at}
use Rattle.world_commands.proofs.StopLemmas.{told_log}
use Rattle.net_world.specs.LeftBehind.{LeavesBanks}
use Rattle.net_world.specs.SettledWorlds.{AllImagesStand, AreBlank, SettlesFounded, LiveKept}
use Rattle.net_world.specs.Founding.{IsFoundedTo, AreFoundedTo, StayFrom}
use Rattle.net_world.proofs.EndLemmas.{all_stand}
use Rattle.net_world.proofs.FoundingLemmas.{founded_there, founded_within, live_not_absent, place_of, absent_still}
use Rattle.net_world.proofs.SettledBanks.{settled_image}

-- ---- durable steps of a clone that keeps nothing

-- what keeps something keeps something after durable steps
some_stays : (stored : Stored) (steps : List DurableStep) → (after : Stored) × (kept_after (Some stored) steps ≡ Some after)
some_stays stored [] = (stored, refl)
some_stays stored (AppendsMade operation ∷ steps) = some_stays _ steps
some_stays stored (AppendsTaken range ∷ steps) = some_stays _ steps
some_stays stored (AppendsFork ∷ steps) = some_stays _ steps
some_stays stored (Creates other ∷ steps) = some_stays other steps
some_stays stored (Swaps other ∷ steps) = some_stays other steps

-- so what keeps nothing then kept nothing before
none_before : (kept : Option Stored) (steps : List DurableStep) → kept_after kept steps ≡ None → kept ≡ None
none_before None steps none = refl
none_before (Some stored) steps none = let some = some_stays stored steps in absurd (cc (some.1, none))

kept_behind : (kept : Option Stored) (front rest : List DurableStep) → kept_after kept (front ++ rest) ≡ kept_after (kept_after kept front) rest
kept_behind kept [] rest = refl
kept_behind kept (step ∷ front) rest = kept_behind (kept_after_step kept step) front rest

-- and what stands for it after some front of the steps reads to nothing
front_none : (owner : Owner) (history : List Operation) (kept : Option Stored) (steps : List DurableStep) (image : Sides) → kept_after kept steps ≡ None → StandsSome owner history kept steps image
    → read_banks image ≡ KeepsNone
front_none owner history kept steps image none some =
    let whole : kept_after (kept_after kept some.front) some.rest ≡ None = sym (kept_behind kept some.front some.rest) ∙ ap (kept_after kept) some.whole ∙ none in
    stands_nothing owner (history_after history some.front) (read_banks image)
    (subst (λ (k : Option Stored). StandsRead owner (history_after history some.front) (read_banks image) k) (none_before (kept_after kept some.front) some.rest whole) some.stands)

-- ---- a step whose clone is absent or asks then

-- the clone never lived
abbrev IsUnborn : Clone → Type 0
IsUnborn Absent = Unit {0}
IsUnborn Asking = Unit {0}
IsUnborn clone = ⊥

unborn_none : (clone : Clone) → IsUnborn clone → kept_of clone ≡ None
unborn_none Absent unborn = refl
unborn_none Asking unborn = refl
unborn_none Empty unborn = absurd unborn
unborn_none (Down stored) unborn = absurd unborn
unborn_none (Live stored held) unborn = absurd unborn

down_born : (kept : Option Stored) → ¬ IsUnborn (down_with kept)
down_born None unborn = unborn
down_born (Some stored) unborn = unborn

-- a command whose clone is absent or asks then was done as a plain one: a crash that was armed leaves its clone down
crash_plain : (world next : World) (reply : Reply) (choice : Bool) (call : ℕ) (task : CrashTask) (steps : List DurableStep) → number_of_task task < length world.clones
    → Crashes choice call world task steps reply next → IsUnborn (clone_at next (number_of_task task)) → PlainStep world (command_of task) reply next
crash_plain world next reply choice call task steps inside (isnt_armed unarmed does are) unborn = does
crash_plain world next reply choice call task steps inside (is_caught armed deed comes front told after) unborn =
    let number : ℕ = number_of_task task in
    let kept : Option Stored = kept_after (kept_of (clone_at world number)) steps in
    let at : clone_at next number ≡ down_with kept = ap (λ (w : World). clone_at w number) after ∙ get_or-set_same world.clones number (down_with kept) Absent inside in
    absurd (down_born kept (subst IsUnborn at unborn))
crash_plain world next reply choice call task steps inside (isnt_caught armed deed late all told after) unborn =
    let number : ℕ = number_of_task task in
    let kept : Option Stored = kept_of (clone_at deed.after number) in
    let there : number < length deed.after.clones = omega (arith, inside, (plain_changes world (command_of task) deed.reply deed.after deed.does).count) in
    let at : clone_at next number ≡ down_with kept = ap (λ (w : World). clone_at w number) after ∙ get_or-set_same deed.after.clones number (down_with kept) Absent there in
    absurd (down_born kept (subst IsUnborn at unborn))

done_plain : (world next : World) (reply : Reply) (command : Command) → number_of_clone command < length world.clones → Step world command reply next
    → IsUnborn (clone_at next (number_of_clone command)) → PlainStep world (command_done command) reply next
unfolding Step
done_plain world next reply (Crash call leave task) inside p unborn = crash_plain world next reply p.0 call task p.1 inside p.2 unborn
done_plain world next reply command inside p unborn = p

-- what is done is done at the same clone, and its plan is in form
done_number : (command : Command) → number_of_clone (command_done command) ≡ number_of_clone command
done_number (Crash call leave task) = task_number_is task
done_number command = refl

done_form : (command : Command) → IsCommandInForm command → HasPlanInForm (command_done command)
done_form (Crash call leave task) form = task_has_plan task form
done_form (Update number plan) form = form
done_form command form = tt

-- the clone of a command is there
pub number_within : (command : Command) → HasCloneNumbers command → number_of_clone command < clone_count
number_within (Compare number other) numbers = numbers.0
number_within (Add number triple) numbers = numbers
number_within (Remove number triple) numbers = numbers
number_within (Update number plan) numbers = numbers
number_within (Deliver message number) numbers = numbers
number_within (Show number) numbers = numbers
number_within (Query number read) numbers = numbers
number_within (Join number) numbers = numbers
number_within (Ask number) numbers = numbers
number_within (Compact number) numbers = numbers
number_within (Truncate number keep) numbers = numbers
number_within (Stop number) numbers = numbers
number_within (Open number) numbers = numbers
number_within (Crash call leave task) numbers = numbers

-- the banks of a number are those of a state
pub state_of : {B : Type 0} (clones : List (BankedState B)) (place : ℕ) (one : B) → slice_get (map banks_of_state clones) place ≡ Some one
    → (state : BankedState B) × HasState clones place state × (banks_of_state state ≡ one)
state_of {B = B} clones place one at = found (slice_get clones place) refl (sym (slice_get-map banks_of_state clones place) ∙ at)
  where
    found : (state : Option (BankedState B)) → slice_get clones place ≡ state → option_map banks_of_state state ≡ Some one
        → (state : BankedState B) × HasState clones place state × (banks_of_state state ≡ one)
    found None there is = absurd (cc is)
    found (Some state) there is = (state, there, cc is)

-- ---- a command that was done

module _ {B : Type 0} (log : B → Option Log) (tells : (banks : B) → IsSome (log banks)) (old new : BankedWorld B) (command : Command) (numbers : HasCloneNumbers command)
    (form : IsCommandInForm command) (left : LeavesBanks log old command (banks_of new)) (others : OthersStay (number_of_clone command) (banks_of old) (banks_of new))
    (live : LiveKept log (number_of_clone command) new.clones) (world : World) (stands : StandsOnBanks log old world) (sound : IsSound world)
    (images : AllImagesStand log world (banks_of old)) (reply : Reply) (next : World) (step : Step world command reply next) (now : StandsOnBanks log new next) where
  abbrev own : ℕ
  own = number_of_clone command

  inside : own < length world.clones
  inside = omega (arith, number_within command numbers, sound.count)

  -- a clone that the command isn't done at
  kept_on : (other : ℕ) (kept : Option Stored) (reading : PairReading) → kept_of (clone_at world other) ≡ kept → StandsRead (owner_at world other) world.history reading kept
      → StandsRead (owner_at next other) next.history reading kept
  kept_on other None KeepsNone is reads = tt
  kept_on other None (Keeps kept) is reads = absurd reads
  kept_on other None (Damages side place) is reads = absurd reads
  kept_on other (Some stored) KeepsNone is reads = absurd reads
  kept_on other (Some stored) (Damages side place) is reads = absurd reads
  kept_on other (Some stored) (Keeps kept) is reads =
      let same = step_keeps_domain world command reply next step in
      let keeps = subst (λ (o : Option Stored). MatchOption o ⊥ (λ (k : Stored). k ≡ stored)) (sym is) refl in
      record {
        id = reads.id;
        domain = reads.domain ∙ sym same.0;
        properties = reads.properties ∙ sym same.1;
        stands = kept_still_stands world command reply next sound step other stored keeps (stored_in kept) reads.stands;
      }

  other_image : (other : ℕ) → other ≢ own → (image : Sides) → ImageStands world other image → ImageStands next other image
  other_image other differs image reads =
      let same : clone_at next other ≡ clone_at world other = step_keeps_others world command reply next step other differs in
      subst (λ (c : Clone). StandsRead (owner_at next other) next.history (read_banks image) (kept_of c)) (sym same)
      (kept_on other (kept_of (clone_at world other)) (read_banks image) refl reads)

  -- the clone that it is done at, where that is absent or asks then
  none_was : IsUnborn (clone_at next own) → kept_of (clone_at world own) ≡ None
  none_was unborn =
      let leads : LeadsDurably world command reply next = durable_steps_lead world command reply next numbers sound.count step in
      none_before (kept_of (clone_at world own)) leads.steps (leads.kept ∙ unborn_none (clone_at next own) unborn)

  deed_none : (deed : Deed world (command_done command)) → IsUnborn (clone_at next own) → kept_after (kept_of (clone_at world own)) deed.steps ≡ None
  deed_none deed unborn =
      let done : Command = command_done command in
      let there : number_of_clone done < length world.clones = subst (λ (k : ℕ). k < length world.clones) (sym (done_number command)) inside in
      let once = plain_once world done deed.reply reply deed.after next (done_form command form) deed.does (done_plain world next reply command inside step unborn) in
      let found = plain_leads world done deed.reply deed.after there deed.does in
      let same : found.0 ≡ deed.steps = plain_list_once world done deed.reply deed.after found.0 deed.steps found.1 deed.are in
      let kept : kept_after (kept_of (clone_at world own)) found.0 ≡ kept_of (clone_at deed.after own) =
      subst (λ (k : ℕ). kept_after (kept_of (clone_at world k)) found.0 ≡ kept_of (clone_at deed.after k)) (done_number command) found.2.kept in
      ap (kept_after (kept_of (clone_at world own))) (sym same) ∙ kept ∙ ap (λ (w : World). kept_of (clone_at w own)) once.1 ∙ unborn_none (clone_at next own) unborn

  unborn_reads : IsUnborn (clone_at next own) → (one : B) (l : Log) → slice_get (banks_of new) own ≡ Some one → log one ≡ Some l → (image : Sides) → MayLeave l image → read_banks image ≡ KeepsNone
  unborn_reads unborn one l at told image crash = elim (slice_get_cases (banks_of old) own).1 [
    | inl found ↦
        let before : (first : Log) × (log found.0 ≡ Some first) = told_log (log found.0) (tells found.0) in
        elim (left world stands sound found.0 one before.0 l found.2 at before.1 told image crash) [
          | inl was ↦
              let reads : ImageStands world own image = images own found.0 before.0 found.2 before.1 image was in
              stands_nothing (owner_at world own) world.history (read_banks image)
              (subst (λ (k : Option Stored). StandsRead (owner_at world own) world.history (read_banks image) k) (none_was unborn) reads)
          | inr did ↦ front_none (owner_at world own) world.history (kept_of (clone_at world own)) did.0.steps image (deed_none did.0 unborn) did.1
        ]
    | inr past ↦ absurd (omega (arith, past.0, number_within command numbers, length-map old.clones banks_of_state, length-map old.clones in_memory, stands.memory.count))
  ]

  unborn_image : IsUnborn (clone_at next own) → (one : B) (l : Log) → slice_get (banks_of new) own ≡ Some one → log one ≡ Some l → LeavesOnly l (ImageStands next own)
  unborn_image unborn one l at told image crash =
      subst (λ (k : Option Stored). StandsRead (owner_at next own) next.history (read_banks image) k) (sym (unborn_none (clone_at next own) unborn))
      (subst (λ (r : PairReading). StandsRead (owner_at next own) next.history r None) (sym (unborn_reads unborn one l at told image crash)) tt)

  -- the clone that it is done at, in its state
  own_image : (state : BankedState B) → HasState new.clones own state → (one : B) (l : Log) → slice_get (banks_of new) own ≡ Some one → banks_of_state state ≡ one → log one ≡ Some l
      → LeavesOnly l (ImageStands next own)
  own_image (states.Absent banks) has one l at same told image crash =
      unborn_image (subst IsUnborn (sym (absent_at (memory_of new) next now.memory own tt (memory_at new.clones own (states.Absent banks) has))) tt) one l at told image crash
  own_image (states.Asking asking) has one l at same told image crash =
      unborn_image (subst IsUnborn (sym (asking_at (memory_of new) next now.memory own asking.asker (memory_at new.clones own (states.Asking asking) has)).asking) tt) one l at told image crash
  own_image (states.Down banks) has one l at same told image crash =
      settled_image next own (log banks) l (now.backed own (states.Down banks) has).stands (ap log same ∙ told) image crash
  own_image (states.Live clone) has one l at same told image crash =
      let kept = live clone has (now.backed own (states.Live clone) has).opened l (ap log same ∙ told) in
      let is : LiveAt next own clone.local = live_at (memory_of new) next now.memory own clone.local (memory_at new.clones own (states.Live clone) has) in
      subst (λ (i : Sides). ImageStands next own i) (sym (kept.1.settled image crash)) (image_live next own l clone.local kept.0 clone.generation is kept.1)

  pub step_settles : AllImagesStand log next (banks_of new)
  step_settles place one l at told = elim (cases_eq place own) [
    | inl same ↦
        let here : slice_get (banks_of new) own ≡ Some one = subst (λ (k : ℕ). slice_get (banks_of new) k ≡ Some one) same at in
        let state = state_of new.clones own one here in
        subst (λ (k : ℕ). LeavesOnly l (ImageStands next k)) (sym same) (own_image state.0 state.1 one l here state.2 told)
    | inr differs ↦ λ image crash. other_image place differs image (images place one l (sym (others place differs) ∙ at) told image crash)
  ]

-- one more clone was asked
pub kept_more : {B : Type 0} (log : B → Option Log) (number : ℕ) (clones : List (BankedState B)) → ((place : ℕ) → place < number → LiveKept log place clones) → LiveKept log number clones
    → (place : ℕ) → place < number + 1 → LiveKept log place clones
kept_more log number clones kept one place below = elim (cases_eq place number) [
  | inl same ↦ subst (λ (k : ℕ). LiveKept log k clones) (sym same) one
  | inr differs ↦ kept place (omega (arith, below, differs))
]

-- ---- founding

pub found_settles : {B : Type 0} (log : B → Option Log) (tells : (banks : B) → IsSome (log banks)) (blanks : List B) (running : BankedWorld B) → (AreBlank log blanks → KeepAll log running.clones)
    → SettlesFounded log blanks running
found_settles log tells blanks running keeps blank world stands place one l at told = settled_image world place (log one) l (all_stand log running tells (keeps blank) world stands place one at) told

-- the clones that aren't founded yet
pub first_rest : {X : Type 0} (old new : List X) (state : X) → new ≡ set old 0 state → StayFrom 1 old new
first_rest {X = X} old new state sets place some =
    ap (λ (l : List X). slice_get l place) sets ∙ elsewhere_at old 0 place state (λ same. omega (arith, same, some))

pub other_rest : {X : Type 0} (old new : List X) (number : ℕ) (state now : X) → new ≡ set (set old number state) 0 now → StayFrom (number + 1) old new
other_rest {X = X} old new number state now sets place past =
    ap (λ (l : List X). slice_get l place) sets ∙ elsewhere_at (set old number state) 0 place now (λ same. omega (arith, same, past))
    ∙ elsewhere_at old number place state (λ same. omega (arith, same, past))

pub rest_then : {X : Type 0} (old mid new : List X) (number : ℕ) → StayFrom number old mid → StayFrom (number + 1) mid new → StayFrom (number + 1) old new
rest_then old mid new number first second place past = second place past ∙ first place (omega (arith, past))

-- a clone that is absent, on its banks
abbrev absent_on : {B : Type 0} → B → BankedState B
absent_on banks = states.Absent banks

-- the banks of a founded world: live clones say what theirs keep, and those of absent ones are blank as they were
pub founded_keep : {B : Type 0} (log : B → Option Log) (setup : Setup) (begun clones : List (BankedState B)) (blanks : List B) → begun ≡ map (λ banks. states.Absent banks) blanks
    → AreFoundedTo setup setup.count clones → StayFrom setup.count begun clones → ((number : ℕ) → number < setup.count → LiveKept log number clones) → AreBlank log blanks → KeepAll log clones
founded_keep {B = B} log setup begun clones blanks are founded rest live blank state has =
    let found : (place : ℕ) × (slice_get clones place ≡ Some state) = place_of clones state has in
    by state found.0 found.1 (founded.each found.0 state found.1)
  where
    blank_one : (place : ℕ) (banks : B) (one : Option B) → slice_get blanks place ≡ one → option_map absent_on one ≡ Some (absent_on banks) → slice_get blanks place ≡ Some banks
    blank_one place banks None is e = absurd (cc e)
    blank_one place banks (Some one) is e = is ∙ cc e

    by : (state : BankedState B) (place : ℕ) → slice_get clones place ≡ Some state → IsFoundedTo setup setup.count place state → KeepsState log state
    by (states.Asking asking) place at is = absurd is.opened
    by (states.Down banks) place at is = tt
    by (states.Live clone) place at is = elim (cases_lt place setup.count) [
      | inl below ↦ live place below clone at
      | inr past ↦ let absent = absent_still setup setup.count place (states.Live clone) past is in absurd (cc (absent.1))
    ]
    by (states.Absent banks) place at is = elim (cases_lt place setup.count) [
      | inl below ↦ absurd (live_not_absent (founded_there setup setup.count place) (sym (is.memory ∙ founded_within setup setup.count place below)))
      | inr past ↦
          let there : slice_get (map absent_on blanks) place ≡ Some (absent_on banks) =
          subst (λ (l : List (BankedState B)). slice_get l place ≡ Some (absent_on banks)) are (sym (rest place past) ∙ at) in
          blank place banks (blank_one place banks (slice_get blanks place) refl (sym (slice_get-map absent_on blanks place) ∙ there))
    ]
