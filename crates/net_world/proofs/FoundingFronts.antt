-- What founding leaves of the banks where a device stops it: a front of its durable steps, with or without the one that was under way.
use Rattle.std.proofs.Common.{◌≡◌, ◌≢◌, ℕ, zero, suc, ◌+◌, ◌-◌, ◌<◌, ◌≤◌, List, [], ◌∷◌, ◌++◌, Option, Some, None, Result, Ok, Err, refl, sym, ◌∙◌, ap, arith, subst, inl, inr, map, set, option_map, get_or, append_assoc}
use Rattle.std.specs.Prelude.{slice_get, IsSome, IfErr}
use Rattle.std.specs.List.{range_with_len}
use Rattle.std.proofs.lemmas.Bool.{cases_eq, eq-eqb, ne_eqb}
use Rattle.std.proofs.lemmas.List.FromFn.{get_or-map-range_with_len, length-map-range_with_len}
use Rattle.std.proofs.lemmas.Option.{slice_get-map, slice_get_cases, slice_get_within, get_or_from_slice_get}
use Rattle.mld_io.specs.Arm.{Meter}
use Rattle.mld_io.specs.Disk.{Log, Sides, LeavesOnly}
use Rattle.clone_core.specs.journal_sides.Heads.{HeadValue}
use Rattle.clone_core.specs.journal_sides.Pairs.{PairReading, KeepsNone, Keeps, read_banks}
use Rattle.clone_core.specs.journal_store.Calls.{made}
use Rattle.clone_core.specs.journal_store.Standing.{KeepsNothing}
use Rattle.clone_core.specs.journal_store.declared.faults.MakeFault.{MakeFault}
use Rattle.clone_core.specs.journal_store.declared.faults.MakeFault.TheVariants as make
use Rattle.mld_ops.specs.History.{Operation}
use Rattle.mld_ops.specs.Messages.{GiveValue}
use Rattle.mld_ops.specs.Properties.{AreKept}
use Rattle.mld_ops.specs.declared.messages.Message.{Message}
use Rattle.mld_ops.specs.declared.messages.Message.TheVariants as kinds
use Rattle.mld_ops.proofs.PropertiesLaws.{kept_same}
use Rattle.mld_model.specs.Clone.{Stored, kept_of}
use Rattle.mld_model.specs.Durable.{DurableStep, AppendsFork, Creates, kept_after_step, kept_after, history_after}
use Rattle.mld_model.specs.FoundingSteps.{StepAt, leaf_after, leaf_alone, forking_steps, founding_steps, steps_at}
use Rattle.mld_model.specs.Local.{LocalAsker, LocalClone, LocallyForks, blank_clone, joined_clone}
use Rattle.mld_model.specs.StandsFor.{RunningClone, RunningWorld, LiveAt, CloneStandsFor, id_of, kept_by, founded_local, founded_running}
use Rattle.mld_model.specs.World.{World, clone_at, clone_count, founded}
use Rattle.mld_model.specs.declared.CloneState.TheVariants as states
use Rattle.mld_model.proofs.FoundingLaws.{founding_leads}
use Rattle.mld_model.proofs.StandsForLaws.{live_at, absent_at}
use Rattle.schedule_text.specs.schedule_model.Schedule.{Setup, KeepsEachOnce}
use Rattle.schedule_text.proofs.of_schedule_model.WorldLaws.{founded_stands}
use Rattle.clone_core.specs.clone_parts.KeptSteps.{KeptStep, Created, Forked, ReadsSome, LeavesMade}
use Rattle.clone_core.specs.Banked.{BankedAsker, BankedClone, head_of, kept_as}
use Rattle.clone_core.specs.clone_parts.declared.faults.ReceiveFault.{ReceiveFault}
use Rattle.clone_core.specs.clone_parts.declared.faults.ReceiveFault.TheVariants as receive
use Rattle.clone_core.specs.CloneClosing.{StaysOpen}
use Rattle.clone_core.specs.DurableCalls.{LeavesFronts, MessageSteps}
use Rattle.clone_core.specs.Joining.{IsGiveFor}
use Rattle.world_commands.specs.crash_laws.CarriedSteps.{owner_at, IsKeptFor, StandsRead, StandsAfter, StandsSome}
use Rattle.world_commands.proofs.of_crash_laws.Fronts.{carried_some}
use Rattle.world_commands.proofs.of_crash_laws.Kept.{fork_kept, live_kept}
use Rattle.world_commands.specs.declared.faults.WorldFault.{WorldFault}
use Rattle.world_commands.specs.declared.faults.WorldFault.TheVariants as faults
use Rattle.world_commands.specs.States.{HasState, IsNewAsker}
use Rattle.world_commands.specs.WorldBanks.{BankedState, in_memory, banks_of_state}
use Rattle.world_commands.specs.WorldEnds.{KeepsState, KeepAll}
use Rattle.world_commands.specs.WorldFaults.{fault_of_made}
use Rattle.world_commands.proofs.Places.{here_at, other_at}
use Rattle.world_commands.proofs.StopLemmas.{told_log}
use Rattle.net_world.specs.Founding.{IsKeptSetup, GivesLeaf, IsFoundedTo, AreFoundedTo}
use Rattle.net_world.specs.FoundingLeft.{StandsFoundedBy, StandsAmid, LeavesAmid, LeavesFounded, LeavesKept, StopsFounding, StopsFoundingBy, StopsGiving, StopsTaking, StopsJoin, amid_fork, amid_making, StopsJoinBy}
use Rattle.net_world.proofs.EndLemmas.{member_at, founded_backed, stopped_stands}
use Rattle.net_world.proofs.FoundingLemmas.{absent_still, live_is, first_after, half_is}
use Rattle.net_world.proofs.LeftFronts.{some_read}
use Rattle.net_world.proofs.SettledBanks.{nothing_left, settled_image}

-- ---- the steps of one clone

-- a step at the clone is its first, and one at another is none of its
step_here : (number : ℕ) (first : StepAt) (rest : List StepAt) → first.number ≡ number → steps_at number (first ∷ rest) ≡ first.step ∷ steps_at number rest
step_here number first rest same = rw (eq-eqb first.number number same) refl

step_elsewhere : (number : ℕ) (first : StepAt) (rest : List StepAt) → first.number ≢ number → steps_at number (first ∷ rest) ≡ steps_at number rest
step_elsewhere number first rest differs = rw (ne_eqb first.number number differs) refl

steps_behind : (number : ℕ) (front rest : List StepAt) → steps_at number (front ++ rest) ≡ steps_at number front ++ steps_at number rest
steps_behind number [] rest = refl
steps_behind number (first ∷ front) rest = elim (cases_eq first.number number) [
  | inl same ↦
      step_here number first (front ++ rest) same ∙ ap (λ (s : List DurableStep). first.step ∷ s) (steps_behind number front rest)
      ∙ ap (λ (s : List DurableStep). s ++ steps_at number rest) (sym (step_here number first front same))
  | inr differs ↦
      step_elsewhere number first (front ++ rest) differs ∙ steps_behind number front rest
      ∙ ap (λ (s : List DurableStep). s ++ steps_at number rest) (sym (step_elsewhere number first front differs))
]

kept_behind : (kept : Option Stored) (front rest : List DurableStep) → kept_after kept (front ++ rest) ≡ kept_after (kept_after kept front) rest
kept_behind kept [] rest = refl
kept_behind kept (step ∷ front) rest = kept_behind (kept_after_step kept step) front rest

-- what a clone keeps after these steps of founding
abbrev kept_by_steps : ℕ → List StepAt → Option Stored
kept_by_steps number steps = kept_after None (steps_at number steps)

-- one step more, at the clone or at another
kept_more : (number : ℕ) (front : List StepAt) (next : StepAt) → kept_by_steps number (front ++ next ∷ []) ≡ kept_after (kept_by_steps number front) (steps_at number (next ∷ []))
kept_more number front next = ap (kept_after None) (steps_behind number front (next ∷ [])) ∙ kept_behind None (steps_at number front) (steps_at number (next ∷ []))

kept_here : (number : ℕ) (front : List StepAt) (next : StepAt) → next.number ≡ number → kept_by_steps number (front ++ next ∷ []) ≡ kept_after (kept_by_steps number front) (next.step ∷ [])
kept_here number front next same = kept_more number front next ∙ ap (kept_after (kept_by_steps number front)) (step_here number next [] same)

kept_elsewhere : (number : ℕ) (front : List StepAt) (next : StepAt) → next.number ≢ number → kept_by_steps number (front ++ next ∷ []) ≡ kept_by_steps number front
kept_elsewhere number front next differs = kept_more number front next ∙ ap (kept_after (kept_by_steps number front)) (step_elsewhere number next [] differs)

-- ---- founding goes on

abbrev create_first : StepAt
create_first = record { number = 0; step = Creates (leaf_alone []) }

-- the fork for the next clone, and what that creates, once clone 0 has forked so often
abbrev fork_of : StepAt
fork_of = record { number = 0; step = AppendsFork }

abbrev create_of : ℕ → StepAt
create_of forks = record { number = suc forks; step = Creates (leaf_alone (leaf_after forks (suc forks))) }

forks_behind : (forks first more : ℕ) → forking_steps forks first ++ forking_steps (forks + first) more ≡ forking_steps forks (first + more)
forks_behind forks zero more =
    let begun : forks + 0 ≡ forks = omega arith in
    let all : more ≡ 0 + more = omega arith in
    λ i. forking_steps (begun i) (all i)
forks_behind forks (suc first) more =
    let begun : forks + suc first ≡ suc forks + first = omega arith in
    let all : suc (first + more) ≡ suc first + more = omega arith in
    ap (λ (k : ℕ). forking_steps forks (suc first) ++ forking_steps k more) begun
    ∙ ap (λ (rest : List StepAt). fork_of ∷ create_of forks ∷ rest) (forks_behind (suc forks) first more)
    ∙ ap (forking_steps forks) all

-- the steps behind those of the next clone, where one clone and so many others are founded
abbrev later_steps : ℕ → ℕ → List StepAt
later_steps before count = forking_steps (suc before) (count - suc before - 1)

founding_goes_on : (before count : ℕ) → suc before < count → founding_steps (suc before) ++ fork_of ∷ create_of before ∷ later_steps before count ≡ founding_steps count
founding_goes_on before count below =
    let more : ℕ = count - suc before - 1 in
    let begun : suc before - 1 ≡ before = omega arith in
    let from : before ≡ 0 + before = omega arith in
    let all : before + suc more ≡ count - 1 = omega (arith, below) in
    ap (λ (rest : List StepAt). create_first ∷ rest)
    ((λ i. forking_steps 0 (begun i) ++ forking_steps (from i) (suc more)) ∙ forks_behind 0 before (suc more) ∙ ap (forking_steps 0) all)

-- once that clone is founded too
founding_of_next : (before : ℕ) → (founding_steps (suc before) ++ fork_of ∷ []) ++ create_of before ∷ [] ≡ founding_steps (suc before + 1)
founding_of_next before =
    let none : 0 ≡ suc before + 1 - suc before - 1 = omega arith in
    append_assoc (founding_steps (suc before)) (fork_of ∷ []) (create_of before ∷ [])
    ∙ ap (λ (k : ℕ). founding_steps (suc before) ++ fork_of ∷ create_of before ∷ forking_steps (suc before) k) none
    ∙ founding_goes_on before (suc before + 1) (omega arith)

-- ---- what a crash leaves of banks in the middle of a step

-- what stands after some front of the one step of the clone stands amid it
amid_step : (world : World) (front : List StepAt) (next : StepAt) (number : ℕ) (image : Sides) → world.history ≡ [] → next.number ≡ number → history_after [] (next.step ∷ []) ≡ []
    → StandsSome (owner_at world number) [] (kept_by_steps number front) (next.step ∷ []) image → StandsAmid world front next number image
amid_step world front next number image blank here quiet some = by some.front some.rest some.whole some.stands
  where
    begun : (k : Option Stored) → StandsRead (owner_at world number) [] (read_banks image) k → StandsRead (owner_at world number) world.history (read_banks image) k
    begun k stands = subst (λ (h : List Operation). StandsRead (owner_at world number) h (read_banks image) k) (sym blank) stands

    by : (done rest : List DurableStep) → done ++ rest ≡ next.step ∷ [] → StandsAfter (owner_at world number) [] (kept_by_steps number front) done image → StandsAmid world front next number image
    by [] rest whole stands = inl (begun (kept_by_steps number front) stands)
    by (step ∷ []) rest whole stands =
        let same : step ≡ next.step = cc (whole) in
        let all : StandsAfter (owner_at world number) [] (kept_by_steps number front) (next.step ∷ []) image = subst (λ (s : DurableStep). StandsAfter (owner_at world number) [] (kept_by_steps number front) (s ∷ []) image) same stands in
        inr (begun (kept_by_steps number (front ++ next ∷ []))
        (subst (λ (k : Option Stored). StandsRead (owner_at world number) [] (read_banks image) k) (sym (kept_here number front next here))
        (subst (λ (h : List Operation). StandsRead (owner_at world number) h (read_banks image) (kept_after (kept_by_steps number front) (next.step ∷ []))) quiet all)))
    by (one ∷ two ∷ done) rest whole stands = absurd (cc (whole))

module _ {B : Type 0} (log : B → Option Log) (meter : B → Meter) (tells : (banks : B) → IsSome (log banks)) (setup : Setup) where
  -- the world that is founded, and that of so many of its clones
  abbrev whole_world : World
  whole_world = founded setup.domain setup.properties setup.count

  abbrev world_to : ℕ → World
  world_to number = founded setup.domain setup.properties number

  abbrev running_to : ℕ → RunningWorld
  running_to number = founded_running setup.domain setup.properties number

  -- the state of a clone of a world of so many
  state_to : (number place : ℕ) → place < clone_count → slice_get (running_to number).clones place ≡ Some (founded_local setup.domain setup.properties number place)
  state_to number place below =
      let one : ℕ → RunningClone = founded_local setup.domain setup.properties number in
      let items : List RunningClone = map one (range_with_len 0 clone_count) in
      let none : RunningClone = states.Absent tt in
      elim (slice_get_cases items place).1 [
        | inl found ↦
            let same : found.0 ≡ one place = sym (get_or_from_slice_get items place found.0 none found.2) ∙ get_or-map-range_with_len one 0 clone_count place place none below (omega arith) in
            found.2 ∙ ap (λ (s : RunningClone). Some s) same
        | inr past ↦ absurd (omega (arith, past.0, below, length-map-range_with_len one 0 clone_count))
      ]

  state_is : (number place : ℕ) (state : BankedState B) → place < clone_count → IsFoundedTo setup number place state → slice_get (running_to number).clones place ≡ Some (in_memory state)
  state_is number place state below is = state_to number place below ∙ ap (λ (s : RunningClone). Some s) (sym is.memory)

  -- what the clone keeps after founding so many
  keeps_to : (number place : ℕ) → 1 ≤ number → number ≤ clone_count → kept_by_steps place (founding_steps number) ≡ kept_of (clone_at (world_to number) place)
  keeps_to number place some most = founding_leads setup.domain setup.properties number place some most

  -- one that isn't founded yet keeps nothing
  keeps_none_yet : (number place : ℕ) (banks : B) → 1 ≤ number → number ≤ clone_count → place < clone_count → IsFoundedTo setup number place (states.Absent banks)
      → kept_by_steps place (founding_steps number) ≡ None
  keeps_none_yet number place banks some most inside is =
      keeps_to number place some most
      ∙ ap kept_of (absent_at (running_to number) (world_to number) (founded_stands setup.domain setup.properties number) place tt (state_is number place (states.Absent banks) inside is))

  -- banks that keep nothing
  none_stands : (steps : List StepAt) (place : ℕ) (l : Log) → kept_by_steps place steps ≡ None → KeepsNothing l → LeavesOnly l (StandsFoundedBy whole_world steps place)
  none_stands steps place l none keeps image left =
      subst (λ (k : Option Stored). StandsRead (owner_at whole_world place) [] (read_banks image) k) (sym none)
      (subst (λ (r : PairReading). StandsRead (owner_at whole_world place) [] r None) (sym (nothing_left l keeps image left)) tt)

  -- the banks of a clone that no step is under way of
  settled : (number place : ℕ) (state : BankedState B) (l : Log) → 1 ≤ number → number ≤ clone_count → place < clone_count → IsFoundedTo setup number place state → KeepsState log state
      → log (banks_of_state state) ≡ Some l → LeavesOnly l (StandsFoundedBy whole_world (founding_steps number) place)
  settled number place state l some most inside is keeps told image left =
      let world : World = world_to number in
      let stands : CloneStandsFor world place (in_memory state) (clone_at world place) =
      (founded_stands setup.domain setup.properties number).clones place (in_memory state) (state_is number place state inside is) in
      let kept = stopped_stands log world 0 place state (clone_at world place) stands (founded_backed log world 0 place state is.opened) refl keeps (tells (banks_of_state state)) in
      let at : StandsRead (owner_at world place) [] (read_banks image) (kept_of (clone_at world place)) = settled_image world place (log (banks_of_state state)) l kept told image left in
      subst (λ (k : Option Stored). StandsRead (owner_at world place) [] (read_banks image) k) (sym (keeps_to number place some most)) at

  -- those of the first clone while it forks
  fork_amid : (number : ℕ) (was now : BankedClone B) (l : Log) → 1 ≤ number → number ≤ clone_count → IsFoundedTo setup number 0 (states.Live was) → LeavesFronts log meter (Forked ∷ []) was now.banks
      → log now.banks ≡ Some l → LeavesOnly l (StandsAmid whole_world (founding_steps number) fork_of 0)
  fork_amid number was now l some most is fronts told image left =
      let world : World = world_to number in
      let begun : (old : Log) × (log was.banks ≡ Some old) = told_log (log was.banks) (tells was.banks) in
      let moments = fronts begun.0 begun.1 in
      let at : LiveAt world 0 was.local = live_at (running_to number) world (founded_stands setup.domain setup.properties number) 0 was.local (state_is number 0 (states.Live was) (omega arith) is) in
      let stored : Stored = kept_by was.local at.base at.journal in
      let kept : IsKeptFor (owner_at world 0) [] (kept_as moments.0 was.generation was.local) stored = live_kept world 0 was.local at moments.0 was.generation in
      let reads : ReadsSome (Keeps (kept_as moments.0 was.generation was.local)) (Forked ∷ []) (meter was.banks).arm image =
      some_read begun.0 l (log now.banks) (Keeps (kept_as moments.0 was.generation was.local)) (Forked ∷ []) (meter was.banks).arm (meter now.banks).arm told moments.1 image left in
      let stands : StandsSome (owner_at world 0) [] (Some stored) (AppendsFork ∷ []) image =
      carried_some (owner_at world 0) [] (Keeps (kept_as moments.0 was.generation was.local)) (Some stored) (Forked ∷ []) (AppendsFork ∷ []) (meter was.banks).arm image
      (kept, refl, fork_kept (owner_at world 0) [] (kept_as moments.0 was.generation was.local) stored kept) reads in
      amid_step whole_world (founding_steps number) fork_of 0 image refl refl refl
      (subst (λ (k : Option Stored). StandsSome (owner_at world 0) [] k (AppendsFork ∷ []) image) (sym (keeps_to number 0 some most ∙ ap kept_of at.live)) stands)

  -- what a clone begins with stands for its leaf alone
  blank_kept : (place : ℕ) (path : List ℕ) → IsKeptFor (owner_at whole_world place) [] (made (head_of (blank_clone (id_of place) setup.domain setup.properties path))) (leaf_alone path)
  blank_kept place path = record {
    id = refl;
    domain = refl;
    properties = refl;
    stands = record {
      path = refl;
      base = λ dot. ((λ c. absurd (omega (arith, c.positive, c.within))), λ k. absurd k);
      base_pairs = record { ascending = tt; sound = λ pair h. absurd h; complete = λ pair k. absurd k.covered };
      entries = tt;
    };
  }

  -- those of a clone while it is made at its leaf
  making_amid : (front : List StepAt) (place : ℕ) (path : List ℕ) (local : LocalClone) (old now : B) (l : Log) → kept_by_steps place front ≡ None
      → local ≡ blank_clone (id_of place) setup.domain setup.properties path → LeavesMade log meter (head_of local) old now → log now ≡ Some l
      → LeavesOnly l (StandsAmid whole_world front (record { number = place; step = Creates (leaf_alone path) }) place)
  making_amid front place path local old now l none local_is making told image left =
      let begun : (first : Log) × (log old ≡ Some first) = told_log (log old) (tells old) in
      let head : HeadValue = head_of (blank_clone (id_of place) setup.domain setup.properties path) in
      let made_so : LeavesMade log meter head old now = subst (λ (c : LocalClone). LeavesMade log meter (head_of c) old now) local_is making in
      let reads : ReadsSome KeepsNone (Created head ∷ []) (meter old).arm image =
      some_read begun.0 l (log now) KeepsNone (Created head ∷ []) (meter old).arm (meter now).arm told (made_so begun.0 begun.1) image left in
      let stands : StandsSome (owner_at whole_world place) [] None (Creates (leaf_alone path) ∷ []) image =
      carried_some (owner_at whole_world place) [] KeepsNone None (Created head ∷ []) (Creates (leaf_alone path) ∷ []) (meter old).arm image (tt, refl, blank_kept place path) reads in
      amid_step whole_world front (record { number = place; step = Creates (leaf_alone path) }) place image refl refl refl
      (subst (λ (k : Option Stored). StandsSome (owner_at whole_world place) [] k (Creates (leaf_alone path) ∷ []) image) (sym none) stands)

  -- ---- where founding stops

  -- a step of another clone changes nothing of what is kept
  elsewhere_stands : (front : List StepAt) (next : StepAt) (place : ℕ) (image : Sides) → next.number ≢ place → StandsFoundedBy whole_world front place image
      → StandsFoundedBy whole_world (front ++ next ∷ []) place image
  elsewhere_stands front next place image differs stands =
      subst (λ (k : Option Stored). StandsRead (owner_at whole_world place) [] (read_banks image) k) (sym (kept_elsewhere place front next differs)) stands

  -- in the first create
  pub first_stops : (old new : List (BankedState B)) (state : BankedState B) (local : LocalClone) (blank : B) → AreFoundedTo setup 0 old → new ≡ set old 0 state
      → local ≡ blank_clone (id_of 0) setup.domain setup.properties [] → LeavesMade log meter (head_of local) blank (banks_of_state state) → StopsFounding log setup 0 new
  first_stops old new state local blank absent sets local_is making = record {
    stop = record { front = []; next = create_first; rest = forking_steps 0 (setup.count - 1); whole = refl; names = refl };
    each = λ place found l at keeps told image left.
        let there : HasState (set old 0 state) place found = subst (λ (s : List (BankedState B)). HasState s place found) sets at in
        elim (cases_eq place 0) [
          | inl first ↦
              let is : state ≡ found = here_at old 0 state found (subst (λ (k : ℕ). HasState (set old 0 state) k found) first there) in
              subst (λ (k : ℕ). StandsAmid whole_world [] create_first k image) (sym first)
              (making_amid [] 0 [] local blank (banks_of_state state) l refl local_is making (ap (λ (s : BankedState B). log (banks_of_state s)) is ∙ told) image left)
          | inr differs ↦
              let was : IsFoundedTo setup 0 place found = absent.each place found (other_at old 0 place state found differs there) in
              let none : (banks : B) × (found ≡ states.Absent banks) = absent_still setup 0 place found (omega arith) was in
              let blank_log : KeepsNothing l =
              subst (λ (s : BankedState B). KeepsState log s) none.1 keeps l (ap (λ (s : BankedState B). log (banks_of_state s)) (sym none.1) ∙ told) in
              inl (none_stands [] place l refl blank_log image left)
        ];
  }

  -- so it is, whatever became of the first clone
  pub first_left : {U : Type 0} (old new : List (BankedState B)) (state : BankedState B) (blank : B) (id domain : List ℕ) (given kept : List (List ℕ)) (result : Result (BankedClone B) (MakeFault × B))
      (told : Result U WorldFault) → IsKeptSetup setup → AreFoundedTo setup 0 old → id ≡ id_of 0 → domain ≡ setup.domain → given ≡ setup.properties → AreKept given kept
      → LeavesMade log meter (head_of (blank_clone id domain kept [])) blank (banks_of_state state) → new ≡ set old 0 state
      → IfErr told (λ fault. (refused : MakeFault × B) × (result ≡ Err refused) × (fault ≡ fault_of_made 0 refused.0)) → IfErr told (StopsFoundingBy log setup new)
  first_left old new state blank id domain given kept result (Ok done) is absent id_is domain_is given_is keeps making sets err = tt
  first_left old new state blank id domain given kept result (Err faults.NoMemory) is absent id_is domain_is given_is keeps making sets err = tt
  first_left old new state blank id domain given kept result (Err (faults.Device clone)) is absent id_is domain_is given_is keeps making sets err =
      let same : kept ≡ setup.properties = kept_same setup.properties kept (subst (λ (g : List (List ℕ)). AreKept g kept) given_is keeps) is.ascending in
      let local : blank_clone id domain kept [] ≡ blank_clone (id_of 0) setup.domain setup.properties [] = λ i. blank_clone (id_is i) (domain_is i) (same i) [] in
      subst (λ (k : ℕ). StopsFounding log setup k new) (sym (named err.0.0 err.2)) (first_stops old new state (blank_clone id domain kept []) blank absent sets local making)
    where
      named : (made_fault : MakeFault) → faults.Device clone ≡ fault_of_made 0 made_fault → clone ≡ 0
      named make.Device same = cc (same)
      named make.NoMemory same = absurd (cc (same))

  -- in a step of a further clone
  pub join_stops : (before : ℕ) (old new : List (BankedState B)) (asking : BankedAsker B) (blank : B) (was now : BankedClone B) (state : BankedState B) (clone : ℕ) → IsKeptSetup setup
      → suc before < setup.count → IsNewAsker setup.domain setup.properties (suc before) asking.asker → AreFoundedTo setup (suc before) old
      → HasState old 0 (states.Live was) → HasState old (suc before) (states.Absent blank) → new ≡ set (set old (suc before) state) 0 (states.Live now)
      → StopsJoin log meter (suc before) asking was now state clone → StopsFounding log setup clone new
  join_stops before old new asking blank was now state clone is below begins founded at_first at_next sets stops = by stops
    where
      most : suc before ≤ clone_count
      most = omega (arith, below, is.most)

      inside : suc before < clone_count
      inside = omega (arith, below, is.most)

      first_is : IsFoundedTo setup (suc before) 0 (states.Live was)
      first_is = founded.each 0 (states.Live was) at_first

      none_yet : kept_by_steps (suc before) (founding_steps (suc before)) ≡ None
      none_yet = keeps_none_yet (suc before) (suc before) blank (omega arith) most inside (founded.each (suc before) (states.Absent blank) at_next)

      -- a state of the new list is the first clone's, the next one's, or that of another, which is as it was
      split : (P : ℕ → BankedState B → Type 0) → P 0 (states.Live now) → P (suc before) state
          → ((place : ℕ) (found : BankedState B) → place ≢ 0 → place ≢ suc before → place < clone_count → IsFoundedTo setup (suc before) place found → P place found)
          → (place : ℕ) (found : BankedState B) → HasState new place found → P place found
      split P first next other place found at =
          let there : HasState (set (set old (suc before) state) 0 (states.Live now)) place found = subst (λ (s : List (BankedState B)). HasState s place found) sets at in
          elim (cases_eq place 0) [
            | inl zeroth ↦
                let same : states.Live now ≡ found = here_at (set old (suc before) state) 0 (states.Live now) found (subst (λ (k : ℕ). HasState (set (set old (suc before) state) 0 (states.Live now)) k found) zeroth there) in
                subst (λ (k : ℕ). P k found) (sym zeroth) (subst (λ (s : BankedState B). P 0 s) same first)
            | inr differs ↦
                let still : HasState (set old (suc before) state) place found = other_at (set old (suc before) state) 0 place (states.Live now) found differs there in
                elim (cases_eq place (suc before)) [
                  | inl here ↦
                      let same : state ≡ found = here_at old (suc before) state found (subst (λ (k : ℕ). HasState (set old (suc before) state) k found) here still) in
                      subst (λ (k : ℕ). P k found) (sym here) (subst (λ (s : BankedState B). P (suc before) s) same next)
                  | inr apart ↦
                      let had : HasState old place found = other_at old (suc before) place state found apart still in
                      other place found differs apart (omega (arith, founded.count, slice_get_within old place found had)) (founded.each place found had)
                ]
          ]

      by : StopsJoin log meter (suc before) asking was now state clone → StopsFounding log setup clone new
      by (amid_fork named asks fronts) = record {
        stop = record { front = founding_steps (suc before); next = fork_of; rest = create_of before ∷ later_steps before setup.count; whole = founding_goes_on before setup.count below; names = sym named };
        each = λ place found l at. split
            (λ p s. KeepsState log s → log (banks_of_state s) ≡ Some l → LeavesOnly l (StandsAmid whole_world (founding_steps (suc before)) fork_of p))
            (λ keeps told. fork_amid (suc before) was now l (omega arith) most first_is fronts told)
            (λ keeps told image left.
            inl (none_stands (founding_steps (suc before)) (suc before) l none_yet
            (subst (λ (s : BankedState B). KeepsState log s) asks keeps l (ap (λ (s : BankedState B). log (banks_of_state s)) (sym asks) ∙ told)) image left))
            (λ p s first other within was_so keeps told image left. inl (settled (suc before) p s l (omega arith) most within was_so keeps told image left))
            place found at;
      }
      by (amid_making named made_so) =
          let front : List StepAt = founding_steps (suc before) ++ fork_of ∷ [] in
          let was_is = live_is setup (suc before) 0 was (omega arith) first_is in
          let forked : IsFoundedTo setup ((suc before) + 1) 0 (states.Live now) = first_after setup (suc before) asking.asker made_so.leaf was now (omega arith) was_is first_is.opened made_so.forks made_so.opened in
          let half = half_is setup (suc before) asking.asker made_so.leaf was now is (omega arith) was_is begins made_so.forks in
          let none : kept_by_steps (suc before) front ≡ None = kept_elsewhere (suc before) (founding_steps (suc before)) fork_of (λ same. omega (arith, same)) ∙ none_yet in
          let first_keeps : kept_by_steps 0 (founding_steps ((suc before) + 1)) ≡ kept_by_steps 0 front =
          ap (kept_by_steps 0) (sym (founding_of_next before)) ∙ kept_elsewhere 0 front (create_of before) (λ same. omega (arith, same)) in
          record {
            stop = record {
              front = front;
              next = create_of before;
              rest = later_steps before setup.count;
              whole = append_assoc (founding_steps (suc before)) (fork_of ∷ []) (create_of before ∷ later_steps before setup.count) ∙ founding_goes_on before setup.count below;
              names = sym named;
            };
            each = λ place found l at. split
                (λ p s. KeepsState log s → log (banks_of_state s) ≡ Some l → LeavesOnly l (StandsAmid whole_world front (create_of before) p))
                (λ keeps told image left.
                inl (subst (λ (k : Option Stored). StandsRead (owner_at whole_world 0) [] (read_banks image) k) first_keeps
                (settled ((suc before) + 1) 0 (states.Live now) l (omega arith) (omega (arith, inside)) (omega arith) forked keeps told image left)))
                (λ keeps told. making_amid front (suc before) (leaf_after before (suc before)) (joined_clone asking.asker made_so.leaf) asking.banks (banks_of_state state) l none half made_so.making told)
                (λ p s first other within was_so keeps told image left.
                inl (elsewhere_stands (founding_steps (suc before)) fork_of p image (λ same. first (sym same)) (settled (suc before) p s l (omega arith) most within was_so keeps told image left)))
                place found at;
          }

  -- by the fault
  pub join_stops_by : (number : ℕ) (old new : List (BankedState B)) (asking : BankedAsker B) (blank : B) (was now : BankedClone B) (state : BankedState B) (fault : WorldFault) → IsKeptSetup setup
      → 1 ≤ number → number < setup.count → IsNewAsker setup.domain setup.properties number asking.asker → AreFoundedTo setup number old
      → HasState old 0 (states.Live was) → HasState old number (states.Absent blank) → new ≡ set (set old number state) 0 (states.Live now)
      → StopsJoinBy log meter number asking was now state fault → StopsFoundingBy log setup new fault
  join_stops_by zero old new asking blank was now state fault is some below begins founded at_first at_next sets stops = absurd (omega (arith, some))
  join_stops_by (suc before) old new asking blank was now state faults.NoMemory is some below begins founded at_first at_next sets stops = tt
  join_stops_by (suc before) old new asking blank was now state (faults.Device clone) is some below begins founded at_first at_next sets stops =
      join_stops before old new asking blank was now state clone is below begins founded at_first at_next sets stops

  -- ---- the banks that are given back

  pub founding_left : (clones : List (BankedState B)) (banks : List B) (clone : ℕ) → banks ≡ map banks_of_state clones → KeepAll log clones → StopsFounding log setup clone clones
      → LeavesAmid log whole_world setup.count clone banks
  founding_left clones banks clone are keeps stops = record {
    stop = stops.stop;
    each = λ number one l at told.
        found number one l told (slice_get clones number) refl (sym (slice_get-map banks_of_state clones number) ∙ subst (λ (b : List B). slice_get b number ≡ Some one) are at);
  } where
    found : (number : ℕ) (one : B) (l : Log) → log one ≡ Some l → (state : Option (BankedState B)) → slice_get clones number ≡ state → option_map banks_of_state state ≡ Some one
        → LeavesOnly l (StandsAmid whole_world stops.stop.front stops.stop.next number)
    found number one l told None there is = absurd (cc is)
    found number one l told (Some state) there is =
        let same : banks_of_state state ≡ one = cc is in
        stops.each number state l there (keeps state (member_at clones number state there)) (ap log same ∙ told)

-- ---- a join that was refused

module _ {B : Type 0} (log : B → Option Log) (meter : B → Meter) where
  -- what a refused question for a leaf changed is one fork
  pub forks_alone : (old new : LocalClone) (sent : Message) (id : List ℕ) (fault : ReceiveFault) (steps : List KeptStep) → sent ≡ kinds.JoinAsk id → fault ≡ receive.Device
      → MessageSteps old sent new (Err fault) steps → steps ≡ Forked ∷ []
  forks_alone old new sent id fault steps asks is made_so =
      subst (λ (m : Message). MessageSteps old m new (Err receive.Device) steps) asks (subst (λ (f : ReceiveFault). MessageSteps old sent new (Err f) steps) is made_so)

  pub giving_stops : (number : ℕ) (asking : BankedAsker B) (was now : BankedClone B) (fault : WorldFault) → StopsGiving log meter was now.banks fault
      → StopsJoinBy log meter number asking was now (states.Asking asking) fault
  giving_stops number asking was now (faults.Device clone) stops = amid_fork stops.0 refl stops.1
  giving_stops number asking was now faults.NoMemory stops = tt

  pub making_stops : (number : ℕ) (asking : BankedAsker B) (leaf : GiveValue) (was now : BankedClone B) (state : BankedState B) (fault : WorldFault)
      → LocallyForks was.local asking.asker.id now.local leaf → StaysOpen was now → StopsTaking log meter number asking leaf (banks_of_state state) fault
      → StopsJoinBy log meter number asking was now state fault
  making_stops number asking leaf was now state (faults.Device clone) forks opened stops = amid_making stops.0 (record { leaf = leaf; forks = forks; opened = opened; making = stops.1 })
  making_stops number asking leaf was now state faults.NoMemory forks opened stops = tt

  -- the message of an answer that gives the leaf
  pub give_for : (asker : LocalAsker) (leaf : GiveValue) (messages : List Message) (message : Message) → (gives : GivesLeaf messages asker leaf) → message ≡ get_or messages 0 message
      → IsGiveFor asker message gives.give
  give_for asker leaf messages message gives first = record {
    is = first ∙ ap (λ (l : List Message). get_or l 0 message) gives.one;
    own = ap (λ (g : GiveValue). g.id) gives.is ∙ gives.own;
  }

  pub taking_stops : (number : ℕ) (asking : BankedAsker B) (leaf : GiveValue) (now : B) (refused : MakeFault) (fault : WorldFault) → fault ≡ fault_of_made number refused
      → LeavesMade log meter (head_of (joined_clone asking.asker leaf)) asking.banks now → StopsTaking log meter number asking leaf now fault
  taking_stops number asking leaf now make.Device fault is making = subst (λ (f : WorldFault). StopsTaking log meter number asking leaf now f) (sym is) (refl, making)
  taking_stops number asking leaf now make.NoMemory fault is making = subst (λ (f : WorldFault). StopsTaking log meter number asking leaf now f) (sym is) tt

-- the world that is founded with a setup of which properties are given more than once
pub founded_left : {B : Type 0} (log : B → Option Log) (given setup : Setup) (banks : List B) (fault : WorldFault) → KeepsEachOnce given.properties setup.properties → setup.domain ≡ given.domain
    → setup.count ≡ given.count → LeavesKept log setup fault banks → LeavesFounded log given fault banks
founded_left log given setup banks faults.NoMemory each domain_is count_is left = left
founded_left log given setup banks (faults.Device clone) each domain_is count_is left = record {
  world = founded setup.domain setup.properties setup.count;
  founds = record { kept = setup.properties; each = each; is = λ i. founded (domain_is i) setup.properties (count_is i) };
  amid = subst (λ (k : ℕ). LeavesAmid log (founded setup.domain setup.properties setup.count) k clone banks) count_is left;
}
