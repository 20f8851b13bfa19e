-- A clone whose device is armed is live or asks once the command of a crash line is done, and where it isn't armed nothing changes.
use Rattle.std.specs.Prelude.{◌≡◌, ℕ, ◌<◌, List, [], ◌∷◌, ◌++◌, ◌⊎◌, Bool, Option, Some, None, MatchOption, length}
use Rattle.std.proofs.Common.{refl, sym, ◌∙◌, ap, subst, inl, inr, get_or, set}
use Rattle.std.proofs.lemmas.Bool.{cases_lt}
use Rattle.std.proofs.lemmas.List.{get_or-set_same}
use Rattle.tree_clock.specs.declared.dots.Range.{Range}
use Rattle.mld_ops.specs.declared.tagged.Tagged.{Tagged}
use Rattle.mld_ops.specs.Effect.{range_of}
use Rattle.mld_ops.specs.Effects.{EffectValue}
use Rattle.mld_ops.specs.History.{dot_at}
use Rattle.jrql_ast.specs.declared.plans.UpdatePlan.{UpdatePlan}
use Rattle.jrql_ast.specs.Templates.{insertion_of, deletion_of}
use Rattle.schedule_model.specs.declared.CrashTask.{CrashTask}
use Rattle.schedule_model.specs.declared.CrashTask.TheVariants as tasks
use Rattle.mld_model.specs.Clone.{Clone, Absent, Asking, Empty, Down, Live, Stored, with_range, truncated_to}
use Rattle.mld_model.specs.World.{World, Message, RangeOf, Want, SnapshotOf, JoinAsk, JoinGive, message_at, clone_at}
use Rattle.mld_model.specs.Reply.{Reply, Crashed, ThenCrashed, NoMessage}
use Rattle.mld_model.specs.CloneStep.{Answers, Updates, changes_nothing, breaks_single, makes_operation, holds_already, holds_too_many, holds_from_now, TakesRange, knows_already, accepts, holds_back, left_half, TakesAsk, asked_itself, is_too_deep, forks, joined_with, TakesLeaf, becomes_live, leaves_it, AskerTakes, LiveTakes, Takes, Reopens, TakesWant, lacks_nothing, sends_ranges, sends_snapshot, TakesSnapshot, knows_all, merges, Compacts, Truncates}
use Rattle.mld_model.specs.CrashFronts.{standing_front, with_clone_down, after_crash}
use Rattle.mld_model.specs.Durable.{DurableStep}
use Rattle.mld_model.proofs.StateLaws.{by_state, if_live, if_opens}
use Rattle.schedule_model.specs.Updating.{UpdatesByPlan}
use Rattle.schedule_model.specs.Tasks.{command_of, number_of_task}
use Rattle.schedule_model.specs.Step.{Step, StepBy}
use Rattle.schedule_model.specs.Crashing.{IsArmed, IsUp, task_calls, Deed, Crashes, isnt_armed, is_caught, isnt_caught}
use Rattle.schedule_model.specs.Laws.{ArmedStaysUp, UnarmedStays, CaughtIsQuiet, CrashHasStep}
use Rattle.schedule_model.proofs.PlanLaws.{if_planned}
use Rattle.schedule_model.proofs.DurableLaws.{PlainlyLeads, plain_leads}
use Rattle.schedule_model.proofs.CrashedSteps.{task_number_is, armed_inside}

-- ---- it isn't armed

-- a live clone is armed, and so is one that asks
armed_live : (clone : Clone) (task : CrashTask) (stored : Stored) (held : List Range) → clone ≡ Live stored held → IsArmed clone task
armed_live clone task stored held live = subst (λ (c : Clone). IsArmed c task) (sym live) tt

armed_asking : (clone : Clone) (task : CrashTask) → clone ≡ Asking → IsArmed clone task
armed_asking clone task asks = subst (λ (c : Clone). IsArmed c task) (sym asks) tt

module _ (world : World) (reply : Reply) (next : World) where
  planned_stays : (number : ℕ) (plan : UpdatePlan) (task : CrashTask) → ¬ IsArmed (clone_at world number) task
      → UpdatesByPlan world number plan (clone_at world number) reply next → next ≡ world
  planned_stays number plan task unarmed =
      if_planned (next ≡ world) world number plan (clone_at world number) reply next (λ answer state p. p.1) (λ p. p.1)
      (λ stored held pairs tick effect live meant is_next has p. absurd (unarmed (armed_live (clone_at world number) task stored held live)))

  takes_stays : (number : ℕ) (message : Message) (clone : Clone) (task : CrashTask) → ¬ IsArmed clone task → Takes world number message clone reply next → next ≡ world
  takes_stays number message clone task unarmed =
      by_state (next ≡ world) clone _ _ _ _ (λ state p. p.1) (λ asks p. absurd (unarmed (armed_asking clone task asks))) (λ p. p.1)
      (λ stored held live p. absurd (unarmed (armed_live clone task stored held live)))

  delivers_stays : (number : ℕ) (sent : Option Message) (task : CrashTask) → ¬ IsArmed (clone_at world number) task
      → MatchOption sent (Answers world NoMessage reply next) (λ message. Takes world number message (clone_at world number) reply next) → next ≡ world
  delivers_stays number None task unarmed p = p.1
  delivers_stays number (Some message) task unarmed p = takes_stays number message (clone_at world number) task unarmed p

-- where the device isn't armed nothing changes
pub unarmed_stays : UnarmedStays
unarmed_stays world (tasks.Add number triple) reply next unarmed p = planned_stays world reply next number (insertion_of triple) (tasks.Add number triple) unarmed p
unarmed_stays world (tasks.Remove number triple) reply next unarmed p =
    planned_stays world reply next number (deletion_of triple) (tasks.Remove number triple) unarmed p
unarmed_stays world (tasks.Update number plan) reply next unarmed p = planned_stays world reply next number plan (tasks.Update number plan) unarmed p
unarmed_stays world (tasks.Deliver message number) reply next unarmed p =
    delivers_stays world reply next number (message_at world message) (tasks.Deliver message number) unarmed p
unarmed_stays world (tasks.Compact number) reply next unarmed p =
    if_live (next ≡ world) world (clone_at world number) reply next _ (λ answer state p. p.1)
    (λ stored held live p. absurd (unarmed (armed_live (clone_at world number) (tasks.Compact number) stored held live))) p
unarmed_stays world (tasks.Truncate number keep) reply next unarmed p =
    if_live (next ≡ world) world (clone_at world number) reply next _ (λ answer state p. p.1)
    (λ stored held live p. absurd (unarmed (armed_live (clone_at world number) (tasks.Truncate number keep) stored held live))) p
unarmed_stays world (tasks.Open number) reply next unarmed p =
    if_opens (next ≡ world) world number (clone_at world number) reply next (λ answer state p. p.1)
    (λ empty told same. absurd (unarmed (subst (λ (c : Clone). IsArmed c (tasks.Open number)) (sym empty) tt)))
    (λ stored down told same. absurd (unarmed (subst (λ (c : Clone). IsArmed c (tasks.Open number)) (sym down) tt))) p

-- ---- it is armed

-- the clone of a world of the number is live or asks
abbrev StandsUp : World → ℕ → Type 0
StandsUp world number = IsUp (clone_at world number)

module _ (world next : World) (number : ℕ) (inside : number < length world.clones) where
  same_up : StandsUp world number → next ≡ world → StandsUp next number
  same_up up same = subst (λ (w : World). StandsUp w number) (sym same) up

  told_up : StandsUp world number → next.clones ≡ world.clones → StandsUp next number
  told_up up clones = subst (λ (cs : List Clone). IsUp (get_or cs number Absent)) (sym clones) up

  set_up : (now : Clone) → IsUp now → next.clones ≡ set world.clones number now → StandsUp next number
  set_up now up clones =
      subst IsUp (sym (ap (λ (cs : List Clone). get_or cs number Absent) clones ∙ get_or-set_same world.clones number now Absent inside)) up

  updates_up : (stored : Stored) (held : List Range) (pairs : List Tagged) (effect : EffectValue) (reply : Reply) → StandsUp world number
      → Updates world number stored held pairs effect reply next → StandsUp next number
  updates_up stored held pairs effect reply up (changes_nothing none p) = same_up up p.1
  updates_up stored held pairs effect reply up (breaks_single some place first p) = same_up up p.1
  updates_up stored held pairs effect reply up (makes_operation some fits p) =
      set_up (Live (with_range stored (range_of (dot_at stored.path p.tick))) held) tt (ap (λ (w : World). w.clones) p.changes)

  planned_up : (plan : UpdatePlan) (reply : Reply) → StandsUp world number → UpdatesByPlan world number plan (clone_at world number) reply next → StandsUp next number
  planned_up plan reply up =
      if_planned (StandsUp next number) world number plan (clone_at world number) reply next (λ answer state p. same_up up p.1) (λ p. same_up up p.1)
      (λ stored held pairs tick effect live meant is_next has p. updates_up stored held pairs effect reply up p)

  range_up : (stored : Stored) (held : List Range) (range : Range) (reply : Reply) → StandsUp world number → TakesRange world number stored held range reply next
      → StandsUp next number
  range_up stored held range reply up (knows_already known p) = same_up up p.1
  range_up stored held range reply up (accepts p) = set_up (Live p.after p.left) tt (ap (λ (w : World). w.clones) p.changes)
  range_up stored held range reply up (holds_back back (holds_already has p)) = same_up up p.1
  range_up stored held range reply up (holds_back back (holds_too_many lacks full p)) = same_up up p.1
  range_up stored held range reply up (holds_back back (holds_from_now lacks few told same)) =
      set_up (Live stored (held ++ range ∷ [])) tt (ap (λ (w : World). w.clones) same)

  ask_up : (stored : Stored) (held : List Range) (id : ℕ) (reply : Reply) → StandsUp world number → TakesAsk world number stored held id reply next → StandsUp next number
  ask_up stored held id reply up (asked_itself own p) = same_up up p.1
  ask_up stored held id reply up (is_too_deep differs deep p) = same_up up p.1
  ask_up stored held id reply up (forks differs room told same) = set_up (Live (left_half stored) held) tt (ap (λ (w : World). w.clones) same)

  want_up : (dots : List Range) (stored : Stored) (reply : Reply) → StandsUp world number → TakesWant world dots stored reply next → StandsUp next number
  want_up dots stored reply up (lacks_nothing known none p) = same_up up p.1
  want_up dots stored reply up (sends_ranges ranges known drops some told same) = told_up up (ap (λ (w : World). w.clones) same)
  want_up dots stored reply up (sends_snapshot behind told same) = told_up up (ap (λ (w : World). w.clones) same)

  snapshot_up : (stored : Stored) (held dots : List Range) (reply : Reply) → StandsUp world number → TakesSnapshot world number stored held dots reply next
      → StandsUp next number
  snapshot_up stored held dots reply up (knows_all known p) = same_up up p.1
  snapshot_up stored held dots reply up (merges p) = set_up (Live p.after p.left) tt (ap (λ (w : World). w.clones) p.changes)

  leaf_up : (id : ℕ) (path : List ℕ) (dots : List Range) (reply : Reply) → StandsUp world number → TakesLeaf world number id path dots reply next → StandsUp next number
  leaf_up id path dots reply up (becomes_live own told same) = set_up (Live (joined_with path dots) []) tt (ap (λ (w : World). w.clones) same)
  leaf_up id path dots reply up (leaves_it differs p) = same_up up p.1

  asker_up : (message : Message) (reply : Reply) → StandsUp world number → AskerTakes world number message reply next → StandsUp next number
  asker_up (JoinGive id path dots) reply up p = leaf_up id path dots reply up p
  asker_up message reply up p = same_up up p.1

  live_up : (message : Message) (stored : Stored) (held : List Range) (reply : Reply) → StandsUp world number → LiveTakes world number message stored held reply next
      → StandsUp next number
  live_up (RangeOf range) stored held reply up p = range_up stored held range reply up p
  live_up (Want dots) stored held reply up p = want_up dots stored reply up p
  live_up (JoinAsk id) stored held reply up p = ask_up stored held id reply up p
  live_up (SnapshotOf dots) stored held reply up p = snapshot_up stored held dots reply up p
  live_up (JoinGive id path dots) stored held reply up p = same_up up p.1

  takes_up : (message : Message) (clone : Clone) (reply : Reply) → StandsUp world number → Takes world number message clone reply next → StandsUp next number
  takes_up message clone reply up =
      by_state (StandsUp next number) clone _ _ _ _ (λ state p. same_up up p.1) (λ asks. asker_up message reply up) (λ p. same_up up p.1)
      (λ stored held live. live_up message stored held reply up)

  delivers_up : (sent : Option Message) (reply : Reply) → StandsUp world number
      → MatchOption sent (Answers world NoMessage reply next) (λ message. Takes world number message (clone_at world number) reply next) → StandsUp next number
  delivers_up None reply up p = same_up up p.1
  delivers_up (Some message) reply up p = takes_up message (clone_at world number) reply up p

  compacts_up : (reply : Reply) → StandsUp world number → Compacts world number (clone_at world number) reply next → StandsUp next number
  compacts_up reply up =
      if_live (StandsUp next number) world (clone_at world number) reply next _ (λ answer state p. same_up up p.1)
      (λ stored held live p. set_up (Live (record stored { journal = p.0 }) held) tt (ap (λ (w : World). w.clones) p.3))

  truncates_up : (keep : ℕ) (reply : Reply) → StandsUp world number → Truncates world number keep (clone_at world number) reply next → StandsUp next number
  truncates_up keep reply up =
      if_live (StandsUp next number) world (clone_at world number) reply next _ (λ answer state p. same_up up p.1)
      (λ stored held live p. set_up (Live (truncated_to stored keep) held) tt (ap (λ (w : World). w.clones) p.1))

  opens_up : (clone : Clone) (reply : Reply) → clone_at world number ≡ clone → IsArmed clone (tasks.Open number) → Reopens world number clone reply next → StandsUp next number
  opens_up Absent reply is armed p = absurd armed
  opens_up Asking reply is armed p = subst (λ (w : World). StandsUp w number) (sym p.1) (subst IsUp (sym is) tt)
  opens_up Empty reply is armed p = set_up Asking tt (ap (λ (w : World). w.clones) p.1)
  opens_up (Down stored) reply is armed p = set_up (Live stored []) tt (ap (λ (w : World). w.clones) p.1)
  opens_up (Live stored held) reply is armed p = subst (λ (w : World). StandsUp w number) (sym p.1) (subst IsUp (sym is) tt)

-- an armed clone is live or asks once the command is done
pub armed_up : ArmedStaysUp
armed_up world (tasks.Add number triple) reply next armed p =
    planned_up world next number (armed_inside world number (tasks.Add number triple) armed) (insertion_of triple) reply armed p
armed_up world (tasks.Remove number triple) reply next armed p =
    planned_up world next number (armed_inside world number (tasks.Remove number triple) armed) (deletion_of triple) reply armed p
armed_up world (tasks.Update number plan) reply next armed p =
    planned_up world next number (armed_inside world number (tasks.Update number plan) armed) plan reply armed p
armed_up world (tasks.Deliver message number) reply next armed p =
    delivers_up world next number (armed_inside world number (tasks.Deliver message number) armed) (message_at world message) reply armed p
armed_up world (tasks.Compact number) reply next armed p =
    compacts_up world next number (armed_inside world number (tasks.Compact number) armed) reply armed p
armed_up world (tasks.Truncate number keep) reply next armed p =
    truncates_up world next number (armed_inside world number (tasks.Truncate number keep) armed) keep reply armed p
armed_up world (tasks.Open number) reply next armed p =
    opens_up world next number (armed_inside world number (tasks.Open number) armed) (clone_at world number) reply refl armed p

-- ---- crash lines

-- where a call was caught nothing was sent
quiet_crash : (choice : Bool) (call : ℕ) (world : World) (task : CrashTask) (steps : List DurableStep) (reply : Reply) (next : World) → reply ≡ Crashed
    → Crashes choice call world task steps reply next → next.messages ≡ world.messages
quiet_crash choice call world task steps reply next is (isnt_armed unarmed does are) =
    ap (λ (w : World). w.messages) (unarmed_stays world task reply next unarmed does)
quiet_crash choice call world task steps reply next is (is_caught armed deed comes front told after) = ap (λ (w : World). w.messages) after
quiet_crash choice call world task steps reply next is (isnt_caught armed deed late all told after) =
    let same : Crashed ≡ ThenCrashed deed.reply = sym is ∙ told in absurd (cc same)

pub caught_quiet : CaughtIsQuiet
unfolding Step
caught_quiet world call leave task next p = quiet_crash p.0 call world task p.1 Crashed next refl p.2

-- armed or not
armed_or_not : (clone : Clone) (task : CrashTask) → IsArmed clone task ⊎ (¬ IsArmed clone task)
armed_or_not Absent task = inr (λ armed. armed)
armed_or_not Asking task = inl tt
armed_or_not Empty (tasks.Open number) = inl tt
armed_or_not Empty task = inr (λ armed. armed)
armed_or_not (Down stored) (tasks.Open number) = inl tt
armed_or_not (Down stored) task = inr (λ armed. armed)
armed_or_not (Live stored held) task = inl tt

-- a crash line whose command makes a step makes one by each choice
pub crash_has_step : CrashHasStep
unfolding StepBy
crash_has_step choice call leave world task reply next inside p =
    let number : ℕ = number_of_task task in
    let found : PlainlyLeads world (command_of task) reply next =
    plain_leads world (command_of task) reply next (subst (λ (n : ℕ). n < length world.clones) (sym (task_number_is task)) inside) p in
    let deed : Deed world (command_of task) = record { reply = reply; after = next; does = p; steps = found.0; are = found.1 } in
    elim (armed_or_not (clone_at world number) task) [
      | inr unarmed ↦ (reply, next, (found.0, isnt_armed unarmed p found.1))
      | inl armed ↦ elim (cases_lt call (task_calls (clone_at world number) task found.0)) [
        | inl comes ↦ (
          Crashed,
          after_crash world number (standing_front choice call found.0),
          (standing_front choice call found.0, is_caught armed deed comes refl refl refl),
        )
        | inr late ↦ (ThenCrashed reply, with_clone_down next number, (found.0, isnt_caught armed deed late refl refl refl))
      ]
    ]
