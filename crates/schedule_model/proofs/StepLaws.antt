-- A step of the world by a plain command has one outcome.
use Rattle.std.specs.Prelude.{◌≡◌, ℕ, ◌+◌, ◌<◌, List, [], ◌∷◌, ◌++◌, length, map, Option, Some, None, MatchOption}
use Rattle.std.specs.List.{range_with_len}
use Rattle.std.proofs.Common.{sym, ◌∙◌, ap, arith, inl, inr, subst}
use Rattle.std.proofs.lemmas.Bool.{cases_order}
use Rattle.tree_clock.specs.declared.dots.Range.{Range}
use Rattle.mld_ops.specs.declared.tagged.Tagged.{Tagged}
use Rattle.mld_ops.specs.History.{dot_at}
use Rattle.mld_ops.proofs.MeaningLaws.{one_meaning}
use Rattle.schedule_model.specs.declared.Command.TheVariants.{Add, Remove, Update, Deliver, Show, Query, Compare, Join, Ask, Compact, Truncate, Stop, Open, Crash}
use Rattle.mld_ops.proofs.PickingLaws.{drops_one}
use Rattle.mld_ops.specs.Effects.{EffectValue, operation_of}
use Rattle.jrql_ast.specs.declared.plans.UpdatePlan.{UpdatePlan}
use Rattle.jrql_ast.specs.InForm.{IsPlanInForm}
use Rattle.jrql_ast.specs.Templates.{insertion_of, deletion_of}
use Rattle.jrql_eval.specs.PlanEffects.{IsPlanEffect, HasTooMany}
use Rattle.mld_model.specs.Clone.{Clone, Live, Stored, known_of, with_range, merged_with, IsKnown, AreKnownTo}
use Rattle.mld_model.specs.World.{World, Message, RangeOf, Want, SnapshotOf, JoinAsk, JoinGive, message_at, clone_at, with_clone}
use Rattle.mld_model.specs.Reply.{Reply, Did, Single, Took, Merged, Shows, Answer, Kept, NoMessage}
use Rattle.mld_model.proofs.ComparingLaws.{compares_once}
use Rattle.mld_model.specs.CloneStep.{Answers, IsNextTick, after_operation, Makes, Updates, changes_nothing, breaks_single, makes_operation, UpdatesOver, is_too_large, has_effect, Accepts, HoldsBack, holds_already, holds_too_many, holds_from_now, TakesRange, knows_already, accepts, holds_back, Joins, TakesAsk, asked_itself, is_too_deep, forks, TakesLeaf, becomes_live, leaves_it, AskerTakes, LiveTakes, Takes, Stops, Lists, ComparesWith, Weighs, TakesWant, lacks_nothing, sends_ranges, sends_snapshot, Merges, TakesSnapshot, knows_all, merges, Wants, Compacts, Truncates}
use Rattle.schedule_model.specs.Updating.{UpdatesByPlan}
use Rattle.mld_ops.proofs.BreachLaws.{one_breach}
use Rattle.schedule_model.proofs.PlanLaws.{one_effect, insertion_in_form, deletion_in_form}
use Rattle.mld_model.proofs.StateLaws.{by_one_state, AreSame, answers_once, once_if_live, opens_once}
use Rattle.schedule_model.specs.declared.Command.{Command}
use Rattle.schedule_model.specs.PlainStep.{PlainStep}
use Rattle.schedule_model.proofs.ScheduleLaws.{HasPlanInForm}
use Rattle.schedule_model.proofs.QueryLaws.{queries_once}
use Rattle.mld_model.proofs.ReleaseLaws.{releases_once}
use Rattle.mld_model.proofs.CompactedJournals.{compacted_once}

-- of two ticks that come next neither is below the other
not_below : (known : List Range) (path : List ℕ) (tick other : ℕ) → IsNextTick known path tick → IsNextTick known path other → ¬ (tick < other)
not_below known path tick other p q below =
    let again = (p.after tick).0 ((q.after tick).1 (p.positive, below)) in
    omega (arith, again.1)

-- so one tick comes next
pub one_next_tick : (known : List Range) (path : List ℕ) (tick other : ℕ) → IsNextTick known path tick → IsNextTick known path other → tick ≡ other
one_next_tick known path tick other p q = elim (cases_order tick other) [
  | inl same ↦ same
  | inr (inl below) ↦ absurd (not_below known path tick other p q below)
  | inr (inr above) ↦ absurd (not_below known path other tick q p above)
]

-- a `show` has one outcome: what a clone knows has one meaning
lists_once : (world : World) (clone : Clone) (reply other : Reply) (next after : World)
    → Lists world clone reply next → Lists world clone other after → AreSame reply next other after
lists_once world clone reply other next after =
    once_if_live world clone reply other next after _ _ (λ stored held p q.
    (p.2.0 ∙ ap Shows (one_meaning world.history (known_of stored) p.0 q.0 p.1 q.1) ∙ sym q.2.0, p.2.1 ∙ sym q.2.1))

-- a live clone beside another has one outcome
compares_with_once : (world : World) (stored : Stored) (clone : Clone) (reply other : Reply) (next after : World)
    → ComparesWith world stored clone reply next → ComparesWith world stored clone other after → AreSame reply next other after
compares_with_once world stored clone reply other next after =
    once_if_live world clone reply other next after _ _ (λ others held p q. (compares_once (AreKnownTo (known_of stored) (known_of others)) (AreKnownTo (known_of others) (known_of stored)) reply other p.0 q.0, p.1 ∙ sym q.1))

-- a `compare` has one outcome
weighs_once : (world : World) (clone others : Clone) (reply other : Reply) (next after : World)
    → Weighs world clone others reply next → Weighs world clone others other after → AreSame reply next other after
weighs_once world clone others reply other next after =
    once_if_live world clone reply other next after _ _ (λ stored held. compares_with_once world stored others reply other next after)

-- what is broken first is one place
one_place : {place other : List ℕ × List ℕ} → ◌≡◌ {A = Option (List ℕ × List ℕ)} (Some place) (Some other) → place ≡ other
one_place same = cc

-- each step has one outcome: two of them that are given
module _ (world : World) (number : ℕ) (reply other : Reply) (next after : World) where
  -- a local change has one outcome
  makes_once : (stored : Stored) (held : List Range) (effect : EffectValue) → Makes world number stored held effect reply next
      → Makes world number stored held effect other after → AreSame reply next other after
  makes_once stored held effect p q =
      let same = one_next_tick (known_of stored) stored.path p.tick q.tick p.is_next q.is_next in (
        p.replies ∙ ap (λ (tick : ℕ). Did (dot_at stored.path tick) (length world.messages + 1)) same ∙ sym q.replies,
        p.changes ∙ ap (λ (tick : ℕ). after_operation world number stored held (operation_of (dot_at stored.path tick) (known_of stored) effect)) same ∙ sym q.changes,
      )

  -- an update of one effect has one outcome
  updates_once : (stored : Stored) (held : List Range) (pairs : List Tagged) (effect : EffectValue) → Updates world number stored held pairs effect reply next
      → Updates world number stored held pairs effect other after → AreSame reply next other after
  updates_once stored held pairs effect (changes_nothing none p) (changes_nothing too q) = answers_once p q
  updates_once stored held pairs effect (changes_nothing none p) (breaks_single some place first q) = absurd (some none)
  updates_once stored held pairs effect (changes_nothing none p) (makes_operation some fits q) = absurd (some none)
  updates_once stored held pairs effect (breaks_single some place first p) (changes_nothing none q) = absurd (some none)
  updates_once stored held pairs effect (breaks_single some place first p) (breaks_single too second least q) =
      let same : place ≡ second = one_place (one_breach world.properties pairs effect (Some place) (Some second) first least) in
      (p.0 ∙ ap (λ (breach : List ℕ × List ℕ). Single breach.0 breach.1) same ∙ sym q.0, p.1 ∙ sym q.1)
  updates_once stored held pairs effect (breaks_single some place first p) (makes_operation too fits q) = absurd (fits place.0 place.1 first.single first.breaks)
  updates_once stored held pairs effect (makes_operation some fits p) (changes_nothing none q) = absurd (some none)
  updates_once stored held pairs effect (makes_operation some fits p) (breaks_single too place first q) = absurd (fits place.0 place.1 first.single first.breaks)
  updates_once stored held pairs effect (makes_operation some fits p) (makes_operation too suits q) = makes_once stored held effect p q

  -- so has one by a plan in form, over pairs
  over_once : (plan : UpdatePlan) → IsPlanInForm plan → (stored : Stored) (held : List Range) (pairs : List Tagged)
      → UpdatesOver world number stored held pairs (HasTooMany pairs plan) (λ dot effect. IsPlanEffect world.domain dot pairs plan effect) reply next
      → UpdatesOver world number stored held pairs (HasTooMany pairs plan) (λ dot effect. IsPlanEffect world.domain dot pairs plan effect) other after
      → AreSame reply next other after
  over_once plan form stored held pairs (is_too_large many p) (is_too_large more q) = answers_once p q
  over_once plan form stored held pairs (is_too_large many p) (has_effect tick is_next effect has q) = absurd (omega (arith, many, has.few))
  over_once plan form stored held pairs (has_effect tick is_next effect has p) (is_too_large many q) = absurd (omega (arith, many, has.few))
  over_once plan form stored held pairs (has_effect tick is_next effect has p) (has_effect second comes another too q) =
      let ticks : tick ≡ second = one_next_tick (known_of stored) stored.path tick second is_next comes in
      let here : IsPlanEffect world.domain (dot_at stored.path tick) pairs plan another =
      subst (λ (n : ℕ). IsPlanEffect world.domain (dot_at stored.path n) pairs plan another) (sym ticks) too in
      let same : another ≡ effect = one_effect world.domain (dot_at stored.path tick) pairs plan another effect form here has in
      updates_once stored held pairs effect p (subst (λ (e : EffectValue). Updates world number stored held pairs e other after) same q)

  -- and whatever the state of the clone is
  planned_once : (plan : UpdatePlan) → IsPlanInForm plan → (clone : Clone) → UpdatesByPlan world number plan clone reply next
      → UpdatesByPlan world number plan clone other after → AreSame reply next other after
  planned_once plan form clone =
      once_if_live world clone reply other next after _ _ (λ stored held p q.
      let same : q.0 ≡ p.0 = one_meaning world.history (known_of stored) q.0 p.0 q.1 p.1 in
      over_once plan form stored held p.0 p.2
      (subst (λ (pairs : List Tagged). UpdatesOver world number stored held pairs (HasTooMany pairs plan) (λ dot effect. IsPlanEffect world.domain dot pairs plan effect) other after)
      same q.2))

  -- a range that is taken has one outcome
  accepts_once : (stored : Stored) (held : List Range) (range : Range) → Accepts world number stored held range reply next
      → Accepts world number stored held range other after → AreSame reply next other after
  accepts_once stored held range p q =
      let same = releases_once world.history (with_range stored range) held p.taken q.taken p.after q.after p.left q.left p.releases q.releases in (
        p.replies ∙ ap (λ (taken : List Range). Took (range ∷ taken)) same.0 ∙ sym q.replies,
        p.changes ∙ (λ i. with_clone world number (Live (same.1 i) (same.2 i))) ∙ sym q.changes,
      )

  -- a range that is held back has one outcome
  holds_once : (stored : Stored) (held : List Range) (range : Range) → HoldsBack world number stored held range reply next
      → HoldsBack world number stored held range other after → AreSame reply next other after
  holds_once stored held range (holds_already has p) (holds_already too q) = answers_once p q
  holds_once stored held range (holds_already has p) (holds_too_many lacks full q) = absurd (lacks has)
  holds_once stored held range (holds_already has p) (holds_from_now lacks few told is) = absurd (lacks has)
  holds_once stored held range (holds_too_many lacks full p) (holds_already has q) = absurd (lacks has)
  holds_once stored held range (holds_too_many lacks full p) (holds_too_many too many q) = answers_once p q
  holds_once stored held range (holds_too_many lacks full p) (holds_from_now too few told is) = absurd (omega (arith, full, few))
  holds_once stored held range (holds_from_now lacks few told is) (holds_already has q) = absurd (lacks has)
  holds_once stored held range (holds_from_now lacks few told is) (holds_too_many too full q) = absurd (omega (arith, full, few))
  holds_once stored held range (holds_from_now lacks few told is) (holds_from_now too under said was) = (told ∙ sym said, is ∙ sym was)

  -- a range that comes to a live clone has one outcome: it is known, or it is ready, or it is neither
  receives_once : (stored : Stored) (held : List Range) (range : Range) → TakesRange world number stored held range reply next
      → TakesRange world number stored held range other after → AreSame reply next other after
  receives_once stored held range (knows_already known p) (knows_already too q) = answers_once p q
  receives_once stored held range (knows_already known p) (accepts q) = absurd (q.ready.unknown known)
  receives_once stored held range (knows_already known p) (holds_back back q) = absurd (back.unknown known)
  receives_once stored held range (accepts p) (knows_already known q) = absurd (p.ready.unknown known)
  receives_once stored held range (accepts p) (accepts q) = accepts_once stored held range p q
  receives_once stored held range (accepts p) (holds_back back q) = absurd (back.unready p.ready)
  receives_once stored held range (holds_back back p) (knows_already known q) = absurd (back.unknown known)
  receives_once stored held range (holds_back back p) (accepts q) = absurd (back.unready q.ready)
  receives_once stored held range (holds_back back p) (holds_back too q) = holds_once stored held range p q

  -- a clone that asks for a leaf has one outcome
  joins_once : (clone : Clone) → Joins world number clone reply next → Joins world number clone other after → AreSame reply next other after
  joins_once clone =
      by_one_state (AreSame reply next other after) clone _ _ _ _ _ _ _ _ (λ p q. answers_once p q) (λ p q. answers_once p q) (λ p q. answers_once p q)
      (λ stored held p q. answers_once p q)

  -- a clone that is asked for a leaf has one outcome: it asked itself, or its leaf is too deep, or it forks
  gives_once : (stored : Stored) (held : List Range) (id : ℕ) → TakesAsk world number stored held id reply next → TakesAsk world number stored held id other after
      → AreSame reply next other after
  gives_once stored held id (asked_itself own p) (asked_itself too q) = answers_once p q
  gives_once stored held id (asked_itself own p) (is_too_deep differs deep q) = absurd (differs own)
  gives_once stored held id (asked_itself own p) (forks differs room told is) = absurd (differs own)
  gives_once stored held id (is_too_deep differs deep p) (asked_itself own q) = absurd (differs own)
  gives_once stored held id (is_too_deep differs deep p) (is_too_deep too low q) = answers_once p q
  gives_once stored held id (is_too_deep differs deep p) (forks too room told is) = absurd (omega (arith, deep, room))
  gives_once stored held id (forks differs room told is) (asked_itself own q) = absurd (differs own)
  gives_once stored held id (forks differs room told is) (is_too_deep too deep q) = absurd (omega (arith, deep, room))
  gives_once stored held id (forks differs room told is) (forks too space said was) = (told ∙ sym said, is ∙ sym was)

  -- a leaf that comes to a clone that asks has one outcome: it is the clone that it was given to, or it isn't
  adopts_once : (id : ℕ) (path : List ℕ) (dots : List Range) → TakesLeaf world number id path dots reply next → TakesLeaf world number id path dots other after
      → AreSame reply next other after
  adopts_once id path dots (becomes_live own told is) (becomes_live too said was) = (told ∙ sym said, is ∙ sym was)
  adopts_once id path dots (becomes_live own told is) (leaves_it differs q) = absurd (differs own)
  adopts_once id path dots (leaves_it differs p) (becomes_live own told is) = absurd (differs own)
  adopts_once id path dots (leaves_it differs p) (leaves_it too q) = answers_once p q

  -- what one lacks is told in one way
  wants_taken_once : (dots : List Range) (stored : Stored) → TakesWant world dots stored reply next → TakesWant world dots stored other after
      → AreSame reply next other after
  wants_taken_once dots stored (lacks_nothing known none p) (lacks_nothing too nothing q) = answers_once p q
  wants_taken_once dots stored (lacks_nothing known none p) (sends_ranges ranges too drops some told is) =
      absurd (some (drops_one (IsKnown dots) stored.journal ranges [] drops none))
  wants_taken_once dots stored (lacks_nothing known none p) (sends_snapshot behind told is) = absurd (behind known)
  wants_taken_once dots stored (sends_ranges ranges known drops some told is) (lacks_nothing too none q) =
      absurd (some (drops_one (IsKnown dots) stored.journal ranges [] drops none))
  wants_taken_once dots stored (sends_ranges ranges known drops some told is) (sends_ranges others too left more said was) =
      let same : ranges ≡ others = drops_one (IsKnown dots) stored.journal ranges others drops left in (
        told ∙ ap (λ (rs : List Range). Answer (range_with_len (length world.messages + 1) (length rs))) same ∙ sym said,
        is ∙ ap (λ (rs : List Range). record world { messages = world.messages ++ map RangeOf rs }) same ∙ sym was,
      )
  wants_taken_once dots stored (sends_ranges ranges known drops some told is) (sends_snapshot behind said was) = absurd (behind known)
  wants_taken_once dots stored (sends_snapshot behind told is) (lacks_nothing known none q) = absurd (behind known)
  wants_taken_once dots stored (sends_snapshot behind told is) (sends_ranges ranges known drops some said was) = absurd (behind known)
  wants_taken_once dots stored (sends_snapshot behind told is) (sends_snapshot too said was) = (told ∙ sym said, is ∙ sym was)

  -- a snapshot that is merged has one outcome
  merges_once : (stored : Stored) (held dots : List Range) → Merges world number stored held dots reply next → Merges world number stored held dots other after
      → AreSame reply next other after
  merges_once stored held dots p q =
      let same = releases_once world.history (merged_with stored dots) held p.taken q.taken p.after q.after p.left q.left p.releases q.releases in (
        p.replies ∙ ap Merged same.0 ∙ sym q.replies,
        p.changes ∙ (λ i. with_clone world number (Live (same.1 i) (same.2 i))) ∙ sym q.changes,
      )

  -- a snapshot that comes to a live clone has one outcome: all of it is known, or it is merged
  takes_snapshot_once : (stored : Stored) (held dots : List Range) → TakesSnapshot world number stored held dots reply next
      → TakesSnapshot world number stored held dots other after → AreSame reply next other after
  takes_snapshot_once stored held dots (knows_all known p) (knows_all too q) = answers_once p q
  takes_snapshot_once stored held dots (knows_all known p) (merges q) = absurd (q.lacks known)
  takes_snapshot_once stored held dots (merges p) (knows_all known q) = absurd (p.lacks known)
  takes_snapshot_once stored held dots (merges p) (merges q) = merges_once stored held dots p q

  -- a message that comes to a clone that asks has one outcome
  asker_takes_once : (message : Message) → AskerTakes world number message reply next → AskerTakes world number message other after → AreSame reply next other after
  asker_takes_once (JoinGive id path dots) p q = adopts_once id path dots p q
  asker_takes_once message p q = answers_once p q

  -- and so has one that comes to a live clone
  live_takes_once : (message : Message) (stored : Stored) (held : List Range) → LiveTakes world number message stored held reply next
      → LiveTakes world number message stored held other after → AreSame reply next other after
  live_takes_once (RangeOf range) stored held p q = receives_once stored held range p q
  live_takes_once (Want dots) stored held p q = wants_taken_once dots stored p q
  live_takes_once (JoinAsk id) stored held p q = gives_once stored held id p q
  live_takes_once (SnapshotOf dots) stored held p q = takes_snapshot_once stored held dots p q
  live_takes_once (JoinGive id path dots) stored held p q = answers_once p q

  -- whatever the state of the clone is
  takes_once : (message : Message) (clone : Clone) → Takes world number message clone reply next → Takes world number message clone other after
      → AreSame reply next other after
  takes_once message clone =
      by_one_state (AreSame reply next other after) clone _ _ _ _ _ _ _ _ (λ p q. answers_once p q) (asker_takes_once message) (λ p q. answers_once p q)
      (live_takes_once message)

  -- a clone that asks for what it lacks has one outcome
  asks_once : (clone : Clone) → Wants world clone reply next → Wants world clone other after → AreSame reply next other after
  asks_once clone = once_if_live world clone reply other next after _ _ (λ stored held p q. (p.0 ∙ sym q.0, p.1 ∙ sym q.1))

  -- and so has one that compacts its journal
  compacts_once : (clone : Clone) → Compacts world number clone reply next → Compacts world number clone other after → AreSame reply next other after
  compacts_once clone =
      once_if_live world clone reply other next after _ _ (λ stored held p q.
      let same : p.0 ≡ q.0 = compacted_once stored.journal p.0 q.0 p.1 q.1 in (
        p.2 ∙ ap (λ (ranges : List Range). Kept (length ranges)) same ∙ sym q.2,
        p.3 ∙ ap (λ (ranges : List Range). with_clone world number (Live (record stored { journal = ranges }) held)) same ∙ sym q.3,
      ))

  -- and so has one that truncates it
  truncates_once : (keep : ℕ) (clone : Clone) → Truncates world number keep clone reply next → Truncates world number keep clone other after
      → AreSame reply next other after
  truncates_once keep clone =
      once_if_live world clone reply other next after _ _ (λ stored held p q. (p.0 ∙ sym q.0, p.1 ∙ sym q.1))

  -- a clone that is told to stop has one outcome
  stops_once : (clone : Clone) → Stops world number clone reply next → Stops world number clone other after → AreSame reply next other after
  stops_once clone =
      once_if_live world clone reply other next after _ _ (λ stored held p q. (p.0 ∙ sym q.0, p.1 ∙ sym q.1))

  -- a `deliver` has one outcome
  delivers_once : (sent : Option Message) → MatchOption sent (Answers world NoMessage reply next) (λ message. Takes world number message (clone_at world number) reply next)
      → MatchOption sent (Answers world NoMessage other after) (λ message. Takes world number message (clone_at world number) other after) → AreSame reply next other after
  delivers_once None p q = answers_once p q
  delivers_once (Some message) p q = takes_once message (clone_at world number) p q

-- a step of a world by a plain command whose plan is in form has one reply, and leads to one world
pub plain_once : (world : World) (command : Command) (reply other : Reply) (next after : World) → HasPlanInForm command
    → PlainStep world command reply next → PlainStep world command other after → AreSame reply next other after
plain_once world (Add number triple) reply other next after form p q =
    planned_once world number reply other next after (insertion_of triple) (insertion_in_form triple) (clone_at world number) p q
plain_once world (Remove number triple) reply other next after form p q =
    planned_once world number reply other next after (deletion_of triple) (deletion_in_form triple) (clone_at world number) p q
plain_once world (Update number plan) reply other next after form p q =
    planned_once world number reply other next after plan form (clone_at world number) p q
plain_once world (Deliver message number) reply other next after form p q = delivers_once world number reply other next after (message_at world message) p q
plain_once world (Show number) reply other next after form p q = lists_once world (clone_at world number) reply other next after p q
plain_once world (Query number read) reply other next after form p q = queries_once world read (clone_at world number) reply other next after p q
plain_once world (Join number) reply other next after form p q = joins_once world number reply other next after (clone_at world number) p q
plain_once world (Ask number) reply other next after form p q = asks_once world number reply other next after (clone_at world number) p q
plain_once world (Compact number) reply other next after form p q = compacts_once world number reply other next after (clone_at world number) p q
plain_once world (Truncate number keep) reply other next after form p q = truncates_once world number reply other next after keep (clone_at world number) p q
plain_once world (Stop number) reply other next after form p q = stops_once world number reply other next after (clone_at world number) p q
plain_once world (Open number) reply other next after form p q = opens_once world number (clone_at world number) reply other next after p q
plain_once world (Compare number second) reply other next after form p q =
    weighs_once world (clone_at world number) (clone_at world second) reply other next after p q
plain_once world (Crash call leave task) reply other next after form p q = absurd p
