-- What an answer of a plain command that tells of a dot promises is kept by each step of a plain command.
use Rattle.std.specs.Prelude.{◌≡◌, ℕ, ◌<◌, List, [], ◌∷◌, ◌++◌, ◌-◌, Option, Some, None, MatchOption, length, take, drop}
use Rattle.std.proofs.Common.{refl, sym, ◌∙◌, ap, subst, inl, inr, get_or, set, append_assoc}
use Rattle.std.proofs.lemmas.Bool.{cases_eq}
use Rattle.std.proofs.lemmas.List.{get_or-set_same, get_or-set_other, take-append-drop}
use Rattle.tree_clock.specs.declared.dots.Dot.{Dot}
use Rattle.tree_clock.specs.declared.dots.Range.{Range}
use Rattle.tree_clock.specs.Lists.{Has}
use Rattle.tree_clock.specs.Dot.{Knows}
use Rattle.tree_clock.specs.DotLaws.{Knows-append}
use Rattle.rdf_terms.specs.declared.terms.Triple.{Triple}
use Rattle.mld_ops.specs.declared.tagged.Tagged.{Tagged}
use Rattle.mld_ops.specs.Present.{present}
use Rattle.mld_ops.specs.History.{Operation, dot_at}
use Rattle.mld_ops.specs.Meaning.{IsMeaning}
use Rattle.mld_ops.specs.Effect.{range_of}
use Rattle.mld_ops.proofs.OperationLaws.{range_of_has}
use Rattle.schedule_model.specs.declared.Command.TheVariants.{Add, Remove, Update, Deliver, Show, Query, Compare, Join, Ask, Compact, Truncate, Stop, Open, Crash}
use Rattle.schedule_model.specs.declared.Command.{Command}
use Rattle.mld_ops.specs.Effects.{EffectValue, DeletesAll, operation_of}
use Rattle.jrql_ast.specs.declared.plans.UpdatePlan.{UpdatePlan}
use Rattle.jrql_ast.specs.Templates.{insertion_of, deletion_of}
use Rattle.jrql_eval.specs.PlanEffects.{IsPlanEffect}
use Rattle.mld_model.specs.Clone.{Clone, Absent, Asking, Down, Live, Stored, kept_of, known_of, with_range, merged_with, truncated_to, AreKnownTo}
use Rattle.mld_model.specs.World.{World, Message, RangeOf, Want, SnapshotOf, JoinAsk, JoinGive, message_at, clone_at, with_clone}
use Rattle.mld_model.specs.Reply.{Reply, NoMessage, IsAbsent, IsAsking, IsDown, Same, Less, More, Apart, Tells, TooMany}
use Rattle.mld_model.specs.Comparing.{ComparesBy}
use Rattle.mld_model.specs.CloneStep.{Answers, IsNextTick, Makes, Updates, changes_nothing, breaks_single, makes_operation, holds_already, holds_too_many, holds_from_now, TakesRange, knows_already, accepts, holds_back, Asks, Joins, left_half, TakesAsk, asked_itself, is_too_deep, forks, joined_with, TakesLeaf, becomes_live, leaves_it, AskerTakes, LiveTakes, Takes, Stops, Reopens, Lists, ComparesWith, Weighs, TakesWant, lacks_nothing, sends_ranges, sends_snapshot, TakesSnapshot, knows_all, merges, Wants, Compacts, Truncates}
use Rattle.mld_model.proofs.StateLaws.{by_state, IsState, is_absent, is_asking, is_down, if_live, IsStanding, stands_absent, stands_asking, stands_live, if_opens}
use Rattle.schedule_model.specs.Step.{number_of_clone}
use Rattle.schedule_model.specs.PlainStep.{PlainStep}
use Rattle.mld_model.specs.Sound.{Keeps}
use Rattle.mld_model.proofs.LeafLaws.{place_of_clone}
use Rattle.mld_model.proofs.StoredLaws.{kept_then}
use Rattle.mld_model.proofs.CompactedJournals.{known_compacted}
use Rattle.mld_model.proofs.ReleaseLaws.{releases_known}
use Rattle.mld_model.proofs.KnownLaws.{known_with-old, known_with-new}
use Rattle.schedule_model.specs.Updating.{UpdatesByPlan, AddsTriple}
use Rattle.schedule_model.proofs.PlanLaws.{insertion_effect, deletion_effect, if_planned}
use Rattle.schedule_model.proofs.StepLaws.{one_next_tick}
use Rattle.schedule_model.proofs.PlainSound.{lists_same, queries_same, weighs_same}
use Rattle.jrql_update.specs.jrql_patterns.declared.queries.ReadQuery.{ReadQuery}
use Rattle.schedule_model.specs.Querying.{AnswersQuery, Queries}
use Rattle.schedule_model.specs.Answers.{Remembers, RemembersUpdate, TellsOfDot, Survives}

-- ---- the step that makes an operation

-- a number at which a live clone stands is one of the places
place_of_live : (world : World) (number : ℕ) (stored : Stored) (held : List Range) → clone_at world number ≡ Live stored held → number < length world.clones
place_of_live world number stored held is =
    place_of_clone world.clones number stored (subst (λ (clone : Clone). Keeps clone stored) (sym is) refl)

-- the operation of a clone with this tick
abbrev own_operation : Stored → ℕ → EffectValue → Operation
own_operation stored tick effect = operation_of (dot_at stored.path tick) (known_of stored) effect

-- the clone that made an operation remembers it
makes_remembers : (world : World) (number : ℕ) (stored : Stored) (held : List Range) (effect : EffectValue) (reply : Reply) (next : World)
    → clone_at world number ≡ Live stored held → (made : Makes world number stored held effect reply next)
    → Remembers next number (own_operation stored made.tick effect)
makes_remembers world number stored held effect reply next is made =
    let own : Dot = dot_at stored.path made.tick in
    let inside : number < length world.clones = place_of_live world number stored held is in
    subst (λ (world : World). Remembers world number (own_operation stored made.tick effect)) (sym made.changes) (record {
      stored = with_range stored (range_of own);
      keeps = subst (λ (clone : Clone). Keeps clone (with_range stored (range_of own)))
          (sym (get_or-set_same world.clones number (Live (with_range stored (range_of own)) held) Absent inside)) refl;
      known = known_with-new stored (range_of own) own (range_of_has own own refl);
      stands = inl refl;
    })

-- and it stands at the head of the history
made_head : (world : World) (number : ℕ) (stored : Stored) (held : List Range) (effect : EffectValue) (reply : Reply) (next : World)
    → (made : Makes world number stored held effect reply next)
    → next.history ≡ own_operation stored made.tick effect ∷ world.history
made_head world number stored held effect reply next made = ap (λ (w : World). w.history) made.changes

-- how two sets of dots compare is told without a dot
compares_tell_none : (Within Back : Type 0) (reply : Reply) (dot : Dot) → TellsOfDot reply dot → ¬ ComparesBy Within Back reply
compares_tell_none Within Back Same dot tells compares = tells
compares_tell_none Within Back Less dot tells compares = tells
compares_tell_none Within Back More dot tells compares = tells
compares_tell_none Within Back Apart dot tells compares = tells
compares_tell_none Within Back reply dot tells compares = compares

-- and so is an answer to a query
queries_tell_nothing : (graph : List Triple) (read : ReadQuery) (reply : Reply) (dot : Dot) → TellsOfDot reply dot → ¬ AnswersQuery graph read reply
queries_tell_nothing graph read (Tells text) dot tells answers = tells
queries_tell_nothing graph read TooMany dot tells answers = tells
queries_tell_nothing graph read reply dot tells answers = answers

-- a step whose reply tells of a dot, and the world after it
module _ (world next : World) (reply : Reply) (dot : Dot) (tells : TellsOfDot reply dot) where
  -- so does the answer that it is
  told_by : (answer : Reply) → reply ≡ answer → TellsOfDot answer dot
  told_by answer same = subst (λ (r : Reply). TellsOfDot r dot) same tells

  -- a clone's state tells of no dot
  state_tells_none : (answer : Reply) → IsState answer → ¬ Answers world answer reply next
  state_tells_none answer is_absent p = told_by IsAbsent p.0
  state_tells_none answer is_asking p = told_by IsAsking p.0
  state_tells_none answer is_down p = told_by IsDown p.0

  -- and neither does that of a clone which is told to open
  standing_tells_none : (answer : Reply) → IsStanding answer → ¬ Answers world answer reply next
  standing_tells_none answer stands_absent p = told_by _ p.0
  standing_tells_none answer stands_asking p = told_by _ p.0
  standing_tells_none answer stands_live p = told_by _ p.0

  -- an update that tells of a dot made an operation, and its clone remembers it
  updates_remember : (number : ℕ) (rule : List Tagged → EffectValue → Type 0) (stored : Stored) (held : List Range) (pairs : List Tagged) (effect : EffectValue)
      → clone_at world number ≡ Live stored held → IsMeaning world.history (known_of stored) pairs
      → ((tick : ℕ) → IsNextTick (known_of stored) stored.path tick → dot_at stored.path tick ≡ dot → rule pairs effect)
      → Updates world number stored held pairs effect reply next → RemembersUpdate world number rule dot next
  updates_remember number rule stored held pairs effect is meant does (changes_nothing none p) = absurd (told_by _ p.0)
  updates_remember number rule stored held pairs effect is meant does (breaks_single some place first p) = absurd (told_by _ p.0)
  updates_remember number rule stored held pairs effect is meant does (makes_operation some fits p) = (
    own_operation stored p.tick effect,
    record {
      effect = effect;
      some = some;
      stored = stored;
      held = held;
      live = is;
      pairs = pairs;
      meant = meant;
      does = does p.tick p.is_next (told_by _ p.replies);
      is = ap (λ (d : Dot). operation_of d (known_of stored) effect) (told_by _ p.replies);
    },
    made_head world number stored held effect reply next p,
    makes_remembers world number stored held effect reply next is p,
  )

  planned_remember : (number : ℕ) (plan : UpdatePlan) (rule : List Tagged → EffectValue → Type 0)
      → ((pairs : List Tagged) (effect : EffectValue) → IsPlanEffect world.domain dot pairs plan effect → rule pairs effect)
      → UpdatesByPlan world number plan (clone_at world number) reply next → RemembersUpdate world number rule dot next
  planned_remember number plan rule means =
      if_planned (RemembersUpdate world number rule dot next) world number plan (clone_at world number) reply next
      (λ answer state p. absurd (state_tells_none answer state p)) (λ p. absurd (told_by _ p.0))
      (λ stored held pairs tick effect live meant is_next has p. updates_remember number rule stored held pairs effect live meant
      (λ own comes same. means pairs effect (subst (λ (at : Dot). IsPlanEffect world.domain at pairs plan effect)
      (ap (λ (n : ℕ). dot_at stored.path n) (one_next_tick (known_of stored) stored.path tick own is_next comes) ∙ same) has)) p)

  -- a range that comes to a live clone is answered without a dot
  receives_tell_none : (number : ℕ) (stored : Stored) (held : List Range) (range : Range) → ¬ TakesRange world number stored held range reply next
  receives_tell_none number stored held range (knows_already known p) = told_by _ p.0
  receives_tell_none number stored held range (accepts p) = told_by _ p.replies
  receives_tell_none number stored held range (holds_back back (holds_already has p)) = told_by _ p.0
  receives_tell_none number stored held range (holds_back back (holds_too_many lacks full p)) = told_by _ p.0
  receives_tell_none number stored held range (holds_back back (holds_from_now lacks few told is)) = told_by _ told

  -- and so is a question for a leaf
  gives_tell_none : (number : ℕ) (stored : Stored) (held : List Range) (id : ℕ) → ¬ TakesAsk world number stored held id reply next
  gives_tell_none number stored held id (asked_itself own p) = told_by _ p.0
  gives_tell_none number stored held id (is_too_deep differs deep p) = told_by _ p.0
  gives_tell_none number stored held id (forks differs room told is) = told_by _ told

  -- and so is a want
  wants_taken_tell_none : (dots : List Range) (stored : Stored) → ¬ TakesWant world dots stored reply next
  wants_taken_tell_none dots stored (lacks_nothing known none p) = told_by _ p.0
  wants_taken_tell_none dots stored (sends_ranges ranges known drops some told is) = told_by _ told
  wants_taken_tell_none dots stored (sends_snapshot behind told is) = told_by _ told

  -- and so is a snapshot
  takes_snapshot_tell_none : (number : ℕ) (stored : Stored) (held dots : List Range) → ¬ TakesSnapshot world number stored held dots reply next
  takes_snapshot_tell_none number stored held dots (knows_all known p) = told_by _ p.0
  takes_snapshot_tell_none number stored held dots (merges p) = told_by _ p.replies

  -- a leaf that comes to a clone that asks
  adopts_tell_none : (number id : ℕ) (path : List ℕ) (dots : List Range) → ¬ TakesLeaf world number id path dots reply next
  adopts_tell_none number id path dots (becomes_live own told is) = told_by _ told
  adopts_tell_none number id path dots (leaves_it differs p) = told_by _ p.0

  -- whatever comes to a clone that asks
  asker_takes_tell_none : (number : ℕ) (sent : Message) → ¬ AskerTakes world number sent reply next
  asker_takes_tell_none number (JoinGive id path dots) p = adopts_tell_none number id path dots p
  asker_takes_tell_none number sent p = told_by _ p.0

  -- to a live clone
  live_takes_tell_none : (number : ℕ) (sent : Message) (stored : Stored) (held : List Range) → ¬ LiveTakes world number sent stored held reply next
  live_takes_tell_none number (RangeOf range) stored held p = receives_tell_none number stored held range p
  live_takes_tell_none number (Want dots) stored held p = wants_taken_tell_none dots stored p
  live_takes_tell_none number (JoinAsk id) stored held p = gives_tell_none number stored held id p
  live_takes_tell_none number (SnapshotOf dots) stored held p = takes_snapshot_tell_none number stored held dots p
  live_takes_tell_none number (JoinGive id path dots) stored held p = told_by _ p.0

  -- to any clone
  takes_tell_none : (number : ℕ) (sent : Message) (clone : Clone) → ¬ Takes world number sent clone reply next
  takes_tell_none number sent clone =
      by_state ⊥ clone _ _ _ _ (λ is. state_tells_none IsAbsent is_absent) (λ is. asker_takes_tell_none number sent) (state_tells_none IsDown is_down)
      (λ stored held is. live_takes_tell_none number sent stored held)

  -- a `deliver`
  delivers_tell_none : (number : ℕ) (sent : Option Message)
      → ¬ MatchOption sent (Answers world NoMessage reply next) (λ it. Takes world number it (clone_at world number) reply next)
  delivers_tell_none number None p = told_by _ p.0
  delivers_tell_none number (Some it) p = takes_tell_none number it (clone_at world number) p

  -- a `show`
  lists_tell_none : (clone : Clone) → ¬ Lists world clone reply next
  lists_tell_none clone =
      if_live ⊥ world clone reply next _ (λ answer state. state_tells_none answer state) (λ stored held live p. told_by _ p.2.0)

  -- a `query`
  queries_tell_none : (read : ReadQuery) (clone : Clone) → ¬ Queries world read clone reply next
  queries_tell_none read clone =
      if_live ⊥ world clone reply next _ (λ answer state. state_tells_none answer state) (λ stored held live p. queries_tell_nothing (present p.0) read reply dot tells p.2)

  -- a `join`
  joins_tell_none : (number : ℕ) (clone : Clone) → ¬ Joins world number clone reply next
  joins_tell_none number clone =
      by_state ⊥ clone _ _ _ _ (λ is p. told_by _ p.0) (λ is p. told_by _ p.0) (state_tells_none IsDown is_down) (λ stored held is p. told_by _ p.0)

  -- an `ask`
  wants_tell_none : (clone : Clone) → ¬ Wants world clone reply next
  wants_tell_none clone =
      if_live ⊥ world clone reply next _ (λ answer state. state_tells_none answer state) (λ stored held live p. told_by _ p.0)

  -- a `compact`
  compacts_tell_none : (number : ℕ) (clone : Clone) → ¬ Compacts world number clone reply next
  compacts_tell_none number clone =
      if_live ⊥ world clone reply next _ (λ answer state. state_tells_none answer state) (λ stored held live p. told_by _ p.2)

  -- a `truncate`
  truncates_tell_none : (number keep : ℕ) (clone : Clone) → ¬ Truncates world number keep clone reply next
  truncates_tell_none number keep clone =
      if_live ⊥ world clone reply next _ (λ answer state. state_tells_none answer state) (λ stored held live p. told_by _ p.0)

  -- a `stop`
  stops_tell_none : (number : ℕ) (clone : Clone) → ¬ Stops world number clone reply next
  stops_tell_none number clone =
      if_live ⊥ world clone reply next _ (λ answer state. state_tells_none answer state) (λ stored held live p. told_by _ p.0)

  -- an `open`
  opens_tell_none : (number : ℕ) (clone : Clone) → ¬ Reopens world number clone reply next
  opens_tell_none number clone =
      if_opens ⊥ world number clone reply next (λ answer state. standing_tells_none answer state)
      (λ empty told same. told_by _ told) (λ stored down told same. told_by _ told)

  compares_with_tell_none : (stored : Stored) (clone : Clone) → ¬ ComparesWith world stored clone reply next
  compares_with_tell_none stored clone =
      if_live ⊥ world clone reply next _ (λ answer state. state_tells_none answer state)
      (λ other held live p. compares_tell_none (AreKnownTo (known_of stored) (known_of other)) (AreKnownTo (known_of other) (known_of stored)) reply dot tells p.0)

  weighs_tell_none : (clone other : Clone) → ¬ Weighs world clone other reply next
  weighs_tell_none clone other =
      if_live ⊥ world clone reply next _ (λ answer state. state_tells_none answer state)
      (λ stored held live. compares_with_tell_none stored other)

-- what a command remembers of an update by this rule, whatever its reply and the world after it are
abbrev pub UpdateRule : World → Command → ℕ → (List Tagged → EffectValue → Type 0) → Dot → Type 0
UpdateRule world command number rule dot =
    (reply : Reply) (next : World) → TellsOfDot reply dot → PlainStep world command reply next → RemembersUpdate world number rule dot next

-- the dot that an `add` tells of is that of an operation which inserts just the triple, and the clone remembers it
pub add_rule : (world : World) (number : ℕ) (triple : Triple) (dot : Dot) → UpdateRule world (Add number triple) number (AddsTriple triple) dot
add_rule world number triple dot reply next tells p =
    planned_remember world next reply dot tells number (insertion_of triple) (AddsTriple triple) (λ pairs. insertion_effect world.domain dot pairs triple) p

-- the dot that a `remove` tells of is that of an operation which deletes the pairs of the triple, and the clone remembers it
pub remove_rule : (world : World) (number : ℕ) (triple : Triple) (dot : Dot) → UpdateRule world (Remove number triple) number (DeletesAll triple) dot
remove_rule world number triple dot reply next tells p =
    planned_remember world next reply dot tells number (deletion_of triple) (DeletesAll triple) (λ pairs. deletion_effect world.domain dot pairs triple) p

-- the dot that an `update` tells of is that of an operation by the effect of its plan, and the clone remembers it
pub update_rule : (world : World) (number : ℕ) (plan : UpdatePlan) (dot : Dot)
    → UpdateRule world (Update number plan) number (λ pairs effect. IsPlanEffect world.domain dot pairs plan effect) dot
update_rule world number plan dot reply next tells p =
    planned_remember world next reply dot tells number plan (λ pairs effect. IsPlanEffect world.domain dot pairs plan effect) (λ pairs effect has. has) p

-- whatever its plan is, the clone remembers the operation
planned_survives : (world : World) (number : ℕ) (plan : UpdatePlan) (reply : Reply) (dot : Dot) (next : World) → TellsOfDot reply dot
    → UpdatesByPlan world number plan (clone_at world number) reply next → Survives world next dot next number
planned_survives world number plan reply dot next tells p =
    let made = planned_remember world next reply dot tells number plan (λ pairs effect. IsPlanEffect world.domain dot pairs plan effect) (λ pairs effect has. has) p in
    record { operation = made.0; is = ap (λ (o : Operation). o.dot) made.1.is; made = made.2; remembers = made.3 }

-- the dot that a plain command tells of is that of an operation which its step put at the head of the history, and its clone
-- remembers it
pub plain_tells : (world : World) (command : Command) (reply : Reply) (dot : Dot) (next : World) → TellsOfDot reply dot → PlainStep world command reply next
    → Survives world next dot next (number_of_clone command)
plain_tells world (Add number triple) reply dot next tells p = planned_survives world number (insertion_of triple) reply dot next tells p
plain_tells world (Remove number triple) reply dot next tells p = planned_survives world number (deletion_of triple) reply dot next tells p
plain_tells world (Update number plan) reply dot next tells p = planned_survives world number plan reply dot next tells p
plain_tells world (Deliver sent number) reply dot next tells p = absurd (delivers_tell_none world next reply dot tells number (message_at world sent) p)
plain_tells world (Show number) reply dot next tells p = absurd (lists_tell_none world next reply dot tells (clone_at world number) p)
plain_tells world (Query number read) reply dot next tells p = absurd (queries_tell_none world next reply dot tells read (clone_at world number) p)
plain_tells world (Join number) reply dot next tells p = absurd (joins_tell_none world next reply dot tells number (clone_at world number) p)
plain_tells world (Ask number) reply dot next tells p = absurd (wants_tell_none world next reply dot tells (clone_at world number) p)
plain_tells world (Compact number) reply dot next tells p = absurd (compacts_tell_none world next reply dot tells number (clone_at world number) p)
plain_tells world (Truncate number keep) reply dot next tells p = absurd (truncates_tell_none world next reply dot tells number keep (clone_at world number) p)
plain_tells world (Stop number) reply dot next tells p = absurd (stops_tell_none world next reply dot tells number (clone_at world number) p)
plain_tells world (Open number) reply dot next tells p = absurd (opens_tell_none world next reply dot tells number (clone_at world number) p)
plain_tells world (Compare number other) reply dot next tells p = absurd (weighs_tell_none world next reply dot tells (clone_at world number) (clone_at world other) p)
plain_tells world (Crash call leave task) reply dot next tells p = absurd p

-- ---- the steps behind it

-- a clone that merges knows what it knew
pub merged_knows : (stored : Stored) (dots : List Range) (dot : Dot) → Knows (known_of stored) dot → Knows (known_of (merged_with stored dots)) dot
merged_knows stored dots dot known =
    (Knows-append (known_of stored ++ dots) [] dot).1 (inl ((Knows-append (known_of stored) dots dot).1 (inl known)))

-- and so does one that truncates its journal
truncated_knows : (stored : Stored) (keep : ℕ) → known_of (truncated_to stored keep) ≡ known_of stored
truncated_knows stored keep =
    let cut : ℕ = length stored.journal - keep in
    append_assoc stored.base (take cut stored.journal) (drop cut stored.journal) ∙ ap (λ (ranges : List Range). stored.base ++ ranges) (take-append-drop cut stored.journal)

-- what is remembered before a step is remembered after it
module _ (world next : World) (number : ℕ) (operation : Operation) (remembers : Remembers world number operation) where
  -- a world that is left as it was remembers what it did
  same_remembers : next ≡ world → Remembers next number operation
  same_remembers same = subst (λ (world : World). Remembers world number operation) (sym same) remembers

  -- a world in which more was said remembers what it did
  told_remembers : next.clones ≡ world.clones → next.history ≡ world.history → Remembers next number operation
  told_remembers clones history = record {
    stored = remembers.stored;
    keeps = subst (λ (cs : List Clone). Keeps (get_or cs number Absent) remembers.stored) (sym clones) remembers.keeps;
    known = remembers.known;
    stands = subst (λ (operations : List Operation). Has operations operation) (sym history) remembers.stands;
  }

  -- a world where one live clone knows no fewer dots, and whose history has grown, remembers what it did
  pub grown_remembers : (grower : ℕ) (stored grown : Stored) (held left : List Range) → clone_at world grower ≡ Live stored held
      → next.clones ≡ set world.clones grower (Live grown left) → ((dot : Dot) → Knows (known_of stored) dot → Knows (known_of grown) dot)
      → ((other : Operation) → Has world.history other → Has next.history other) → Remembers next number operation
  grown_remembers grower stored grown held left live clones knows grows =
      let now : Clone = Live grown left in
      let at : clone_at next number ≡ get_or (set world.clones grower now) number Absent = ap (λ (cs : List Clone). get_or cs number Absent) clones in
      elim (cases_eq number grower) [
        | inl same ↦
            let here : clone_at world number ≡ Live stored held = subst (λ (k : ℕ). clone_at world k ≡ Live stored held) (sym same) live in
            let kept : remembers.stored ≡ stored = sym (subst (λ (clone : Clone). Keeps clone remembers.stored) here remembers.keeps) in
            let live_now : clone_at next number ≡ now =
            at ∙ ap (λ (k : ℕ). get_or (set world.clones grower now) k Absent) same
            ∙ get_or-set_same world.clones grower now Absent (place_of_live world grower stored held live) in
            record {
              stored = grown;
              keeps = subst (λ (clone : Clone). Keeps clone grown) (sym live_now) refl;
              known = knows operation.dot (subst (λ (s : Stored). Knows (known_of s) operation.dot) kept remembers.known);
              stands = grows operation remembers.stands;
            }
        | inr differs ↦ record {
          stored = remembers.stored;
          keeps = subst (λ (clone : Clone). Keeps clone remembers.stored) (sym (at ∙ get_or-set_other world.clones grower number now Absent differs)) remembers.keeps;
          known = remembers.known;
          stands = grows operation remembers.stands;
        }
      ]

  -- a clone that makes an operation leads to such a world
  makes_keeps : (maker : ℕ) (stored : Stored) (held : List Range) (effect : EffectValue) (reply : Reply) → clone_at world maker ≡ Live stored held
      → Makes world maker stored held effect reply next → Remembers next number operation
  makes_keeps maker stored held effect reply is made =
      grown_remembers maker stored (with_range stored (range_of (dot_at stored.path made.tick))) held held is (ap (λ (w : World). w.clones) made.changes) (known_with-old stored (range_of (dot_at stored.path made.tick))) (λ other stands. subst (λ (w : World). Has w.history other) (sym made.changes) (inr stands))

  -- what is remembered stays so at an update
  updates_keep : (maker : ℕ) (stored : Stored) (held : List Range) (pairs : List Tagged) (effect : EffectValue) (reply : Reply) → clone_at world maker ≡ Live stored held
      → Updates world maker stored held pairs effect reply next → Remembers next number operation
  updates_keep maker stored held pairs effect reply is (changes_nothing none p) = same_remembers p.1
  updates_keep maker stored held pairs effect reply is (breaks_single some place first p) = same_remembers p.1
  updates_keep maker stored held pairs effect reply is (makes_operation some fits p) = makes_keeps maker stored held effect reply is p

  planned_keep : (maker : ℕ) (plan : UpdatePlan) (reply : Reply) → UpdatesByPlan world maker plan (clone_at world maker) reply next → Remembers next number operation
  planned_keep maker plan reply =
      if_planned (Remembers next number operation) world maker plan (clone_at world maker) reply next (λ answer state p. same_remembers p.1)
      (λ p. same_remembers p.1) (λ stored held pairs tick effect live meant is_next has p. updates_keep maker stored held pairs effect reply live p)

  -- where a range comes to a live clone
  receives_keep : (taker : ℕ) (stored : Stored) (held : List Range) (range : Range) (reply : Reply) → clone_at world taker ≡ Live stored held
      → TakesRange world taker stored held range reply next → Remembers next number operation
  receives_keep taker stored held range reply is (knows_already known p) = same_remembers p.1
  receives_keep taker stored held range reply is (accepts p) =
      grown_remembers taker stored p.after held p.left is (ap (λ (w : World). w.clones) p.changes) (λ dot known. releases_known world.history (with_range stored range) held p.taken p.after p.left p.releases dot (known_with-old stored range dot known)) (λ other stands. subst (λ (w : World). Has w.history other) (sym p.changes) stands)
  receives_keep taker stored held range reply is (holds_back back (holds_already has p)) = same_remembers p.1
  receives_keep taker stored held range reply is (holds_back back (holds_too_many lacks full p)) = same_remembers p.1
  receives_keep taker stored held range reply is (holds_back back (holds_from_now lacks few told same)) =
      grown_remembers taker stored stored held (held ++ range ∷ []) is (ap (λ (w : World). w.clones) same) (λ dot known. known) (λ other stands. subst (λ (w : World). Has w.history other) (sym same) stands)

  -- a world where a clone that kept nothing has become something else, and whose history is the same, remembers what it did
  woken_remembers : (waker : ℕ) (now : Clone) → ((stored : Stored) → ¬ Keeps (clone_at world waker) stored) → next.clones ≡ set world.clones waker now
      → next.history ≡ world.history → Remembers next number operation
  woken_remembers waker now asleep clones history = record {
    stored = remembers.stored;
    keeps = subst (λ (clone : Clone). Keeps clone remembers.stored)
        (sym (ap (λ (cs : List Clone). get_or cs number Absent) clones
        ∙ get_or-set_other world.clones waker number now Absent
        (λ same. asleep remembers.stored (subst (λ (k : ℕ). Keeps (clone_at world k) remembers.stored) same remembers.keeps))))
        remembers.keeps;
    known = remembers.known;
    stands = subst (λ (operations : List Operation). Has operations operation) (sym history) remembers.stands;
  }

  -- where a clone that keeps nothing asks for a leaf
  asks_keep : (asker : ℕ) (clone : Clone) (reply : Reply) → clone_at world asker ≡ clone → ((stored : Stored) → ¬ Keeps clone stored)
      → Asks world asker reply next → Remembers next number operation
  asks_keep asker clone reply is none p =
      woken_remembers asker Asking (λ stored. subst (λ (clone : Clone). ¬ Keeps clone stored) (sym is) (none stored)) (ap (λ (w : World). w.clones) p.1) (ap (λ (w : World). w.history) p.1)

  -- where a clone is told to
  joins_keep : (asker : ℕ) (clone : Clone) (reply : Reply) → clone_at world asker ≡ clone → Joins world asker clone reply next → Remembers next number operation
  joins_keep asker clone reply is =
      by_state (Remembers next number operation) clone _ _ _ _ (λ state. asks_keep asker Absent reply (is ∙ state) (λ stored h. h))
      (λ state. asks_keep asker Asking reply (is ∙ state) (λ stored h. h)) (λ p. same_remembers p.1) (λ stored held live p. same_remembers p.1)

  -- a world where one clone is in another state and keeps what it kept, and whose history is the same, remembers what it did
  kept_remembers : (changer : ℕ) (now : Clone) → kept_of now ≡ kept_of (clone_at world changer) → next ≡ with_clone world changer now
      → Remembers next number operation
  kept_remembers changer now same is = subst (λ (w : World). Remembers w number operation) (sym is) (record {
    stored = remembers.stored;
    keeps = kept_then world.clones changer now same number remembers.stored remembers.keeps;
    known = remembers.known;
    stands = remembers.stands;
  })

  -- where a clone is told to stop
  stops_keep : (stopper : ℕ) (clone : Clone) (reply : Reply) → clone_at world stopper ≡ clone → Stops world stopper clone reply next → Remembers next number operation
  stops_keep stopper clone reply is =
      if_live (Remembers next number operation) world clone reply next _ (λ answer state p. same_remembers p.1)
      (λ stored held live p. kept_remembers stopper (Down stored) (ap kept_of (sym (is ∙ live))) p.1)

  -- where a clone is told to open
  opens_keep : (opener : ℕ) (clone : Clone) (reply : Reply) → clone_at world opener ≡ clone → Reopens world opener clone reply next → Remembers next number operation
  opens_keep opener clone reply is =
      if_opens (Remembers next number operation) world opener clone reply next (λ answer state p. same_remembers p.1)
      (λ empty told same. kept_remembers opener Asking (ap kept_of (sym (is ∙ empty))) same)
      (λ stored down told same. kept_remembers opener (Live stored []) (ap kept_of (sym (is ∙ down))) same)

  -- where a live clone is asked for a leaf: one that forks knows what it knew
  gives_keep : (giver : ℕ) (stored : Stored) (held : List Range) (id : ℕ) (reply : Reply) → clone_at world giver ≡ Live stored held
      → TakesAsk world giver stored held id reply next → Remembers next number operation
  gives_keep giver stored held id reply is (asked_itself own p) = same_remembers p.1
  gives_keep giver stored held id reply is (is_too_deep differs deep p) = same_remembers p.1
  gives_keep giver stored held id reply is (forks differs room told same) =
      grown_remembers giver stored (left_half stored) held held is (ap (λ (w : World). w.clones) same) (λ dot known. known) (λ other stands. subst (λ (w : World). Has w.history other) (sym same) stands)

  -- where it is asked for what another lacks
  wants_taken_keep : (dots : List Range) (stored : Stored) (reply : Reply) → TakesWant world dots stored reply next → Remembers next number operation
  wants_taken_keep dots stored reply (lacks_nothing known none p) = same_remembers p.1
  wants_taken_keep dots stored reply (sends_ranges ranges known drops some told same) =
      told_remembers (ap (λ (w : World). w.clones) same) (ap (λ (w : World). w.history) same)
  wants_taken_keep dots stored reply (sends_snapshot behind told same) =
      told_remembers (ap (λ (w : World). w.clones) same) (ap (λ (w : World). w.history) same)

  -- where a snapshot comes to a live clone: one that merges knows what it knew
  takes_snapshot_keep : (taker : ℕ) (stored : Stored) (held dots : List Range) (reply : Reply) → clone_at world taker ≡ Live stored held
      → TakesSnapshot world taker stored held dots reply next → Remembers next number operation
  takes_snapshot_keep taker stored held dots reply is (knows_all known p) = same_remembers p.1
  takes_snapshot_keep taker stored held dots reply is (merges p) =
      grown_remembers taker stored p.after held p.left is (ap (λ (w : World). w.clones) p.changes) (λ dot known. releases_known world.history (merged_with stored dots) held p.taken p.after p.left p.releases dot (merged_knows stored dots dot known)) (λ other stands. subst (λ (w : World). Has w.history other) (sym p.changes) stands)

  -- where a clone asks for what it lacks
  wants_keep : (clone : Clone) (reply : Reply) → Wants world clone reply next → Remembers next number operation
  wants_keep clone reply =
      if_live (Remembers next number operation) world clone reply next _ (λ answer state p. same_remembers p.1)
      (λ stored held live p. told_remembers (ap (λ (w : World). w.clones) p.1) (ap (λ (w : World). w.history) p.1))

  -- where a clone compacts its journal: it knows what it knew
  compacts_keep : (compacter : ℕ) (clone : Clone) (reply : Reply) → clone_at world compacter ≡ clone → Compacts world compacter clone reply next
      → Remembers next number operation
  compacts_keep compacter clone reply is =
      if_live (Remembers next number operation) world clone reply next _ (λ answer state p. same_remembers p.1)
      (λ stored held live p. grown_remembers compacter stored (record stored { journal = p.0 }) held held (is ∙ live) (ap (λ (w : World). w.clones) p.3)
      (λ dot known. (known_compacted stored p.0 dot p.1).0 known) (λ other stands. subst (λ (w : World). Has w.history other) (sym p.3) stands))

  -- where it truncates it
  truncates_keep : (truncater keep : ℕ) (clone : Clone) (reply : Reply) → clone_at world truncater ≡ clone → Truncates world truncater keep clone reply next
      → Remembers next number operation
  truncates_keep truncater keep clone reply is =
      if_live (Remembers next number operation) world clone reply next _ (λ answer state p. same_remembers p.1)
      (λ stored held live p. grown_remembers truncater stored (truncated_to stored keep) held held (is ∙ live) (ap (λ (w : World). w.clones) p.1)
      (λ dot known. subst (λ (dots : List Range). Knows dots dot) (sym (truncated_knows stored keep)) known) (λ other stands. subst (λ (w : World). Has w.history other) (sym p.1) stands))

  -- where a leaf comes to a clone that asks
  adopts_keep : (taker id : ℕ) (path : List ℕ) (dots : List Range) (reply : Reply) → clone_at world taker ≡ Asking → TakesLeaf world taker id path dots reply next
      → Remembers next number operation
  adopts_keep taker id path dots reply is (becomes_live own told same) =
      woken_remembers taker (Live (joined_with path dots) []) (λ stored. subst (λ (clone : Clone). ¬ Keeps clone stored) (sym is) (λ h. h)) (ap (λ (w : World). w.clones) same) (ap (λ (w : World). w.history) same)
  adopts_keep taker id path dots reply is (leaves_it differs p) = same_remembers p.1

  -- where a message comes to a clone that asks
  asker_takes_keep : (taker : ℕ) (message : Message) (reply : Reply) → clone_at world taker ≡ Asking → AskerTakes world taker message reply next
      → Remembers next number operation
  asker_takes_keep taker (JoinGive id path dots) reply is p = adopts_keep taker id path dots reply is p
  asker_takes_keep taker message reply is p = same_remembers p.1

  -- to a live clone
  live_takes_keep : (taker : ℕ) (message : Message) (stored : Stored) (held : List Range) (reply : Reply) → clone_at world taker ≡ Live stored held
      → LiveTakes world taker message stored held reply next → Remembers next number operation
  live_takes_keep taker (RangeOf range) stored held reply is p = receives_keep taker stored held range reply is p
  live_takes_keep taker (Want dots) stored held reply is p = wants_taken_keep dots stored reply p
  live_takes_keep taker (JoinAsk id) stored held reply is p = gives_keep taker stored held id reply is p
  live_takes_keep taker (SnapshotOf dots) stored held reply is p = takes_snapshot_keep taker stored held dots reply is p
  live_takes_keep taker (JoinGive id path dots) stored held reply is p = same_remembers p.1

  -- to any clone
  takes_keep : (taker : ℕ) (message : Message) (clone : Clone) (reply : Reply) → clone_at world taker ≡ clone → Takes world taker message clone reply next
      → Remembers next number operation
  takes_keep taker message clone reply is =
      by_state (Remembers next number operation) clone _ _ _ _ (λ state p. same_remembers p.1) (λ asks. asker_takes_keep taker message reply (is ∙ asks))
      (λ p. same_remembers p.1) (λ stored held live. live_takes_keep taker message stored held reply (is ∙ live))

  -- at a `deliver`
  delivers_keep : (taker : ℕ) (sent : Option Message) (reply : Reply)
      → MatchOption sent (Answers world NoMessage reply next) (λ message. Takes world taker message (clone_at world taker) reply next) → Remembers next number operation
  delivers_keep taker None reply p = same_remembers p.1
  delivers_keep taker (Some message) reply p =
      takes_keep taker message (clone_at world taker) reply refl p

-- what is remembered before a step by a plain command is remembered after it
pub plain_remembers : (world : World) (number : ℕ) (operation : Operation) (command : Command) (reply : Reply) (next : World)
    → Remembers world number operation → PlainStep world command reply next → Remembers next number operation
plain_remembers world number operation (Add maker triple) reply next remembers p =
    planned_keep world next number operation remembers maker (insertion_of triple) reply p
plain_remembers world number operation (Remove maker triple) reply next remembers p =
    planned_keep world next number operation remembers maker (deletion_of triple) reply p
plain_remembers world number operation (Update maker plan) reply next remembers p =
    planned_keep world next number operation remembers maker plan reply p
plain_remembers world number operation (Deliver message taker) reply next remembers p =
    delivers_keep world next number operation remembers taker (message_at world message) reply p
plain_remembers world number operation (Show shower) reply next remembers p =
    same_remembers world next number operation remembers (lists_same world (clone_at world shower) reply next p)
plain_remembers world number operation (Query answerer read) reply next remembers p =
    same_remembers world next number operation remembers (queries_same world read (clone_at world answerer) reply next p)
plain_remembers world number operation (Join asker) reply next remembers p =
    joins_keep world next number operation remembers asker (clone_at world asker) reply refl p
plain_remembers world number operation (Ask asker) reply next remembers p =
    wants_keep world next number operation remembers (clone_at world asker) reply p
plain_remembers world number operation (Compact compacter) reply next remembers p =
    compacts_keep world next number operation remembers compacter (clone_at world compacter) reply refl p
plain_remembers world number operation (Truncate truncater keep) reply next remembers p =
    truncates_keep world next number operation remembers truncater keep (clone_at world truncater) reply refl p
plain_remembers world number operation (Stop stopper) reply next remembers p =
    stops_keep world next number operation remembers stopper (clone_at world stopper) reply refl p
plain_remembers world number operation (Open opener) reply next remembers p =
    opens_keep world next number operation remembers opener (clone_at world opener) reply refl p
plain_remembers world number operation (Compare one other) reply next remembers p =
    same_remembers world next number operation remembers (weighs_same world (clone_at world one) (clone_at world other) reply next p)
plain_remembers world number operation (Crash call leave task) reply next remembers p = absurd p
