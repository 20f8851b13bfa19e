-- The durable steps of a plain command lead to the next world, and are one list.
use Rattle.std.specs.Prelude.{◌≡◌, ◌≢◌, ℕ, ◌<◌, List, [], ◌∷◌, ◌++◌, ◌⊎◌, ◌+◌, ◌-◌, ◌≤◌, Option, Some, None, MatchOption, map, length, take, drop}
use Rattle.std.proofs.Common.{refl, sym, ◌∙◌, ap, arith, subst, inl, inr, get_or, set, append-nil, append_assoc}
use Rattle.std.proofs.lemmas.Bool.{cases_order}
use Rattle.std.proofs.lemmas.List.{get_or-set_same, get_or-set_other, length-drop}
use Rattle.tree_clock.specs.declared.dots.Range.{Range}
use Rattle.mld_ops.specs.declared.tagged.Tagged.{Tagged}
use Rattle.mld_ops.specs.History.{Operation, dot_at}
use Rattle.schedule_model.specs.declared.Command.{Command}
use Rattle.schedule_model.specs.declared.Command.TheVariants.{Add, Remove, Update, Deliver, Show, Query, Compare, Join, Ask, Compact, Truncate, Stop, Open, Crash}
use Rattle.mld_ops.specs.Effects.{EffectValue, operation_of}
use Rattle.jrql_ast.specs.declared.plans.UpdatePlan.{UpdatePlan}
use Rattle.jrql_ast.specs.Templates.{insertion_of, deletion_of}
use Rattle.mld_model.specs.Clone.{Clone, Absent, Asking, Empty, Down, Live, Stored, known_of, with_range, merged_with, truncated_to, Releases, kept_of}
use Rattle.mld_model.specs.World.{World, Message, RangeOf, Want, SnapshotOf, JoinAsk, JoinGive, message_at, clone_at, with_clone}
use Rattle.mld_model.specs.Reply.{Reply, Did, Took, Merged, AlreadyKnown, Answer, Joined, NoMessage, Ignored, IsAbsent, IsDown}
use Rattle.mld_model.specs.CloneStep.{Answers, Makes, Updates, changes_nothing, breaks_single, makes_operation, Accepts, HoldsBack, holds_already, holds_too_many, holds_from_now, TakesRange, knows_already, accepts, holds_back, Asks, Joins, left_half, TakesAsk, asked_itself, is_too_deep, forks, joined_with, TakesLeaf, becomes_live, leaves_it, AskerTakes, LiveTakes, Takes, Stops, Reopens, TakesWant, lacks_nothing, sends_ranges, sends_snapshot, Merges, TakesSnapshot, knows_all, merges, Wants, Compacts, Truncates}
use Rattle.mld_model.proofs.StateLaws.{by_state, IsState, is_absent, is_asking, is_down, if_live, if_opens}
use Rattle.op_fusion.specs.Compacting.{AreCompacted}
use Rattle.mld_model.proofs.CompactedJournals.{compacted_shrinks}
use Rattle.schedule_model.specs.Updating.{UpdatesByPlan}
use Rattle.schedule_model.proofs.PlanLaws.{if_planned}
use Rattle.schedule_model.proofs.PlainSound.{lists_same, queries_same, weighs_same}
use Rattle.mld_model.specs.Durable.{DurableStep, AppendsMade, AppendsTaken, Swaps, kept_after, history_after}
use Rattle.schedule_model.specs.Step.{number_of_clone}
use Rattle.schedule_model.specs.PlainStep.{PlainStep}
use Rattle.schedule_model.specs.PlainDurable.{SwapsDurably, keeps_the_same, swaps_it, MakesDurably, taking_steps, giving_steps, joining_steps, merging_steps, message_steps, PlainDurableSteps}

-- ---- what durable steps lead to

-- the steps give what the clone of the number keeps in the next world, and the history; the other clones keep what they kept
pub record Leads (world : World) (number : ℕ) (steps : List DurableStep) (next : World) : Type 0 where
  pub kept : kept_after (kept_of (clone_at world number)) steps ≡ kept_of (clone_at next number)
  pub made : history_after world.history steps ≡ next.history
  pub others : (other : ℕ) → other ≢ number → kept_of (clone_at next other) ≡ kept_of (clone_at world other)

-- ---- ranges that are taken

-- what a clone keeps that took the ranges has them at the end of its journal
pub releases_journal : (history : List Operation) (stored : Stored) (held taken : List Range) (after : Stored) (left : List Range)
    → Releases history stored held taken after left
    → after ≡ record { path = stored.path; base = stored.base; journal = stored.journal ++ taken }
releases_journal history stored held [] after left p =
    p.2 ∙ (λ i. record { path = stored.path; base = stored.base; journal = sym (append-nil stored.journal) i })
releases_journal history stored held (range ∷ taken) after left p =
    releases_journal history (with_range stored range) p.1 taken after left p.4
    ∙ (λ i. record { path = stored.path; base = stored.base; journal = append_assoc stored.journal (range ∷ []) taken i })

-- the appends of the ranges that are released give what the clone keeps then
pub releases_kept : (history : List Operation) (stored : Stored) (held taken : List Range) (after : Stored) (left : List Range)
    → Releases history stored held taken after left → kept_after (Some stored) (map (λ range. AppendsTaken range) taken) ≡ Some after
releases_kept history stored held [] after left p = ap (λ (s : Stored). Some s) (sym p.2)
releases_kept history stored held (range ∷ taken) after left p = releases_kept history (with_range stored range) p.1 taken after left p.4

-- they make no operation
pub taking_history : (history : List Operation) (taken : List Range) → history_after history (map (λ range. AppendsTaken range) taken) ≡ history
taking_history history [] = refl
taking_history history (range ∷ taken) = taking_history history taken

-- ---- the steps of a command

-- there are durable steps of a local change that lead to the next world
abbrev MakesAndLeads : World → ℕ → Reply → World → Type 0
MakesAndLeads world number reply next = (steps : List DurableStep) × MakesDurably world reply next steps × Leads world number steps next

-- an answer of a clone that has no steps for any kind of message
record IsQuiet (clone : Clone) (answer : Reply) : Type 0 where
  takes : taking_steps answer ≡ []
  gives : giving_steps answer ≡ []
  joins : (path : List ℕ) (dots : List Range) → joining_steps path dots answer ≡ []
  merges : (dots : List Range) → merging_steps clone dots answer ≡ []

-- has none for this one
quiet : (clone : Clone) (message : Message) (answer : Reply) → IsQuiet clone answer → message_steps clone message answer ≡ []
quiet clone (RangeOf range) answer none = none.takes
quiet clone (JoinAsk id) answer none = none.gives
quiet clone (JoinGive id path dots) answer none = none.joins path dots
quiet clone (SnapshotOf dots) answer none = none.merges dots
quiet clone (Want dots) answer none = refl

-- the state of a clone tells of no merging
down_merges : (clone : Clone) (dots : List Range) → merging_steps clone dots IsDown ≡ []
down_merges (Live stored held) dots = refl
down_merges clone dots = refl

absent_merges : (clone : Clone) (dots : List Range) → merging_steps clone dots IsAbsent ≡ []
absent_merges (Live stored held) dots = refl
absent_merges clone dots = refl

-- the durable steps of a `deliver` of this message, if there is one, to this clone
abbrev DeliversDurably : Clone → Option Message → Reply → List DurableStep → Type 0
DeliversDurably clone sent reply steps = MatchOption sent (steps ≡ []) (λ message. steps ≡ message_steps clone message reply)

-- there are durable steps that swap what is kept and lead to the next world
abbrev SwapsAndLeads : World → World → ℕ → Type 0
SwapsAndLeads world next number = (steps : List DurableStep) × SwapsDurably world next number steps × Leads world number steps next

-- what is kept is one thing
one_kept : (one other : Stored) → Some one ≡ Some other → one ≡ other
one_kept one other same = cc

-- a journal of no more ranges than are to be left is truncated to what it was
none_cut : (stored : Stored) (keep : ℕ) → length stored.journal ≤ keep → truncated_to stored keep ≡ stored
none_cut stored keep few =
    let none : length stored.journal - keep ≡ 0 = omega (arith, few) in
    let base : stored.base ++ take (length stored.journal - keep) stored.journal ≡ stored.base =
    ap (λ (n : ℕ). stored.base ++ take n stored.journal) none ∙ append-nil stored.base in
    let journal : drop (length stored.journal - keep) stored.journal ≡ stored.journal = ap (λ (n : ℕ). drop n stored.journal) none in
    λ i. record { path = stored.path; base = base i; journal = journal i }

-- one of more ranges is truncated to another
some_cut : (stored : Stored) (keep : ℕ) → keep < length stored.journal → truncated_to stored keep ≢ stored
some_cut stored keep more same =
    let left : length (drop (length stored.journal - keep) stored.journal) ≡ length stored.journal - (length stored.journal - keep) =
    length-drop (length stored.journal - keep) stored.journal in
    omega (arith, more, left, ap (λ (s : Stored). length s.journal) same)

-- so it stays, or is another
cut_or_not : (stored : Stored) (keep : ℕ) → (truncated_to stored keep ≡ stored) ⊎ (truncated_to stored keep ≢ stored)
cut_or_not stored keep = elim (cases_order keep (length stored.journal)) [
  | inl same ↦ inl (none_cut stored keep (omega (arith, same)))
  | inr (inl below) ↦ inr (some_cut stored keep below)
  | inr (inr above) ↦ inl (none_cut stored keep (omega (arith, above)))
]

-- and so does one that is compacted
compacted_or_not : (stored : Stored) (ranges : List Range) → AreCompacted stored.journal ranges
    → (record stored { journal = ranges } ≡ stored) ⊎ (record stored { journal = ranges } ≢ stored)
compacted_or_not stored ranges compacted = elim (compacted_shrinks stored.journal ranges compacted) [
  | inl stays ↦ inl (λ i. record { path = stored.path; base = stored.base; journal = stays i })
  | inr shorter ↦ inr (λ same. omega (arith, shorter, ap (λ (s : Stored). length s.journal) same))
]

-- ---- by the kind of command

-- the clone of the number makes a step from the world to the next one
module _ (world next : World) (number : ℕ) where
  -- no steps lead to a world that is left as it was
  same_leads : next ≡ world → Leads world number [] next
  same_leads same = record {
    kept = ap (λ (w : World). kept_of (clone_at w number)) (sym same);
    made = ap (λ (w : World). w.history) (sym same);
    others = λ other differs. ap (λ (w : World). kept_of (clone_at w other)) same;
  }

  -- nor to a world in which more was said
  told_leads : next.clones ≡ world.clones → next.history ≡ world.history → Leads world number [] next
  told_leads clones history = record {
    kept = ap (λ (cs : List Clone). kept_of (get_or cs number Absent)) (sym clones);
    made = sym history;
    others = λ other differs. ap (λ (cs : List Clone). kept_of (get_or cs other Absent)) clones;
  }

  -- an answer that changes nothing, and has no steps, leads to such a world
  answered_leads : (steps_of : Reply → List DurableStep) (answer reply : Reply) → steps_of answer ≡ [] → Answers world answer reply next
      → Leads world number (steps_of reply) next
  answered_leads steps_of answer reply none p =
      subst (λ (steps : List DurableStep). Leads world number steps next) (sym (ap steps_of p.0 ∙ none)) (same_leads p.1)

  -- the steps lead to a world in which one clone is another, and keeps what they give
  changed_leads : (steps : List DurableStep) (clone now : Clone) → number < length world.clones → clone_at world number ≡ clone → next.clones ≡ set world.clones number now
      → kept_after (kept_of clone) steps ≡ kept_of now → history_after world.history steps ≡ next.history → Leads world number steps next
  changed_leads steps clone now inside is clones kept made =
      let at : (k : ℕ) → clone_at next k ≡ get_or (set world.clones number now) k Absent = λ k. ap (λ (cs : List Clone). get_or cs k Absent) clones in
      record {
        kept = ap (λ (c : Clone). kept_after (kept_of c) steps) is ∙ kept
            ∙ ap kept_of (sym (at number ∙ get_or-set_same world.clones number now Absent inside));
        made = made;
        others = λ other differs. ap kept_of (at other ∙ get_or-set_other world.clones number other now Absent differs);
      }

  -- ---- local changes

  -- there are none where nothing changes
  unmade_leads : (answer reply : Reply) → MakesDurably world answer next [] → Answers world answer reply next → MakesAndLeads world number reply next
  unmade_leads answer reply none p =
      ([], subst (λ (r : Reply). MakesDurably world r next []) (sym p.0) none, same_leads p.1)

  -- where an operation is made, its append is the one step
  makes_leads : (stored : Stored) (held : List Range) (effect : EffectValue) (reply : Reply) → number < length world.clones
      → clone_at world number ≡ Live stored held → Makes world number stored held effect reply next → MakesAndLeads world number reply next
  makes_leads stored held effect reply inside is p =
      let operation : Operation = operation_of (dot_at stored.path p.tick) (known_of stored) effect in
      let steps : List DurableStep = AppendsMade operation ∷ [] in
      let joined : next.history ≡ operation ∷ world.history = ap (λ (w : World). w.history) p.changes in (
        steps,
        subst (λ (r : Reply). MakesDurably world r next steps) (sym p.replies) (record { operation = operation; joined = joined; one = refl }),
        changed_leads steps (Live stored held) _ inside is (ap (λ (w : World). w.clones) p.changes) refl (sym joined),
      )

  -- a clone's state has none
  state_leads : (answer reply : Reply) → IsState answer → Answers world answer reply next → MakesAndLeads world number reply next
  state_leads answer reply is_absent p = unmade_leads _ reply refl p
  state_leads answer reply is_asking p = unmade_leads _ reply refl p
  state_leads answer reply is_down p = unmade_leads _ reply refl p

  -- an update has such steps
  updates_lead : (stored : Stored) (held : List Range) (pairs : List Tagged) (effect : EffectValue) (reply : Reply) → number < length world.clones
      → clone_at world number ≡ Live stored held → Updates world number stored held pairs effect reply next → MakesAndLeads world number reply next
  updates_lead stored held pairs effect reply inside is (changes_nothing none p) = unmade_leads _ reply refl p
  updates_lead stored held pairs effect reply inside is (breaks_single some place first p) = unmade_leads _ reply refl p
  updates_lead stored held pairs effect reply inside is (makes_operation some fits p) = makes_leads stored held effect reply inside is p

  planned_lead : (plan : UpdatePlan) (reply : Reply) → number < length world.clones → UpdatesByPlan world number plan (clone_at world number) reply next
      → MakesAndLeads world number reply next
  planned_lead plan reply inside =
      if_planned (MakesAndLeads world number reply next) world number plan (clone_at world number) reply next (λ answer state. state_leads answer reply state)
      (λ p. unmade_leads _ reply refl p)
      (λ stored held pairs tick effect live meant is_next has p. updates_lead stored held pairs effect reply inside live p)

  -- ---- messages

  -- a range that a live clone takes leads to the next world by the appends of all that is taken
  accepts_lead : (stored : Stored) (held : List Range) (range : Range) (reply : Reply) → number < length world.clones → clone_at world number ≡ Live stored held
      → Accepts world number stored held range reply next → Leads world number (taking_steps reply) next
  accepts_lead stored held range reply inside is p =
      subst (λ (r : Reply). Leads world number (taking_steps r) next) (sym p.replies)
      (changed_leads (taking_steps (Took (range ∷ p.taken))) (Live stored held) (Live p.after p.left) inside is (ap (λ (w : World). w.clones) p.changes) (releases_kept world.history (with_range stored range) held p.taken p.after p.left p.releases) (taking_history world.history (range ∷ p.taken) ∙ ap (λ (w : World). w.history) (sym p.changes)))

  -- a range that is held back leads there by none
  holds_lead : (stored : Stored) (held : List Range) (range : Range) (reply : Reply) → number < length world.clones → clone_at world number ≡ Live stored held
      → HoldsBack world number stored held range reply next → Leads world number (taking_steps reply) next
  holds_lead stored held range reply inside is (holds_already has p) = answered_leads taking_steps _ reply refl p
  holds_lead stored held range reply inside is (holds_too_many lacks full p) = answered_leads taking_steps _ reply refl p
  holds_lead stored held range reply inside is (holds_from_now lacks few told same) =
      subst (λ (r : Reply). Leads world number (taking_steps r) next) (sym told)
      (changed_leads [] (Live stored held) (Live stored (held ++ range ∷ [])) inside is (ap (λ (w : World). w.clones) same)
      refl (ap (λ (w : World). w.history) (sym same)))

  -- so a range that comes to a live clone leads there by the appends of what is taken
  receives_lead : (stored : Stored) (held : List Range) (range : Range) (reply : Reply) → number < length world.clones → clone_at world number ≡ Live stored held
      → TakesRange world number stored held range reply next → Leads world number (taking_steps reply) next
  receives_lead stored held range reply inside is (knows_already known p) = answered_leads taking_steps _ reply refl p
  receives_lead stored held range reply inside is (accepts p) = accepts_lead stored held range reply inside is p
  receives_lead stored held range reply inside is (holds_back back p) = holds_lead stored held range reply inside is p

  -- a live clone that is asked for a leaf leads there by the append of the fork, if it forks
  gives_lead : (stored : Stored) (held : List Range) (id : ℕ) (reply : Reply) → number < length world.clones → clone_at world number ≡ Live stored held
      → TakesAsk world number stored held id reply next → Leads world number (giving_steps reply) next
  gives_lead stored held id reply inside is (asked_itself own p) = answered_leads giving_steps _ reply refl p
  gives_lead stored held id reply inside is (is_too_deep differs deep p) = answered_leads giving_steps _ reply refl p
  gives_lead stored held id reply inside is (forks differs room told same) =
      subst (λ (r : Reply). Leads world number (giving_steps r) next) (sym told)
      (changed_leads (giving_steps (Answer ((length world.messages + 1) ∷ []))) (Live stored held) (Live (left_half stored) held) inside is (ap (λ (w : World). w.clones) same) refl (ap (λ (w : World). w.history) (sym same)))

  -- one that merges leads there by the swap of what it keeps, and the appends of all that is taken then
  merges_lead : (stored : Stored) (held dots : List Range) (reply : Reply) → number < length world.clones → clone_at world number ≡ Live stored held
      → Merges world number stored held dots reply next → Leads world number (merging_steps (Live stored held) dots reply) next
  merges_lead stored held dots reply inside is p =
      subst (λ (r : Reply). Leads world number (merging_steps (Live stored held) dots r) next) (sym p.replies)
      (changed_leads (merging_steps (Live stored held) dots (Merged p.taken)) (Live stored held) (Live p.after p.left) inside is (ap (λ (w : World). w.clones) p.changes) (releases_kept world.history (merged_with stored dots) held p.taken p.after p.left p.releases) (taking_history world.history p.taken ∙ ap (λ (w : World). w.history) (sym p.changes)))

  -- so a snapshot that comes to a live clone leads there by these steps, or by none where all of it is known
  takes_snapshot_lead : (stored : Stored) (held dots : List Range) (reply : Reply) → number < length world.clones → clone_at world number ≡ Live stored held
      → TakesSnapshot world number stored held dots reply next → Leads world number (merging_steps (Live stored held) dots reply) next
  takes_snapshot_lead stored held dots reply inside is (knows_all known p) =
      answered_leads (merging_steps (Live stored held) dots) AlreadyKnown reply refl p
  takes_snapshot_lead stored held dots reply inside is (merges p) = merges_lead stored held dots reply inside is p

  -- one that is asked for what another lacks leads there by none
  wants_taken_lead : (dots : List Range) (stored : Stored) (reply : Reply) → TakesWant world dots stored reply next → Leads world number [] next
  wants_taken_lead dots stored reply (lacks_nothing known none p) = same_leads p.1
  wants_taken_lead dots stored reply (sends_ranges ranges known drops some told same) =
      told_leads (ap (λ (w : World). w.clones) same) (ap (λ (w : World). w.history) same)
  wants_taken_lead dots stored reply (sends_snapshot behind told same) =
      told_leads (ap (λ (w : World). w.clones) same) (ap (λ (w : World). w.history) same)

  -- one who asks and takes a leaf leads there by creating what it keeps
  adopts_lead : (id : ℕ) (path : List ℕ) (dots : List Range) (reply : Reply) → number < length world.clones → clone_at world number ≡ Asking
      → TakesLeaf world number id path dots reply next → Leads world number (joining_steps path dots reply) next
  adopts_lead id path dots reply inside is (becomes_live own told same) =
      subst (λ (r : Reply). Leads world number (joining_steps path dots r) next) (sym told)
      (changed_leads (joining_steps path dots (Joined path)) Asking (Live (joined_with path dots) []) inside is (ap (λ (w : World). w.clones) same) refl (ap (λ (w : World). w.history) (sym same)))
  adopts_lead id path dots reply inside is (leaves_it differs p) = answered_leads (joining_steps path dots) _ reply refl p

  -- a reply without steps that a message has from a clone
  quiet_leads : (clone : Clone) (message : Message) (answer reply : Reply) → IsQuiet clone answer → Answers world answer reply next
      → Leads world number (message_steps clone message reply) next
  quiet_leads clone message answer reply none = answered_leads (message_steps clone message) answer reply (quiet clone message answer none)

  -- a message that comes to a clone that asks leads there by its steps
  asker_takes_lead : (message : Message) (reply : Reply) → number < length world.clones → clone_at world number ≡ Asking
      → AskerTakes world number message reply next → Leads world number (message_steps Asking message reply) next
  asker_takes_lead (JoinGive id path dots) reply inside is p = adopts_lead id path dots reply inside is p
  asker_takes_lead message reply inside is p =
      quiet_leads Asking message Ignored reply (record { takes = refl; gives = refl; joins = λ path dots. refl; merges = λ dots. refl }) p

  -- and so does one that comes to a live clone
  live_takes_lead : (message : Message) (stored : Stored) (held : List Range) (reply : Reply) → number < length world.clones → clone_at world number ≡ Live stored held
      → LiveTakes world number message stored held reply next → Leads world number (message_steps (Live stored held) message reply) next
  live_takes_lead (RangeOf range) stored held reply inside is p = receives_lead stored held range reply inside is p
  live_takes_lead (Want dots) stored held reply inside is p = wants_taken_lead dots stored reply p
  live_takes_lead (JoinAsk id) stored held reply inside is p = gives_lead stored held id reply inside is p
  live_takes_lead (SnapshotOf dots) stored held reply inside is p = takes_snapshot_lead stored held dots reply inside is p
  live_takes_lead (JoinGive id path dots) stored held reply inside is p = answered_leads (joining_steps path dots) Ignored reply refl p

  -- whatever the state of the clone is
  takes_lead : (message : Message) (clone : Clone) (reply : Reply) → number < length world.clones → clone_at world number ≡ clone
      → Takes world number message clone reply next → Leads world number (message_steps clone message reply) next
  takes_lead message clone reply inside is =
      by_state (Leads world number (message_steps clone message reply) next) clone _ _ _ _
      (λ state. quiet_leads clone message IsAbsent reply (record { takes = refl; gives = refl; joins = λ path dots. refl; merges = absent_merges clone }))
      (λ asks p. subst (λ (c : Clone). Leads world number (message_steps c message reply) next) (sym asks) (asker_takes_lead message reply inside (is ∙ asks) p))
      (quiet_leads clone message IsDown reply (record { takes = refl; gives = refl; joins = λ path dots. refl; merges = down_merges clone }))
      (λ stored held live p. subst (λ (c : Clone). Leads world number (message_steps c message reply) next) (sym live)
      (live_takes_lead message stored held reply inside (is ∙ live) p))

  -- a `deliver` has durable steps that lead to the next world
  delivers_lead : (sent : Option Message) (reply : Reply) → number < length world.clones
      → MatchOption sent (Answers world NoMessage reply next) (λ message. Takes world number message (clone_at world number) reply next)
      → (steps : List DurableStep) × DeliversDurably (clone_at world number) sent reply steps × Leads world number steps next
  delivers_lead None reply inside p = ([], refl, same_leads p.1)
  delivers_lead (Some message) reply inside p =
      (message_steps (clone_at world number) message reply, refl, takes_lead message (clone_at world number) reply inside refl p)

  -- ---- asking

  -- a clone that keeps nothing and asks for a leaf leads there by none
  asks_lead : (clone : Clone) (reply : Reply) → number < length world.clones → clone_at world number ≡ clone → kept_of clone ≡ None → Asks world number reply next
      → Leads world number [] next
  asks_lead clone reply inside is none p =
      changed_leads [] clone Asking inside is (ap (λ (w : World). w.clones) p.1) none (ap (λ (w : World). w.history) (sym p.1))

  -- and so does a clone that is told to
  joins_lead : (clone : Clone) (reply : Reply) → number < length world.clones → clone_at world number ≡ clone → Joins world number clone reply next
      → Leads world number [] next
  joins_lead clone reply inside is =
      by_state (Leads world number [] next) clone _ _ _ _ (λ state. asks_lead Absent reply inside (is ∙ state) refl)
      (λ state. asks_lead Asking reply inside (is ∙ state) refl) (λ p. same_leads p.1) (λ stored held live p. same_leads p.1)

  -- ---- asking for what is lacked, compacting and truncating

  -- a clone that asks for what it lacks leads there by none
  wants_lead : (clone : Clone) (reply : Reply) → Wants world clone reply next → Leads world number [] next
  wants_lead clone reply =
      if_live (Leads world number [] next) world clone reply next _ (λ answer state p. same_leads p.1)
      (λ stored held live p. told_leads (ap (λ (w : World). w.clones) p.1) (ap (λ (w : World). w.history) p.1))

  -- a live clone that keeps something from then on leads there by the swap of what it keeps, unless that stays as it is
  swapped_leads : (stored now : Stored) (held : List Range) → number < length world.clones → clone_at world number ≡ Live stored held
      → (now ≡ stored) ⊎ (now ≢ stored) → next ≡ with_clone world number (Live now held) → SwapsAndLeads world next number
  swapped_leads stored now held inside is stays_or_not same =
      let kept : kept_of (clone_at world number) ≡ Some stored = ap kept_of is in
      let kept_then : kept_of (clone_at next number) ≡ Some now =
      ap (λ (w : World). kept_of (clone_at w number)) same ∙ ap kept_of (get_or-set_same world.clones number (Live now held) Absent inside) in
      let clones : next.clones ≡ set world.clones number (Live now held) = ap (λ (w : World). w.clones) same in
      let history : world.history ≡ next.history = ap (λ (w : World). w.history) (sym same) in
      elim stays_or_not [
        | inl stays ↦ (
          [],
          keeps_the_same (kept_then ∙ ap (λ (s : Stored). Some s) stays ∙ sym kept) refl,
          changed_leads [] (Live stored held) (Live now held) inside is clones (ap (λ (s : Stored). Some s) (sym stays)) history,
        )
        | inr differs ↦ (
          Swaps now ∷ [],
          swaps_it now kept_then (λ again. differs (one_kept now stored (sym kept_then ∙ again ∙ kept))) refl,
          changed_leads (Swaps now ∷ []) (Live stored held) (Live now held) inside is clones refl history,
        )
      ]

  -- where a clone that isn't live replies with its state nothing is swapped
  state_swaps : (answer reply : Reply) → Answers world answer reply next → SwapsAndLeads world next number
  state_swaps answer reply p = ([], keeps_the_same (ap (λ (w : World). kept_of (clone_at w number)) p.1) refl, same_leads p.1)

  -- so one that compacts leads there by that step or by none
  compacts_lead : (clone : Clone) (reply : Reply) → number < length world.clones → clone_at world number ≡ clone → Compacts world number clone reply next
      → SwapsAndLeads world next number
  compacts_lead clone reply inside is =
      if_live (SwapsAndLeads world next number) world clone reply next _
      (λ answer state. state_swaps answer reply)
      (λ stored held live p. swapped_leads stored (record stored { journal = p.0 }) held inside (is ∙ live) (compacted_or_not stored p.0 p.1) p.3)

  -- and so does one that truncates
  truncates_lead : (keep : ℕ) (clone : Clone) (reply : Reply) → number < length world.clones → clone_at world number ≡ clone
      → Truncates world number keep clone reply next → SwapsAndLeads world next number
  truncates_lead keep clone reply inside is =
      if_live (SwapsAndLeads world next number) world clone reply next _
      (λ answer state. state_swaps answer reply)
      (λ stored held live p. swapped_leads stored (truncated_to stored keep) held inside (is ∙ live) (cut_or_not stored keep) p.1)

  -- ---- stopping and opening

  -- a clone that is told to stop leads there by none: it keeps what it kept
  stops_lead : (clone : Clone) (reply : Reply) → number < length world.clones → clone_at world number ≡ clone → Stops world number clone reply next
      → Leads world number [] next
  stops_lead clone reply inside is =
      if_live (Leads world number [] next) world clone reply next _ (λ answer state p. same_leads p.1)
      (λ stored held live p. changed_leads [] (Live stored held) (Down stored) inside (is ∙ live) (ap (λ (w : World). w.clones) p.1) refl (ap (λ (w : World). w.history) (sym p.1)))

  -- and so does one that is told to open
  opens_lead : (clone : Clone) (reply : Reply) → number < length world.clones → clone_at world number ≡ clone → Reopens world number clone reply next
      → Leads world number [] next
  opens_lead clone reply inside is =
      if_opens (Leads world number [] next) world number clone reply next (λ answer state p. same_leads p.1)
      (λ empty told same. changed_leads [] Empty Asking inside (is ∙ empty) (ap (λ (w : World). w.clones) same) refl (ap (λ (w : World). w.history) (sym same)))
      (λ stored down told same. changed_leads [] (Down stored) (Live stored []) inside (is ∙ down) (ap (λ (w : World). w.clones) same) refl (ap (λ (w : World). w.history) (sym same)))

-- ---- the laws

-- there are durable steps of a command that lead to the next world
abbrev pub PlainlyLeads : World → Command → Reply → World → Type 0
PlainlyLeads world command reply next =
    (steps : List DurableStep) × PlainDurableSteps world command reply next steps × Leads world (number_of_clone command) steps next

-- each step of a world by a plain command whose clone there is has such
pub plain_leads : (world : World) (command : Command) (reply : Reply) (next : World) → number_of_clone command < length world.clones
    → PlainStep world command reply next → PlainlyLeads world command reply next
plain_leads world (Add number triple) reply next inside p =
    planned_lead world next number (insertion_of triple) reply inside p
plain_leads world (Remove number triple) reply next inside p =
    planned_lead world next number (deletion_of triple) reply inside p
plain_leads world (Update number plan) reply next inside p =
    planned_lead world next number plan reply inside p
plain_leads world (Deliver message number) reply next inside p =
    delivers_lead world next number (message_at world message) reply inside p
plain_leads world (Show number) reply next inside p =
    ([], refl, same_leads world next number (lists_same world (clone_at world number) reply next p))
plain_leads world (Query number read) reply next inside p =
    ([], refl, same_leads world next number (queries_same world read (clone_at world number) reply next p))
plain_leads world (Join number) reply next inside p =
    ([], refl, joins_lead world next number (clone_at world number) reply inside refl p)
plain_leads world (Ask number) reply next inside p =
    ([], refl, wants_lead world next number (clone_at world number) reply p)
plain_leads world (Compact number) reply next inside p =
    compacts_lead world next number (clone_at world number) reply inside refl p
plain_leads world (Truncate number keep) reply next inside p =
    truncates_lead world next number keep (clone_at world number) reply inside refl p
plain_leads world (Stop number) reply next inside p =
    ([], refl, stops_lead world next number (clone_at world number) reply inside refl p)
plain_leads world (Open number) reply next inside p =
    ([], refl, opens_lead world next number (clone_at world number) reply inside refl p)
plain_leads world (Compare number other) reply next inside p =
    ([], refl, same_leads world next number (weighs_same world (clone_at world number) (clone_at world other) reply next p))
plain_leads world (Crash call leave task) reply next inside p = absurd p

-- one operation joined the history
one_operation : (history next : List Operation) (operation other : Operation) → next ≡ operation ∷ history → next ≡ other ∷ history → operation ≡ other
one_operation history next operation other p q = cc

-- the steps of a local change are one list
makes_once : (world : World) (reply : Reply) (next : World) (steps other : List DurableStep)
    → MakesDurably world reply next steps → MakesDurably world reply next other → steps ≡ other
makes_once world (Did dot message) next steps other p q =
    p.one ∙ ap (λ (operation : Operation). AppendsMade operation ∷ []) (one_operation world.history next.history p.operation q.operation p.joined q.joined) ∙ sym q.one
makes_once world reply next steps other p q = p ∙ sym q

-- and so are those of a `deliver`
delivers_once : (clone : Clone) (sent : Option Message) (reply : Reply) (steps other : List DurableStep)
    → DeliversDurably clone sent reply steps → DeliversDurably clone sent reply other → steps ≡ other
delivers_once clone None reply steps other p q = p ∙ sym q
delivers_once clone (Some message) reply steps other p q = p ∙ sym q

-- and those that swap what is kept
swaps_once : (world next : World) (number : ℕ) (steps other : List DurableStep) → SwapsDurably world next number steps → SwapsDurably world next number other
    → steps ≡ other
swaps_once world next number steps other (keeps_the_same same p) (keeps_the_same too q) = p ∙ sym q
swaps_once world next number steps other (keeps_the_same same p) (swaps_it stored kept differs q) = absurd (differs same)
swaps_once world next number steps other (swaps_it stored kept differs p) (keeps_the_same same q) = absurd (differs same)
swaps_once world next number steps other (swaps_it stored kept differs p) (swaps_it second too apart q) =
    p ∙ ap (λ (s : Stored). Swaps s ∷ []) (one_kept stored second (sym kept ∙ too)) ∙ sym q

-- the durable steps of a step by a plain command are one list
pub plain_list_once : (world : World) (command : Command) (reply : Reply) (next : World) (steps other : List DurableStep)
    → PlainDurableSteps world command reply next steps → PlainDurableSteps world command reply next other → steps ≡ other
plain_list_once world (Add number triple) reply next steps other p q = makes_once world reply next steps other p q
plain_list_once world (Remove number triple) reply next steps other p q = makes_once world reply next steps other p q
plain_list_once world (Update number plan) reply next steps other p q = makes_once world reply next steps other p q
plain_list_once world (Deliver message number) reply next steps other p q = delivers_once (clone_at world number) (message_at world message) reply steps other p q
plain_list_once world (Show number) reply next steps other p q = p ∙ sym q
plain_list_once world (Query number read) reply next steps other p q = p ∙ sym q
plain_list_once world (Join number) reply next steps other p q = p ∙ sym q
plain_list_once world (Ask number) reply next steps other p q = p ∙ sym q
plain_list_once world (Compact number) reply next steps other p q = swaps_once world next number steps other p q
plain_list_once world (Truncate number keep) reply next steps other p q = swaps_once world next number steps other p q
plain_list_once world (Stop number) reply next steps other p q = p ∙ sym q
plain_list_once world (Open number) reply next steps other p q = p ∙ sym q
plain_list_once world (Compare number second) reply next steps other p q = p ∙ sym q
plain_list_once world (Crash call leave task) reply next steps other p q = absurd p
