-- An update that was refused in the middle is a step of the model with one append of an operation.
use Rattle.std.proofs.Common.{◌≡◌, ℕ, ◌+◌, List, [], ◌∷◌, ◌⊎◌, ◌↔◌, inl, inr, refl, sym, ap, arith, subst, length}
use Rattle.std.proofs.lemmas.Bool.{cases_lt}
use Rattle.mld_io.specs.declared.banks.Side.{Side}
use Rattle.rdf_terms.specs.declared.terms.Triple.{Triple}
use Rattle.tree_clock.specs.declared.dots.Dot.{Dot}
use Rattle.tree_clock.specs.declared.dots.Range.{Range}
use Rattle.tree_clock.specs.Lists.{Has, IsAscending}
use Rattle.tree_clock.specs.Clock.{ticks_of, Covers, RaisesTo}
use Rattle.tree_clock.proofs.ClockLaws.{Covers-raised}
use Rattle.mld_ops.specs.declared.tagged.Tagged.{Tagged}
use Rattle.mld_ops.specs.Breaches.{BreaksNone}
use Rattle.mld_ops.specs.Entry.{EntryValue}
use Rattle.mld_ops.specs.Effect.{range_of, IsEffect}
use Rattle.mld_ops.specs.Effects.{EffectValue, ChangesNothing, IsInOrder, effect_entry}
use Rattle.mld_ops.specs.History.{Operation, IsNext, IsLawful, dot_at}
use Rattle.mld_ops.specs.Tagged.{tagged_cmp, insert_cmp}
use Rattle.mld_ops.proofs.EffectLaws.{effect_carried, ticks_ascend}
use Rattle.mld_ops.proofs.NetLaws.{net_of_one}
use Rattle.mld_ops.proofs.OperationLaws.{same_dot}
use Rattle.clone_core.specs.journal_sides.Pairs.{Keeps, with_entry}
use Rattle.jrql_ast.specs.declared.plans.UpdatePlan.{UpdatePlan}
use Rattle.jrql_ast.specs.Templates.{insertion_of, deletion_of}
use Rattle.jrql_eval.specs.PlanEffects.{IsPlanEffect}
use Rattle.mld_model.specs.Clone.{Live, Stored, known_of, with_range}
use Rattle.mld_model.specs.CloneStep.{IsNextTick, after_operation, makes_operation, has_effect}
use Rattle.mld_model.specs.Durable.{DurableStep, AppendsMade}
use Rattle.mld_model.specs.Local.{LocalClone, next_dot}
use Rattle.mld_model.specs.Reply.{Reply, Did}
use Rattle.mld_model.specs.Sound.{IsSoundClone, IsSound}
use Rattle.mld_model.specs.StandsFor.{kept_by, EntryStandsFor, LocalStandsFor, LiveAt}
use Rattle.mld_model.specs.World.{World, clone_at}
use Rattle.mld_model.proofs.LocalLaws.{next_tick_of, made_by}
use Rattle.mld_model.proofs.SoundLaws.{made_is_next, live_sound}
use Rattle.mld_model.proofs.StateLaws.{live_does}
use Rattle.schedule_model.specs.declared.Command.{Command}
use Rattle.schedule_model.specs.declared.Command.TheVariants.{Add, Remove, Update}
use Rattle.schedule_model.specs.PlainDurable.{MakesDurably, PlainDurableSteps}
use Rattle.schedule_model.specs.PlainStep.{PlainStep}
use Rattle.schedule_model.specs.Updating.{UpdatesByPlan}
use Rattle.schedule_model.specs.WorldStep.{IsUpdateOf}
use Rattle.clone_core.specs.Banked.{kept_as}
use Rattle.clone_core.specs.clone_parts.KeptSteps.{Appended}
use Rattle.crash_laws.specs.CarriedSteps.{owner_at, IsKeptFor}
use Rattle.crash_laws.specs.Deeds.{CarriedDeed}
use Rattle.crash_laws.proofs.Kept.{entry_kept, longer_kept, live_kept, carried_at}

-- ---- the entry

-- the dots of a clock that was raised to the next one of a path
covers_next : (old new : List (List ℕ × ℕ)) (path : List ℕ) (dot : Dot) → RaisesTo old new (dot_at path (ticks_of old path + 1))
    → Covers new dot ↔ (Covers old dot ⊎ (dot ≡ dot_at path (ticks_of old path + 1)))
covers_next old new path dot raised = (
  λ c. elim ((Covers-raised old new (dot_at path (ticks_of old path + 1)) dot raised).0 c) [
    | inl before ↦ inl before
    | inr at ↦ elim (cases_lt (ticks_of old path) dot.tick) [
      | inl after ↦ inr (same_dot dot (dot_at path (ticks_of old path + 1)) at.0 (omega (arith, after, at.2)))
      | inr upto ↦ inl (record { positive = at.1; within = omega (arith, upto, ap (λ p. ticks_of old p) at.0) })
    ]
  ],
  λ e. (Covers-raised old new (dot_at path (ticks_of old path + 1)) dot raised).1 (elim e [
    | inl before ↦ inl before
    | inr is ↦ inr (ap (λ (d : Dot). d.path) is, omega (arith, ap (λ (d : Dot). d.tick) is), omega (arith, ap (λ (d : Dot). d.tick) is))
  ]),
)

-- an entry that carries the effect at the clone's next dot stands for the range of the operation of it, which comes next
pub own_entry : (history : List Operation) (old : LocalClone) (base journal held : List Range) (effect : EffectValue) (entry : EntryValue)
    → LocalStandsFor history old (kept_by old base journal) held → IsLawful history → IsNext history (made_by old base journal effect)
    → IsInOrder effect → RaisesTo old.ticks entry.time (next_dot old) → entry ≡ effect_entry (next_dot old) entry.time effect
    → EntryStandsFor (made_by old base journal effect ∷ history) entry (range_of (next_dot old))
own_entry history old base journal held effect entry stands lawful is_next ordered time carries =
    let operation : Operation = made_by old base journal effect in
    let ends : IsEffect operation entry = subst (IsEffect operation) (sym carries)
    (effect_carried (next_dot old) (known_of (kept_by old base journal)) entry.time effect (λ dot. (
      λ c. elim ((covers_next old.ticks entry.time old.path dot time).0 c) [ inl before ↦ inl ((stands.known dot).0 before) | inr is ↦ inr is ],
      λ e. (covers_next old.ticks entry.time old.path dot time).1 (elim e [ inl known ↦ inl ((stands.known dot).1 known) | inr is ↦ inr is ]),
    ))) in
    net_of_one (operation ∷ history) operation (is_next, lawful) (inl refl) entry (ap (λ (e : EntryValue). e.range) carries)
    (subst (λ (pairs : List Tagged). IsAscending tagged_cmp pairs) (sym (ap (λ (e : EntryValue). e.deletes) carries)) ordered.deletes)
    (subst (λ (ticked : List (Triple × ℕ)). IsAscending insert_cmp ticked) (sym (ap (λ (e : EntryValue). e.inserts) carries))
    (ticks_ascend (next_dot old).tick effect.inserts ordered.inserts)) ends

-- ---- commands that make an update

module _ (world next : World) where
  plain_at : (at number : ℕ) (own plan : UpdatePlan) (reply : Reply) → at ≡ number → plan ≡ own → UpdatesByPlan world number plan (clone_at world number) reply next
      → UpdatesByPlan world at own (clone_at world at) reply next
  plain_at at number own plan reply here same p =
      subst (λ (k : ℕ). UpdatesByPlan world k own (clone_at world k) reply next) (sym here)
      (subst (λ (it : UpdatePlan). UpdatesByPlan world number it (clone_at world number) reply next) same p)

  -- the step of such a command is that of its plan
  pub plain_update : (command : Command) (number : ℕ) (plan : UpdatePlan) (reply : Reply) → IsUpdateOf command number plan
      → UpdatesByPlan world number plan (clone_at world number) reply next → PlainStep world command reply next
  plain_update (Add at triple) number plan reply is p = plain_at at number (insertion_of triple) plan reply is.0 is.1 p
  plain_update (Remove at triple) number plan reply is p = plain_at at number (deletion_of triple) plan reply is.0 is.1 p
  plain_update (Update at own) number plan reply is p = plain_at at number own plan reply is.0 is.1 p
  plain_update command number plan reply is p = absurd is

  -- and so are its durable steps
  pub update_durably : (command : Command) (number : ℕ) (plan : UpdatePlan) (reply : Reply) (steps : List DurableStep) → IsUpdateOf command number plan
      → MakesDurably world reply next steps → PlainDurableSteps world command reply next steps
  update_durably (Add at triple) number plan reply steps is p = p
  update_durably (Remove at triple) number plan reply steps is p = p
  update_durably (Update at own) number plan reply steps is p = p
  update_durably command number plan reply steps is p = absurd is

-- ---- the deed

module _ (world : World) (number : ℕ) (old : LocalClone) (plan : UpdatePlan) (effect : EffectValue) (entry : EntryValue) (sound : IsSound world)
    (at : LiveAt world number old) (has : IsPlanEffect old.domain (next_dot old) old.pairs plan effect) (some : ¬ ChangesNothing effect)
    (own : (pair : Tagged) → Has effect.deletes pair → Has old.pairs pair) (fits : BreaksNone old.properties old.pairs effect)
    (ordered : IsInOrder effect) (time : RaisesTo old.ticks entry.time (next_dot old)) (carries : entry ≡ effect_entry (next_dot old) entry.time effect) where
  -- the operation that would be made, and what the clone keeps
  abbrev own_operation : Operation
  own_operation = made_by old at.base at.journal effect

  abbrev own_stored : Stored
  own_stored = kept_by old at.base at.journal

  own_sound : IsSoundClone world.history own_stored
  own_sound = live_sound world number own_stored at.held sound at.live

  own_tick : IsNextTick (known_of own_stored) old.path (next_dot old).tick
  own_tick = next_tick_of old (known_of own_stored) at.stands.known

  own_next : IsNext world.history own_operation
  own_next = made_is_next world.history own_stored (next_dot old).tick effect.deletes effect.inserts own_sound own_tick
      (λ pair h. (at.stands.pairs.sound pair (own pair h)).covered) (λ pair h. (at.stands.pairs.sound pair (own pair h)).inserted)

  -- the step of the plan
  own_does : UpdatesByPlan world number plan (clone_at world number) (Did (next_dot old) (length world.messages + 1))
      (after_operation world number own_stored at.held own_operation)
  own_does =
      live_does world (clone_at world number) (Did (next_dot old) (length world.messages + 1)) (after_operation world number own_stored at.held own_operation) _
      own_stored at.held at.live (
        old.pairs,
        at.stands.pairs,
        has_effect (next_dot old).tick own_tick effect
            (subst (λ (domain : List ℕ). IsPlanEffect domain (next_dot old) old.pairs plan effect) at.is.domain has)
            (makes_operation some (subst (λ (properties : List (List ℕ)). BreaksNone properties old.pairs effect) at.is.properties fits)
            (record { tick = (next_dot old).tick; is_next = own_tick; replies = refl; changes = refl })),
      )

  -- what the banks keep behind the append stands for what the clone keeps behind it
  own_kept : (side : Side) (generation : ℕ) → IsKeptFor (owner_at world number) (own_operation ∷ world.history) (with_entry entry (kept_as side generation old))
      (with_range own_stored (range_of (next_dot old)))
  own_kept side generation =
      entry_kept (owner_at world number) (own_operation ∷ world.history) (kept_as side generation old) own_stored
      (longer_kept (owner_at world number) world.history (kept_as side generation old) own_stored (live_kept world number old at side generation) own_operation own_next own_sound)
      entry (range_of (next_dot old))
      (own_entry world.history old at.base at.journal at.held effect entry at.stands sound.lawful own_next ordered time carries)

  -- an update that is due, and the append of the entry that it would make
  pub update_deed : (command : Command) → IsUpdateOf command number plan → (side : Side) (generation : ℕ)
      → CarriedDeed world command number (Keeps (kept_as side generation old)) (Appended entry ∷ [])
  update_deed command is side generation =
      let reply : Reply = Did (next_dot old) (length world.messages + 1) in
      let next : World = after_operation world number own_stored at.held own_operation in
      record {
        deed = record {
          reply = reply;
          after = next;
          does = plain_update world next command number plan reply is own_does;
          steps = AppendsMade own_operation ∷ [];
          are = update_durably world next command number plan reply (AppendsMade own_operation ∷ []) is (record { operation = own_operation; joined = refl; one = refl });
        };
        carries = carried_at world number (Live own_stored at.held) (Keeps (kept_as side generation old)) (Appended entry ∷ []) (AppendsMade own_operation ∷ []) at.live
            (live_kept world number old at side generation, refl, own_kept side generation);
        once = tt;
      }
