-- What taking an operation back leaves of a clone, and why it is refused.
use Rattle.std.proofs.Common.{◌≡◌, ◌∙◌, List, [], ◌↔◌, map, Result, Ok, Err, IsOk, IsErrOf, Option, None, Some, refl, sym, ap, subst, inl, inr, arith}
use Rattle.mld_io.specs.Arm.{Meter}
use Rattle.mld_io.specs.Disk.{Log}
use Rattle.rdf_terms.specs.declared.terms.Triple.{Triple}
use Rattle.tree_clock.specs.declared.dots.Dot.{Dot}
use Rattle.tree_clock.specs.declared.dots.Range.{Range}
use Rattle.tree_clock.specs.Lists.{Has, IsAscending}
use Rattle.mld_ops.specs.declared.tagged.Tagged.{Tagged}
use Rattle.mld_ops.specs.Breaches.{IsPresentAfter}
use Rattle.mld_ops.specs.Effects.{EffectValue}
use Rattle.mld_ops.specs.Entry.{EntryValue, IsEntry}
use Rattle.mld_ops.specs.Meaning.{IsPresent}
use Rattle.mld_ops.specs.Present.{present}
use Rattle.mld_ops.specs.Tagged.{tagged_cmp}
use Rattle.mld_ops.proofs.PresentLaws.{has_present, present_ascends, one_present}
use Rattle.jrql_ast.specs.declared.plans.UpdatePlan.{UpdatePlan}
use Rattle.jrql_eval.specs.PlanEffects.{IsPlanEffect}
use Rattle.mld_model.specs.Local.{LocalClone, IsLocal, next_dot}
use Rattle.clone_core.specs.clone_parts.declared.answers.Done.{Done}
use Rattle.clone_core.specs.clone_parts.declared.answers.Done.TheVariants as done
use Rattle.clone_core.specs.clone_parts.declared.faults.UpdateFault.{UpdateFault}
use Rattle.clone_core.specs.clone_parts.declared.faults.UpdateFault.TheVariants as update
use Rattle.clone_core.specs.clone_parts.KeptSteps.{KeptStep, calls_of_all}
use Rattle.clone_core.specs.journal_store.declared.faults.Why.{Why}
use Rattle.clone_core.specs.journal_store.declared.faults.Why.TheVariants as why
use Rattle.clone_core.specs.Banked.{BankedClone}
use Rattle.clone_core.specs.CloneClosing.{LeavesClone, update_stop}
use Rattle.clone_core.specs.CloneUpdates.{LocallyUpdates, RefusesUpdate}
use Rattle.clone_core.specs.DurableCalls.{AppendsPlanned, Changes, RefusedSteps, UpdateSteps}
use Rattle.clone_core.proofs.DurableLaws.{changes_none, stopped_metered}
use Rattle.clone_history.specs.Undoing.{TakesBack, IsUndo, IsJustBehind, IsUndoSpent, AppendsUndo, UndoSteps, LocallyUndoes, RestoresTriples, RefusesUndo, RefusesUndoing}
use Rattle.clone_history.specs.declared.faults.UndoFault.{UndoFault}
use Rattle.clone_history.specs.declared.faults.UndoFault.TheVariants as undo
use Rattle.clone_history.proofs.Restoring.{restored_old, restored_new, one_range}
use Rattle.clone_history.proofs.UndoPlans.{DoesJust, triples_effect}

-- ---- what is present behind an update

-- the pairs behind an effect ascend, and have the triples that are present behind it
record IsBehind (effect : EffectValue) (before after : List Tagged) : Type 0 where
  ascending : IsAscending tagged_cmp after
  present_then : (triple : Triple) → IsPresent after triple ↔ IsPresentAfter before effect triple

behind_update : (old new : LocalClone) (effect : EffectValue) (answer : Done) → IsAscending tagged_cmp old.pairs → LocallyUpdates old effect answer new
    → IsBehind effect old.pairs new.pairs
behind_update old new effect done.Nothing ascending updates =
    let same : new.pairs ≡ old.pairs = ap (λ (c : LocalClone). c.pairs) updates.1 in
    record {
      ascending = subst (λ (ps : List Tagged). IsAscending tagged_cmp ps) (sym same) ascending;
      present_then = λ triple. (
        λ p. inl (record {
          pair = p.pair;
          stands = subst (λ (ps : List Tagged). Has ps p.pair) same p.stands;
          spared = λ d. subst (λ (ps : List Tagged). Has ps p.pair) updates.0.deletes d;
          is = p.is;
        }),
        λ a. elim a [
          | inl spared ↦ record { pair = spared.pair; stands = subst (λ (ps : List Tagged). Has ps spared.pair) (sym same) spared.stands; is = spared.is }
          | inr inserted ↦ absurd (subst (λ (ts : List Triple). Has ts triple) updates.0.inserts inserted)
        ],
      );
    }
behind_update old new effect (done.Made entry) ascending updates = record {
  ascending = updates.1.ascending;
  present_then = λ triple. (
    λ p. elim ((updates.1.pairs p.pair).0 p.stands) [
      | inl old_one ↦ inl (record { pair = p.pair; stands = old_one.0; spared = old_one.1; is = p.is })
      | inr own ↦ inr (subst (λ (t : Triple). Has effect.inserts t) p.is own.1)
    ],
    λ a. elim a [
      | inl spared ↦ record { pair = spared.pair; stands = (updates.1.pairs spared.pair).1 (inl (spared.stands, spared.spared)); is = spared.is }
      | inr inserted ↦ record {
        pair = record { triple = triple; dot = next_dot old };
        stands = (updates.1.pairs (record { triple = triple; dot = next_dot old })).1 (inr (refl, inserted));
        is = refl;
      }
    ],
  );
}

-- ---- taking an operation back right behind it

pub undo_restores : (old new : LocalClone) (dot : Dot) (answer : Done) → IsLocal old → LocallyUndoes old dot answer new → RestoresTriples old dot new
undo_restores old new dot answer local undone entry before has right =
    let own : EntryValue = undone.undo.entry in
    let is : IsEntry own = undone.undo.own.is in
    let same : own ≡ entry =
    one_range old.base old.base_pairs old.entries old.ticks old.pairs own entry local.leads undone.undo.own.kept.stands has.stands
    (undone.undo.own.kept.same ∙ sym has.same) (let f = is.first in let l = is.last in omega (arith, f, l)) in
    let behind_own : IsJustBehind own before old.pairs = subst (λ (e : EntryValue). IsJustBehind e before old.pairs) (sym same) right in
    let takes : TakesBack own old.pairs undone.plan = undone.undo.takes_back in
    let effect : EffectValue = undone.updates.effect in
    let back : List Triple = map (λ (pair : Tagged). pair.triple) takes.back in
    let does : DoesJust old.pairs takes.gone back effect =
    triples_effect old.domain (next_dot old) old.pairs takes.gone back effect
    (subst (λ (plan : UpdatePlan). IsPlanEffect old.domain (next_dot old) old.pairs plan effect) takes.is undone.updates.has) in
    let then_is : IsBehind effect old.pairs new.pairs = behind_update old new effect answer right.taken.ascending undone.updates.updates in
    let first : own.range.first ≡ dot.tick = ap (λ (r : Range). r.first) undone.undo.own.kept.same in
    let last : own.range.last ≡ dot.tick = ap (λ (r : Range). r.last) undone.undo.own.kept.same in
    one_present before (present new.pairs) right.ascending (present_ascends new.pairs then_is.ascending)
    (λ triple. (
      λ h. restored_old own before old.pairs takes.gone takes.back effect is (first ∙ sym last) behind_own takes.goes takes.comes does triple
          ((then_is.present_then triple).0 ((has_present new.pairs triple).0 h)),
      λ p. (has_present new.pairs triple).1 ((then_is.present_then triple).1
          (restored_new own before old.pairs takes.gone takes.back effect is (first ∙ sym last) behind_own takes.goes takes.comes does triple p)),
    ))

-- ---- refusals

-- what comes before an update is tried is a refusal
pub undoing_refuses : (clone : LocalClone) (dot : Dot) (fault : UndoFault) → RefusesUndoing clone dot fault → RefusesUndo clone dot fault
undoing_refuses clone dot (undo.Update (update.Closed why)) refuses = refuses
undoing_refuses clone dot undo.NotOwn refuses = refuses
undoing_refuses clone dot undo.NotKept refuses = refuses
undoing_refuses clone dot undo.NoMemory refuses = refuses
undoing_refuses clone dot (undo.Update update.TicksSpent) refuses = absurd refuses
undoing_refuses clone dot (undo.Update update.TooMany) refuses = absurd refuses
undoing_refuses clone dot (undo.Update (update.Single s p)) refuses = absurd refuses
undoing_refuses clone dot (undo.Update update.Device) refuses = absurd refuses
undoing_refuses clone dot (undo.Update update.NoMemory) refuses = absurd refuses

-- and so is one of an update by the plan
pub update_refuses : (clone : LocalClone) (dot : Dot) (plan : UpdatePlan) (fault : UpdateFault) → IsUndo clone dot plan → RefusesUpdate clone plan fault
    → RefusesUndo clone dot (undo.Update fault)
update_refuses clone dot plan (update.Closed why) is refuses = tt
update_refuses clone dot plan update.TicksSpent is refuses = record { plan = plan; undo = is; refuses = refuses }
update_refuses clone dot plan update.TooMany is refuses = record { plan = plan; undo = is; refuses = refuses }
update_refuses clone dot plan (update.Single s p) is refuses = record { plan = plan; undo = is; refuses = refuses }
update_refuses clone dot plan update.Device is refuses = record { plan = plan; undo = is; refuses = refuses }
update_refuses clone dot plan update.NoMemory is refuses = record { plan = plan; undo = is; refuses = refuses }

-- ---- what is said of an update is said of the undo

abbrev fault_of : UndoFault → UpdateFault
fault_of (undo.Update fault) = fault
fault_of undo.NotOwn = update.Device
fault_of undo.NotKept = update.Device
fault_of undo.NoMemory = update.Device

same_fault : (one other : UpdateFault) → undo.Update one ≡ undo.Update other → one ≡ other
same_fault one other e = ap fault_of e

abbrev told_of : {T E : Type 0} → E → Result T E → E
told_of given (Ok answer) = given
told_of given (Err fault) = fault

same_told : {T E : Type 0} (one other : E) → ◌≡◌ {A = Result T E} (Err one) (Err other) → one ≡ other
same_told one other e = ap (told_of one) e

-- a refusal before an update is tried
pub undoing_closed : {T U : Type 0} (fault : UndoFault) (closed : Option Why)
    → ((why : Why) → IsErrOf {T = T} (Err fault) (undo.Update (update.Closed why)) ↔ (closed ≡ Some why))
    → (why : Why) → IsErrOf {T = U} (Err fault) (undo.Update (update.Closed why)) ↔ (closed ≡ Some why)
undoing_closed fault closed tells why = (
  λ e. let same : fault ≡ undo.Update (update.Closed why) = same_told fault (undo.Update (update.Closed why)) e in (tells why).0 (ap (λ (f : UndoFault). Err f) same),
  λ is. let same : fault ≡ undo.Update (update.Closed why) = same_told fault (undo.Update (update.Closed why)) ((tells why).1 is) in ap (λ (f : UndoFault). Err f) same,
)

pub update_closed : (fault : UpdateFault) (closed : Option Why) → ((why : Why) → IsErrOf {T = Done} (Err fault) (update.Closed why) ↔ (closed ≡ Some why))
    → (why : Why) → IsErrOf {T = Done} (Err (undo.Update fault)) (undo.Update (update.Closed why)) ↔ (closed ≡ Some why)
update_closed fault closed tells why = (
  λ e. (tells why).0 (ap Err (same_fault fault (update.Closed why) (same_told (undo.Update fault) (undo.Update (update.Closed why)) e))),
  λ is. ap (λ (f : UpdateFault). Err (undo.Update f)) (same_told fault (update.Closed why) ((tells why).1 is)),
)

pub done_closed : (answer : Done) (closed : Option Why) → ((why : Why) → IsErrOf {E = UpdateFault} (Ok answer) (update.Closed why) ↔ (closed ≡ Some why))
    → (why : Why) → IsErrOf {E = UndoFault} (Ok answer) (undo.Update (update.Closed why)) ↔ (closed ≡ Some why)
done_closed answer closed tells why = (λ e. absurd (let no = e in cc), λ is. absurd (let no = (tells why).1 is in cc))

pub leaves_due : {B : Type 0} (log : B → Option Log) (meter : B → Meter) (Part Due : Type 0) (old new : BankedClone B) (stop : Option Why) → (Part → Due)
    → LeavesClone log meter Part ⊥ old new stop → LeavesClone log meter Due ⊥ old new stop
leaves_due log meter Part Due old new None due h = h
leaves_due log meter Part Due old new (Some why.Device) due h =
    record { was = h.was; due = due h.due; now = h.now; called = h.called; local = h.local; generation = h.generation }
leaves_due log meter Part Due old new (Some why.NoMemory) due (inl h) = inl h
leaves_due log meter Part Due old new (Some why.NoMemory) due (inr h) =
    inr (record { was = h.was; due = due h.due; now = h.now; called = h.called; local = h.local; generation = h.generation })

would_undo : (Would Other : List KeptStep → Type 0) (stop : Option Why) (steps : List KeptStep) → (Would steps → Other steps) → RefusedSteps Would stop steps → RefusedSteps Other stop steps
would_undo Would Other None steps to h = h
would_undo Would Other (Some why.Device) steps to h = to h
would_undo Would Other (Some why.NoMemory) steps to (inl h) = inl h
would_undo Would Other (Some why.NoMemory) steps to (inr h) = inr (to h)

-- the durable steps of an update that was refused, and of one that was done
pub undo_steps : {B : Type 0} (log : B → Option Log) (meter : B → Meter) (old : BankedClone B) (now : B) (dot : Dot) (plan : UpdatePlan) (fault : UpdateFault)
    → IsUndo old.local dot plan
    → (steps : List KeptStep) × UpdateSteps old.local plan (Err fault) steps
    × Changes log meter steps old now (IsOk {T = Done} {E = UpdateFault} (Err fault)) (IsErrOf {T = Done} (Err fault) update.Device)
    → (steps : List KeptStep) × UndoSteps old.local dot (Err (undo.Update fault)) steps
    × Changes log meter steps old now (IsOk {T = Done} {E = UndoFault} (Err (undo.Update fault))) (IsErrOf {T = Done} (Err (undo.Update fault)) (undo.Update update.Device))
undo_steps log meter old now dot plan fault is made = (
  made.0,
  would_undo (AppendsPlanned old.local plan) (AppendsUndo old.local dot) (update_stop fault) made.0 (λ appends. record { plan = plan; undo = is; appends = appends }) made.1,
  record {
    metered = stopped_metered (calls_of_all made.0) (meter old.banks) (meter now) update.Device (undo.Update update.Device) fault (undo.Update fault)
        (λ e. same_fault fault update.Device e, λ e. ap undo.Update e) made.2.metered;
    told = made.2.told;
    moments = made.2.moments;
  },
)

-- where no update is tried there are none
pub undoing_steps : {B : Type 0} (log : B → Option Log) (meter : B → Meter) (old : BankedClone B) (dot : Dot) (fault : UndoFault) → RefusesUndoing old.local dot fault
    → (steps : List KeptStep) × UndoSteps old.local dot (Err fault) steps
    × Changes log meter steps old old.banks (IsOk {T = Done} {E = UndoFault} (Err fault)) (IsErrOf {T = Done} (Err fault) (undo.Update update.Device))
undoing_steps log meter old dot (undo.Update (update.Closed why)) refuses = ([], refl, changes_none log meter old old.banks refl (λ f. absurd cc))
undoing_steps log meter old dot undo.NotOwn refuses = ([], refl, changes_none log meter old old.banks refl (λ f. absurd cc))
undoing_steps log meter old dot undo.NotKept refuses = ([], refl, changes_none log meter old old.banks refl (λ f. absurd cc))
undoing_steps log meter old dot undo.NoMemory refuses = ([], refl, changes_none log meter old old.banks refl (λ f. absurd cc))
undoing_steps log meter old dot (undo.Update update.TicksSpent) refuses = absurd refuses
undoing_steps log meter old dot (undo.Update update.TooMany) refuses = absurd refuses
undoing_steps log meter old dot (undo.Update (update.Single s p)) refuses = absurd refuses
undoing_steps log meter old dot (undo.Update update.Device) refuses = absurd refuses
undoing_steps log meter old dot (undo.Update update.NoMemory) refuses = absurd refuses

-- nor are its ticks told as spent, but where memory ran out
pub undoing_unspent : {B : Type 0} (old : BankedClone B) (dot : Dot) (fault : UndoFault) → RefusesUndoing old.local dot fault
    → ((why : Why) → IsErrOf {T = UpdatePlan} (Err fault) (undo.Update (update.Closed why)) ↔ (old.closed ≡ Some why))
    → IsErrOf {T = Done} (Err fault) (undo.Update update.TicksSpent) ↔ (IsUndoSpent old dot × ¬ IsErrOf {T = Done} (Err fault) undo.NoMemory)
undoing_unspent old dot (undo.Update (update.Closed why)) refuses closed = (
  λ e. absurd (let no = e in cc),
  λ spent. absurd (let is = (closed why).0 refl in let opened = spent.0.opened in cc),
)
undoing_unspent old dot undo.NotOwn refuses closed = (λ e. absurd (let no = e in cc), λ spent. absurd (refuses spent.0.own.own))
undoing_unspent old dot undo.NotKept refuses closed = (
  λ e. absurd (let no = e in cc),
  λ spent. absurd (refuses.lacks spent.0.entry spent.0.own.kept.stands spent.0.own.kept.same),
)
undoing_unspent old dot undo.NoMemory refuses closed = (λ e. absurd (let no = e in cc), λ spent. absurd (spent.1 refl))
undoing_unspent old dot (undo.Update update.TicksSpent) refuses closed = absurd refuses
undoing_unspent old dot (undo.Update update.TooMany) refuses closed = absurd refuses
undoing_unspent old dot (undo.Update (update.Single s p)) refuses closed = absurd refuses
undoing_unspent old dot (undo.Update update.Device) refuses closed = absurd refuses
undoing_unspent old dot (undo.Update update.NoMemory) refuses closed = absurd refuses
