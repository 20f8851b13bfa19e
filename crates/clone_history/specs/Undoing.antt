-- Taking back an operation of a clone's own: the plan that does so, why there is none, and what is there afterwards. `undo_plan` and `undo` cite it.
use Rattle.std.specs.Prelude.{◌≡◌, ◌≢◌, ◌-◌, List, [], ◌∷◌, map, Result, Ok, Err, Option, None}
use Rattle.rdf_terms.specs.declared.terms.Triple.{Triple}
use Rattle.tree_clock.specs.declared.dots.Dot.{Dot}
use Rattle.tree_clock.specs.Clock.{ticks_of}
use Rattle.tree_clock.specs.Limits.{tick_limit}
use Rattle.tree_clock.specs.Lists.{Has, IsAscending}
use Rattle.mld_ops.specs.declared.tagged.Tagged.{Tagged}
use Rattle.mld_ops.specs.Tagged.{tagged_cmp}
use Rattle.mld_ops.specs.Cut.{IsCutOf}
use Rattle.mld_ops.specs.Effect.{range_of}
use Rattle.mld_ops.specs.Entry.{EntryValue, IsEntry}
use Rattle.mld_ops.specs.Present.{present}
use Rattle.mld_ops.specs.Ready.{last_dot}
use Rattle.graph_index.specs.Matching.{HasTriple, dots_of}
use Rattle.jrql_ast.specs.declared.plans.UpdatePlan.{UpdatePlan}
use Rattle.jrql_ast.specs.Templates.{template_of, no_group}
use Rattle.clone_core.specs.journal_store.declared.faults.Why.{Why}
use Rattle.mld_model.specs.Local.{LocalClone}
use Rattle.clone_core.specs.clone_parts.KeptSteps.{KeptStep}
use Rattle.clone_core.specs.clone_parts.declared.answers.Done.{Done}
use Rattle.clone_core.specs.clone_parts.declared.faults.UpdateFault.{UpdateFault}
use Rattle.clone_core.specs.clone_parts.declared.faults.UpdateFault.TheVariants as update
use Rattle.clone_core.specs.Banked.{BankedClone}
use Rattle.clone_core.specs.CloneCalls.{HasRange, LacksRange}
use Rattle.clone_core.specs.CloneClosing.{update_stop}
use Rattle.clone_core.specs.CloneUpdates.{LocallyUpdatesBy, RefusesUpdate, IsDueUpdate}
use Rattle.clone_core.specs.DurableCalls.{AppendsPlanned, OwnSteps, RefusedSteps}
use Rattle.clone_history.specs.KeptMembers.{KeepsThose}
use Rattle.clone_history.specs.declared.faults.UndoFault.{UndoFault}
use Rattle.clone_history.specs.declared.faults.UndoFault.TheVariants as undo

-- ---- the plan

-- the plan that deletes these triples and inserts those, whatever is present
abbrev pub triples_plan : List Triple → List Triple → UpdatePlan
triples_plan deletes inserts = record { group = no_group; deletes = map template_of deletes; inserts = map template_of inserts; fresh = 0 }

-- a triple that an operation inserted is taken out: it has one pair, that of the operation's dot, and the operation deleted no pair of it
pub record IsTakenOut (own : Dot) (deleted pairs : List Tagged) (triple : Triple) : Type 0 where
  pub alone : dots_of triple pairs ≡ own ∷ []
  pub other : ¬ HasTriple deleted triple

-- the triple of a pair that an operation deleted is put back: it has no pair
abbrev pub IsPutBack : List Tagged → Tagged → Type 0
IsPutBack pairs deleted = ¬ HasTriple pairs deleted.triple

-- the plan that takes back the operation of an entry over these pairs: of the triples that it inserts those are deleted that are taken out, and
-- of the pairs that it deletes the triples of those are inserted that are put back
pub record TakesBack (entry : EntryValue) (pairs : List Tagged) (plan : UpdatePlan) : Type 0 where
  pub gone : List Triple
  pub goes : KeepsThose (IsTakenOut (last_dot entry.range) entry.deletes pairs) (map (λ insert. insert.0) entry.inserts) gone
  pub back : List Tagged
  pub comes : KeepsThose (IsPutBack pairs) entry.deletes back
  pub is : plan ≡ triples_plan gone (map (λ (pair : Tagged). pair.triple) back)

-- ---- which operations

-- the dot is one of the clone's own path, and this is the entry of the journal that has just that dot
pub record IsOwnKept (clone : LocalClone) (dot : Dot) (entry : EntryValue) : Type 0 where
  pub own : dot.path ≡ clone.path
  pub kept : HasRange clone.entries (range_of dot) entry
  pub is : IsEntry entry

-- the dot is one of the clone's own path, and no range of the journal has just that dot
pub record IsOwnLost (clone : LocalClone) (dot : Dot) : Type 0 where
  pub own : dot.path ≡ clone.path
  pub lacks : LacksRange clone.entries (range_of dot)

-- the plan takes back the operation of the dot
pub record IsUndo (clone : LocalClone) (dot : Dot) (plan : UpdatePlan) : Type 0 where
  pub entry : EntryValue
  pub own : IsOwnKept clone dot entry
  pub takes_back : TakesBack entry clone.pairs plan

-- ---- what becomes of it

-- what became of taking an operation back: that of an update by the plan that does so
pub record LocallyUndoes (old : LocalClone) (dot : Dot) (answer : Done) (new : LocalClone) : Type 0 where
  pub plan : UpdatePlan
  pub undo : IsUndo old dot plan
  pub updates : LocallyUpdatesBy old plan answer new

-- an update by the plan was refused
pub record RefusesUndoPlan (clone : LocalClone) (dot : Dot) (fault : UpdateFault) : Type 0 where
  pub plan : UpdatePlan
  pub undo : IsUndo clone dot plan
  pub refuses : RefusesUpdate clone plan fault

-- why it was refused: the dot isn't of the clone's own path; the journal has no range of just that dot; an update by the plan was; or for what the
-- clone says more of
abbrev pub RefusesUndo : LocalClone → Dot → UndoFault → Type 0
RefusesUndo clone dot (undo.Update (update.Closed why)) = Unit {0}
RefusesUndo clone dot (undo.Update fault) = RefusesUndoPlan clone dot fault
RefusesUndo clone dot undo.NotOwn = dot.path ≢ clone.path
RefusesUndo clone dot undo.NotKept = IsOwnLost clone dot
RefusesUndo clone dot undo.NoMemory = Unit {0}

-- why there is no plan that takes it back: those of these that come before an update is tried
abbrev pub RefusesUndoing : LocalClone → Dot → UndoFault → Type 0
RefusesUndoing clone dot (undo.Update (update.Closed why)) = Unit {0}
RefusesUndoing clone dot (undo.Update fault) = ⊥
RefusesUndoing clone dot undo.NotOwn = dot.path ≢ clone.path
RefusesUndoing clone dot undo.NotKept = IsOwnLost clone dot
RefusesUndoing clone dot undo.NoMemory = Unit {0}

-- an open clone whose path has no tick left keeps the operation of the dot
pub record IsUndoSpent {B : Type 0} (clone : BankedClone B) (dot : Dot) : Type 0 where
  pub opened : clone.closed ≡ None
  pub entry : EntryValue
  pub own : IsOwnKept clone.local dot entry
  pub last : ticks_of clone.local.ticks clone.local.path ≡ tick_limit

-- it has an operation to append
pub record IsDueUndo (clone : LocalClone) (dot : Dot) : Type 0 where
  pub plan : UpdatePlan
  pub undo : IsUndo clone dot plan
  pub due : IsDueUpdate clone plan

-- what stopped it, where it was the device or memory; its own want of memory leaves the clone as it was
abbrev pub undo_stop : UndoFault → Option Why
undo_stop (undo.Update fault) = update_stop fault
undo_stop undo.NotOwn = None
undo_stop undo.NotKept = None
undo_stop undo.NoMemory = None

-- the append that it would make
pub record AppendsUndo (old : LocalClone) (dot : Dot) (steps : List KeptStep) : Type 0 where
  pub plan : UpdatePlan
  pub undo : IsUndo old dot plan
  pub appends : AppendsPlanned old plan steps

-- its durable steps: those of an update
abbrev pub UndoSteps : LocalClone → Dot → Result Done UndoFault → List KeptStep → Type 0
UndoSteps old dot (Ok answer) steps = OwnSteps (AppendsUndo old dot) (Ok answer) steps
UndoSteps old dot (Err refused) steps = RefusedSteps (AppendsUndo old dot) (undo_stop refused) steps

-- ---- what is there afterwards

-- the pairs are those right behind the operation of an entry, and these the pairs before it: none of them has its dot, it deletes some of them, and
-- taking the entry leaves the others
pub record IsJustBehind (entry : EntryValue) (before after : List Tagged) : Type 0 where
  pub ascending : IsAscending tagged_cmp before
  pub fresh : (pair : Tagged) → Has before pair → pair.dot ≢ last_dot entry.range
  pub deletes : (pair : Tagged) → Has entry.deletes pair → Has before pair
  pub taken : IsCutOf entry (entry.range.last - 1) before after

-- where an operation is taken back right behind it, the triples that are present are those from before it
abbrev pub RestoresTriples : LocalClone → Dot → LocalClone → Type 0
RestoresTriples old dot new = (entry : EntryValue) (before : List Tagged) → HasRange old.entries (range_of dot) entry
    → IsJustBehind entry before old.pairs → present new.pairs ≡ present before
