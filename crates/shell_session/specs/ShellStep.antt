-- One step of a shell: a command, its reply, the durable steps that it makes on the banks, and the shell after it.
use Rattle.std.specs.Prelude.{◌≡◌, ℕ, ◌-◌, ◌^◌, ◌<◌, List, [], ◌∷◌, length}
use Rattle.tree_clock.specs.Limits.{tick_limit}
use Rattle.tree_clock.specs.Clock.{ticks_of, RaisesTo}
use Rattle.mld_ops.specs.Effects.{EffectValue, effect_entry}
use Rattle.mld_ops.specs.Entry.{EntryValue}
use Rattle.mld_ops.specs.Present.{present}
use Rattle.mld_ops.specs.Properties.{AreKept}
use Rattle.op_fusion.specs.Compacting.{HasNeighbours}
use Rattle.jrql_ast.specs.declared.plans.UpdatePlan.{UpdatePlan}
use Rattle.jrql_ast.specs.Templates.{insertion_of, deletion_of}
use Rattle.jrql_eval.specs.PlanEffects.{HasTooMany}
use Rattle.crash_laws.specs.journal_sides.Heads.{HeadValue}
use Rattle.mld_model.specs.Local.{LocalClone, IsLocal, blank_clone, next_dot, LocallyCompacts, LocallyTruncates}
use Rattle.mld_model.specs.Reply.{Reply, NoOperation, Single, TooMany, Shows, Kept, IsLive, Stopped, Opened}
use Rattle.schedule_text.specs.schedule_model.Querying.{AnswersQuery}
use Rattle.crash_laws.specs.clone_parts.KeptSteps.{KeptStep, Created, Appended, Swapped}
use Rattle.crash_laws.specs.clone_parts.declared.answers.Done.TheVariants as done
use Rattle.crash_laws.specs.clone_core.Banked.{head_of}
use Rattle.crash_laws.specs.clone_core.CloneUpdates.{LocallyUpdatesBy, BreaksSingle, HasEffect, IsMakeable}
use Rattle.crash_laws.specs.clone_core.DurableCalls.{SwapsTo}
use Rattle.shell_session.specs.declared.commands.ShellCommand.{ShellCommand}
use Rattle.shell_session.specs.declared.commands.ShellCommand.TheVariants as shell
use Rattle.shell_session.specs.Shells.{FoundOnBanks, Nothing, Stored, Damage, Shell, Shut, Live, generation_after}
use Rattle.shell_session.specs.ShellReply.{ShellReply, Says, DidAt, IsClosed, FoundNothing, FoundDamage, NotEmpty, MadeClone, TicksSpent, GenerationsSpent}

-- ---- a live clone

-- the clone's path has no tick left
abbrev pub HasSpentTicks : LocalClone → Type 0
HasSpentTicks clone = ticks_of clone.ticks clone.path ≡ tick_limit

-- an update by a plan: no tick is left; or the plan has too many solutions; or it changes nothing; or it would give a subject a second value
-- of a single-valued property; or the clone makes its operation, whose entry is appended
pub data AnswersUpdate (clone : LocalClone) (plan : UpdatePlan) : ShellReply → List KeptStep → LocalClone → Type 0 where
  no_tick_is_left : HasSpentTicks clone → AnswersUpdate clone plan TicksSpent [] clone
  is_too_large : ¬ HasSpentTicks clone → HasTooMany clone.pairs plan → AnswersUpdate clone plan (Says TooMany) [] clone
  changes_nothing : ¬ HasSpentTicks clone → LocallyUpdatesBy clone plan done.Nothing clone → AnswersUpdate clone plan (Says NoOperation) [] clone
  breaks_single : ¬ HasSpentTicks clone → (place : List ℕ × List ℕ) → BreaksSingle clone plan place
      → AnswersUpdate clone plan (Says (Single place.0 place.1)) [] clone
  makes_operation : ¬ HasSpentTicks clone → (entry : EntryValue) (new : LocalClone) → LocallyUpdatesBy clone plan (done.Made entry) new
      → AnswersUpdate clone plan (DidAt (next_dot clone)) (Appended entry ∷ []) new

-- the generation of what the banks keep is the last
abbrev pub IsLast : ℕ → Type 0
IsLast generation = generation ≡ 2 ^ 64 - 1

-- a journal is kept compacted or truncated, at this generation: there is nothing to do (`Due`); or no generation is left for it; or the
-- clone becomes what it is to be (`Step`), and what the banks keep is swapped for that
pub data KeepsJournal (Due : Type 0) (Step : LocalClone → Type 0) (generation : ℕ) (clone : LocalClone) : ShellReply → List KeptStep → LocalClone → Type 0 where
  is_kept_so : ¬ Due → KeepsJournal Due Step generation clone (Says (Kept (length clone.entries))) [] clone
  no_generation_is_left : Due → IsLast generation → KeepsJournal Due Step generation clone GenerationsSpent [] clone
  swaps_journal : Due → ¬ IsLast generation → (new : LocalClone) → Step new
      → KeepsJournal Due Step generation clone (Says (Kept (length new.entries))) (Swapped (head_of new) new.entries ∷ []) new

-- a compaction, and a truncation to so many entries
abbrev pub CompactsAs : ℕ → LocalClone → ShellReply → List KeptStep → LocalClone → Type 0
CompactsAs generation clone reply steps new = KeepsJournal (HasNeighbours clone.entries) (LocallyCompacts clone) generation clone reply steps new

abbrev pub TruncatesAs : ℕ → ℕ → LocalClone → ShellReply → List KeptStep → LocalClone → Type 0
TruncatesAs keep generation clone reply steps new =
    KeepsJournal (keep < length clone.entries) (LocallyTruncates clone keep) generation clone reply steps new

-- the reply is this one, no durable step is made, and the clone stays as it is
abbrev pub OnlyReplies : Reply → LocalClone → ShellReply → List KeptStep → LocalClone → Type 0
OnlyReplies answer clone reply steps new = (reply ≡ Says answer) × (steps ≡ []) × (new ≡ clone)

-- what a live clone does that stays live, at this generation
abbrev pub LiveStep : ℕ → LocalClone → ShellCommand → ShellReply → List KeptStep → LocalClone → Type 0
LiveStep generation clone shell.Open reply steps new = OnlyReplies IsLive clone reply steps new
LiveStep generation clone (shell.Create id domain properties) reply steps new = OnlyReplies IsLive clone reply steps new
LiveStep generation clone (shell.Add triple) reply steps new = AnswersUpdate clone (insertion_of triple) reply steps new
LiveStep generation clone (shell.Remove triple) reply steps new = AnswersUpdate clone (deletion_of triple) reply steps new
LiveStep generation clone (shell.Update plan) reply steps new = AnswersUpdate clone plan reply steps new
LiveStep generation clone (shell.Query read) reply steps new =
    (answer : Reply) × AnswersQuery (present clone.pairs) read answer × OnlyReplies answer clone reply steps new
LiveStep generation clone shell.Show reply steps new = OnlyReplies (Shows clone.pairs) clone reply steps new
LiveStep generation clone shell.Compact reply steps new = CompactsAs generation clone reply steps new
LiveStep generation clone (shell.Truncate keep) reply steps new = TruncatesAs keep generation clone reply steps new
LiveStep generation clone shell.Stop reply steps new = ⊥
LiveStep generation clone shell.Skipped reply steps new = ⊥

-- ---- no live clone

-- the reply is this one, no durable step is made, and the shell stays as it is
abbrev pub Stays : ShellReply → Shell → ShellReply → List KeptStep → Shell → Type 0
Stays answer shell reply steps next = (reply ≡ answer) × (steps ≡ []) × (next ≡ shell)

-- a clone runs again that banks keep with this head and these entries: it is whole, and holds nothing back
pub record RunsFrom (head : HeadValue) (entries : List EntryValue) (clone : LocalClone) : Type 0 where
  pub head_is : head ≡ head_of clone
  pub entries_are : entries ≡ clone.entries
  pub held : clone.held ≡ []
  pub local : IsLocal clone

-- the clone that the banks keep is live again
pub record ShellReopens (generation : ℕ) (head : HeadValue) (entries : List EntryValue) (reply : ShellReply) (steps : List KeptStep) (next : Shell) : Type 0 where
  pub clone : LocalClone
  pub runs : RunsFrom head entries clone
  pub replies : reply ≡ Says Opened
  pub none : steps ≡ []
  pub becomes : next ≡ Live generation clone

-- banks are opened on which this is found
abbrev pub OpensShut : FoundOnBanks → ShellReply → List KeptStep → Shell → Type 0
OpensShut Nothing reply steps next = Stays FoundNothing (Shut Nothing) reply steps next
OpensShut (Stored generation head entries) reply steps next = ShellReopens generation head entries reply steps next
OpensShut (Damage side place) reply steps next = Stays (FoundDamage side place) (Shut (Damage side place)) reply steps next

-- the first clone of a domain, which keeps these properties
abbrev pub first_clone : List ℕ → List ℕ → List (List ℕ) → LocalClone
first_clone id domain kept = blank_clone id domain kept []

-- the first clone of a domain is made on the banks, and is live
pub record Founds (id domain : List ℕ) (properties : List (List ℕ)) (reply : ShellReply) (steps : List KeptStep) (next : Shell) : Type 0 where
  pub kept : List (List ℕ)
  pub each : AreKept properties kept
  pub replies : reply ≡ MadeClone
  pub creates : steps ≡ Created (head_of (first_clone id domain kept)) ∷ []
  pub becomes : next ≡ Live 1 (first_clone id domain kept)

-- a clone is to be made on banks on which this is found: it is made where they keep nothing, and only there
abbrev pub FoundsShut : List ℕ → List ℕ → List (List ℕ) → FoundOnBanks → ShellReply → List KeptStep → Shell → Type 0
FoundsShut id domain properties Nothing reply steps next = Founds id domain properties reply steps next
FoundsShut id domain properties (Stored generation head entries) reply steps next =
    Stays NotEmpty (Shut (Stored generation head entries)) reply steps next
FoundsShut id domain properties (Damage side place) reply steps next = Stays (FoundDamage side place) (Shut (Damage side place)) reply steps next

-- what becomes of a command while no clone is live: all but two are refused
abbrev pub ShutStep : FoundOnBanks → ShellCommand → ShellReply → List KeptStep → Shell → Type 0
ShutStep found shell.Open reply steps next = OpensShut found reply steps next
ShutStep found (shell.Create id domain properties) reply steps next = FoundsShut id domain properties.items found reply steps next
ShutStep found command reply steps next = Stays IsClosed (Shut found) reply steps next

-- ---- any command

-- a live clone stops: its banks keep it, and what it holds back is forgotten
pub record ShellStops (generation : ℕ) (clone : LocalClone) (reply : ShellReply) (steps : List KeptStep) (next : Shell) : Type 0 where
  pub replies : reply ≡ Says Stopped
  pub none : steps ≡ []
  pub becomes : next ≡ Shut (Stored generation (head_of clone) clone.entries)

-- a live clone stays live
pub record StaysLive (generation : ℕ) (clone : LocalClone) (command : ShellCommand) (reply : ShellReply) (steps : List KeptStep) (next : Shell) : Type 0 where
  pub new : LocalClone
  pub does : LiveStep generation clone command reply steps new
  pub becomes : next ≡ Live (generation_after steps generation) new

-- the step of a shell
abbrev pub ShellStep : Shell → ShellCommand → ShellReply → List KeptStep → Shell → Type 0
ShellStep (Shut found) command reply steps next = ShutStep found command reply steps next
ShellStep (Live generation clone) shell.Stop reply steps next = ShellStops generation clone reply steps next
ShellStep (Live generation clone) command reply steps next = StaysLive generation clone command reply steps next

-- ---- what a command has to do on the banks

-- the clone makes the operation of an update, for which a tick is left, and whose entry is appended
pub record AppendsUpdate (clone : LocalClone) (plan : UpdatePlan) (steps : List KeptStep) : Type 0 where
  pub left : ¬ HasSpentTicks clone
  pub effect : EffectValue
  pub has : HasEffect clone plan effect
  pub may : IsMakeable clone effect
  pub entry : EntryValue
  pub time : RaisesTo clone.ticks entry.time (next_dot clone)
  pub carries : entry ≡ effect_entry (next_dot clone) entry.time effect
  pub appends : steps ≡ Appended entry ∷ []

-- the journal is swapped for what it is to be, for which a generation is left
pub record SwapsJournal (Due : Type 0) (Step : LocalClone → Type 0) (generation : ℕ) (steps : List KeptStep) : Type 0 where
  pub due : Due
  pub left : ¬ IsLast generation
  pub new : LocalClone
  pub step : Step new
  pub swaps : SwapsTo new steps

-- that of a compaction, and of a truncation to so many entries
abbrev pub IsDueCompaction : ℕ → LocalClone → List KeptStep → Type 0
IsDueCompaction generation clone steps = SwapsJournal (HasNeighbours clone.entries) (LocallyCompacts clone) generation steps

abbrev pub IsDueTruncation : ℕ → ℕ → LocalClone → List KeptStep → Type 0
IsDueTruncation keep generation clone steps = SwapsJournal (keep < length clone.entries) (LocallyTruncates clone keep) generation steps

-- the durable steps that a command has to make on a live clone, where it has any
abbrev pub IsDueLive : ℕ → LocalClone → ShellCommand → List KeptStep → Type 0
IsDueLive generation clone (shell.Add triple) steps = AppendsUpdate clone (insertion_of triple) steps
IsDueLive generation clone (shell.Remove triple) steps = AppendsUpdate clone (deletion_of triple) steps
IsDueLive generation clone (shell.Update plan) steps = AppendsUpdate clone plan steps
IsDueLive generation clone shell.Compact steps = IsDueCompaction generation clone steps
IsDueLive generation clone (shell.Truncate keep) steps = IsDueTruncation keep generation clone steps
IsDueLive generation clone command steps = ⊥

-- a clone is made on banks that keep nothing
pub record MakesFirst (id domain : List ℕ) (properties : List (List ℕ)) (steps : List KeptStep) : Type 0 where
  pub kept : List (List ℕ)
  pub each : AreKept properties kept
  pub creates : steps ≡ Created (head_of (first_clone id domain kept)) ∷ []

-- those that it has to make while no clone is live
abbrev pub IsDueShut : FoundOnBanks → ShellCommand → List KeptStep → Type 0
IsDueShut Nothing (shell.Create id domain properties) steps = MakesFirst id domain properties.items steps
IsDueShut found command steps = ⊥

-- and those that a command has to make
abbrev pub IsDue : Shell → ShellCommand → List KeptStep → Type 0
IsDue (Shut found) command steps = IsDueShut found command steps
IsDue (Live generation clone) command steps = IsDueLive generation clone command steps
