-- What is found on the banks of a shell after a step, a line and a run.
use Rattle.std.proofs.Common.{◌≡◌, ℕ, List, [], ◌∷◌, ◌++◌, refl, sym, ◌∙◌, ap, subst}
use Rattle.mld_ops.specs.Entry.{EntryValue}
use Rattle.jrql_ast.specs.declared.plans.UpdatePlan.{UpdatePlan}
use Rattle.mld_model.specs.Local.{LocalClone, IsSameClone}
use Rattle.mld_model.specs.Reply.{Reply}
use Rattle.crash_laws.specs.clone_parts.KeptSteps.{KeptStep, Appended, Swapped}
use Rattle.crash_laws.specs.clone_core.Banked.{head_of}
use Rattle.jrql_ast.specs.Templates.{insertion_of, deletion_of}
use Rattle.shell_session.specs.declared.commands.ShellCommand.{ShellCommand}
use Rattle.shell_session.specs.declared.commands.ShellCommand.TheVariants as shell
use Rattle.shell_session.specs.ShellRunLaws.{StepsLead}
use Rattle.shell_session.specs.ShellRuns.{ShellLine, says_nothing, is_bad, commands}
use Rattle.shell_session.specs.ShellReply.{ShellReply, IsClosed, FoundNothing, FoundDamage, NotEmpty}
use Rattle.shell_session.specs.ShellStep.{AnswersUpdate, no_tick_is_left, is_too_large, changes_nothing, breaks_single, makes_operation, KeepsJournal, is_kept_so, no_generation_is_left, swaps_journal, OnlyReplies, LiveStep, Stays, OpensShut, FoundsShut, ShutStep, ShellStep}
use Rattle.shell_session.specs.Shells.{FoundOnBanks, Nothing, Stored, Damage, Shell, Shut, Live, found_of, found_after_step, found_after, generation_after}

-- ---- a live clone

-- what the durable steps of a step of a live clone make of it: there are none, and nothing changes; an entry is appended; or all is swapped
pub data IsStepTo (old new : LocalClone) : List KeptStep → Type 0 where
  stays : new ≡ old → IsStepTo old new []
  appends : (entry : EntryValue) → new.entries ≡ old.entries ++ entry ∷ [] → head_of new ≡ head_of old → IsStepTo old new (Appended entry ∷ [])
  swaps : IsStepTo old new (Swapped (head_of new) new.entries ∷ [])

pub same_head : (old new : LocalClone) → IsSameClone old new → head_of new ≡ head_of old
same_head old new same = λ i. record {
  id = same.id i;
  domain = same.domain i;
  properties = same.properties i;
  path = same.path i;
  base = record { ticks = same.base i; pairs = same.base_pairs i };
}

only_step : (answer : Reply) (clone : LocalClone) (reply : ShellReply) (steps : List KeptStep) (new : LocalClone) → OnlyReplies answer clone reply steps new
    → IsStepTo clone new steps
only_step answer clone reply steps new only = subst (λ (s : List KeptStep). IsStepTo clone new s) (sym only.1) (stays only.2)

update_step : (clone : LocalClone) (plan : UpdatePlan) (reply : ShellReply) (steps : List KeptStep) (new : LocalClone) → AnswersUpdate clone plan reply steps new
    → IsStepTo clone new steps
update_step clone plan reply steps new (no_tick_is_left spent) = stays refl
update_step clone plan reply steps new (is_too_large left many) = stays refl
update_step clone plan reply steps new (changes_nothing left updates) = stays refl
update_step clone plan reply steps new (breaks_single left place breaks) = stays refl
update_step clone plan reply steps new (makes_operation left entry made updates) =
    appends entry updates.updates.1.entries (same_head clone made updates.updates.1.same)

journal_step : {Due : Type 0} {Step : LocalClone → Type 0} (generation : ℕ) (clone : LocalClone) (reply : ShellReply) (steps : List KeptStep) (new : LocalClone)
    → KeepsJournal Due Step generation clone reply steps new → IsStepTo clone new steps
journal_step generation clone reply steps new (is_kept_so none) = stays refl
journal_step generation clone reply steps new (no_generation_is_left due last) = stays refl
journal_step generation clone reply steps new (swaps_journal due left made step) = swaps

pub live_step : (generation : ℕ) (clone : LocalClone) (command : ShellCommand) (reply : ShellReply) (steps : List KeptStep) (new : LocalClone)
    → LiveStep generation clone command reply steps new → IsStepTo clone new steps
live_step generation clone shell.Open reply steps new does = only_step _ clone reply steps new does
live_step generation clone (shell.Create id domain properties) reply steps new does = only_step _ clone reply steps new does
live_step generation clone (shell.Add triple) reply steps new does = update_step clone (insertion_of triple) reply steps new does
live_step generation clone (shell.Remove triple) reply steps new does = update_step clone (deletion_of triple) reply steps new does
live_step generation clone (shell.Update plan) reply steps new does = update_step clone plan reply steps new does
live_step generation clone (shell.Query read) reply steps new does = only_step does.0 clone reply steps new does.2
live_step generation clone shell.Show reply steps new does = only_step _ clone reply steps new does
live_step generation clone shell.Compact reply steps new does = journal_step generation clone reply steps new does
live_step generation clone (shell.Truncate keep) reply steps new does = journal_step generation clone reply steps new does
live_step generation clone shell.Stop reply steps new does = absurd does
live_step generation clone shell.Skipped reply steps new does = absurd does

-- what is found then is what the durable steps make of what was found
pub live_found : (generation : ℕ) (old new : LocalClone) (steps : List KeptStep) → IsStepTo old new steps
    → Stored (generation_after steps generation) (head_of new) new.entries ≡ found_after steps (Stored generation (head_of old) old.entries)
live_found generation old new steps (stays same) = ap (λ (clone : LocalClone). Stored generation (head_of clone) clone.entries) same
live_found generation old new steps (appends entry entries head) = λ i. Stored generation (head i) (entries i)
live_found generation old new steps swaps = refl

-- ---- no live clone

stays_found : (answer : ShellReply) (shell : Shell) (reply : ShellReply) (steps : List KeptStep) (next : Shell) → Stays answer shell reply steps next
    → found_of next ≡ found_after steps (found_of shell)
stays_found answer shell reply steps next does =
    ap found_of does.2 ∙ sym (ap (λ (s : List KeptStep). found_after s (found_of shell)) does.1)

opens_found : (found : FoundOnBanks) (reply : ShellReply) (steps : List KeptStep) (next : Shell) → OpensShut found reply steps next
    → found_of next ≡ found_after steps found
opens_found Nothing reply steps next does = stays_found FoundNothing (Shut Nothing) reply steps next does
opens_found (Damage side place) reply steps next does = stays_found (FoundDamage side place) (Shut (Damage side place)) reply steps next does
opens_found (Stored generation head entries) reply steps next does =
    let same : Stored generation (head_of does.clone) does.clone.entries ≡ Stored generation head entries =
    λ i. Stored generation (sym does.runs.head_is i) (sym does.runs.entries_are i) in
    ap found_of does.becomes ∙ same ∙ sym (ap (λ (s : List KeptStep). found_after s (Stored generation head entries)) does.none)

founds_found : (id domain : List ℕ) (properties : List (List ℕ)) (found : FoundOnBanks) (reply : ShellReply) (steps : List KeptStep) (next : Shell)
    → FoundsShut id domain properties found reply steps next → found_of next ≡ found_after steps found
founds_found id domain properties Nothing reply steps next does =
    ap found_of does.becomes ∙ sym (ap (λ (s : List KeptStep). found_after s Nothing) does.creates)
founds_found id domain properties (Damage side place) reply steps next does =
    stays_found (FoundDamage side place) (Shut (Damage side place)) reply steps next does
founds_found id domain properties (Stored generation head entries) reply steps next does =
    stays_found NotEmpty (Shut (Stored generation head entries)) reply steps next does

shut_found : (found : FoundOnBanks) (command : ShellCommand) (reply : ShellReply) (steps : List KeptStep) (next : Shell) → ShutStep found command reply steps next
    → found_of next ≡ found_after steps found
shut_found found shell.Open reply steps next does = opens_found found reply steps next does
shut_found found (shell.Create id domain properties) reply steps next does = founds_found id domain properties.items found reply steps next does
shut_found found command reply steps next does = stays_found IsClosed (Shut found) reply steps next does

-- ---- lines

step_found : (old : Shell) (command : ShellCommand) (reply : ShellReply) (steps : List KeptStep) (next : Shell) → ShellStep old command reply steps next
    → found_of next ≡ found_after steps (found_of old)
step_found (Shut found) command reply steps next does = shut_found found command reply steps next does
step_found (Live generation clone) shell.Stop reply steps next does =
    ap found_of does.becomes ∙ sym (ap (λ (s : List KeptStep). found_after s (found_of (Live generation clone))) does.none)
step_found (Live generation clone) command reply steps next does =
    ap found_of does.becomes ∙ live_found generation clone does.new steps (live_step generation clone command reply steps does.new does.does)

line_found : (old : Shell) (line text : List ℕ) (steps : List KeptStep) (next : Shell) → ShellLine old line text steps next
    → found_of next ≡ found_after steps (found_of old)
line_found old line text steps next (says_nothing nothing no_text none same) =
    ap found_of same ∙ sym (ap (λ (s : List KeptStep). found_after s (found_of old)) none)
line_found old line text steps next (is_bad bad replies none same) =
    ap found_of same ∙ sym (ap (λ (s : List KeptStep). found_after s (found_of old)) none)
line_found old line text steps next (commands does) = step_found old does.command does.reply steps next does.does

-- what comes of some durable steps and then of others
pub found_both : (first later : List KeptStep) (found : FoundOnBanks) → found_after (first ++ later) found ≡ found_after later (found_after first found)
found_both [] later found = refl
found_both (step ∷ first) later found = found_both first later (found_after_step step found)

pub steps_lead : StepsLead
steps_lead old [] text steps next runs = ap found_of runs.2 ∙ sym (ap (λ (s : List KeptStep). found_after s (found_of old)) runs.1)
steps_lead old (line ∷ lines) text steps next (front, rest, first, later, middle, does, more, texts, whole) =
    steps_lead middle lines rest later next more
    ∙ ap (found_after later) (line_found old line front first middle does)
    ∙ sym (found_both first later (found_of old))
    ∙ sym (ap (λ (s : List KeptStep). found_after s (found_of old)) whole)
