-- What a live clone's command makes goes to the peers, and its reply has a text.
use Rattle.std.proofs.Common.{◌≡◌, ◌≢◌, ◌⊎◌, ℕ, ◌+◌, ◌≤◌, true, false, List, [], ◌∷◌, ◌++◌, inl, refl, sym, ◌∙◌, ap, arith, length, codes, drop, map, append-nil, length-append}
use Rattle.std.proofs.Math.Seq.{drop-append_seam}
use Rattle.mld_ops.specs.Entry.{EntryValue}
use Rattle.mld_ops.specs.Messages.{MessageValue, CarriesEntry}
use Rattle.rdf_terms.specs.declared.terms.Triple.{Triple}
use Rattle.jrql_ast.specs.declared.plans.UpdatePlan.{UpdatePlan}
use Rattle.jrql_ast.specs.Templates.{insertion_of, deletion_of}
use Rattle.mld_model.specs.Local.{LocalClone}
use Rattle.mld_model.specs.Reply.{Reply}
use Rattle.mld_model.specs.Reply as model
use Rattle.node_model.specs.schedule_model.Characters.{line_end}
use Rattle.node_model.specs.schedule_model.ReplyText.{reply_text}
use Rattle.node_model.specs.clone_parts.KeptSteps.{KeptStep, appends}
use Rattle.node_model.specs.shell_session.declared.commands.ShellCommand.{ShellCommand}
use Rattle.node_model.specs.shell_session.declared.commands.ShellCommand.TheVariants as shell
use Rattle.node_model.specs.shell_session.ShellReply.{ShellReply, Says, shell_text}
use Rattle.node_model.specs.shell_session.ShellStep.{AnswersUpdate, no_tick_is_left, is_too_large, changes_nothing, breaks_single, makes_operation, KeepsJournal, is_kept_so, no_generation_is_left, swaps_journal, LiveStep, IsDueLive}
use Rattle.node_model.proofs.of_shell_session.LiveLaws.{update_due, journal_due}
use Rattle.node_model.specs.Keepers.{carried}
use Rattle.node_core.specs.LoanCalls.{is_update, AppendsBehind, told_by}

-- the durable steps of a command are due
pub command_due : (generation : ℕ) (clone : LocalClone) (command : ShellCommand) (reply : ShellReply) (steps : List KeptStep) (new : LocalClone)
    → LiveStep generation clone command reply steps new → (steps ≡ []) ⊎ IsDueLive generation clone command steps
command_due generation clone shell.Open reply steps new does = inl does.1
command_due generation clone (shell.Create id domain properties) reply steps new does = inl does.1
command_due generation clone (shell.Add triple) reply steps new does = update_due clone (insertion_of triple) reply steps new does
command_due generation clone (shell.Remove triple) reply steps new does = update_due clone (deletion_of triple) reply steps new does
command_due generation clone (shell.Update plan) reply steps new does = update_due clone plan reply steps new does
command_due generation clone (shell.Query read) reply steps new does = inl does.2.1
command_due generation clone shell.Show reply steps new does = inl does.1
command_due generation clone shell.Compact reply steps new does = journal_due generation clone reply steps new does
command_due generation clone (shell.Truncate keep) reply steps new does = journal_due generation clone reply steps new does
command_due generation clone shell.Stop reply steps new does = absurd does
command_due generation clone shell.Skipped reply steps new does = absurd does

-- ---- what it made

-- entries stand behind others, by durable steps that append them
record PutsBehind (old new : LocalClone) (steps : List KeptStep) : Type 0 where
  puts : List EntryValue
  entries : new.entries ≡ old.entries ++ puts
  made : steps ≡ appends puts

update_puts : (clone : LocalClone) (plan : UpdatePlan) (reply : ShellReply) (steps : List KeptStep) (new : LocalClone) → AnswersUpdate clone plan reply steps new
    → PutsBehind clone new steps
update_puts clone plan reply steps new (no_tick_is_left spent) = record { puts = []; entries = sym (append-nil clone.entries); made = refl }
update_puts clone plan reply steps new (is_too_large left many) = record { puts = []; entries = sym (append-nil clone.entries); made = refl }
update_puts clone plan reply steps new (changes_nothing left updates) = record { puts = []; entries = sym (append-nil clone.entries); made = refl }
update_puts clone plan reply steps new (breaks_single left place breaks) = record { puts = []; entries = sym (append-nil clone.entries); made = refl }
update_puts clone plan reply steps new (makes_operation left entry made updates) =
    record { puts = entry ∷ []; entries = updates.updates.1.entries; made = refl }

-- durable steps that append entries carry them
pub carried_appends : (puts : List EntryValue) → carried (appends puts) ≡ map CarriesEntry puts
carried_appends [] = refl
carried_appends (entry ∷ puts) = ap (λ (messages : List MessageValue). CarriesEntry entry ∷ messages) (carried_appends puts)

-- which are those behind the old ones
pub carried_behind : (old new puts : List EntryValue) (steps : List KeptStep) → new ≡ old ++ puts → steps ≡ appends puts
    → carried steps ≡ map CarriesEntry (drop (length old) new)
carried_behind old new puts steps entries made =
    ap carried made ∙ carried_appends puts
    ∙ sym (ap (map CarriesEntry) (ap (λ (all : List EntryValue). drop (length old) all) entries ∙ drop-append_seam old puts))

pub none_lost : (old new puts : List EntryValue) → new ≡ old ++ puts → length old ≤ length new
none_lost old new puts entries =
    let same : length new ≡ length old + length puts = ap (λ (all : List EntryValue). length all) entries ∙ length-append old puts in omega (arith, same)

puts_carried : (old new : LocalClone) (steps : List KeptStep) → PutsBehind old new steps
    → carried steps ≡ map CarriesEntry (drop (length old.entries) new.entries)
puts_carried old new steps puts = carried_behind old.entries new.entries puts.puts steps puts.entries puts.made

-- what is kept of a journal is carried by none
journal_carried : {Due : Type 0} {Step : LocalClone → Type 0} (generation : ℕ) (clone : LocalClone) (reply : ShellReply) (steps : List KeptStep) (new : LocalClone)
    → KeepsJournal Due Step generation clone reply steps new → carried steps ≡ []
journal_carried generation clone reply steps new (is_kept_so none) = refl
journal_carried generation clone reply steps new (no_generation_is_left due last) = refl
journal_carried generation clone reply steps new (swaps_journal due left made step) = refl

-- a command's durable steps carry what it put behind the old entries, where it is an update
pub command_carried : (generation : ℕ) (clone : LocalClone) (command : ShellCommand) (reply : ShellReply) (steps : List KeptStep) (new : LocalClone)
    → LiveStep generation clone command reply steps new → carried steps ≡ told_by command (length clone.entries) new.entries
command_carried generation clone shell.Open reply steps new does = ap carried does.1
command_carried generation clone (shell.Create id domain properties) reply steps new does = ap carried does.1
command_carried generation clone (shell.Add triple) reply steps new does =
    puts_carried clone new steps (update_puts clone (insertion_of triple) reply steps new does)
command_carried generation clone (shell.Remove triple) reply steps new does =
    puts_carried clone new steps (update_puts clone (deletion_of triple) reply steps new does)
command_carried generation clone (shell.Update plan) reply steps new does = puts_carried clone new steps (update_puts clone plan reply steps new does)
command_carried generation clone (shell.Query read) reply steps new does = ap carried does.2.1
command_carried generation clone shell.Show reply steps new does = ap carried does.1
command_carried generation clone shell.Compact reply steps new does = journal_carried generation clone reply steps new does
command_carried generation clone (shell.Truncate keep) reply steps new does = journal_carried generation clone reply steps new does
command_carried generation clone shell.Stop reply steps new does = absurd does
command_carried generation clone shell.Skipped reply steps new does = absurd does

-- which leaves them
puts_behind : (old new : LocalClone) (steps : List KeptStep) → PutsBehind old new steps → length old.entries ≤ length new.entries
puts_behind old new steps puts = none_lost old.entries new.entries puts.puts puts.entries

not_true : false ≡ true → ⊥
not_true same = cc

pub command_behind : (generation : ℕ) (clone : LocalClone) (command : ShellCommand) (reply : ShellReply) (steps : List KeptStep) (new : LocalClone)
    → LiveStep generation clone command reply steps new → AppendsBehind command (length clone.entries) new.entries
command_behind generation clone (shell.Add triple) reply steps new does = λ is.
    puts_behind clone new steps (update_puts clone (insertion_of triple) reply steps new does)
command_behind generation clone (shell.Remove triple) reply steps new does = λ is.
    puts_behind clone new steps (update_puts clone (deletion_of triple) reply steps new does)
command_behind generation clone (shell.Update plan) reply steps new does = λ is. puts_behind clone new steps (update_puts clone plan reply steps new does)
command_behind generation clone command reply steps new does = λ is. absurd (not_true is)

-- no other command is an update
pub no_update : (command : ShellCommand) → ((triple : Triple) → command ≢ shell.Add triple) → ((triple : Triple) → command ≢ shell.Remove triple)
    → ((plan : UpdatePlan) → command ≢ shell.Update plan) → is_update command ≡ false
no_update (shell.Add triple) add remove update = absurd (add triple refl)
no_update (shell.Remove triple) add remove update = absurd (remove triple refl)
no_update (shell.Update plan) add remove update = absurd (update plan refl)
no_update command add remove update = refl

-- ---- the text of a reply

some : (text : List ℕ) (byte : ℕ) (bytes : List ℕ) → text ≡ byte ∷ bytes → 1 ≤ length text
some text byte bytes same = let count : length text ≡ length bytes + 1 = ap (λ (all : List ℕ). length all) same ∙ omega arith in omega (arith, count)

some_behind : (front : List ℕ) (byte : ℕ) (bytes : List ℕ) → 1 ≤ length (front ++ byte ∷ bytes)
some_behind [] byte bytes = some (byte ∷ bytes) byte bytes refl
some_behind (first ∷ front) byte bytes = some (first ∷ (front ++ byte ∷ bytes)) first (front ++ byte ∷ bytes) refl

plain_text : (reply : Reply) → 1 ≤ length (reply_text reply)
unfolding reply_text
plain_text (model.Tells text) = some_behind text line_end []
plain_text (model.ThenCrashed reply) = some_behind (reply_text reply) 99 (codes "rashed\n")
plain_text reply = some (reply_text reply) _ _ refl

-- it has a byte
pub text_has_byte : (reply : ShellReply) → 1 ≤ length (shell_text reply)
unfolding shell_text
text_has_byte (Says reply) = plain_text reply
text_has_byte reply = some (shell_text reply) _ _ refl
