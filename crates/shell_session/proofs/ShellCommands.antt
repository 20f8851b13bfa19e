-- What the shell's lines spell, by their first words.
use Rattle.std.proofs.Common.{◌≡◌, ◌≢◌, ℕ, List, ◌++◌, codes, Option, Some, None, MatchOption, IfOk, refl, sym, ◌∙◌, subst, ap, drop}
use Rattle.std.specs.Fmt.{decimal}
use Rattle.std.specs.declared.result.Result.{Result}
use Rattle.std.specs.declared.result.Result.TheVariants.{Ok, Err}
use Rattle.schedule_text.proofs.of_schedule_model.LackingLaws.{apart}
use Rattle.shell_session.specs.declared.commands.ShellCommand.{ShellCommand}
use Rattle.shell_session.specs.declared.commands.ShellCommand.TheVariants.{Open, Create, Add, Remove, Update, Query, Show, Compact, Truncate, Stop, Skipped}
use Rattle.shell_session.specs.ReadShell.{IsCreationOf, SpellsBare}
use Rattle.shell_session.specs.ShellLines.{IsCreation, SpellsAlike, SpellsLive, SpellsDown, AsksForClone}

-- ---- while a clone is live

-- a line that begins with none of these words spells what it spells in any case
pub elsewhere : {E : Type 0} (domain line : List ℕ) (result : Result (Option ShellCommand) E) → ((rest : List ℕ) → line ≢ codes "add " ++ rest)
    → ((rest : List ℕ) → line ≢ codes "remove " ++ rest) → ((rest : List ℕ) → line ≢ codes "update " ++ rest) → ((rest : List ℕ) → line ≢ codes "query " ++ rest)
    → IfOk result (λ found. MatchOption found ((command : ShellCommand) → ¬ SpellsAlike line command) (λ command. SpellsAlike line command))
    → IfOk result (λ found. MatchOption found ((command : ShellCommand) → ¬ SpellsLive domain line command) (λ command. SpellsLive domain line command))
elsewhere domain line (Err fault) add remove update query h = h
elsewhere domain line (Ok None) add remove update query h = go
  where
    go : (command : ShellCommand) → ¬ SpellsLive domain line command
    go Open k = h Open k
    go (Create id name properties) k = h (Create id name properties) k
    go (Add triple) k = add k.0 k.1
    go (Remove triple) k = remove k.0 k.1
    go (Update plan) k = update k.0 k.1
    go (Query read) k = query k.0 k.1
    go Show k = h Show k
    go Compact k = h Compact k
    go (Truncate keep) k = h (Truncate keep) k
    go Stop k = h Stop k
    go Skipped k = k
elsewhere domain line (Ok (Some command)) add remove update query h = go command h
  where
    go : (command : ShellCommand) → SpellsAlike line command → SpellsLive domain line command
    go Open k = k
    go (Create id name properties) k = k
    go (Add triple) k = absurd k
    go (Remove triple) k = absurd k
    go (Update plan) k = absurd k
    go (Query read) k = absurd k
    go Show k = k
    go Compact k = k
    go (Truncate keep) k = k
    go Stop k = k
    go Skipped k = absurd k

-- ---- while none is

pub elsewhere_down : {E : Type 0} (line : List ℕ) (result : Result (Option ShellCommand) E) → ¬ AsksForClone line
    → IfOk result (λ found. MatchOption found ((command : ShellCommand) → ¬ SpellsAlike line command) (λ command. SpellsAlike line command))
    → IfOk result (λ found. MatchOption found ((command : ShellCommand) → ¬ SpellsDown line command) (λ command. SpellsDown line command))
elsewhere_down line (Err fault) none h = h
elsewhere_down line (Ok None) none h = go
  where
    go : (command : ShellCommand) → ¬ SpellsDown line command
    go Open k = h Open k
    go (Create id name properties) k = h (Create id name properties) k
    go (Add triple) k = h (Add triple) k
    go (Remove triple) k = h (Remove triple) k
    go (Update plan) k = h (Update plan) k
    go (Query read) k = h (Query read) k
    go Show k = h Show k
    go Compact k = h Compact k
    go (Truncate keep) k = h (Truncate keep) k
    go Stop k = h Stop k
    go Skipped k = none k
elsewhere_down line (Ok (Some command)) none h = go command h
  where
    go : (command : ShellCommand) → SpellsAlike line command → SpellsDown line command
    go Open k = k
    go (Create id name properties) k = k
    go (Add triple) k = k
    go (Remove triple) k = k
    go (Update plan) k = k
    go (Query read) k = k
    go Show k = k
    go Compact k = k
    go (Truncate keep) k = k
    go Stop k = k
    go Skipped k = absurd k

-- ---- alike in both cases

-- the rest of a `create` line
no_create : (line text : List ℕ) → line ≡ codes "create " ++ text → ((id : List ℕ) (domain : List ℕ) (properties : List (List ℕ)) → ¬ IsCreation text id domain properties)
    → (command : ShellCommand) → ¬ SpellsAlike line command
no_create line text e none Open h = absurd (apart e h refl)
no_create line text e none (Create id name properties) h = none id name properties.items (subst (λ (t : List ℕ). IsCreation t id name properties.items) (ap (drop 7) (sym h.1 ∙ e)) h.2)
no_create line text e none (Add triple) h = h
no_create line text e none (Remove triple) h = h
no_create line text e none (Update plan) h = h
no_create line text e none (Query read) h = h
no_create line text e none Show h = absurd (apart e h refl)
no_create line text e none Compact h = absurd (apart (ap (drop 1) e) (ap (drop 1) h) refl)
no_create line text e none (Truncate keep) h = absurd (apart e h.0 refl)
no_create line text e none Stop h = absurd (apart e h refl)
no_create line text e none Skipped h = h

created : (line text : List ℕ) → line ≡ codes "create " ++ text → (command : ShellCommand) → IsCreationOf text command → SpellsAlike line command
created line text e Open h = absurd h
created line text e (Create id name properties) h = (text, e, h)
created line text e (Add triple) h = absurd h
created line text e (Remove triple) h = absurd h
created line text e (Update plan) h = absurd h
created line text e (Query read) h = absurd h
created line text e Show h = absurd h
created line text e Compact h = absurd h
created line text e (Truncate keep) h = absurd h
created line text e Stop h = absurd h
created line text e Skipped h = absurd h

pub create_read : {E : Type 0} (line text : List ℕ) (result : Result (Option ShellCommand) E) → line ≡ codes "create " ++ text
    → IfOk result (λ found. MatchOption found ((id : List ℕ) (domain : List ℕ) (properties : List (List ℕ)) → ¬ IsCreation text id domain properties) (λ command. IsCreationOf text command))
    → IfOk result (λ found. MatchOption found ((command : ShellCommand) → ¬ SpellsAlike line command) (λ command. SpellsAlike line command))
create_read line text (Err fault) e h = h
create_read line text (Ok None) e h = no_create line text e h
create_read line text (Ok (Some command)) e h = created line text e command h

-- a line of one word
pub bare_read : (line : List ℕ) (found : Option ShellCommand) → ((rest : List ℕ) → line ≢ codes "create " ++ rest) → ((rest : List ℕ) → line ≢ codes "truncate " ++ rest)
    → MatchOption found ((command : ShellCommand) → ¬ SpellsBare line command) (λ command. SpellsBare line command)
    → MatchOption found ((command : ShellCommand) → ¬ SpellsAlike line command) (λ command. SpellsAlike line command)
bare_read line None none nor h = go
  where
    go : (command : ShellCommand) → ¬ SpellsAlike line command
    go Open k = h Open k
    go (Create id name properties) k = none k.0 k.1
    go (Add triple) k = k
    go (Remove triple) k = k
    go (Update plan) k = k
    go (Query read) k = k
    go Show k = h Show k
    go Compact k = h Compact k
    go (Truncate keep) k = nor (decimal keep) k.0
    go Stop k = h Stop k
    go Skipped k = k
bare_read line (Some command) none nor h = go command h
  where
    go : (command : ShellCommand) → SpellsBare line command → SpellsAlike line command
    go Open k = k
    go (Create id name properties) k = absurd k
    go (Add triple) k = absurd k
    go (Remove triple) k = absurd k
    go (Update plan) k = absurd k
    go (Query read) k = absurd k
    go Show k = k
    go Compact k = k
    go (Truncate keep) k = absurd k
    go Stop k = k
    go Skipped k = absurd k
