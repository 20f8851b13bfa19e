-- A line asks for one thing.
use Rattle.std.proofs.Common.{◌≡◌, ◌≢◌, ℕ, List, ◌∷◌, codes, Some, refl, subst, ap, drop}
use Rattle.shell_session.proofs.of_schedule_model.LackingLaws.{apart}
use Rattle.shell_session.specs.declared.commands.ShellCommand.{ShellCommand}
use Rattle.shell_session.specs.declared.commands.ShellCommand.TheVariants.{Open, Create, Add, Remove, Update, Query, Show, Compact, Truncate, Stop, Skipped}
use Rattle.shell_session.specs.ShellLaws.{IsSameShell, OneShellCommand}
use Rattle.shell_session.specs.ShellLines.{SpellsLive}
use Rattle.node_model.specs.declared.requests.Request.TheVariants.{Command, Ask, Halt, Bad}
use Rattle.node_model.specs.RequestLines.{IsNodeCommand, OneRequest, ask_line, halt_line}

-- ---- a command of the node is told from all else

-- from any other command, and what is the same is one
same_command : (command other : ShellCommand) → IsNodeCommand command → IsSameShell command other → command ≡ other
same_command Open other is same = absurd is
same_command (Create id domain properties) other is same = absurd is
same_command (Add triple) other is same = same
same_command (Remove triple) other is same = same
same_command (Update plan) other is same = same
same_command (Query read) other is same = same
same_command Show other is same = same
same_command Compact other is same = same
same_command (Truncate keep) other is same = same
same_command Stop other is same = absurd is
same_command Skipped other is same = absurd is

-- from `ask`
own_ask : ask_line ≡ 97 ∷ codes "sk"
own_ask = refl

own_behind : drop 1 ask_line ≡ 115 ∷ codes "k"
own_behind = refl

no_ask : (domain : List ℕ) (command : ShellCommand) → IsNodeCommand command → ¬ SpellsLive domain ask_line command
no_ask domain Open is h = is
no_ask domain (Create id name properties) is h = is
no_ask domain (Add triple) is h = apart (ap (drop 1) h.1) own_behind refl
no_ask domain (Remove triple) is h = apart h.1 own_ask refl
no_ask domain (Update plan) is h = apart h.1 own_ask refl
no_ask domain (Query read) is h = apart h.1 own_ask refl
no_ask domain Show is h = apart h own_ask refl
no_ask domain Compact is h = apart h own_ask refl
no_ask domain (Truncate keep) is h = apart h.0 own_ask refl
no_ask domain Stop is h = is
no_ask domain Skipped is h = is

-- from `halt`
own_halt : halt_line ≡ 104 ∷ codes "alt"
own_halt = refl

no_halt : (domain : List ℕ) (command : ShellCommand) → IsNodeCommand command → ¬ SpellsLive domain halt_line command
no_halt domain Open is h = is
no_halt domain (Create id name properties) is h = is
no_halt domain (Add triple) is h = apart h.1 own_halt refl
no_halt domain (Remove triple) is h = apart h.1 own_halt refl
no_halt domain (Update plan) is h = apart h.1 own_halt refl
no_halt domain (Query read) is h = apart h.1 own_halt refl
no_halt domain Show is h = apart h own_halt refl
no_halt domain Compact is h = apart h own_halt refl
no_halt domain (Truncate keep) is h = apart h.0 own_halt refl
no_halt domain Stop is h = is
no_halt domain Skipped is h = is

command_no_ask : (domain line : List ℕ) (command : ShellCommand) → IsNodeCommand command → SpellsLive domain line command → line ≢ ask_line
command_no_ask domain line command is h e = no_ask domain command is (subst (λ (l : List ℕ). SpellsLive domain l command) e h)

command_no_halt : (domain line : List ℕ) (command : ShellCommand) → IsNodeCommand command → SpellsLive domain line command → line ≢ halt_line
command_no_halt domain line command is h e = no_halt domain command is (subst (λ (l : List ℕ). SpellsLive domain l command) e h)

-- ---- a line asks for one thing

pub one_request : OneShellCommand → OneRequest
one_request law domain line (Command command) (Command other) h k =
    ap Command (same_command command other h.0 (law (Some domain) line command other h.1 k.1))
one_request law domain line (Command command) Ask h k = absurd (command_no_ask domain line command h.0 h.1 k)
one_request law domain line (Command command) Halt h k = absurd (command_no_halt domain line command h.0 h.1 k)
one_request law domain line (Command command) Bad h k = absurd (k.no_command command h.0 h.1)
one_request law domain line Ask (Command command) h k = absurd (command_no_ask domain line command k.0 k.1 h)
one_request law domain line Ask Ask h k = refl
one_request law domain line Ask Halt h k = absurd (apart h k refl)
one_request law domain line Ask Bad h k = absurd (k.no_ask h)
one_request law domain line Halt (Command command) h k = absurd (command_no_halt domain line command k.0 k.1 h)
one_request law domain line Halt Ask h k = absurd (apart h k refl)
one_request law domain line Halt Halt h k = refl
one_request law domain line Halt Bad h k = absurd (k.no_halt h)
one_request law domain line Bad (Command command) h k = absurd (h.no_command command k.0 k.1)
one_request law domain line Bad Ask h k = absurd (h.no_ask k)
one_request law domain line Bad Halt h k = absurd (h.no_halt k)
one_request law domain line Bad Bad h k = refl
