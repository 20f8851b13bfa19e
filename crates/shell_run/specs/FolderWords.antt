-- What the words of the shell's command line say, in the words of clap.
use Rattle.std.specs.Prelude.{◌≡◌, ◌≢◌, ℕ, List, [], ◌∷◌, Some, true, codes}
use Rattle.clap.specs.Words.{App, Rule, new_app, new_rule, with_rule, matches_of, first_of, fault_of}
use Rattle.clap.specs.declared.builder.action.ArgAction.TheVariants.{Set}

-- the name of the program
abbrev pub shell_name : List ℕ
shell_name = codes "mld_shell"

-- an argument that is required, and takes a value
abbrev pub folder_rule : Rule
folder_rule = record (new_rule (codes "DIR")) { action = Some Set; required = true }

-- the simple command that has this argument, and nothing else
abbrev pub folder_app : App
folder_app = with_rule (new_app shell_name) folder_rule

-- clap refuses the words behind the program's name, for another cause than memory
abbrev pub AreRefusedWords : List (List ℕ) → Type 0
AreRefusedWords words = fault_of folder_app (shell_name ∷ words) ≢ []

-- clap takes the words behind the program's name, and gives this for DIR
pub record IsFolder (words : List (List ℕ)) (folder : List ℕ) : Type 0 where
  pub taken : fault_of folder_app (shell_name ∷ words) ≡ []
  pub value : first_of (codes "DIR") (matches_of folder_app (shell_name ∷ words)) ≡ Some folder
