-- The grammar of the shell's lines, as bytes without their LF. A schedule's words are used where a line of the shell has the same parts.
use Rattle.std.specs.Prelude.{◌≡◌, ℕ, ◌^◌, ◌<◌, ◌≤◌, ◌⊎◌, List, [], ◌∷◌, ◌++◌, length, IsTrue, codes, Option, Some, None}
use Rattle.std.specs.Str.{IsUtf8}
use Rattle.std.specs.Fmt.{decimal}
use Rattle.uuid.specs.Text.{parsed}
use Rattle.text_rules.specs.Domain.{is_domain}
use Rattle.rdf_terms.specs.Grammar.{IsIriText}
use Rattle.schedule_text.specs.schedule_model.Characters.{space}
use Rattle.schedule_text.specs.schedule_model.Lacking.{Lacks}
use Rattle.schedule_text.specs.ReadLines.{IsTripleText, IsUpdateText, IsQueryText}
use Rattle.shell_session.specs.declared.commands.ShellCommand.{ShellCommand}
use Rattle.shell_session.specs.declared.commands.ShellCommand.TheVariants.{Open, Create, Add, Remove, Update, Query, Show, Compact, Truncate, Stop, Skipped}

-- how many single-valued properties a line may give, repeats included
abbrev pub property_limit : ℕ
property_limit = 16

-- a word that is a UUID, in any of its forms (RFC 9562, section 4, and the URN and braced forms)
pub record IsIdWord (word id : List ℕ) : Type 0 where
  pub spaceless : Lacks space word
  pub read : parsed word ≡ Some id

-- a word that is an IRI as it stands in a triple
pub record IsIriWord (word iri : List ℕ) : Type 0 where
  pub spaceless : Lacks space word
  pub bytes : IsUtf8 word
  pub is : IsIriText word iri

-- words that are IRIs, each behind one space
abbrev pub SpellsIris : List ℕ → List (List ℕ) → Type 0
SpellsIris text [] = text ≡ []
SpellsIris text (iri ∷ iris) = (word : List ℕ) × (rest : List ℕ) × (text ≡ space ∷ (word ++ rest)) × IsIriWord word iri × SpellsIris rest iris

-- what follows `create` and a space: a UUID, the name of a domain, and any number of IRIs that isn't above the limit
pub record IsCreation (text id domain : List ℕ) (properties : List (List ℕ)) : Type 0 where
  pub word : List ℕ
  pub rest : List ℕ
  pub whole : text ≡ word ++ space ∷ (domain ++ rest)
  pub id_word : IsIdWord word id
  pub name : IsTrue (is_domain domain)
  pub iris : SpellsIris rest properties
  pub few : length properties ≤ property_limit

-- the line spells the command, whether a clone is live or not
abbrev pub SpellsAlike : List ℕ → ShellCommand → Type 0
SpellsAlike line Open = line ≡ codes "open"
SpellsAlike line (Create id domain properties) = (text : List ℕ) × (line ≡ codes "create " ++ text) × IsCreation text id domain properties.items
SpellsAlike line Show = line ≡ codes "show"
SpellsAlike line Compact = line ≡ codes "compact"
SpellsAlike line (Truncate keep) = (line ≡ codes "truncate " ++ decimal keep) × (keep < 2 ^ 64)
SpellsAlike line Stop = line ≡ codes "stop"
SpellsAlike line command = ⊥

-- the line spells the command while a clone in the domain of this name is live: a triple and a JSON text are the rest of their line
abbrev pub SpellsLive : List ℕ → List ℕ → ShellCommand → Type 0
SpellsLive domain line (Add triple) = (text : List ℕ) × (line ≡ codes "add " ++ text) × IsTripleText text triple
SpellsLive domain line (Remove triple) = (text : List ℕ) × (line ≡ codes "remove " ++ text) × IsTripleText text triple
SpellsLive domain line (Update plan) = (text : List ℕ) × (line ≡ codes "update " ++ text) × IsUpdateText domain text plan
SpellsLive domain line (Query read) = (text : List ℕ) × (line ≡ codes "query " ++ text) × IsQueryText domain text read
SpellsLive domain line command = SpellsAlike line command

-- the first word of the line is this one
abbrev pub HasFirstWord : List ℕ → List ℕ → Type 0
HasFirstWord word line = (line ≡ word) ⊎ ((rest : List ℕ) × (line ≡ word ++ space ∷ rest))

-- the first word asks for a live clone, whatever the rest is
abbrev pub AsksForClone : List ℕ → Type 0
AsksForClone line =
    HasFirstWord (codes "add") line ⊎ (HasFirstWord (codes "remove") line ⊎ (HasFirstWord (codes "update") line ⊎ HasFirstWord (codes "query") line))

-- the line spells the command while no clone is live
abbrev pub SpellsDown : List ℕ → ShellCommand → Type 0
SpellsDown line Skipped = AsksForClone line
SpellsDown line command = SpellsAlike line command

-- the line spells the command, with the domain of the live clone where there is one
abbrev pub SpellsShell : Option (List ℕ) → List ℕ → ShellCommand → Type 0
SpellsShell (Some domain) line command = SpellsLive domain line command
SpellsShell None line command = SpellsDown line command
