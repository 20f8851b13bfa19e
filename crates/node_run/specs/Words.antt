-- What the words of the node's command line say: what clap finds in them, read by the rule of each value.
use Rattle.std.specs.Prelude.{◌≡◌, ◌≢◌, ℕ, List, [], ◌∷◌, Bool, true, false, Result, Ok, Err, Some, codes, fold, unwrap_or}
use Rattle.clap.specs.Words.{App, Row, Rule, new_app, new_rule, with_rule, matches_of, first_of, all_of, fault_of}
use Rattle.clap.specs.declared.builder.action.ArgAction.TheVariants.{Set, Append}
use Rattle.node_run.specs.WordSpelling.{AreIris, AreTurns, IsGiven, IsPeer, SpellsDomain, SpellsId, SpellsName, SpellsRole}
use Rattle.node_run.specs.declared.faults.NodeWordsFault.{NodeWordsFault}
use Rattle.node_run.specs.declared.faults.NodeWordsFault.TheVariants.{Usage, NoMemory}
use Rattle.node_run.specs.declared.node.NodeWords.{NodeWords}

-- the name of the program
abbrev pub node_name : List ℕ
node_name = codes "mld_node"

-- an option, `--NAME`, that takes one value
abbrev pub option_rule : List ℕ → Bool → Rule
option_rule name required = record (new_rule name) { long = Some name; action = Some Set; required = required }

-- the argument that takes the words of no option, however many
abbrev pub iris_rule : Rule
iris_rule = record (new_rule (codes "IRI")) { action = Some Append }

-- the simple command of the node
abbrev pub node_app : App
node_app = fold with_rule (new_app node_name) (option_rule (codes "id") true ∷ option_rule (codes "domain") true
    ∷ option_rule (codes "role") true ∷ option_rule (codes "dir") true ∷ option_rule (codes "listen") true
    ∷ option_rule (codes "peer") false ∷ option_rule (codes "turns") false ∷ iris_rule ∷ [])

-- what was found, read by the rule of each value
pub record AreReadAs (found : List Row) (node : NodeWords) : Type 0 where
  pub id : IsGiven SpellsId (first_of (codes "id") found) node.id
  pub domain : IsGiven SpellsDomain (first_of (codes "domain") found) node.domain
  pub role : IsGiven SpellsRole (first_of (codes "role") found) node.join
  pub dir : IsGiven SpellsName (first_of (codes "dir") found) node.dir
  pub listen : IsGiven SpellsName (first_of (codes "listen") found) node.listen
  pub peer : IsPeer (first_of (codes "peer") found) node.peer
  pub turns : AreTurns (first_of (codes "turns") found) node.turns
  pub iris : AreIris (unwrap_or (all_of (codes "IRI") found) []) node.props.items

-- clap takes the words behind the program's name, and what it finds in them is read so
pub record AreWords (words : List (List ℕ)) (node : NodeWords) : Type 0 where
  pub taken : fault_of node_app (node_name ∷ words) ≡ []
  pub read : AreReadAs (matches_of node_app (node_name ∷ words)) node

-- clap refuses the words behind the program's name for another cause than memory, or it takes them, and a value is missing or not valid,
-- or there are too many IRIs
pub data AreRefused (words : List (List ℕ)) : Type 0 where
  by_clap : fault_of node_app (node_name ∷ words) ≢ [] → AreRefused words
  by_value : fault_of node_app (node_name ∷ words) ≡ [] → ((node : NodeWords) → ¬ AreReadAs (matches_of node_app (node_name ∷ words)) node)
      → AreRefused words

-- no words are both
pub never_both : (words : List (List ℕ)) (node : NodeWords) → AreWords words node → ¬ AreRefused words
never_both words node are (by_clap refused) = refused are.taken
never_both words node are (by_value taken none) = none node are.read

-- a value that the rule gives, or Usage where it gives none
abbrev pub ReadsBy : {A : Type 0} → (A → Type 0) → Result A NodeWordsFault → Type 0
ReadsBy Gives (Ok value) = Gives value
ReadsBy {A} Gives (Err Usage) = (value : A) → ¬ Gives value
ReadsBy Gives (Err NoMemory) = Unit {0}
