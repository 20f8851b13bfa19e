-- What a node has at first, by its words, on banks on which something was found.
use Rattle.std.specs.Prelude.{◌≡◌, ℕ, List, [], ◌∷◌, true, false}
use Rattle.mld_ops.specs.Entry.{EntryValue}
use Rattle.mld_ops.specs.Properties.{AreKept}
use Rattle.node_core.specs.journal_sides.Heads.{HeadValue}
use Rattle.mld_model.specs.Local.{LocalClone}
use Rattle.node_core.specs.clone_parts.KeptSteps.{KeptStep, Created}
use Rattle.node_core.specs.clone_core.Banked.{head_of}
use Rattle.node_core.specs.shell_session.Shells.{FoundOnBanks, Nothing, Stored}
use Rattle.node_core.specs.shell_session.ShellStep.{RunsFrom, MakesFirst, first_clone}
use Rattle.node_run.specs.declared.node.NodeWords.{NodeWords}
use Rattle.node_core.specs.node_model.Keepers.{Keeper, Lives, Asks}
use Rattle.node_core.specs.node_model.Events.{NodeValue}

-- the durable steps by which it begins, and what it has then: on banks that keep nothing it makes the first clone of the domain, or asks for a
-- leaf, with the properties of the words; a clone of the id and the domain of the words runs again as it is kept, whatever the role is
pub data Begins (words : NodeWords) : FoundOnBanks → List KeptStep → Keeper → Type 0 where
  founds : words.join ≡ false → (kept : List (List ℕ)) → AreKept words.props.items kept
      → Begins words Nothing (Created (head_of (first_clone words.id words.domain kept)) ∷ []) (Lives 1 (first_clone words.id words.domain kept))
  asks : words.join ≡ true → (kept : List (List ℕ)) → AreKept words.props.items kept
      → Begins words Nothing [] (Asks (record { id = words.id; domain = words.domain; properties = kept }))
  runs_again : (generation : ℕ) (head : HeadValue) (entries : List EntryValue) (clone : LocalClone) → RunsFrom head entries clone
      → clone.id ≡ words.id → clone.domain ≡ words.domain → Begins words (Stored generation head entries) [] (Lives generation clone)

-- the durable steps that it has to make then, where it has any
abbrev pub IsDueAtFirst : NodeWords → FoundOnBanks → List KeptStep → Type 0
IsDueAtFirst words Nothing steps = (words.join ≡ false) × MakesFirst words.id words.domain words.props.items steps
IsDueAtFirst words found steps = ⊥

-- the clone that was found is of another id or domain
abbrev pub IsOther : NodeWords → FoundOnBanks → Type 0
IsOther words (Stored generation head entries) = ¬ ((head.id ≡ words.id) × (head.domain ≡ words.domain))
IsOther words found = ⊥

-- a node without connections that has not ended
abbrev pub fresh_node : Keeper → NodeValue
fresh_node keeper = record { keeper = keeper; connections = []; halted = false }
