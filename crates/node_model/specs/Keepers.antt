-- What a node has beside its connections: a live clone, or one who asks for a leaf.
use Rattle.std.specs.Prelude.{ℕ, List, [], ◌∷◌}
use Rattle.mld_ops.specs.Messages.{MessageValue, CarriesEntry, CarriesWant, CarriesAsk}
use Rattle.mld_model.specs.Local.{LocalClone, LocalAsker}
use Rattle.shell_session.specs.clone_parts.KeptSteps.{KeptStep, Created, Appended, Forked, Swapped}
use Rattle.shell_session.specs.clone_core.Banked.{head_of}
use Rattle.shell_session.specs.Shells.{FoundOnBanks, Nothing, Stored}

pub data Keeper : Type 0 where
  -- the clone is live, and what its banks keep has this generation
  Lives : ℕ → LocalClone → Keeper
  -- it asks for a leaf, and its banks keep nothing
  Asks : LocalAsker → Keeper

-- its id and its domain
abbrev pub keeper_id : Keeper → List ℕ
keeper_id (Lives generation clone) = clone.id
keeper_id (Asks asker) = asker.id

abbrev pub keeper_domain : Keeper → List ℕ
keeper_domain (Lives generation clone) = clone.domain
keeper_domain (Asks asker) = asker.domain

-- what is found on its banks
abbrev pub keeper_found : Keeper → FoundOnBanks
keeper_found (Lives generation clone) = Stored generation (head_of clone) clone.entries
keeper_found (Asks asker) = Nothing

-- what it asks a peer for: all that it lacks, or a leaf
abbrev pub question_of : Keeper → MessageValue
question_of (Lives generation clone) = CarriesWant clone.ticks
question_of (Asks asker) = CarriesAsk asker.id

-- each entry that durable steps append, in a message of its own
abbrev pub carried : List KeptStep → List MessageValue
carried [] = []
carried (Appended entry ∷ steps) = CarriesEntry entry ∷ carried steps
carried (Created head ∷ steps) = carried steps
carried (Forked ∷ steps) = carried steps
carried (Swapped head entries ∷ steps) = carried steps
