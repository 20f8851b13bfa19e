-- How a run ends before its first event, and what it tells then.
use Rattle.std.proofs.Common.{◌≡◌, ℕ, List, Option, Some, Result, Err, refl, subst}
use Rattle.mld_io.specs.Disk.{Log}
use Rattle.mld_io.specs.Wires.{WireLog}
use Rattle.node_core.specs.shell_session.Shells.{FoundOnBanks}
use Rattle.node_core.specs.shell_session.RunEnds.{TellsUsage}
use Rattle.node_run.specs.declared.node.NodeWords.{NodeWords}
use Rattle.node_run.specs.declared.faults.NodeWordsFault.{NodeWordsFault}
use Rattle.node_run.specs.declared.faults.NodeWordsFault.TheVariants as words_faults
use Rattle.node_run.specs.Words.{AreWords}
use Rattle.node_run.specs.declared.stops.NodeStop.{NodeStop}
use Rattle.node_run.specs.declared.stops.NodeStop.TheVariants as stops
use Rattle.node_run.specs.ServiceStatuses.{stop_of_words, IsOfTurns, IsAtFirst, CountsWire}
use Rattle.node_run.specs.NodeBegun.{BeginsShort}
use Rattle.node_run.specs.ServiceEnds.{ServiceEnds, unread, on_banks, at_first}

-- the words were not read
pub not_read : (fault : NodeWordsFault) (found : FoundOnBanks) (texts : List (List ℕ)) (before : Option WireLog) (old : Option Log)
    → ServiceEnds (Some (stop_of_words fault)) found (record { texts = texts; turns = 0; before = before; after = before; old = old; now = old })
not_read words_faults.Usage found texts before old = record { nothing = record { none = refl; silent = refl }; same_banks = refl }
not_read words_faults.NoMemory found texts before old = unread (record { nothing = record { none = refl; silent = refl }; same_banks = refl })

-- where they are refused that is told
pub words_usage : {A : Type 0} (fault : NodeWordsFault) (Refused : Type 0) → (◌≡◌ {A = Result A NodeWordsFault} (Err fault) (Err words_faults.Usage) → Refused)
    → TellsUsage stops.Usage stops.NoMemory (Some (stop_of_words fault)) Refused
words_usage words_faults.Usage Refused told = record { refused = λ _. told refl; read = λ differs _. absurd (differs refl) }
words_usage words_faults.NoMemory Refused told = record { refused = λ is. absurd (cc (is)); read = λ _ differs. absurd (differs refl) }

-- it did not begin
pub short_ends : (stop : NodeStop) (words : NodeWords) (found : FoundOnBanks) (texts : List (List ℕ)) (before : Option WireLog) (old now : Option Log) → AreWords texts words
    → BeginsShort stop words found old now → ServiceEnds (Some stop) found (record { texts = texts; turns = 0; before = before; after = before; old = old; now = now })
short_ends stops.NoMemory words found texts before old now are short = on_banks (at_first (record {
  words = words;
  are = are;
  nothing = record { none = refl; silent = refl };
  due = short.due;
  is_due = short.is_due;
  leaves = short.leaves;
}))
short_ends stops.Device words found texts before old now are short = at_first (record {
  words = words;
  are = are;
  nothing = record { none = refl; silent = refl };
  due = short.due;
  is_due = short.is_due;
  leaves = short.leaves;
})
short_ends (stops.Damaged side place) words found texts before old now are short =
    record { words = words; are = are; so = short.so; nothing = record { none = refl; silent = refl }; keeps = short.keeps; images = short.images; leaves = short.leaves }
short_ends stops.OtherClone words found texts before old now are short =
    record { words = words; are = are; so = short.so; nothing = record { none = refl; silent = refl }; keeps = short.keeps; images = short.images; leaves = short.leaves }
short_ends stop words found texts before old now are short = absurd short

-- where the words were read, usage is not told

pub usage_not_turns : (fault : Option NodeStop) → IsOfTurns fault → ¬ (fault ≡ Some stops.Usage)
usage_not_turns fault kind same = let at : IsOfTurns (Some stops.Usage) = subst IsOfTurns same kind in at

pub usage_not_first : (stop : NodeStop) → IsAtFirst stop → ¬ (stop ≡ stops.Usage)
usage_not_first stop kind same = let at : IsAtFirst stops.Usage = subst IsAtFirst same kind in at

pub tells_turns : (fault : Option NodeStop) (Refused : Type 0) → IsOfTurns fault → ¬ Refused → TellsUsage stops.Usage stops.NoMemory fault Refused
tells_turns fault Refused kind none = record { refused = λ is. absurd (usage_not_turns fault kind is); read = λ _ _. none }

pub tells_first : (stop : NodeStop) (Refused : Type 0) → IsAtFirst stop → ¬ Refused → TellsUsage stops.Usage stops.NoMemory (Some stop) Refused
tells_first stop Refused kind none = record { refused = λ is. absurd (usage_not_first stop kind (some_same is)); read = λ _ _. none }
  where
    some_same : {a b : NodeStop} → ◌≡◌ {A = Option NodeStop} (Some a) (Some b) → a ≡ b
    some_same h = cc

-- the wire was not called
pub counts_first : (stop : NodeStop) (count : ℕ) → IsAtFirst stop → CountsWire count count (Some stop)
counts_first stops.NoMemory count kind = refl
counts_first stops.Device count kind = refl
counts_first (stops.Damaged side place) count kind = refl
counts_first stops.OtherClone count kind = refl
counts_first stop count kind = absurd kind
