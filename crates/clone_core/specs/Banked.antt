-- Clones on banks: what contracts see of them, and what their banks keep. It is the view and the invariant of `MldClone` and `Asker`; `is_closed`
-- and `stop` have `KeepsClone`.
use Rattle.std.specs.Prelude.{◌≡◌, ℕ, List, Option, Some, None}
use Rattle.mld_ops.specs.declared.tagged.Tagged.{Tagged}
use Rattle.mld_io.specs.Disk.{Log}
use Rattle.mld_io.specs.declared.banks.Side.{Side}
use Rattle.journal_sides.specs.Heads.{HeadValue}
use Rattle.journal_sides.specs.Pairs.{Kept}
use Rattle.journal_store.specs.Standing.{KeepsJust}
use Rattle.journal_store.specs.declared.faults.Why.{Why}
use Rattle.mld_model.specs.Local.{LocalAsker, LocalClone}

-- a clone on banks: what it has in memory, the generation of what its banks keep, whether an earlier call closed it, and why, and
-- the banks
pub record BankedClone (B : Type 0) : Type 0 where
  pub local : LocalClone
  pub generation : ℕ
  pub closed : Option Why
  pub banks : B

-- one who asks for a leaf, and the banks that keep nothing yet
pub record BankedAsker (B : Type 0) : Type 0 where
  pub asker : LocalAsker
  pub banks : B

-- what banks have in front of the entries of a clone
abbrev pub head_of : LocalClone → HeadValue
head_of clone = record {
  id = clone.id;
  domain = clone.domain;
  properties = clone.properties;
  path = clone.path;
  base = record { ticks = clone.base; pairs = clone.base_pairs };
}

-- and over another base, with this clock and these pairs
abbrev pub head_over : LocalClone → List (List ℕ × ℕ) → List Tagged → HeadValue
head_over clone ticks pairs = record (head_of clone) { base = record { ticks = ticks; pairs = pairs } }

-- what banks keep of a clone, where this side counts and has this generation
abbrev pub kept_as : Side → ℕ → LocalClone → Kept
kept_as side generation clone = record { side = side; generation = generation; head = head_of clone; entries = clone.entries }

-- banks keep the clone at this generation, and a crash now leaves them so
abbrev pub KeepsClone : LocalClone → ℕ → Log → Type 0
KeepsClone clone generation log = (side : Side) × KeepsJust (kept_as side generation clone) log

-- what is known of the banks of a clone: where it isn't closed they keep it, if they tell their log
pub record IsOnBanks (now : Option Log) (closed : Option Why) (side : Side) (generation : ℕ) (clone : LocalClone) : Type 0 where
  pub keeps : closed ≡ None → (log : Log) → now ≡ Some log → KeepsJust (kept_as side generation clone) log
