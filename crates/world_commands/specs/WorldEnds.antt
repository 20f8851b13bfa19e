-- The end of a world: its clones stop, and their banks keep them. `stop_all` cites it.
use Rattle.std.specs.Prelude.{◌≡◌, List, Option, Some, None}
use Rattle.mld_io.specs.Disk.{Log}
use Rattle.crash_laws.specs.journal_store.Standing.{IsBlankLog}
use Rattle.mld_model.specs.declared.CloneState.TheVariants as states
use Rattle.tree_clock.specs.Lists.{Has}
use Rattle.crash_laws.specs.clone_core.Banked.{KeepsClone}
use Rattle.world_commands.specs.WorldBanks.{BankedState}

-- what the banks of a clone that isn't down keep: nothing where it never lived, and a live one, if it is open
abbrev pub KeepsState : {B : Type 0} → (B → Option Log) → BankedState B → Type 0
KeepsState log (states.Absent banks) = IsBlankLog (log banks)
KeepsState log (states.Asking asking) = IsBlankLog (log asking.banks)
KeepsState log (states.Down banks) = Unit {0}
KeepsState log (states.Live clone) = clone.closed ≡ None → (now : Log) → log clone.banks ≡ Some now → KeepsClone clone.local clone.generation now

-- so it is of each of these clones
abbrev pub KeepAll : {B : Type 0} → (B → Option Log) → List (BankedState B) → Type 0
KeepAll {B = B} log clones = (state : BankedState B) → Has clones state → KeepsState log state
