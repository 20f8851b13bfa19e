-- What the banks keep of the stage that a schedule has come to: `says_of` says it for `run`, and `end_of` and `give_back` cite it.
use Rattle.std.specs.Prelude.{◌≡◌, ℕ, List, Option, Some, slice_get}
use Rattle.mld_io.specs.Disk.{Log}
use Rattle.schedule_text.specs.schedule_model.Runs.{Stage, Waiting, SetUp, Running}
use Rattle.net_world.specs.world_commands.WorldBanks.{KeepsNoneNow, AllBanksStandFor}

-- all of them keep nothing
abbrev pub AllKeepNone : {B : Type 0} → (B → Option Log) → List B → Type 0
AllKeepNone {B = B} log banks = (number : ℕ) (one : B) → slice_get banks number ≡ Some one → KeepsNoneNow (log one)

-- the banks keep what a schedule has come to: nothing before the clones are founded, and then each what its clone keeps
abbrev pub BanksKeep : {B : Type 0} → (B → Option Log) → List B → Stage → Type 0
BanksKeep log banks Waiting = AllKeepNone log banks
BanksKeep log banks (SetUp setup) = AllKeepNone log banks
BanksKeep log banks (Running world) = AllBanksStandFor log world banks
