-- When what is found on a side of banks, and on both, tells what the bytes say; and the faults of a device. `find`, `find_on`, `choose` and the
-- reading of a side cite it, which are private.
use Rattle.std.specs.Prelude.{◌≡◌, ◌⊎◌, ℕ, List, Option, Some, None, Result, Ok, Err}
use Rattle.mld_io.specs.Disk.{Sides, bytes_of, other_side}
use Rattle.mld_io.specs.declared.banks.Side.{Side}
use Rattle.op_codec.specs.declared.faults.CodecFault.{CodecFault}
use Rattle.op_codec.specs.declared.faults.CodecFault.TheVariants as codec
use Rattle.mld_io.specs.declared.faults.IoFault.{IoFault}
use Rattle.mld_io.specs.declared.faults.IoFault.TheVariants as io
use Rattle.journal_sides.specs.declared.side_reading.Found.{Found}
use Rattle.journal_sides.specs.FoundVolumes.{kept_found, IsFoundOn}
use Rattle.journal_sides.specs.Pairs.{KeepsNone, Keeps, Damages, read_banks}
use Rattle.journal_sides.specs.SideReadings.{IsClosed, IsDamaged, read_side}
use Rattle.journal_store.specs.declared.faults.MountFault.{MountFault}
use Rattle.journal_store.specs.declared.faults.MountFault.TheVariants as mount
use Rattle.journal_store.specs.Standing.{IsBehind}

-- bytes that were read are those of a side, or both are closed
abbrev pub ReadsSame : List ℕ → List ℕ → Type 0
ReadsSame read bytes = (read ≡ bytes) ⊎ ((read_side read ≡ IsClosed) × (read_side bytes ≡ IsClosed))

-- the fault of a side's bytes
abbrev pub fault_on : Side → CodecFault → MountFault
fault_on side (codec.NotInGrammar place) = mount.Damaged side place
fault_on side codec.NoMemory = mount.NoMemory

-- the fault of a device
abbrev pub device_fault : IoFault → MountFault
device_fault io.Failed = mount.Device
device_fault io.NoMemory = mount.NoMemory

-- what was found on a side says what its bytes say
abbrev pub TellsSide : Side → List ℕ → Result (Option Found) MountFault → Type 0
TellsSide side bytes (Ok None) = read_side bytes ≡ IsClosed
TellsSide side bytes (Ok (Some found)) = IsFoundOn found bytes × (found.side ≡ side)
TellsSide side bytes (Err (mount.Damaged at place)) = (at ≡ side) × (read_side bytes ≡ IsDamaged place)
TellsSide side bytes (Err mount.Device) = Unit {0}
TellsSide side bytes (Err mount.NoMemory) = Unit {0}

-- this counts where both sides have these bytes
pub record Counts (found : Found) (sides : Sides) : Type 0 where
  pub on : IsFoundOn found (bytes_of found.side sides)
  pub behind : IsBehind found.generation (read_side (bytes_of (other_side found.side) sides))
  pub reads : read_banks sides ≡ Keeps (kept_found found)

-- what was found on both sides says what their bytes say together
abbrev pub TellsBoth : Sides → Result (Option Found) MountFault → Type 0
TellsBoth sides (Ok None) = read_banks sides ≡ KeepsNone
TellsBoth sides (Ok (Some found)) = Counts found sides
TellsBoth sides (Err (mount.Damaged side place)) = read_banks sides ≡ Damages side place
TellsBoth sides (Err mount.Device) = Unit {0}
TellsBoth sides (Err mount.NoMemory) = Unit {0}

-- the device didn't fail
abbrev pub IsQuiet : {X : Type 0} → Result X MountFault → Type 0
IsQuiet (Ok x) = Unit {0}
IsQuiet (Err (mount.Damaged side place)) = Unit {0}
IsQuiet (Err mount.Device) = ⊥
IsQuiet (Err mount.NoMemory) = Unit {0}

-- the device failed
abbrev pub IsFailed : {X : Type 0} → Result X MountFault → Type 0
IsFailed (Ok x) = ⊥
IsFailed (Err fault) = fault ≡ mount.Device
