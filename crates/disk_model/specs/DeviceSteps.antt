-- What a bank in memory remembers of its calls. What `MemoryBanks` is for contracts is made of it.
use Rattle.std.specs.Prelude.{ℕ, List}
use Rattle.mld_io.specs.declared.banks.Side.{Side}
use Rattle.mld_io.specs.declared.banks.Leave.{Leave}

-- a call that changed what reads give, or what a crash may leave
pub data DeviceStep : Type 0 where
  -- the piece was written on this side, from this place on
  Wrote : Side → ℕ → List ℕ → DeviceStep
  -- the side was synced
  Synced : Side → DeviceStep
  -- the power was cut, which left this much of the writes that were not synced
  Cut : Leave → DeviceStep

-- the steps, the newest first; how many more may stand there, and how many bytes of pieces, with no memory taken
pub record TraceValue : Type 0 where
  pub steps : List DeviceStep
  pub room : ℕ
  pub spare : ℕ
