-- How faults show in counts: `next_line` cites `HasReadCause`, and the runs over an input (`shell`) cite `RoseJustWhere`.
use Rattle.std.specs.Prelude.{◌≡◌, ℕ, Result, IsErrOf}
use Rattle.mld_io.specs.Faults.{Rose}
use Rattle.input_lines.specs.declared.faults.InputFault.{InputFault}
use Rattle.input_lines.specs.declared.faults.InputFault.TheVariants as faults

-- a count of faults rose where this says so, and else it is what it was
pub record RoseJustWhere (Failed : Type 0) (before now : ℕ) : Type 0 where
  pub failed : Failed → Rose before now
  pub quiet : ¬ Failed → now ≡ before

-- the count of the source's faults rose where the fault is one of reading, and else it is what it was
pub record HasReadCause {T : Type 0} (before now : ℕ) (result : Result T InputFault) : Type 0 where
  pub failed : IsErrOf result faults.ReadFault → Rose before now
  pub quiet : ¬ IsErrOf result faults.ReadFault → now ≡ before
