-- What the adapters over std's readers and writers tell.
use Rattle.std.specs.Prelude.{◌≡◌, ℕ, zero, suc, List, Option, Result, Ok, Err}
use Rattle.std.specs.Io.KnownBytes.{prepend_known}
use Rattle.mld_io.specs.declared.faults.Failed.{Failed}
use Rattle.mld_io.specs.declared.faults.IoFault.{IoFault}
use Rattle.mld_io.specs.declared.faults.IoFault.TheVariants as io
use Rattle.mld_io.specs.Faults.{counted}
use Rattle.mld_io.specs.declared.standard.StdSource.{StdSource}
use Rattle.mld_io.specs.declared.standard.StdSink.{StdSink}

-- the reader of a source
abbrev pub source_reader : {R : Type 0} → StdSource R → R
source_reader s = s.reader

-- the bytes that were read and not yet given
abbrev pub bytes_ahead : {R : Type 0} → StdSource R → List ℕ
bytes_ahead s = s.ahead

-- those bytes, and then all that the reader has left, where it tells that
abbrev pub reader_left : {R : Type 0} → (R → Option (List ℕ)) → StdSource R → Option (List ℕ)
reader_left remaining s = prepend_known (bytes_ahead s) (remaining (source_reader s))

-- how many reads failed
abbrev pub reader_faults : {R : Type 0} → StdSource R → ℕ
reader_faults s = s.faults

-- the bytes that the writer holds, where it tells them
abbrev pub writer_held : {W : Type 0} → (W → Option (List ℕ)) → StdSink W → Option (List ℕ)
writer_held contents s = contents s.writer

-- how many writes failed
abbrev pub writer_faults : {W : Type 0} → StdSink W → ℕ
writer_faults s = s.faults

-- an answer of a count is told as that count, and leaves the count of faults
pub record TellsCount {F : Type 0} (count before : ℕ) (told : Result ℕ F) (now : ℕ) : Type 0 where
  pub told_is : told ≡ Ok count
  pub now_is : now ≡ before

-- a failure is told as this fault, and counted
pub record TellsFault {F : Type 0} (fault : F) (before : ℕ) (told : Result ℕ F) (now : ℕ) : Type 0 where
  pub told_is : told ≡ Err fault
  pub now_is : now ≡ counted before

-- what a source tells of a read of std
abbrev pub TellsRead : {E : Type 0} → Result ℕ E → ℕ → Result ℕ Failed → ℕ → Type 0
TellsRead (Ok count) before told now = TellsCount count before told now
TellsRead (Err error) before told now = (fault : Failed) × TellsFault fault before told now

-- what a sink tells of a write of std of so many bytes: none taken of some is a failure
abbrev pub TellsWrite : {E : Type 0} → Result ℕ E → ℕ → ℕ → Result ℕ IoFault → ℕ → Type 0
TellsWrite (Ok zero) zero before told now = TellsCount 0 before told now
TellsWrite (Ok zero) (suc size) before told now = TellsFault io.Failed before told now
TellsWrite (Ok (suc count)) size before told now = TellsCount (suc count) before told now
TellsWrite (Err error) size before told now = TellsFault io.Failed before told now
