-- Sources and sinks in memory.
use Rattle.std.specs.Prelude.{◌≡◌, ℕ, min, List, ◌++◌, length, drop, Result, Ok, Err}
use Rattle.mld_io.specs.declared.faults.Failed.{Failed}
use Rattle.mld_io.specs.declared.faults.IoFault.{IoFault}
use Rattle.mld_io.specs.declared.faults.IoFault.TheVariants as io
use Rattle.mld_io.specs.Faults.{counted}

-- what a source in memory is: the bytes left, the faults, the number of the next call, and the numbers of those that fail
pub record SourceValue : Type 0 where
  pub left : List ℕ
  pub faults : ℕ
  pub calls : ℕ
  pub fails : List ℕ

-- what a sink in memory is: the bytes written, the faults, the number of the next call, and the numbers of those that fail
pub record SinkValue : Type 0 where
  pub held : List ℕ
  pub faults : ℕ
  pub calls : ℕ
  pub fails : List ℕ

-- what a read of up to `room` bytes leaves
abbrev pub SourceMoves : SourceValue → ℕ → Result ℕ Failed → SourceValue → Type 0
SourceMoves old room (Ok n) new = (n ≡ min room (length old.left)) × (new ≡ record old { left = drop n old.left; calls = counted old.calls })
SourceMoves old room (Err fault) new = new ≡ record old { faults = counted old.faults; calls = counted old.calls }

-- what a write of a piece leaves
abbrev pub SinkMoves : SinkValue → List ℕ → Result ℕ IoFault → SinkValue → Type 0
SinkMoves old piece (Ok n) new = (n ≡ length piece) × (new ≡ record old { held = old.held ++ piece; calls = counted old.calls })
SinkMoves old piece (Err io.Failed) new = new ≡ record old { faults = counted old.faults; calls = counted old.calls }
SinkMoves old piece (Err io.NoMemory) new = new ≡ record old { calls = counted old.calls }
