-- A read of one byte.
use Rattle.std.specs.Prelude.{◌≡◌, ℕ, List, [], ◌∷◌, Option, None, Some, Result, Ok, Err}
use Rattle.mld_io.specs.declared.faults.Failed.{Failed}

-- the read took the first of these bytes, or found none; a failed read took none
abbrev pub TakesByte : List ℕ → Result (Option ℕ) Failed → Option (List ℕ) → Type 0
TakesByte bytes (Ok None) left = (bytes ≡ []) × (left ≡ Some [])
TakesByte bytes (Ok (Some byte)) left = (rest : List ℕ) × (bytes ≡ byte ∷ rest) × (left ≡ Some rest)
TakesByte bytes (Err fault) left = left ≡ Some bytes
