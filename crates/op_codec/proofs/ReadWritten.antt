-- What a reader of the program reads was written so.
use Rattle.std.proofs.Common.{ℕ, ◌+◌, List, Result, Ok, Err, IfOk, MatchResult, drop}
use Rattle.std.proofs.lemmas.List.{get_or-drop}
use Rattle.op_codec.specs.declared.faults.CodecFault.{CodecFault}
use Rattle.op_codec.specs.Agreement.{IsRead, IsRefused}
use Rattle.op_codec.specs.CodecLaws.{AreBytes, IsWritten, IsOneSpelling}
use Rattle.op_codec.specs.Reading.{Reading}

-- what stands from a place of an input on are bytes
bytes_at : (input : List ℕ) (at : ℕ) → AreBytes input → AreBytes (drop at input)
bytes_at input at b k = rw (get_or-drop at input k 0) (b (at + k))

module _ {X : Type 0} (IsValue : X → Type 0) (bytes_of : X → List ℕ) (read : ℕ → List ℕ → Reading X) (one : IsOneSpelling IsValue bytes_of read) (input : List ℕ) (at : ℕ) (bytes : AreBytes input) where
  -- a value that is read was written so
  pub written_if_read : (value : X) (next : ℕ) → IsRead (read at (drop at input)) input value next → IsWritten IsValue bytes_of at (drop at input) value next (drop next input)
  written_if_read value next r = one at (drop at input) value next (drop next input) (bytes_at input at bytes) r.found

  -- the same of a result that is a value or a fault
  pub written_if_ok : {T : Type 0} (view : T → X) (result : Result (T × ℕ) CodecFault) → MatchResult result (λ r. IsRead (read at (drop at input)) input (view r.0) r.1) (IsRefused (read at (drop at input)))
      → IfOk result (λ r. IsWritten IsValue bytes_of at (drop at input) (view r.0) r.1 (drop r.1 input))
  written_if_ok view (Ok r) h = written_if_read (view r.0) r.1 h
  written_if_ok view (Err fault) h = tt
