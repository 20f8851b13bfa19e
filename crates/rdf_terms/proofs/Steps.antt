-- One byte more, and one state after another.
use Rattle.std.proofs.Common.{◌≡◌, ℕ, suc, List, ◌∷◌, length, Some, None, ap}
use Rattle.rdf_terms.specs.TripleReading.{State, Stopped, step, run, resume}

-- behind a byte that gave a state reading goes on there
pub run_step : (state next : State) (byte : ℕ) (rest : List ℕ) → step state byte ≡ Some next → run (byte ∷ rest) state ≡ run rest next
unfolding run
run_step state next byte rest e = ap (resume (run rest) (suc (length rest))) e

-- at a byte that gave none it stops
pub run_stop : (state : State) (byte : ℕ) (rest : List ℕ) → step state byte ≡ None → run (byte ∷ rest) state ≡ Stopped (suc (length rest))
unfolding run
run_stop state byte rest e = ap (resume (run rest) (suc (length rest))) e
