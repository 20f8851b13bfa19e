use Rattle.std.proofs.Common.{length, ◌≤◌, ◌-◌}
use Rattle.std.specs.Str.{IsCharBoundary}
use Rattle.std.specs.String.{string_bytes}
use Rattle.rdf_terms.specs.TripleReading.{Slot, Within, Between, Leads}
use Rattle.rdf_terms.proofs.bodies.read_pieces.Given as goal

-- what was read leads to here, and the text may be cut here
abbrev pub invariant-pieces : goal.invariant-pieces
invariant-pieces l = record {
  forward : l.at ≤ l.begun;
  within : l.begun ≤ length l.text;
  boundary : IsCharBoundary l.text l.begun;
  leads : (slot : Slot) → Leads l.text l.at (Within slot l.initial.spot Between (string_bytes l.fn.value)) l.begun (Within slot l.spot Between (string_bytes l.value));
}

abbrev pub decreases-pieces : goal.decreases-pieces
decreases-pieces l = length l.text - l.begun
