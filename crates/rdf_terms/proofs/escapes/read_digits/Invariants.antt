use Rattle.std.proofs.Common.{ℕ, List, length, ◌≤◌, ◌<◌}
use Rattle.rdf_terms.specs.TripleReading.{Slot, Within, Digits, Leads}
use Rattle.rdf_terms.proofs.escapes.read_digits.Given as goal

-- what was read leads to here, with a code that is not above U+10FFFF
abbrev pub invariant-loop-digits : goal.invariant-loop-digits
invariant-loop-digits l = record {
  some : 1 ≤ l.digits;
  most : l.digits ≤ l.count;
  small : l.code < 1114112;
  forward : l.at ≤ l.next;
  within : l.next ≤ length l.text;
  leads : (slot : Slot) (value : List ℕ) → Leads l.text l.at (Within slot l.spot (Digits l.count 0) value) l.next (Within slot l.spot (Digits l.digits l.code) value);
}

abbrev pub decreases-loop-digits : goal.decreases-loop-digits
decreases-loop-digits l = l.digits
