use Rattle.std.proofs.Common.{ℕ, List, length, ◌≤◌, ◌-◌, ◌++◌, take, drop}
use Rattle.rdf_terms.specs.TripleReading.{Slot, Within, Between, Leads}
use Rattle.rdf_terms.proofs.bodies.pass_plain.Given as goal

-- what was passed leads to here
abbrev pub invariant-loop-i : goal.invariant-loop-i
invariant-loop-i l = record {
  forward : l.at ≤ l.i;
  within : l.i ≤ length l.text;
  leads : (slot : Slot) (value : List ℕ) → Leads l.text l.at (Within slot l.initial.spot Between value) l.i (Within slot l.spot Between (value ++ take (l.i - l.at) (drop l.at l.text)));
}
