use Rattle.number_tables.specs.HashBuckets.{AreStanding}
use Rattle.number_tables.proofs.hash_index.made_anew.Given as goal

abbrev pub invariant-loop-number : goal.invariant-loop-number
invariant-loop-number l = AreStanding l.terms l.number l.index.slots.items l.index.places.elements
