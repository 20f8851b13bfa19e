use Rattle.std.proofs.Common.{◌≡◌, ◌≤◌, ◌-◌, length, true, false}
use Rattle.std.specs.List.{AllWithin}
use Rattle.std.specs.List.Sorted.{IsPartitionedBy}
use Rattle.hinted_chunks.proofs.hints.count_by_halves.Given as goal

abbrev pub invariant-loop-low : goal.invariant-loop-low
invariant-loop-low g l = record {
  order : l.low ≤ l.high;
  within : l.high ≤ length l.elements;
  front : IsPartitionedBy (g.B.Bound.before l.bound) l.elements → AllWithin (λ x. g.B.Bound.before l.bound x ≡ true) l.elements 0 l.low;
  back : IsPartitionedBy (g.B.Bound.before l.bound) l.elements → AllWithin (λ x. g.B.Bound.before l.bound x ≡ false) l.elements l.high (length l.elements);
}

abbrev pub decreases-loop-low : goal.decreases-loop-low
decreases-loop-low g l = l.high - l.low
