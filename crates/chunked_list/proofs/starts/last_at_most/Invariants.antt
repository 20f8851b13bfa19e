use Rattle.std.proofs.Common.{◌<◌, ◌≤◌, ◌-◌, length, slice_index_or}
use Rattle.chunked_list.proofs.starts.last_at_most.Given as goal

abbrev pub invariant-loop-low : goal.invariant-loop-low
invariant-loop-low l = record {
  order : l.low < l.high;
  within : l.high ≤ length l.starts;
  most : slice_index_or l.starts l.low 0 ≤ l.count;
  next : l.high < length l.starts → l.count < slice_index_or l.starts l.high 0;
}

abbrev pub decreases-loop-low : goal.decreases-loop-low
decreases-loop-low l = l.high - l.low
