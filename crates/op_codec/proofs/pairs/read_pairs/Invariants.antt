use Rattle.std.proofs.Common.{drop}
use Rattle.op_codec.proofs.ListLaws.{IsUnderWay}
use Rattle.op_codec.specs.StoredLists.{read_list}
use Rattle.op_codec.specs.PairBytes.{cover_of, fits_pairs, read_pair}
use Rattle.op_codec.proofs.pairs.read_pairs.Given as goal

abbrev pub invariant-loop-done : goal.invariant-loop-done
invariant-loop-done l =
    IsUnderWay read_pair (fits_pairs (cover_of (λ clock. clock.now.ticks) l.fn.cover)) l.fn.input
    (read_list read_pair (fits_pairs (cover_of (λ clock. clock.now.ticks) l.fn.cover)) l.fn.at (drop l.fn.at l.fn.input)) l.count l._done l.pairs.items l.place
