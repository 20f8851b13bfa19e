use Rattle.std.proofs.Common.{None, arith}
use Rattle.op_codec.specs.PairBytes.{pairs_bytes, read_pairs}
use Rattle.op_codec.specs.Stored.{ArePairs}
use Rattle.op_codec.proofs.EntryTrips.{tagged_one}
use Rattle.op_codec.proofs.ReadWritten.{written_if_ok}
use Rattle.op_codec.proofs.pairs.read_tagged.Goals as goal

pub returns-clause-written : goal.returns-clause-written
returns-clause-written c =
    written_if_ok ArePairs pairs_bytes (read_pairs None) tagged_one c.args.input.now c.args.at (λ k. omega (arith, c.type_inv.input k)) (λ pairs. pairs.items) c.read_pairs.result c.read_pairs.ensures
