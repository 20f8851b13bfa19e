use Rattle.std.proofs.Common.{None}
use Rattle.op_codec.specs.PairBytes.{pairs_bytes, read_pairs}
use Rattle.op_codec.specs.Stored.{ArePairs}
use Rattle.op_codec.proofs.EntryTrips.{tagged_back, tagged_one}
use Rattle.op_codec.proofs.Sequences.{refuses_rightly}
use Rattle.op_codec.proofs.laws.one_list_of_pairs.Goals as goal

pub returns-clause-back : goal.returns-clause-back
returns-clause-back c = tagged_back

pub returns-clause-one : goal.returns-clause-one
returns-clause-one c = tagged_one

pub returns-clause-refusals : goal.returns-clause-refusals
returns-clause-refusals c = refuses_rightly ArePairs pairs_bytes (read_pairs None) tagged_back
