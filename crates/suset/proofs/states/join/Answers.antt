use Rattle.std.proofs.Common.{rules}
use Rattle.mld_ops.specs.Messages.{snapshot_value}
use Rattle.suset.proofs.JoinedWith.{joined_covered}
use Rattle.suset.proofs.states.join.Goals as goal

pub returns-clause-joined : goal.returns-clause-joined
returns-clause-joined c = record { known = search rules; pairs = search rules }

pub returns-clause-covered : goal.returns-clause-covered
returns-clause-covered c =
    joined_covered c.args.clock.now.ticks c.args.set.now (snapshot_value c.args.snapshot.now) c.merge.new.self.ticks c.in_ok-pairs.pairs (returns-clause-joined c) c.requires
