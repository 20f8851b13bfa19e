use Rattle.std.proofs.Common.{length}
use Rattle.op_fusion.proofs.compacting.+fuse_run.Given as goal

abbrev pub decreases-fuse_run : goal.decreases-fuse_run
decreases-fuse_run l = length l.entries.now
