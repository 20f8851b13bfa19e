use Rattle.std.proofs.Common.{rules, List, sym, subst}
use Rattle.mld_ops.specs.Entry.{EntryValue}
use Rattle.op_fusion.proofs.Rows.{AreCompacting, one_more_run, all_compacted}
use Rattle.op_fusion.proofs.compacting.compact_entries.Goals as goal

pub loop-rest-preserved : goal.loop-rest-preserved
loop-rest-preserved c =
    subst (λ (runs : List EntryValue). AreCompacting c.args.entries.now c.split_at.result.1.now runs) (sym c.in_ok-push.ensures.items)
    (one_more_run c.args.entries.now c.loop-rest.rest.now c.loop-rest.runs.items c.split_at.result.0.now c.split_at.result.1.now c.run_length.result c.in_ok-fuse_run.field-0
    c.loop-rest.invariant c.run_length.ensures c.split_at.ensures.front c.split_at.ensures.back c.in_ok-fuse_run.ensures.fused c.in_ok-fuse_run.ensures.entries)

pub returns-clause-fused : goal.returns-clause-fused
returns-clause-fused c = (all_compacted c.args.entries.now c.loop-rest.rest.now c.loop-rest.runs.items (search rules) c.loop-rest.invariant).0

pub returns-clause-entries : goal.returns-clause-entries
returns-clause-entries c = (all_compacted c.args.entries.now c.loop-rest.rest.now c.loop-rest.runs.items (search rules) c.loop-rest.invariant).1
