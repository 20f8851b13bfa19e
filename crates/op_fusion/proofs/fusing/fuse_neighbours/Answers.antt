use Rattle.op_fusion.proofs.Staying.{fused_is_entry}
use Rattle.op_fusion.proofs.fusing.fuse_neighbours.Goals as goal

pub unwrap-requires : goal.unwrap-requires
unwrap-requires c =
    let range = c.joined-range.result in
    c.new.ensures.some.1 (fused_is_entry c.args.first.now c.args.second.now c.range.ensures.entry c.range-2.ensures.entry c.requires
    (record { range = range; time = c.in_ok-time.time.ticks; deletes = c.in_ok-deletes.deletes.items; inserts = c.in_ok-inserts.inserts.items })
    (record {
      range = rw (c.range.ensures.value, c.range-2.ensures.value) at c.joined-range.ensures;
      inserts_ascend = c.in_ok-inserts.ensures.ascending;
      inserts = c.in_ok-inserts.ensures.members;
      deletes_ascend = c.in_ok-deletes.ensures.ascending;
      deletes = c.in_ok-deletes.ensures.members;
      clock = c.in_ok-time.ensures.clock;
      time = rw (c.time.ensures, c.time-2.ensures) at c.in_ok-time.ensures.ticks;
    }))
