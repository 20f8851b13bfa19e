use Rattle.std.proofs.Common.{arith}
use Rattle.op_codec.proofs.ShortTriples.{front_count, byte_more}
use Rattle.op_codec.proofs.short.lexical_count.Goals as goal

pub overflow_add-count : goal.overflow_add-count
overflow_add-count c =
    let so_far = front_count c.args.lexical.now c.loop-byte.byte-index (omega (arith, c.loop-byte-test.true)) c.requires in
    omega (arith, so_far, c.loop-byte.invariant, c.escaped_count-count.ensures.bounded)

pub loop-byte-preserved : goal.loop-byte-preserved
loop-byte-preserved c =
    byte_more c.args.lexical.now c.loop-byte.byte-index c.loop-byte.count c.escaped_count-count.result c.loop-byte-test.true c.loop-byte.invariant
    c.escaped_count-count.ensures.count
