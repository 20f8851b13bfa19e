use Rattle.std.proofs.Common.{ap, length, ◌/◌, ◌-◌, ◌^◌, arith, ◌∙◌}
use Rattle.tree_clock.specs.Letters.{length-letters}
use Rattle.op_codec.proofs.PathLaws.{letters_more}
use Rattle.op_codec.proofs.paths.path_of.Goals as goal

pub child-path-requires : goal.child-path-requires
child-path-requires c =
    let e = ap length c.loop-i.invariant ∙ length-letters c.loop-i.i (c.args.bits / 2 ^ (c.args.count - c.loop-i.i)) in
    omega (arith, c.requires)

pub loop-i-preserved : goal.loop-i-preserved
loop-i-preserved c =
    c.child-path.ensures ∙ letters_more c.loop-i.path c.args.bits c.args.count c.loop-i.i c.loop-i-test.true c.loop-i.invariant
