use Rattle.std.proofs.Common.{arith}
use Rattle.op_codec.proofs.PathLaws.{number_more, fits_more, bit_below}
use Rattle.op_codec.proofs.paths.number_of.Goals as goal

pub loop-i-preserved : goal.loop-i-preserved
loop-i-preserved c =
    record {
      value = number_more c.args.path.now c.loop-i.i c.letter.result c.loop-i.bits c.bit_of.result (omega (arith, c.len-i-end.ensures.value, c.loop-i-test.true)) c.letter.ensures c.bit_of.ensures c.loop-i.invariant.value;
      fits = fits_more c.loop-i.bits c.loop-i.i c.bit_of.result c.loop-i.invariant.fits (bit_below c.letter.result c.bit_of.result c.bit_of.ensures);
    }
