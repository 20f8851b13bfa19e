use Rattle.std.proofs.Common.{refl}
use Rattle.op_codec.proofs.FieldLaws.{u32_read, u32_refused}
use Rattle.op_codec.proofs.fields.read_u32.Goals as goal

pub returns-in-Ok-clause-agrees : goal.returns-in-Ok-clause-agrees
returns-in-Ok-clause-agrees c =
    u32_read c.in-Ok.read.0 c.args.at c.in-Ok.read.1 c.args.input.now c.in-Ok.ensures.fits c.in-Ok.ensures.number

pub returns-in-Err-clause-agrees : goal.returns-in-Err-clause-agrees
returns-in-Err-clause-agrees c = u32_refused c.args.at c.args.input.now c.requires (c.in-Err.ensures.short.0 refl)
