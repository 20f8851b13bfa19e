use Rattle.std.proofs.Common.{refl}
use Rattle.journal_sides.proofs.FieldReading.{generation_read, generation_refused}
use Rattle.journal_sides.proofs.head_reading.read_generation.Goals as goal

pub returns-in-Ok : goal.returns-in-Ok
returns-in-Ok c =
    generation_read c.in-Ok.read.0 c.args.at c.in-Ok.read.1 c.args.input.now c.in-Ok.ensures.fits c.in-Ok.ensures.number

pub returns-in-Err : goal.returns-in-Err
returns-in-Err c = generation_refused c.args.at c.args.input.now c.requires (c.in-Err.ensures.short.0 refl)
