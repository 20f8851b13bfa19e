use Rattle.std.proofs.Common.{arith}
use Rattle.mld_bytes.proofs.Numbers.{none_short, number_at, number_fits}
use Rattle.mld_bytes.proofs.take.take_number.Goals as goal

pub returns-then-input-at-clause-none : goal.returns-then-input-at-clause-none
returns-then-input-at-clause-none c = none_short c.args.size c.args.at c.args.input.now c.requires.at c.if-input-at.true

pub returns-clause-number : goal.returns-clause-number
returns-clause-number c =
    number_at c.args.size c.read_uint.result c.args.at c.args.input.now c.requires.at c.if-input-at.false (λ k. omega (arith, c.type_inv.input k)) c.read_uint.ensures

pub returns-clause-fits : goal.returns-clause-fits
returns-clause-fits c = number_fits c.args.size c.read_uint.result c.args.at c.args.input.now (λ k. omega (arith, c.type_inv.input k)) c.read_uint.ensures
