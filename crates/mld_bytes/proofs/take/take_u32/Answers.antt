use Rattle.std.proofs.Common.{arith}
use Rattle.mld_bytes.specs.Bytes.{u32_bytes}
use Rattle.mld_bytes.proofs.Numbers.{none_short, number_at}
use Rattle.mld_bytes.proofs.take.take_u32.Goals as goal

pub returns-then-input-at-lt4-clause-none : goal.returns-then-input-at-lt4-clause-none
unfolding u32_bytes
returns-then-input-at-lt4-clause-none c = none_short 4 c.args.at c.args.input.now c.requires c.if-input-at-lt4.true

pub returns-clause-number : goal.returns-clause-number
unfolding u32_bytes
returns-clause-number c =
    number_at 4 c.read_u32.result c.args.at c.args.input.now c.requires c.if-input-at-lt4.false (λ k. omega (arith, c.type_inv.input k)) c.read_u32.ensures
