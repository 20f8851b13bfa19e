use Rattle.std.proofs.Common.{arith}
use Rattle.mld_bytes.specs.Bytes.{u64_bytes}
use Rattle.mld_bytes.proofs.Numbers.{none_short, number_at}
use Rattle.mld_bytes.proofs.take.take_u64.Goals as goal

pub returns-then-input-at-lt8-clause-none : goal.returns-then-input-at-lt8-clause-none
unfolding u64_bytes
returns-then-input-at-lt8-clause-none c = none_short 8 c.args.at c.args.input.now c.requires c.if-input-at-lt8.true

pub returns-clause-number : goal.returns-clause-number
unfolding u64_bytes
returns-clause-number c =
    number_at 8 c.read_u64.result c.args.at c.args.input.now c.requires c.if-input-at-lt8.false (λ k. omega (arith, c.type_inv.input k)) c.read_u64.ensures
