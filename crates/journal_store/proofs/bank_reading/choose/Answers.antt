use Rattle.std.proofs.Common.{arith}
use Rattle.journal_store.proofs.Choosing.{second_counts, first_counts, equal_damaged, later_counts, earlier_counts}
use Rattle.journal_store.proofs.bank_reading.choose.Goals as goal

pub returns-in_default-clause-tells : goal.returns-in_default-clause-tells
returns-in_default-clause-tells c sides x y = second_counts sides c.args.b (rw c.in_default.is at x) y

pub returns-in_default-b-clause-tells : goal.returns-in_default-b-clause-tells
returns-in_default-b-clause-tells c sides x y = first_counts sides c.in-Some.a (rw c.in-Some.is at x) (rw c.in_default-b.is at y)

pub returns-then-a-b-clause-tells : goal.returns-then-a-b-clause-tells
returns-then-a-b-clause-tells c sides x y = equal_damaged sides c.in-Some.a c.in-Some-b.b (rw c.in-Some.is at x) (rw c.in-Some-b.is at y) c.if-a-b.true

pub returns-then-a-b-2-clause-tells : goal.returns-then-a-b-2-clause-tells
returns-then-a-b-2-clause-tells c sides x y = later_counts sides c.in-Some.a c.in-Some-b.b (rw c.in-Some.is at x) (rw c.in-Some-b.is at y) c.if-a-b-2.true

pub returns-clause-tells : goal.returns-clause-tells
returns-clause-tells c sides x y = earlier_counts sides c.in-Some.a c.in-Some-b.b (rw c.in-Some.is at x) (rw c.in-Some-b.is at y) (omega (arith, c.if-a-b.false, c.if-a-b-2.false))
