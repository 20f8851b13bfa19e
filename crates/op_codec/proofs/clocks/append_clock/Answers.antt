-- What is written for a clock is what it keeps.
use Rattle.std.proofs.Common.{◌∙◌, subst}
use Rattle.std.specs.List.{AllByRecursion}
use Rattle.op_codec.specs.Stored.{HaveShape}
use Rattle.op_codec.proofs.Appending.{on_ok}
use Rattle.op_codec.proofs.Shapes.{clock_stored}
use Rattle.op_codec.proofs.clocks.append_clock.Goals as goal

pub returns-clause-stored : goal.returns-clause-stored
returns-clause-stored c =
    on_ok c.append_ticks.result
    (λ shape. clock_stored c.args.clock.now.ticks c.requires c.in_ok-list.ensures.clock (subst (AllByRecursion HaveShape) (c.deref.ensures.value ∙ c.in_ok-list.ensures.ok) shape))
    c.append_ticks.ensures.shape
