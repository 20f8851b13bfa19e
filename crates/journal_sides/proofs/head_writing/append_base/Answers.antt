-- The base of a head that may be taken.
use Rattle.op_codec.proofs.Appending.{on_ok}
use Rattle.journal_sides.proofs.WrittenLaws.{base_stored}
use Rattle.journal_sides.proofs.head_writing.append_base.Goals as goal

pub returns-clause-stored : goal.returns-clause-stored
returns-clause-stored c =
    on_ok c.write_tagged.result
    (λ shape. base_stored (record { ticks = c.args.base.now.ticks; pairs = c.args.tagged.now }) c.requires.good c.requires.short c.in_ok-write_clock.ensures.stored shape)
    c.write_tagged.ensures.shape
