-- What is written for an entry is what it keeps, part by part.
use Rattle.std.proofs.Common.{subst}
use Rattle.std.specs.List.{AllByRecursion}
use Rattle.op_codec.specs.Stored.{HasPairShape, HasInsertShape, IsRange, IsStoredClock}
use Rattle.op_codec.proofs.Appending.{on_ok}
use Rattle.op_codec.proofs.Shapes.{entry_stored}
use Rattle.op_codec.proofs.entries.append_entry.Goals as goal

pub returns-clause-stored : goal.returns-clause-stored
returns-clause-stored c =
    on_ok c.append_inserts.result
    (λ inserts.
    entry_stored c.args.entry.now c.requires
    (subst IsRange c.range.ensures.value c.in_ok-append_range.ensures.stored)
    (subst IsStoredClock c.time.ensures c.in_ok-append_clock.ensures.stored)
    (subst (AllByRecursion HasPairShape) c.deletes.ensures c.in_ok-append_pairs.ensures.shape)
    (subst (AllByRecursion HasInsertShape) c.inserts.ensures inserts)
    c.range.ensures.entry)
    c.append_inserts.ensures.shape
