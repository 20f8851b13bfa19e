use Rattle.std.proofs.Common.{refl, sym, ◌∙◌}
use Rattle.std.proofs.lemmas.Bool.{false≢true}
use Rattle.mld_ops.proofs.Computing.{operation_more, operation_passed}
use Rattle.mld_ops.proofs.operations.meaning.Goals as goal
use Rattle.mld_ops.proofs.operations.meaning.Goals.{then-is_known+in_ok-insert_kept, else-is_known}

pub loop-operation-preserved : goal.loop-operation-preserved
loop-operation-preserved c =
    elim c.if-is_known.branch [
      | then-is_known+in_ok-insert_kept w ↦ rw w.pairs-is (record {
        ascending = w.insert_kept.ensures.ascending;
        members = operation_more c.args.history.now c.args.known.now c.loop-operation.pairs.items _ c.loop-operation.operation-index c.operation-item.result c.loop-operation-test.true c.operation-item.is
            (w.if-is_known.ensures.0 refl) c.loop-operation.invariant.members w.in_ok-insert_kept.ensures.ok;
      })
      | else-is_known w ↦ rw w.pairs-is (record {
        ascending = c.loop-operation.invariant.ascending;
        members = operation_passed c.args.history.now c.args.known.now c.loop-operation.pairs.items c.loop-operation.operation-index c.operation-item.result c.loop-operation-test.true c.operation-item.is
            (λ k. false≢true (sym w.if-is_known.false ∙ c.is_known.ensures.1 k)) c.loop-operation.invariant.members;
      })
    ]
