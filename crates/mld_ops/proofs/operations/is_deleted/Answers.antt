use Rattle.std.proofs.Common.{refl, sym, ◌∙◌}
use Rattle.std.proofs.lemmas.Bool.{false≢true}
use Rattle.mld_ops.proofs.Computing.{deleted_at, not_deleted_more}
use Rattle.mld_ops.proofs.operations.is_deleted.Goals as goal
use Rattle.mld_ops.proofs.operations.is_deleted.Goals.{else-is_known-via-then-is_known+else-deletes, else-is_known-via-else-is_known}

pub returns-then-deletes : goal.returns-then-deletes
returns-then-deletes c = (
  λ _. deleted_at c.args.history.now c.args.known.now c.args.pair.now c.loop-operation.operation-index c.operation-item.result c.loop-operation-test.true c.operation-item.is
      (c.if-is_known.ensures.0 refl) (c.if-deletes.ensures.0 refl),
  λ _. refl,
)

pub loop-operation-preserved : goal.loop-operation-preserved
loop-operation-preserved c =
    not_deleted_more c.args.history.now c.args.known.now c.args.pair.now c.loop-operation.operation-index c.operation-item.result c.loop-operation-test.true c.operation-item.is
    c.loop-operation.invariant
    (elim c.else-is_known.branch [
      | else-is_known-via-then-is_known+else-deletes w ↦ λ k d. false≢true (sym w.if-deletes.false ∙ w.deletes.ensures.1 d)
      | else-is_known-via-else-is_known w ↦ λ k d. false≢true (sym w.if-is_known.false ∙ c.is_known.ensures.1 k)
    ])
