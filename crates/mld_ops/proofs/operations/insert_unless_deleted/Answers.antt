use Rattle.std.proofs.lemmas.Bool.{false≢true}
use Rattle.std.proofs.Common.{sym, ◌∙◌}
use Rattle.mld_ops.proofs.Computing.{put_kept}
use Rattle.mld_ops.proofs.operations.insert_unless_deleted.Goals as goal

pub returns-else-is_deleted-clause-ok : goal.returns-else-is_deleted-clause-ok
returns-else-is_deleted-clause-ok c =
    put_kept c.args.history.now c.args.known.now c.args.pairs.now.items c.insert_pair.new.pairs.items c.args.pair c.insert_pair.result
    (λ d. false≢true (sym c.if-is_deleted.false ∙ c.is_deleted.ensures.1 d)) c.insert_pair.ensures.ok
