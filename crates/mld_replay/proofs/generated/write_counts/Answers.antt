use Rattle.std.proofs.lemmas.Result.{err_from_is_err_and}
use Rattle.mld_replay.proofs.GeneratedLemmas.{count_fault}
use Rattle.mld_replay.proofs.generated.write_counts.Goals as goal

pub returns-in_err-write_all-clause-fault : goal.returns-in_err-write_all-clause-fault
returns-in_err-write_all-clause-fault g c =
    let p = err_from_is_err_and c.from_residual-in_err-write_all.result c.from_residual-in_err-write_all.ensures.1 in
    rw (p.1, p.2) (count_fault c.in_err-write_all.field-0.0 (g.K.Sink.faults c.args.sink.now) (g.K.Sink.faults c.write_all.new.sink) c.in_err-write_all.ensures.cause)
