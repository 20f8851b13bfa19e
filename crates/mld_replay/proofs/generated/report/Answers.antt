use Rattle.mld_replay.specs.GeneratedRuns.{reported, refused}
use Rattle.std.proofs.Common.{refl}
use Rattle.mld_replay.proofs.generated.report.Goals as goal

pub returns-in-Ok-clause-reports : goal.returns-in-Ok-clause-reports
returns-in-Ok-clause-reports g c =
    reported c.in-None-Some.summary (record { no_fault = c.in-None-Some.is-0; told = c.in-None-Some.is-1 }) refl (rw c.deref.ensures.value at c.in-Ok.ensures.ok) c.in-Ok.ensures.quiet

pub returns-in-Err-clause-reports : goal.returns-in-Err-clause-reports
returns-in-Err-clause-reports g c =
    let written = rw c.deref.ensures.value at c.in-Err.ensures.err in
    refused c.in-None-Some.summary (record { no_fault = c.in-None-Some.is-0; told = c.in-None-Some.is-1 }) c.in-Err.fault c.in-Err.ensures.fault c.end_run.ensures.fault c.end_run.ensures.banks c.end_run.ensures.world written.0 written.1
