use Rattle.std.proofs.Common.{◌≡◌, ◌≢◌, ap, Some}
use Rattle.std.specs.Result.{result_err}
use Rattle.mld_replay.specs.declared.run.RunFault.TheVariants as faults
use Rattle.mld_replay.specs.Ran.{says_of, LeavesAlone, CountsFaults, Agrees}
use Rattle.input_lines.specs.Untouched.{AreUntouched}
use Rattle.mld_replay.specs.Replaying.{says_by}
use Rattle.mld_replay.proofs.MeterLemmas.{well_then, unarmed_later, back_unarmed}
use Rattle.mld_replay.proofs.BlankLemmas.{empty_still, stay_less, less_later}
use Rattle.mld_replay.proofs.SummaryLemmas.{ends_by, back_by, said_by, replay_alone, replay_not_usage, replay_not_filled, agrees_so, looking_fault, blanking_fault, bank_ends, left_alone, bank_alone, bank_reads, bank_writes, bank_agrees, looking_heeds, empty_heeds, blanking_not_filled, refused_back, back_told}
use Rattle.mld_replay.proofs.run.run_replay.Goals as goal

-- ---- banks have bytes, or could not be looked at

pub returns-in-Err-clause-untouched : goal.returns-in-Err-clause-untouched
returns-in-Err-clause-untouched g c = rw c.end_run.ensures.fault (bank_alone c.in-Err.fault (looking_fault g.B.Banks.log c.args.banks.items c.in-Err.fault c.in-Err.ensures.err) _ _ (left_alone c.args.source.now c.args.sink.now))

pub returns-in-Err-clause-ends : goal.returns-in-Err-clause-ends
returns-in-Err-clause-ends g c = λ bytes told.
    bank_ends c.in-Err.fault (looking_fault g.B.Banks.log c.args.banks.items c.in-Err.fault c.in-Err.ensures.err) (says_of g.B.Banks.log c.args.banks.items c.end_run.result) c.end_run.result.fault
    (g.S.Source.left c.args.source.now) (g.K.Sink.held c.args.sink.now) bytes c.end_run.ensures.fault told
    (rw c.end_run.ensures.banks (stay_less g.B.Banks.log c.args.banks.items c.find_filled.new.banks.items c.find_filled.ensures.logs))

pub returns-in-Err-clause-counts : goal.returns-in-Err-clause-counts
returns-in-Err-clause-counts g c = record {
  read =
      rw c.end_run.ensures.fault (bank_reads c.in-Err.fault (looking_fault g.B.Banks.log c.args.banks.items c.in-Err.fault c.in-Err.ensures.err) (g.S.Source.faults c.args.source.now));
  write =
      rw c.end_run.ensures.fault (bank_writes c.in-Err.fault (looking_fault g.B.Banks.log c.args.banks.items c.in-Err.fault c.in-Err.ensures.err) (g.K.Sink.faults c.args.sink.now));
}

pub returns-in-Err-clause-exact : goal.returns-in-Err-clause-exact
returns-in-Err-clause-exact g c = λ bytes told outcome verdict. rw c.end_run.ensures.fault (bank_agrees c.in-Err.fault (looking_fault g.B.Banks.log c.args.banks.items c.in-Err.fault c.in-Err.ensures.err) outcome)

pub returns-in-Err-clause-filled : goal.returns-in-Err-clause-filled
returns-in-Err-clause-filled g c =
    rw (c.end_run.ensures.fault, c.end_run.ensures.banks)
    (looking_heeds g.B.Banks.log c.args.banks.items c.find_filled.new.banks.items c.in-Err.fault _ c.in-Err.ensures.err c.find_filled.ensures.logs (left_alone c.args.source.now c.args.sink.now))

pub returns-in-Err-clause-back : goal.returns-in-Err-clause-back
returns-in-Err-clause-back g c =
    back_unarmed g.B.Banks.meter c.args.banks.items c.end_run.result.banks.items c.end_run.result.fault c.requires.1
    (back_told g.B.Banks.meter c.args.banks.items c.find_filled.new.banks.items c.end_run.result.banks.items (Some c.in-Err.fault) c.end_run.result.fault c.end_run.ensures.fault
    (ap (λ b. b.items) c.end_run.ensures.banks) c.in-Err.ensures.back)

-- ---- no blanks could be made

pub blanks_of-requires-clause-empty : goal.blanks_of-requires-clause-empty
blanks_of-requires-clause-empty g c = λ κs outlives.
    empty_still g.B.Banks.log c.args.banks.items c.find_filled.new.banks.items c.find_filled.ensures.meters.count c.find_filled.ensures.logs c.in_default.ensures.ok

pub returns-in-Err-blanks_of-clause-untouched : goal.returns-in-Err-blanks_of-clause-untouched
returns-in-Err-blanks_of-clause-untouched g c = rw c.end_run-in-Err-blanks_of.ensures.fault (bank_alone c.in-Err-blanks_of.fault (blanking_fault g.B.Banks.meter c.find_filled.new.banks.items c.in-Err-blanks_of.banks.items c.in-Err-blanks_of.fault c.in-Err-blanks_of.ensures.err) _ _ (left_alone c.args.source.now c.args.sink.now))

pub returns-in-Err-blanks_of-clause-ends : goal.returns-in-Err-blanks_of-clause-ends
returns-in-Err-blanks_of-clause-ends g c = λ bytes told.
    bank_ends c.in-Err-blanks_of.fault (blanking_fault g.B.Banks.meter c.find_filled.new.banks.items c.in-Err-blanks_of.banks.items c.in-Err-blanks_of.fault c.in-Err-blanks_of.ensures.err) (says_of g.B.Banks.log c.args.banks.items c.end_run-in-Err-blanks_of.result) c.end_run-in-Err-blanks_of.result.fault
    (g.S.Source.left c.args.source.now) (g.K.Sink.held c.args.sink.now) bytes c.end_run-in-Err-blanks_of.ensures.fault told
    (rw c.end_run-in-Err-blanks_of.ensures.banks (less_later g.B.Banks.log c.args.banks.items c.find_filled.new.banks.items c.in-Err-blanks_of.banks.items c.find_filled.ensures.meters.count c.find_filled.ensures.logs
    c.in-Err-blanks_of.ensures.left))

pub returns-in-Err-blanks_of-clause-counts : goal.returns-in-Err-blanks_of-clause-counts
returns-in-Err-blanks_of-clause-counts g c = record {
  read =
      rw c.end_run-in-Err-blanks_of.ensures.fault (bank_reads c.in-Err-blanks_of.fault (blanking_fault g.B.Banks.meter c.find_filled.new.banks.items c.in-Err-blanks_of.banks.items c.in-Err-blanks_of.fault c.in-Err-blanks_of.ensures.err) (g.S.Source.faults c.args.source.now));
  write =
      rw c.end_run-in-Err-blanks_of.ensures.fault (bank_writes c.in-Err-blanks_of.fault (blanking_fault g.B.Banks.meter c.find_filled.new.banks.items c.in-Err-blanks_of.banks.items c.in-Err-blanks_of.fault c.in-Err-blanks_of.ensures.err) (g.K.Sink.faults c.args.sink.now));
}

pub returns-in-Err-blanks_of-clause-exact : goal.returns-in-Err-blanks_of-clause-exact
returns-in-Err-blanks_of-clause-exact g c = λ bytes told outcome verdict. rw c.end_run-in-Err-blanks_of.ensures.fault (bank_agrees c.in-Err-blanks_of.fault (blanking_fault g.B.Banks.meter c.find_filled.new.banks.items c.in-Err-blanks_of.banks.items c.in-Err-blanks_of.fault c.in-Err-blanks_of.ensures.err) outcome)

pub returns-in-Err-blanks_of-clause-filled : goal.returns-in-Err-blanks_of-clause-filled
returns-in-Err-blanks_of-clause-filled g c =
    rw c.end_run-in-Err-blanks_of.ensures.fault
    (empty_heeds g.B.Banks.log c.args.banks.items c.end_run-in-Err-blanks_of.result.banks.items (Some c.in-Err-blanks_of.fault) _ c.in_default.ensures.ok
    (blanking_not_filled g.B.Banks.meter c.find_filled.new.banks.items c.in-Err-blanks_of.banks.items c.in-Err-blanks_of.fault c.in-Err-blanks_of.ensures.err))

pub returns-in-Err-blanks_of-clause-back : goal.returns-in-Err-blanks_of-clause-back
returns-in-Err-blanks_of-clause-back g c =
    back_unarmed g.B.Banks.meter c.args.banks.items c.end_run-in-Err-blanks_of.result.banks.items c.end_run-in-Err-blanks_of.result.fault c.requires.1
    (back_told g.B.Banks.meter c.args.banks.items c.in-Err-blanks_of.banks.items c.end_run-in-Err-blanks_of.result.banks.items (Some c.in-Err-blanks_of.fault) c.end_run-in-Err-blanks_of.result.fault
    c.end_run-in-Err-blanks_of.ensures.fault (ap (λ b. b.items) c.end_run-in-Err-blanks_of.ensures.banks)
    (refused_back g.B.Banks.meter c.args.banks.items c.find_filled.new.banks.items c.in-Err-blanks_of.banks.items c.in-Err-blanks_of.fault c.in_default.ensures.back
    c.in-Err-blanks_of.ensures.err))

-- ---- the replay

pub replay-requires-clause-unarmed : goal.replay-requires-clause-unarmed
replay-requires-clause-unarmed g c = λ κs outlives.
    let well = well_then g.B.Banks.meter c.args.banks.items c.find_filled.new.banks.items c.in-Ok.blanks.items c.in_default.ensures.back c.in-Ok.ensures.well in
    unarmed_later g.B.Banks.meter c.args.banks.items c.in-Ok.blanks.items well.meters c.requires.1

pub returns-in-Ok-clause-untouched : goal.returns-in-Ok-clause-untouched
returns-in-Ok-clause-untouched g c =
    said_by g.B.Banks.log c.err-fault.result c.replay.new.stage c.end_at_stage.result (λ f. LeavesAlone f (AreUntouched c.args.source.now c.replay.new.source c.args.sink.now c.replay.new.sink) (c.end_at_stage.result.banks ≡ c.args.banks)) c.end_at_stage.ensures.ends tt
    (rw c.err-fault.ensures.value (replay_alone c.replay.result _ _ c.replay.ensures.begun))

pub returns-in-Ok-clause-ends : goal.returns-in-Ok-clause-ends
returns-in-Ok-clause-ends g c = λ bytes told.
    ends_by g.B.Banks.log c.err-fault.result c.replay.new.stage c.end_at_stage.result c.args.banks.items bytes (g.S.Source.left c.replay.new.source) (g.K.Sink.held c.args.sink.now) (g.K.Sink.held c.replay.new.sink) c.end_at_stage.ensures.ends
    (rw c.err-fault.ensures.value (c.replay.ensures.ends bytes told))

pub returns-in-Ok-clause-filled : goal.returns-in-Ok-clause-filled
returns-in-Ok-clause-filled g c =
    empty_heeds g.B.Banks.log c.args.banks.items c.end_at_stage.result.banks.items c.end_at_stage.result.fault _ c.in_default.ensures.ok
    (λ clone. said_by g.B.Banks.log c.err-fault.result c.replay.new.stage c.end_at_stage.result (λ f. f ≢ Some (faults.NotEmpty clone)) c.end_at_stage.ensures.ends (λ is. absurd (cc (is)))
    (rw c.err-fault.ensures.value (replay_not_filled c.replay.result clone c.replay.ensures.begun)))

pub returns-in-Ok-clause-back : goal.returns-in-Ok-clause-back
returns-in-Ok-clause-back g c =
    back_unarmed g.B.Banks.meter c.args.banks.items c.end_at_stage.result.banks.items c.end_at_stage.result.fault c.requires.1
    (back_by g.B.Banks.log c.err-fault.result c.replay.new.stage c.end_at_stage.result g.B.Banks.meter c.args.banks.items c.in-Ok.blanks.items c.end_at_stage.ensures.ends
    (well_then g.B.Banks.meter c.args.banks.items c.find_filled.new.banks.items c.in-Ok.blanks.items c.in_default.ensures.back c.in-Ok.ensures.well)
    (rw c.err-fault.ensures.value c.replay.ensures.back))

pub returns-in-Ok-clause-counts : goal.returns-in-Ok-clause-counts
returns-in-Ok-clause-counts g c =
    said_by g.B.Banks.log c.err-fault.result c.replay.new.stage c.end_at_stage.result
    (λ f. CountsFaults f (g.S.Source.faults c.args.source.now) (g.S.Source.faults c.replay.new.source) (g.K.Sink.faults c.args.sink.now) (g.K.Sink.faults c.replay.new.sink)) c.end_at_stage.ensures.ends
    (record { read = tt; write = tt }) (rw c.err-fault.ensures.value c.replay.ensures.counts)

pub returns-in-Ok-clause-exact : goal.returns-in-Ok-clause-exact
returns-in-Ok-clause-exact g c = λ bytes told outcome verdict.
    said_by g.B.Banks.log c.err-fault.result c.replay.new.stage c.end_at_stage.result (λ f. Agrees f outcome) c.end_at_stage.ensures.ends tt
    (rw c.err-fault.ensures.value
    (agrees_so (says_by g.B.Banks.log c.replay.new.stage) (result_err c.replay.result) bytes (g.S.Source.left c.replay.new.source) (g.K.Sink.held c.args.sink.now) (g.K.Sink.held c.replay.new.sink) (c.replay.ensures.ends bytes told)
    (replay_not_usage c.replay.result c.replay.ensures.begun) outcome verdict))
