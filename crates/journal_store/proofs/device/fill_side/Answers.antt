-- A side that is written anew: its first gate is shut, and then the body is put behind it as a record is.
use Rattle.std.proofs.Common.{Err, refl, [], ◌∷◌, lit<, arith, ap}
use Rattle.journal_store.proofs.DeviceLaws.{filling_moments, filling_refused, filling_done, written_within, on_ok, from_on_ok}
use Rattle.mld_io.specs.Disk.Call.{Wrote}
use Rattle.journal_store.proofs.ClosingLaws.{called_synced, called_then, told_piece, told_then}
use Rattle.journal_store.proofs.device.fill_side.Goals as goal

pub returns-in-Err-Failed-clause-moments : goal.returns-in-Err-Failed-clause-moments
returns-in-Err-Failed-clause-moments g c l e settled =
    filling_refused (g.B.Banks.meter c.args.banks.now).arm c.args.side c.args.body.now l (g.B.Banks.log c.shut_gate.new.banks) settled
    (c.in-Err-Failed.ensures.failed l e (ap Err c.in-Err-Failed.field-0-is))

pub append_body-requires : goal.append_body-requires
append_body-requires g c = record {
  room = lit< tt;
  gate = written_within c.args.side 0 0 (0 ∷ []) (g.B.Banks.log c.args.banks.now) (g.B.Banks.log c.shut_gate.new.banks) (λ old told. omega arith) (λ old told. c.in-Ok.ensures.done old told) c.in-Ok.ensures.untold;
}

pub returns-clause-done : goal.returns-clause-done
returns-clause-done g c l e settled =
    on_ok c.begun.result _
    (λ is_ok.
    filling_done c.args.side c.args.body.now l (g.B.Banks.log c.shut_gate.new.banks) (g.B.Banks.log c.append_body.new.banks) settled (c.in-Ok.ensures.done l e)
    (λ mid told still. from_on_ok c.append_body.result _ (c.begun.ensures.ok.1 is_ok) (c.append_body.ensures.done mid told still)))

pub returns-clause-moments : goal.returns-clause-moments
returns-clause-moments g c l e settled =
    filling_moments (g.B.Banks.meter c.args.banks.now).arm (g.B.Banks.meter c.shut_gate.new.banks).arm c.args.side c.args.body.now l (g.B.Banks.log c.shut_gate.new.banks) (g.B.Banks.log c.append_body.new.banks)
    (c.in-Ok.ensures.meter.done refl).lowered settled
    (c.in-Ok.ensures.done l e)
    c.append_body.ensures.moments

pub returns-clause-called : goal.returns-clause-called
returns-clause-called g c is =
    called_then g.B.Banks.log g.B.Banks.meter 4 c.args.banks.now c.shut_gate.new.banks c.append_body.new.banks
    (called_synced g.B.Banks.log g.B.Banks.meter c.args.side (Wrote c.args.side 0 (0 ∷ [])) c.args.banks.now c.shut_gate.new.banks (λ l e. c.in-Ok.ensures.done l e) (c.in-Ok.ensures.meter.done refl).lowered)
    c.append_body.ensures.told c.append_body.ensures.meter.lowered

pub returns-in-Err-Failed-clause-told : goal.returns-in-Err-Failed-clause-told
returns-in-Err-Failed-clause-told g c =
    told_piece c.args.side 0 (0 ∷ []) (g.B.Banks.log c.args.banks.now) (g.B.Banks.log c.shut_gate.new.banks) c.shut_gate.result
    c.shut_gate.ensures.done c.shut_gate.ensures.failed (λ e. ap g.B.Banks.log (c.shut_gate.ensures.no_memory e)) c.shut_gate.ensures.untold

pub returns-clause-told : goal.returns-clause-told
returns-clause-told g c =
    told_then (g.B.Banks.log c.args.banks.now) (g.B.Banks.log c.shut_gate.new.banks) (g.B.Banks.log c.append_body.new.banks)
    (told_piece c.args.side 0 (0 ∷ []) (g.B.Banks.log c.args.banks.now) (g.B.Banks.log c.shut_gate.new.banks) c.shut_gate.result
    c.shut_gate.ensures.done c.shut_gate.ensures.failed (λ e. ap g.B.Banks.log (c.shut_gate.ensures.no_memory e)) c.shut_gate.ensures.untold)
    c.append_body.ensures.told
