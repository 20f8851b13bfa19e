-- An append: the body behind the gate, then the gate.
use Rattle.std.proofs.Common.{Err, refl, arith, ap, ◌+◌, ◌<◌, length, [], ◌∷◌}
use Rattle.mld_io.specs.Disk.{bytes_of, seen}
use Rattle.journal_store.proofs.DeviceLaws.{appending_moments, appending_refused, appending_done, lets_done, written_within, gate_within, on_ok, from_on_ok}
use Rattle.mld_io.specs.Disk.Call.{Wrote}
use Rattle.journal_store.proofs.ClosingLaws.{called_synced, called_then, told_piece, told_then}
use Rattle.journal_store.proofs.device.append_body.Goals as goal

pub returns-in-Err-Failed-clause-moments : goal.returns-in-Err-Failed-clause-moments
returns-in-Err-Failed-clause-moments g c l e settled =
    appending_refused (g.B.Banks.meter c.args.banks.now).arm c.args.side c.args.gate c.args.body.now l (g.B.Banks.log c.write_body.new.banks) settled
    (c.in-Err-Failed.ensures.failed l e (ap Err c.in-Err-Failed.field-0-is))

pub open_gate-requires : goal.open_gate-requires
open_gate-requires g c l e =
    let within : c.args.gate < length (bytes_of c.args.side (seen l)) =
    written_within c.args.side (c.args.gate + 1) c.args.gate c.args.body.now (g.B.Banks.log c.args.banks.now) (g.B.Banks.log c.write_body.new.banks)
    (λ old told. gate_within c.args.gate c.args.body.now (bytes_of c.args.side (seen old)) (c.requires.gate old told))
    (λ old told. c.in-Ok.ensures.done old told)
    c.in-Ok.ensures.untold l e in
    omega arith

pub returns-clause-done : goal.returns-clause-done
returns-clause-done g c l e settled =
    on_ok c.within.result _
    (λ is_ok.
    appending_done c.args.side c.args.gate c.args.body.now l (g.B.Banks.log c.write_body.new.banks) (g.B.Banks.log c.open_gate.new.banks) settled (c.in-Ok.ensures.done l e)
    (λ mid told. from_on_ok c.open_gate.result _ (c.within.ensures.ok.1 is_ok) (c.open_gate.ensures.done mid told)))

pub returns-clause-moments : goal.returns-clause-moments
returns-clause-moments g c l e settled =
    appending_moments (g.B.Banks.meter c.args.banks.now).arm c.args.side c.args.gate c.args.body.now l (g.B.Banks.log c.write_body.new.banks) (g.B.Banks.log c.open_gate.new.banks) c.open_gate.result (lets_done 2 (g.B.Banks.meter c.args.banks.now).arm (g.B.Banks.meter c.write_body.new.banks).arm (c.in-Ok.ensures.meter.done refl).lowered) settled
    (c.requires.gate l e)
    (c.in-Ok.ensures.done l e)
    c.open_gate.ensures.done
    c.open_gate.ensures.failed
    (λ is. ap g.B.Banks.log (c.open_gate.ensures.no_memory is))

pub returns-clause-called : goal.returns-clause-called
returns-clause-called g c is =
    called_then g.B.Banks.log g.B.Banks.meter 2 c.args.banks.now c.write_body.new.banks c.open_gate.new.banks
    (called_synced g.B.Banks.log g.B.Banks.meter c.args.side (Wrote c.args.side (c.args.gate + 1) c.args.body.now) c.args.banks.now c.write_body.new.banks (λ l e. c.in-Ok.ensures.done l e)
    (c.in-Ok.ensures.meter.done refl).lowered)
    (told_piece c.args.side c.args.gate (1 ∷ []) (g.B.Banks.log c.write_body.new.banks) (g.B.Banks.log c.open_gate.new.banks) c.open_gate.result
    c.open_gate.ensures.done c.open_gate.ensures.failed (λ e. ap g.B.Banks.log (c.open_gate.ensures.no_memory e)) c.open_gate.ensures.untold)
    c.open_gate.ensures.meter.lowered

pub returns-in-Err-Failed-clause-told : goal.returns-in-Err-Failed-clause-told
returns-in-Err-Failed-clause-told g c =
    told_piece c.args.side (c.args.gate + 1) c.args.body.now (g.B.Banks.log c.args.banks.now) (g.B.Banks.log c.write_body.new.banks) c.write_body.result
    c.write_body.ensures.done c.write_body.ensures.failed (λ e. ap g.B.Banks.log (c.write_body.ensures.no_memory e)) c.write_body.ensures.untold

pub returns-clause-told : goal.returns-clause-told
returns-clause-told g c =
    told_then (g.B.Banks.log c.args.banks.now) (g.B.Banks.log c.write_body.new.banks) (g.B.Banks.log c.open_gate.new.banks)
    (told_piece c.args.side (c.args.gate + 1) c.args.body.now (g.B.Banks.log c.args.banks.now) (g.B.Banks.log c.write_body.new.banks) c.write_body.result
    c.write_body.ensures.done c.write_body.ensures.failed (λ e. ap g.B.Banks.log (c.write_body.ensures.no_memory e)) c.write_body.ensures.untold)
    (told_piece c.args.side c.args.gate (1 ∷ []) (g.B.Banks.log c.write_body.new.banks) (g.B.Banks.log c.open_gate.new.banks) c.open_gate.result
    c.open_gate.ensures.done c.open_gate.ensures.failed (λ e. ap g.B.Banks.log (c.open_gate.ensures.no_memory e)) c.open_gate.ensures.untold)
