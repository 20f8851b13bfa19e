-- A side is written anew: what is read at each moment, and once it is done.
use Rattle.std.proofs.Common.{◌≡◌, ◌∙◌, ◌∷◌, [], ◌++◌, ap, List, ℕ, subst, sym, length}
use Rattle.mld_io.specs.Disk.{bytes_of, seen}
use Rattle.journal_sides.specs.Format.{open_gate, closed_gate}
use Rattle.journal_sides.specs.Heads.{head_value}
use Rattle.journal_sides.specs.SideReadings.{Volume, volume_bytes}
use Rattle.journal_sides.specs.WrittenRecords.{volume_of}
use Rattle.journal_store.specs.Device.{IsFilling, filled}
use Rattle.journal_store.specs.WrittenSides.{HasVolume, IsWritingTo}
use Rattle.journal_store.proofs.DeviceLaws.{weaken_moments}
use Rattle.journal_store.proofs.ReadLaws.{filling_reads, filled_ends, volume_from_bytes}
use Rattle.journal_store.proofs.appending.write_side.Goals as goal

pub returns-in_err-fill_side-clause-moments : goal.returns-in_err-fill_side-clause-moments
returns-in_err-fill_side-clause-moments g c l e settled =
    let volume : Volume = volume_of c.args.generation (head_value c.args.head.now) c.args.entries.now in
    let body_is : open_gate ∷ c.deref.result.now ≡ volume_bytes volume ++ closed_gate ∷ [] = ap (λ (b : List ℕ). open_gate ∷ b) c.deref.ensures.value ∙ c.in_ok-body.ensures.ok in
    weaken_moments l (g.B.Banks.log c.fill_side.new.banks) (IsFilling (g.B.Banks.meter c.args.banks.now).arm c.args.side c.deref.result.now (seen l)) (IsWritingTo (g.B.Banks.meter c.args.banks.now).arm c.args.side volume (seen l))
    (λ calls image at. filling_reads (g.B.Banks.meter c.args.banks.now).arm c.args.side volume c.deref.result.now (seen l) calls image c.in_ok-body.ensures.stored body_is at)
    (c.fill_side.ensures.moments l e settled)

pub returns-clause-moments : goal.returns-clause-moments
returns-clause-moments g c l e settled =
    let volume : Volume = volume_of c.args.generation (head_value c.args.head.now) c.args.entries.now in
    let body_is : open_gate ∷ c.deref.result.now ≡ volume_bytes volume ++ closed_gate ∷ [] = ap (λ (b : List ℕ). open_gate ∷ b) c.deref.ensures.value ∙ c.in_ok-body.ensures.ok in
    weaken_moments l (g.B.Banks.log c.fill_side.new.banks) (IsFilling (g.B.Banks.meter c.args.banks.now).arm c.args.side c.deref.result.now (seen l)) (IsWritingTo (g.B.Banks.meter c.args.banks.now).arm c.args.side volume (seen l))
    (λ calls image at. filling_reads (g.B.Banks.meter c.args.banks.now).arm c.args.side volume c.deref.result.now (seen l) calls image c.in_ok-body.ensures.stored body_is at)
    (c.fill_side.ensures.moments l e settled)

pub returns-clause-done : goal.returns-clause-done
returns-clause-done g c l e settled =
    let volume : Volume = volume_of c.args.generation (head_value c.args.head.now) c.args.entries.now in
    let body_is : open_gate ∷ c.deref.result.now ≡ volume_bytes volume ++ closed_gate ∷ [] = ap (λ (b : List ℕ). open_gate ∷ b) c.deref.ensures.value ∙ c.in_ok-body.ensures.ok in
    let done = volume_from_bytes c.args.side volume (length c.deref.result.now) (filled c.deref.result.now (bytes_of c.args.side (seen l))) l (g.B.Banks.log c.fill_side.new.banks)
    (c.in_ok-fill_side.ensures.done l e settled)
    (filled_ends volume c.deref.result.now (bytes_of c.args.side (seen l)) body_is) in
    subst (λ (n : ℕ). HasVolume c.args.side volume n l (g.B.Banks.log c.fill_side.new.banks)) (c.deref.ensures.len ∙ sym c.len.ensures) done
