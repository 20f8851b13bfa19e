-- A journal is swapped for another: what it keeps at each moment, and once it is done.
use Rattle.std.proofs.Common.{◌≡◌, ◌∙◌, ◌+◌, ap, sym, subst, refl, Some}
use Rattle.mld_io.specs.Disk.{LeavesMeanwhile, other_side, seen}
use Rattle.mld_io.specs.declared.banks.Side.{Side}
use Rattle.journal_sides.specs.Heads.{head_value}
use Rattle.journal_sides.specs.Pairs.{Kept, Keeps}
use Rattle.journal_sides.specs.SideReadings.{Volume}
use Rattle.journal_sides.specs.WrittenRecords.{volume_of}
use Rattle.journal_store.specs.Calls.{swapped}
use Rattle.journal_store.specs.Crashes.{LeavesEither, first_gate}
use Rattle.journal_store.specs.Standing.{IsJournal, JournalValue}
use Rattle.journal_store.specs.WrittenSides.{HasVolume, IsWritingTo}
use Rattle.journal_store.proofs.JournalLaws.{journal_swapped, keeps_swapped, either_swapped, kept_at, swapped_is}
use Rattle.journal_store.proofs.journals.Journal.swap_open.Goals as goal

pub returns-in_err-swap_at-clause-moments : goal.returns-in_err-swap_at-clause-moments
returns-in_err-swap_at-clause-moments g c l kept e k =
    let told : g.B.Banks.log c.self.inside.banks ≡ Some l = ap (λ v. g.B.Banks.log v.banks) c.self.view_is ∙ e in
    let stands = c.self.invariant.stands l told (ap (λ v. v.closed) c.self.view_is ∙ c.requires.opened) in
    let volume : Volume = volume_of (c.self.inside.generation + 1) (head_value c.args.head.now) c.args.entries.now in
    let reads = kept_at _ _ kept k l e in
    subst (λ (v : JournalValue g.row.B.Denot). LeavesEither l (g.B.Banks.log c.swap_at.new.banks) (Keeps kept) (Keeps (swapped (head_value c.args.head.now) c.args.entries.now kept)) (g.B.Banks.meter v.banks).arm (first_gate (other_side v.side))) c.self.view_is
    (subst (λ (after : Kept). LeavesEither l (g.B.Banks.log c.swap_at.new.banks) (Keeps kept) (Keeps after) (g.B.Banks.meter c.self.inside.banks).arm (first_gate (other_side c.self.inside.side)))
    (swapped_is c.self.inside.side c.self.inside.generation c.self.inside.stop l stands (head_value c.args.head.now) c.args.entries.now kept reads)
    (either_swapped (g.B.Banks.meter c.self.inside.banks).arm c.self.inside.side c.self.inside.generation c.self.inside.stop volume l (g.B.Banks.log c.swap_at.new.banks) stands refl
    (subst (λ (s : Side). LeavesMeanwhile l (g.B.Banks.log c.swap_at.new.banks) (IsWritingTo (g.B.Banks.meter c.self.inside.banks).arm s volume (seen l))) c.other_side-side.ensures (c.swap_at.ensures.moments l told stands.settled))
    kept reads))

pub invariant_of-self-2 : goal.invariant_of-self-2
invariant_of-self-2 g c =
    let volume : Volume = volume_of (c.self.inside.generation + 1) (head_value c.args.head.now) c.args.entries.now in
    subst (λ (s : Side). IsJournal (g.B.Banks.log c.swap_at.new.banks) s (c.self.inside.generation + 1) c.swap_at.new.stop c.swap_at.new.closed) (sym c.other_side-side.ensures)
    (journal_swapped c.self.inside.side c.self.inside.generation c.self.inside.stop c.swap_at.new.stop volume (g.B.Banks.log c.self.inside.banks) (g.B.Banks.log c.swap_at.new.banks) c.swap_at.new.closed
    (λ l told. c.self.invariant.stands l told (ap (λ v. v.closed) c.self.view_is ∙ c.requires.opened)) refl c.in_ok-swap_at.ensures.stored
    (λ l told settled. subst (λ (s : Side). HasVolume s volume c.swap_at.new.stop l (g.B.Banks.log c.swap_at.new.banks)) c.other_side-side.ensures (c.in_ok-swap_at.ensures.done l told settled))
    c.in_ok-swap_at.ensures.told.untold c.in_ok-swap_at.ensures.room)

pub returns-clause-kept : goal.returns-clause-kept
returns-clause-kept g c kept k =
    let told : g.B.Banks.log c.self.inside.banks ≡ Some k.log = ap (λ v. g.B.Banks.log v.banks) c.self.view_is ∙ k.now_is in
    let stands = c.self.invariant.stands k.log told (ap (λ v. v.closed) c.self.view_is ∙ c.requires.opened) in
    let volume : Volume = volume_of (c.self.inside.generation + 1) (head_value c.args.head.now) c.args.entries.now in
    keeps_swapped c.self.inside.side c.self.inside.generation c.self.inside.stop c.swap_at.new.stop volume k.log (g.B.Banks.log c.swap_at.new.banks) (swapped (head_value c.args.head.now) c.args.entries.now kept) stands refl
    c.in_ok-swap_at.ensures.stored
    (subst (λ (s : Side). HasVolume s volume c.swap_at.new.stop k.log (g.B.Banks.log c.swap_at.new.banks)) c.other_side-side.ensures (c.in_ok-swap_at.ensures.done k.log told stands.settled))
    (swapped_is c.self.inside.side c.self.inside.generation c.self.inside.stop k.log stands (head_value c.args.head.now) c.args.entries.now kept k.reads)

pub returns-clause-moments : goal.returns-clause-moments
returns-clause-moments g c l kept e k =
    let told : g.B.Banks.log c.self.inside.banks ≡ Some l = ap (λ v. g.B.Banks.log v.banks) c.self.view_is ∙ e in
    let stands = c.self.invariant.stands l told (ap (λ v. v.closed) c.self.view_is ∙ c.requires.opened) in
    let volume : Volume = volume_of (c.self.inside.generation + 1) (head_value c.args.head.now) c.args.entries.now in
    let reads = kept_at _ _ kept k l e in
    subst (λ (v : JournalValue g.row.B.Denot). LeavesEither l (g.B.Banks.log c.swap_at.new.banks) (Keeps kept) (Keeps (swapped (head_value c.args.head.now) c.args.entries.now kept)) (g.B.Banks.meter v.banks).arm (first_gate (other_side v.side))) c.self.view_is
    (subst (λ (after : Kept). LeavesEither l (g.B.Banks.log c.swap_at.new.banks) (Keeps kept) (Keeps after) (g.B.Banks.meter c.self.inside.banks).arm (first_gate (other_side c.self.inside.side)))
    (swapped_is c.self.inside.side c.self.inside.generation c.self.inside.stop l stands (head_value c.args.head.now) c.args.entries.now kept reads)
    (either_swapped (g.B.Banks.meter c.self.inside.banks).arm c.self.inside.side c.self.inside.generation c.self.inside.stop volume l (g.B.Banks.log c.swap_at.new.banks) stands refl
    (subst (λ (s : Side). LeavesMeanwhile l (g.B.Banks.log c.swap_at.new.banks) (IsWritingTo (g.B.Banks.meter c.self.inside.banks).arm s volume (seen l))) c.other_side-side.ensures (c.swap_at.ensures.moments l told stands.settled))
    kept reads))
