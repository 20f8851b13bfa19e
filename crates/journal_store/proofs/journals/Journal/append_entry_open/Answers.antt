-- An entry is appended: what the journal keeps at each moment, and once it is done.
use Rattle.std.proofs.Common.{◌≡◌, ◌∙◌, ◌++◌, ◌∷◌, [], ap, sym, subst, Some}
use Rattle.journal_sides.specs.Format.{closed_gate}
use Rattle.journal_sides.specs.Pairs.{Keeps, kept_on, with_entry}
use Rattle.journal_sides.specs.RecordBytes.{EntryRecord, record_bytes}
use Rattle.journal_sides.proofs.WrittenLaws.{volume_more}
use Rattle.journal_store.specs.Crashes.{LeavesEither, gate_behind}
use Rattle.journal_store.specs.Standing.{JournalValue}
use Rattle.journal_store.proofs.JournalLaws.{stands_reads, entry_kept, keeps_more, either_more, kept_at, nothing_moves, journal_more}
use Rattle.journal_store.proofs.ReadLaws.{ends_within}
use Rattle.journal_store.proofs.journals.Journal.append_entry_open.Goals as goal

pub returns-in_err-fill_entry_body-clause-moments : goal.returns-in_err-fill_entry_body-clause-moments
returns-in_err-fill_entry_body-clause-moments g c l kept e k =
    let told : g.B.Banks.log c.self.inside.banks ≡ Some l = ap (λ v. g.B.Banks.log v.banks) c.self.view_is ∙ e in
    let stands = c.self.invariant.stands l told (ap (λ v. v.closed) c.self.view_is ∙ c.requires.opened) in
    nothing_moves l (g.B.Banks.log c.self.inside.banks) (Keeps kept) (Keeps (with_entry c.args.entry.now kept)) (g.B.Banks.meter c.args.self.now.banks).arm (gate_behind c.args.self.now.side l) told stands.settled (kept_at _ _ kept k l e)

pub append_at-requires-clause-gate : goal.append_at-requires-clause-gate
append_at-requires-clause-gate g c l told =
    let stands = c.self.invariant.stands l told (ap (λ v. v.closed) c.self.view_is ∙ c.requires.opened) in
    ends_within stands.volume c.self.inside.stop _ stands.ends

pub returns-in_err-append_at-clause-moments : goal.returns-in_err-append_at-clause-moments
returns-in_err-append_at-clause-moments g c l kept e k =
    let told : g.B.Banks.log c.self.inside.banks ≡ Some l = ap (λ v. g.B.Banks.log v.banks) c.self.view_is ∙ e in
    let stands = c.self.invariant.stands l told (ap (λ v. v.closed) c.self.view_is ∙ c.requires.opened) in
    let body_is : c.deref.result.now ≡ record_bytes (EntryRecord c.args.entry.now) ++ closed_gate ∷ [] = c.deref.ensures.value ∙ c.in_ok-fill_entry_body.ensures.ok in
    let ready = c.requires.follows (kept_on c.self.inside.side stands.volume) (record {
      log = l;
      now_is = e;
      opened = k.opened;
      reads = stands_reads c.self.inside.side c.self.inside.generation c.self.inside.stop l stands;
      settled = stands.settled;
    }) in
    subst (λ (v : JournalValue g.row.B.Denot). LeavesEither l (g.B.Banks.log c.append_at.new.banks) (Keeps kept) (Keeps (with_entry c.args.entry.now kept)) (g.B.Banks.meter v.banks).arm (gate_behind v.side l)) c.self.view_is
    (either_more (g.B.Banks.meter c.self.inside.banks).arm c.self.inside.side c.self.inside.generation c.self.inside.stop (EntryRecord c.args.entry.now) (with_entry c.args.entry.now) l (g.B.Banks.log c.append_at.new.banks) stands
    (entry_kept c.self.inside.side c.args.entry.now)
    (c.append_at.ensures.moments l stands.volume (EntryRecord c.args.entry.now) (record { now_is = told; settled = stands.settled; ends = stands.ends }) body_is stands.stored (volume_more stands.volume (EntryRecord c.args.entry.now) stands.stored (c.in_ok-fill_entry_body.ensures.stored, ready)))
    kept (kept_at _ _ kept k l e))

pub invariant_of-self-2 : goal.invariant_of-self-2
invariant_of-self-2 g c =
    let body_is : c.deref.result.now ≡ record_bytes (EntryRecord c.args.entry.now) ++ closed_gate ∷ [] = c.deref.ensures.value ∙ c.in_ok-fill_entry_body.ensures.ok in
    journal_more c.self.inside.side c.self.inside.generation c.self.inside.stop c.append_at.new.stop (g.B.Banks.log c.self.inside.banks) (g.B.Banks.log c.append_at.new.banks) (EntryRecord c.args.entry.now) c.append_at.new.closed
    (λ l told. c.self.invariant.stands l told (ap (λ v. v.closed) c.self.view_is ∙ c.requires.opened))
    (λ l told. (
      c.in_ok-fill_entry_body.ensures.stored,
      c.requires.follows (kept_on c.self.inside.side (c.self.invariant.stands l told (ap (λ v. v.closed) c.self.view_is ∙ c.requires.opened)).volume) (record {
        log = l;
        now_is = sym (ap (λ v. g.B.Banks.log v.banks) c.self.view_is) ∙ told;
        opened = c.requires.opened;
        reads = stands_reads c.self.inside.side c.self.inside.generation c.self.inside.stop l (c.self.invariant.stands l told (ap (λ v. v.closed) c.self.view_is ∙ c.requires.opened));
        settled = (c.self.invariant.stands l told (ap (λ v. v.closed) c.self.view_is ∙ c.requires.opened)).settled;
      }),
    ))
    (λ l volume told settled ends. c.in_ok-append_at.ensures.done l volume (EntryRecord c.args.entry.now) (record { now_is = told; settled = settled; ends = ends }) body_is)
    c.in_ok-append_at.ensures.told.untold c.in_ok-append_at.ensures.room

pub returns-clause-kept : goal.returns-clause-kept
returns-clause-kept g c kept k =
    let told : g.B.Banks.log c.self.inside.banks ≡ Some k.log = ap (λ v. g.B.Banks.log v.banks) c.self.view_is ∙ k.now_is in
    let stands = c.self.invariant.stands k.log told (ap (λ v. v.closed) c.self.view_is ∙ c.requires.opened) in
    let body_is : c.deref.result.now ≡ record_bytes (EntryRecord c.args.entry.now) ++ closed_gate ∷ [] = c.deref.ensures.value ∙ c.in_ok-fill_entry_body.ensures.ok in
    let ready = c.requires.follows (kept_on c.self.inside.side stands.volume) (record {
      log = k.log;
      now_is = k.now_is;
      opened = k.opened;
      reads = stands_reads c.self.inside.side c.self.inside.generation c.self.inside.stop k.log stands;
      settled = stands.settled;
    }) in
    keeps_more c.self.inside.side c.self.inside.generation c.self.inside.stop c.append_at.new.stop (EntryRecord c.args.entry.now) (with_entry c.args.entry.now) k.log (g.B.Banks.log c.append_at.new.banks) stands
    (entry_kept c.self.inside.side c.args.entry.now) (c.in_ok-fill_entry_body.ensures.stored, ready)
    (c.in_ok-append_at.ensures.done k.log stands.volume (EntryRecord c.args.entry.now) (record { now_is = told; settled = stands.settled; ends = stands.ends }) body_is) kept k.reads

pub returns-clause-moments : goal.returns-clause-moments
returns-clause-moments g c l kept e k =
    let told : g.B.Banks.log c.self.inside.banks ≡ Some l = ap (λ v. g.B.Banks.log v.banks) c.self.view_is ∙ e in
    let stands = c.self.invariant.stands l told (ap (λ v. v.closed) c.self.view_is ∙ c.requires.opened) in
    let body_is : c.deref.result.now ≡ record_bytes (EntryRecord c.args.entry.now) ++ closed_gate ∷ [] = c.deref.ensures.value ∙ c.in_ok-fill_entry_body.ensures.ok in
    let ready = c.requires.follows (kept_on c.self.inside.side stands.volume) (record {
      log = l;
      now_is = e;
      opened = k.opened;
      reads = stands_reads c.self.inside.side c.self.inside.generation c.self.inside.stop l stands;
      settled = stands.settled;
    }) in
    subst (λ (v : JournalValue g.row.B.Denot). LeavesEither l (g.B.Banks.log c.append_at.new.banks) (Keeps kept) (Keeps (with_entry c.args.entry.now kept)) (g.B.Banks.meter v.banks).arm (gate_behind v.side l)) c.self.view_is
    (either_more (g.B.Banks.meter c.self.inside.banks).arm c.self.inside.side c.self.inside.generation c.self.inside.stop (EntryRecord c.args.entry.now) (with_entry c.args.entry.now) l (g.B.Banks.log c.append_at.new.banks) stands
    (entry_kept c.self.inside.side c.args.entry.now)
    (c.append_at.ensures.moments l stands.volume (EntryRecord c.args.entry.now) (record { now_is = told; settled = stands.settled; ends = stands.ends }) body_is stands.stored (volume_more stands.volume (EntryRecord c.args.entry.now) stands.stored (c.in_ok-fill_entry_body.ensures.stored, ready)))
    kept (kept_at _ _ kept k l e))
