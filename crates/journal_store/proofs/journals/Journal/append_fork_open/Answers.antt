-- A fork is appended: what the journal keeps at each moment, and once it is done.
use Rattle.std.proofs.Common.{◌≡◌, ◌∙◌, ◌++◌, ◌∷◌, [], refl, ap, sym, subst, Some}
use Rattle.journal_sides.specs.Format.{closed_gate}
use Rattle.journal_sides.specs.Pairs.{Keeps, kept_on, with_fork}
use Rattle.journal_sides.specs.RecordBytes.{ForkRecord, record_bytes}
use Rattle.journal_sides.proofs.WrittenLaws.{volume_more}
use Rattle.journal_store.specs.Crashes.{LeavesEither, gate_behind}
use Rattle.journal_store.specs.Standing.{JournalValue}
use Rattle.journal_store.proofs.JournalLaws.{stands_reads, fork_kept, keeps_more, either_more, kept_at, journal_more}
use Rattle.journal_store.proofs.ReadLaws.{ends_within}
use Rattle.journal_store.proofs.journals.Journal.append_fork_open.Goals as goal

-- the record of a fork with the closed gate behind it
fork_body : 2 ∷ 0 ∷ [] ≡ record_bytes ForkRecord ++ closed_gate ∷ []
unfolding record_bytes
fork_body = refl

pub append_at-requires-clause-gate : goal.append_at-requires-clause-gate
append_at-requires-clause-gate g c l told =
    let stands = c.self.invariant.stands l told (ap (λ v. v.closed) c.self.view_is ∙ c.requires.opened) in
    ends_within stands.volume c.self.inside.stop _ stands.ends

pub returns-in_err-append_at-clause-moments : goal.returns-in_err-append_at-clause-moments
returns-in_err-append_at-clause-moments g c l kept e k =
    let told : g.B.Banks.log c.self.inside.banks ≡ Some l = ap (λ v. g.B.Banks.log v.banks) c.self.view_is ∙ e in
    let stands = c.self.invariant.stands l told (ap (λ v. v.closed) c.self.view_is ∙ c.requires.opened) in
    let ready = c.requires.room (kept_on c.self.inside.side stands.volume) (record {
      log = l;
      now_is = e;
      opened = k.opened;
      reads = stands_reads c.self.inside.side c.self.inside.generation c.self.inside.stop l stands;
      settled = stands.settled;
    }) in
    subst (λ (v : JournalValue g.row.B.Denot). LeavesEither l (g.B.Banks.log c.append_at.new.banks) (Keeps kept) (Keeps (with_fork kept)) (g.B.Banks.meter v.banks).arm (gate_behind v.side l)) c.self.view_is
    (either_more (g.B.Banks.meter c.self.inside.banks).arm c.self.inside.side c.self.inside.generation c.self.inside.stop ForkRecord with_fork l (g.B.Banks.log c.append_at.new.banks) stands
    (fork_kept c.self.inside.side)
    (c.append_at.ensures.moments l stands.volume ForkRecord (record { now_is = told; settled = stands.settled; ends = stands.ends }) fork_body stands.stored (volume_more stands.volume ForkRecord stands.stored ready))
    kept (kept_at _ _ kept k l e))

pub invariant_of-self-2 : goal.invariant_of-self-2
invariant_of-self-2 g c =
    journal_more c.self.inside.side c.self.inside.generation c.self.inside.stop c.append_at.new.stop (g.B.Banks.log c.self.inside.banks) (g.B.Banks.log c.append_at.new.banks) ForkRecord c.append_at.new.closed
    (λ l told. c.self.invariant.stands l told (ap (λ v. v.closed) c.self.view_is ∙ c.requires.opened))
    (λ l told.
    c.requires.room (kept_on c.self.inside.side (c.self.invariant.stands l told (ap (λ v. v.closed) c.self.view_is ∙ c.requires.opened)).volume) (record {
      log = l;
      now_is = sym (ap (λ v. g.B.Banks.log v.banks) c.self.view_is) ∙ told;
      opened = c.requires.opened;
      reads = stands_reads c.self.inside.side c.self.inside.generation c.self.inside.stop l (c.self.invariant.stands l told (ap (λ v. v.closed) c.self.view_is ∙ c.requires.opened));
      settled = (c.self.invariant.stands l told (ap (λ v. v.closed) c.self.view_is ∙ c.requires.opened)).settled;
    }))
    (λ l volume told settled ends. c.in_ok-append_at.ensures.done l volume ForkRecord (record { now_is = told; settled = settled; ends = ends }) fork_body)
    c.in_ok-append_at.ensures.told.untold c.in_ok-append_at.ensures.room

pub returns-clause-kept : goal.returns-clause-kept
returns-clause-kept g c kept k =
    let told : g.B.Banks.log c.self.inside.banks ≡ Some k.log = ap (λ v. g.B.Banks.log v.banks) c.self.view_is ∙ k.now_is in
    let stands = c.self.invariant.stands k.log told (ap (λ v. v.closed) c.self.view_is ∙ c.requires.opened) in
    let ready = c.requires.room (kept_on c.self.inside.side stands.volume) (record {
      log = k.log;
      now_is = k.now_is;
      opened = k.opened;
      reads = stands_reads c.self.inside.side c.self.inside.generation c.self.inside.stop k.log stands;
      settled = stands.settled;
    }) in
    keeps_more c.self.inside.side c.self.inside.generation c.self.inside.stop c.append_at.new.stop ForkRecord with_fork k.log (g.B.Banks.log c.append_at.new.banks) stands
    (fork_kept c.self.inside.side) ready
    (c.in_ok-append_at.ensures.done k.log stands.volume ForkRecord (record { now_is = told; settled = stands.settled; ends = stands.ends }) fork_body) kept k.reads

pub returns-clause-moments : goal.returns-clause-moments
returns-clause-moments g c l kept e k =
    let told : g.B.Banks.log c.self.inside.banks ≡ Some l = ap (λ v. g.B.Banks.log v.banks) c.self.view_is ∙ e in
    let stands = c.self.invariant.stands l told (ap (λ v. v.closed) c.self.view_is ∙ c.requires.opened) in
    let ready = c.requires.room (kept_on c.self.inside.side stands.volume) (record {
      log = l;
      now_is = e;
      opened = k.opened;
      reads = stands_reads c.self.inside.side c.self.inside.generation c.self.inside.stop l stands;
      settled = stands.settled;
    }) in
    subst (λ (v : JournalValue g.row.B.Denot). LeavesEither l (g.B.Banks.log c.append_at.new.banks) (Keeps kept) (Keeps (with_fork kept)) (g.B.Banks.meter v.banks).arm (gate_behind v.side l)) c.self.view_is
    (either_more (g.B.Banks.meter c.self.inside.banks).arm c.self.inside.side c.self.inside.generation c.self.inside.stop ForkRecord with_fork l (g.B.Banks.log c.append_at.new.banks) stands
    (fork_kept c.self.inside.side)
    (c.append_at.ensures.moments l stands.volume ForkRecord (record { now_is = told; settled = stands.settled; ends = stands.ends }) fork_body stands.stored (volume_more stands.volume ForkRecord stands.stored ready))
    kept (kept_at _ _ kept k l e))
