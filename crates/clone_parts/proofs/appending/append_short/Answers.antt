-- Entries are appended in order.
use Rattle.std.proofs.Common.{refl}
use Rattle.journal_store.proofs.ClosingLaws.{told_then}
use Rattle.clone_parts.proofs.Appended.{appending_none, entry_first, leaves_all, appending_more, all_kept, all_leave}
use Rattle.clone_parts.proofs.RefusedLaws.{ok_err}
use Rattle.clone_parts.proofs.appending.append_short.Goals as goal

pub loop-entry-init : goal.loop-entry-init
loop-entry-init g c = appending_none g.B.Banks.log g.B.Banks.meter c.args.entries.now c.args.journal.now c.args.done c.requires.follow c.requires.short

pub append_one-requires-clause-follow : goal.append_one-requires-clause-follow
append_one-requires-clause-follow g c =
    entry_first g.B.Banks.log g.B.Banks.meter c.args.entries.now c.args.journal.now c.args.done c.loop-entry.entry-index c.loop-entry.journal c.loop-entry.begun c.entry-item.result
    c.loop-entry-test.true c.entry-item.is c.loop-entry.invariant

pub returns-in_err-append_one-clause-moments : goal.returns-in_err-append_one-clause-moments
returns-in_err-append_one-clause-moments g c =
    leaves_all g.B.Banks.log g.B.Banks.meter c.args.entries.now c.args.journal.now c.args.done c.loop-entry.entry-index c.loop-entry.journal c.loop-entry.begun c.entry-item.result
    c.loop-entry-test.true c.entry-item.is c.loop-entry.invariant c.append_one.new.journal c.append_one.ensures.moments c.append_one.ensures.meter

pub returns-in_err-append_one-clause-told : goal.returns-in_err-append_one-clause-told
returns-in_err-append_one-clause-told g c =
    told_then (g.B.Banks.log c.args.journal.now.banks) (g.B.Banks.log c.loop-entry.journal.banks) (g.B.Banks.log c.append_one.new.journal.banks) c.loop-entry.invariant.told c.append_one.ensures.told

pub loop-entry-preserved : goal.loop-entry-preserved
loop-entry-preserved g c =
    appending_more g.B.Banks.log g.B.Banks.meter c.args.entries.now c.args.journal.now c.args.done c.loop-entry.entry-index c.loop-entry.journal c.loop-entry.begun c.entry-item.result
    c.loop-entry-test.true c.entry-item.is c.loop-entry.invariant c.append_one.new.journal c.append_one.ensures.moments c.in_ok-append_one.ensures.meter c.in_ok-append_one.ensures.kept
    c.in_ok-append_one.ensures.ok c.append_one.ensures.told refl (λ e. absurd (ok_err e))

pub returns-clause-kept : goal.returns-clause-kept
returns-clause-kept g c =
    all_kept g.B.Banks.log g.B.Banks.meter c.args.entries.now c.args.journal.now c.args.done c.loop-entry.entry-index c.loop-entry.journal c.loop-entry.begun c.loop-entry-test.false c.loop-entry.invariant

pub returns-clause-moments : goal.returns-clause-moments
returns-clause-moments g c =
    all_leave g.B.Banks.log g.B.Banks.meter c.args.entries.now c.args.journal.now c.args.done c.loop-entry.entry-index c.loop-entry.journal c.loop-entry.begun c.loop-entry-test.false c.loop-entry.invariant
