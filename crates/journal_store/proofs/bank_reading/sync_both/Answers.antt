use Rattle.std.proofs.Common.{rules, List}
use Rattle.mld_io.specs.Disk.{Call, Log, Sides, MayLeave}
use Rattle.journal_store.proofs.ClosingLaws.{told_from_moments}
use Rattle.journal_store.proofs.Reading.{sync_leaves, no_call_leaves, kept_leaves}
use Rattle.mld_io.specs.declared.banks.Side.TheVariants.{A, B}
use Rattle.journal_store.proofs.bank_reading.sync_both.Goals as goal

pub returns-in_err-sync-2-clause-moments : goal.returns-in_err-sync-2-clause-moments
returns-in_err-sync-2-clause-moments g c old e =
    let one = sync_leaves old (g.B.Banks.log c.args.banks.now) (g.B.Banks.log c.sync.new.self) A (no_call_leaves old (g.B.Banks.log c.args.banks.now) e) c.in_ok-sync.ensures.done in
    kept_leaves old (g.B.Banks.log c.sync.new.self) (g.B.Banks.log c.sync-2.new.self) one (search (rules, c.in_err-sync-2.ensures.failed, c.in_err-sync-2.ensures.no_memory))

pub returns-clause-moments : goal.returns-clause-moments
returns-clause-moments g c old e =
    let one = sync_leaves old (g.B.Banks.log c.args.banks.now) (g.B.Banks.log c.sync.new.self) A (no_call_leaves old (g.B.Banks.log c.args.banks.now) e) c.in_ok-sync.ensures.done in
    sync_leaves old (g.B.Banks.log c.sync.new.self) (g.B.Banks.log c.sync-2.new.self) B one c.in_ok-sync-2.ensures.done

pub returns-in_err-sync-2-clause-told : goal.returns-in_err-sync-2-clause-told
returns-in_err-sync-2-clause-told g c =
    told_from_moments (g.B.Banks.log c.args.banks.now) (g.B.Banks.log c.sync-2.new.self) (λ (l : Log) (calls : List Call) (image : Sides). MayLeave l image)
    (returns-in_err-sync-2-clause-moments g c) (λ e. c.sync-2.ensures.untold (c.sync.ensures.untold e))

pub returns-clause-told : goal.returns-clause-told
returns-clause-told g c =
    told_from_moments (g.B.Banks.log c.args.banks.now) (g.B.Banks.log c.sync-2.new.self) (λ (l : Log) (calls : List Call) (image : Sides). MayLeave l image)
    (returns-clause-moments g c) (λ e. c.sync-2.ensures.untold (c.sync.ensures.untold e))
