use Rattle.std.proofs.Common.{Ok, Err, refl, ◌∙◌}
use Rattle.std.proofs.lemmas.Result.{err_from_is_err_and}
use Rattle.mld_io.proofs.ArmLaws.{Metered-then}
use Rattle.mld_io.specs.Disk.{seen}
use Rattle.mld_io.specs.declared.banks.Side.TheVariants.{A, B}
use Rattle.journal_store.proofs.Choosing.{first_damaged, second_damaged}
use Rattle.journal_store.proofs.Reading.{metered_as, synced_later, told_of_old, quiet_not_failed}
use Rattle.journal_store.proofs.bank_reading.find.Goals as goal

pub returns-in_err-sync_both-clause-tells : goal.returns-in_err-sync_both-clause-tells
returns-in_err-sync_both-clause-tells g c log e =
    let p = err_from_is_err_and c.from_residual.result c.from_residual.ensures.1 in rw (p.1, p.2, c.in_err-sync_both.ensures.refusals) tt

pub returns-in_err-sync_both-clause-synced : goal.returns-in_err-sync_both-clause-synced
returns-in_err-sync_both-clause-synced g c log e =
    let p = err_from_is_err_and c.from_residual.result c.from_residual.ensures.1 in
    rw (p.1, p.2, c.in_err-sync_both.ensures.refusals) (synced_later log (g.B.Banks.log c.sync_both.new.banks) (g.B.Banks.log c.sync_both.new.banks) (λ q. absurd q) (c.in_err-sync_both.ensures.synced log e) refl)

pub returns-in_err-a-clause-tells : goal.returns-in_err-a-clause-tells
returns-in_err-a-clause-tells g c log e =
    let p = err_from_is_err_and c.from_residual-in_err-a.result c.from_residual-in_err-a.ensures.1 in
    rw (p.1, p.2) (first_damaged (seen log) c.in_err-a.field-0.0 (told_of_old log (g.B.Banks.log c.sync_both.new.banks) A (Err c.in_err-a.field-0.0) (c.in_ok-sync_both.ensures.synced log e) c.in_err-a.ensures.tells))

pub returns-in_err-a-clause-synced : goal.returns-in_err-a-clause-synced
returns-in_err-a-clause-synced g c log e = synced_later log (g.B.Banks.log c.sync_both.new.banks) (g.B.Banks.log c.find_on.new.banks) (λ q. refl) (c.in_ok-sync_both.ensures.synced log e) c.in_err-a.ensures.log

pub returns-in_err-b-clause-tells : goal.returns-in_err-b-clause-tells
returns-in_err-b-clause-tells g c log e =
    let p = err_from_is_err_and c.from_residual-in_err-b.result c.from_residual-in_err-b.ensures.1 in
    let synced = c.in_ok-sync_both.ensures.synced log e in
    rw (p.1, p.2) (second_damaged (seen log) c.in_ok-a.a c.in_err-b.field-0.0 (told_of_old log (g.B.Banks.log c.sync_both.new.banks) A (Ok c.in_ok-a.a) synced c.in_ok-a.ensures.tells)
    (told_of_old log (g.B.Banks.log c.sync_both.new.banks) B (Err c.in_err-b.field-0.0) synced (λ l k. c.in_err-b.ensures.tells l (c.in_ok-a.ensures.log ∙ k))))

pub returns-in_err-b-clause-synced : goal.returns-in_err-b-clause-synced
returns-in_err-b-clause-synced g c log e =
    synced_later log (g.B.Banks.log c.sync_both.new.banks) (g.B.Banks.log c.find_on-2.new.banks) (λ q. refl) (c.in_ok-sync_both.ensures.synced log e) (c.in_err-b.ensures.log ∙ c.in_ok-a.ensures.log)

pub returns-clause-tells : goal.returns-clause-tells
returns-clause-tells g c log e =
    let synced = c.in_ok-sync_both.ensures.synced log e in
    c.choose.ensures.tells (seen log) (told_of_old log (g.B.Banks.log c.sync_both.new.banks) A (Ok c.in_ok-a.a) synced c.in_ok-a.ensures.tells)
    (told_of_old log (g.B.Banks.log c.sync_both.new.banks) B (Ok c.in_ok-b.b) synced (λ l k. c.in_ok-b.ensures.tells l (c.in_ok-a.ensures.log ∙ k)))

pub returns-clause-synced : goal.returns-clause-synced
returns-clause-synced g c log e =
    synced_later log (g.B.Banks.log c.sync_both.new.banks) (g.B.Banks.log c.find_on-2.new.banks) (λ q. refl) (c.in_ok-sync_both.ensures.synced log e) (c.in_ok-b.ensures.log ∙ c.in_ok-a.ensures.log)

pub returns-clause-meter : goal.returns-clause-meter
returns-clause-meter g c =
    let first = Metered-then 2 0 (g.B.Banks.meter c.args.banks.now) (g.B.Banks.meter c.sync_both.new.banks) (g.B.Banks.meter c.find_on.new.banks) c.in_ok-sync_both.ensures.meter tt c.in_ok-a.ensures.meter in
    let both = Metered-then 2 0 (g.B.Banks.meter c.args.banks.now) (g.B.Banks.meter c.find_on.new.banks) (g.B.Banks.meter c.find_on-2.new.banks) first tt c.in_ok-b.ensures.meter in
    metered_as 2 (g.B.Banks.meter c.args.banks.now) (g.B.Banks.meter c.find_on-2.new.banks) (λ q. tt) (λ f. quiet_not_failed c.choose.result c.choose.ensures.quiet f) (λ f. absurd f) both
