-- A journal is made: what the banks keep at each moment, and once it is done.
use Rattle.std.proofs.Common.{◌≡◌, ◌∙◌, [], ◌⊎◌, ap, sym, subst, Err, Some, Option}
use Rattle.mld_io.specs.Disk.{Log}
use Rattle.mld_io.specs.declared.banks.Side.TheVariants.{A}
use Rattle.journal_sides.specs.Heads.{head_value}
use Rattle.journal_sides.specs.Pairs.{Kept, Keeps, KeepsNone}
use Rattle.journal_sides.specs.SideReadings.{Volume}
use Rattle.journal_sides.specs.WrittenRecords.{volume_of}
use Rattle.journal_store.specs.Calls.{made}
use Rattle.journal_store.specs.Crashes.{LeavesEither, first_gate}
use Rattle.journal_store.specs.Standing.{KeepsNow}
use Rattle.journal_store.specs.Closing.{StaysTold, WasCalled}
use Rattle.journal_store.proofs.ClosingLaws.{unmade_called}
use Rattle.journal_store.proofs.JournalLaws.{fresh_kept, journal_made, keeps_made, either_made}
use Rattle.journal_store.proofs.journals.Journal.create.Goals as goal

pub new-requires : goal.new-requires
new-requires g c =
    journal_made A (volume_of 1 (head_value c.args.head.now) []) c.in-Ok.stop (g.B.Banks.log c.into_banks-banks.result) (g.B.Banks.log c.write_side.new.banks) _ c.into_banks-banks.ensures.blank c.in-Ok.ensures.stored
    c.in-Ok.ensures.done c.in-Ok.ensures.told.untold c.in-Ok.ensures.room

pub returns-in-Ok-clause-ok : goal.returns-in-Ok-clause-ok
returns-in-Ok-clause-ok g c = record {
  opened = ap (λ v. v.closed) c.new.ensures;
  side = ap (λ v. v.side) c.new.ensures;
  generation = ap (λ v. v.generation) c.new.ensures;
  kept = λ l e.
      let volume : Volume = volume_of 1 (head_value c.args.head.now) [] in
      let told : g.B.Banks.log c.into_banks-banks.result ≡ Some l = ap g.B.Banks.log c.into_banks-banks.ensures.banks ∙ e in
      let nothing = c.into_banks-banks.ensures.blank l told in
      let now : g.B.Banks.log c.write_side.new.banks ≡ g.B.Banks.log c.new.result.banks = sym (ap (λ v. g.B.Banks.log v.banks) c.new.ensures) in
      subst (KeepsNow (made (head_value c.args.head.now))) now
      (keeps_made A volume c.in-Ok.stop l (g.B.Banks.log c.write_side.new.banks) (made (head_value c.args.head.now)) nothing c.in-Ok.ensures.stored (c.in-Ok.ensures.done l told nothing.settled) (fresh_kept A 1 (head_value c.args.head.now) []));
}

pub returns-in-Ok-clause-moments : goal.returns-in-Ok-clause-moments
returns-in-Ok-clause-moments g c l e =
    let volume : Volume = volume_of 1 (head_value c.args.head.now) [] in
    let told : g.B.Banks.log c.into_banks-banks.result ≡ Some l = ap g.B.Banks.log c.into_banks-banks.ensures.banks ∙ e in
    let nothing = c.into_banks-banks.ensures.blank l told in
    let now : g.B.Banks.log c.write_side.new.banks ≡ g.B.Banks.log c.new.result.banks = sym (ap (λ v. g.B.Banks.log v.banks) c.new.ensures) in
    subst (λ (b : g.row.B.Denot). LeavesEither l (g.B.Banks.log c.new.result.banks) KeepsNone (Keeps (made (head_value c.args.head.now))) (g.B.Banks.meter b).arm (first_gate A)) c.into_banks-banks.ensures.banks
    (subst (λ (o : Option Log). LeavesEither l o KeepsNone (Keeps (made (head_value c.args.head.now))) (g.B.Banks.meter c.into_banks-banks.result).arm (first_gate A)) now
    (subst (λ (k : Kept). LeavesEither l (g.B.Banks.log c.write_side.new.banks) KeepsNone (Keeps k) (g.B.Banks.meter c.into_banks-banks.result).arm (first_gate A)) (fresh_kept A 1 (head_value c.args.head.now) [])
    (either_made (g.B.Banks.meter c.into_banks-banks.result).arm A volume l (g.B.Banks.log c.write_side.new.banks) nothing (c.in-Ok.ensures.moments l told nothing.settled))))

pub returns-in-Err-clause-moments : goal.returns-in-Err-clause-moments
returns-in-Err-clause-moments g c l e =
    let volume : Volume = volume_of 1 (head_value c.args.head.now) [] in
    let told : g.B.Banks.log c.into_banks-banks.result ≡ Some l = ap g.B.Banks.log c.into_banks-banks.ensures.banks ∙ e in
    let nothing = c.into_banks-banks.ensures.blank l told in
    subst (λ (b : g.row.B.Denot). LeavesEither l (g.B.Banks.log c.write_side.new.banks) KeepsNone (Keeps (made (head_value c.args.head.now))) (g.B.Banks.meter b).arm (first_gate A)) c.into_banks-banks.ensures.banks
    (subst (λ (k : Kept). LeavesEither l (g.B.Banks.log c.write_side.new.banks) KeepsNone (Keeps k) (g.B.Banks.meter c.into_banks-banks.result).arm (first_gate A)) (fresh_kept A 1 (head_value c.args.head.now) [])
    (either_made (g.B.Banks.meter c.into_banks-banks.result).arm A volume l (g.B.Banks.log c.write_side.new.banks) nothing (c.in-Err.ensures.moments l told nothing.settled)))

pub returns-in-Err-clause-err : goal.returns-in-Err-clause-err
returns-in-Err-clause-err g c = record {
  moments = returns-in-Err-clause-moments g c;
  told = subst (λ (b : g.row.B.Denot). StaysTold (g.B.Banks.log b) (g.B.Banks.log c.write_side.new.banks)) c.into_banks-banks.ensures.banks c.write_side.ensures.told;
  called = λ e.
      subst (λ (b : g.row.B.Denot). (c.write_side.new.banks ≡ b) ⊎ WasCalled g.B.Banks.log g.B.Banks.meter b c.write_side.new.banks) c.into_banks-banks.ensures.banks
      (unmade_called g.B.Banks.log g.B.Banks.meter c.into_banks-banks.result c.write_side.new.banks c.in-Err.stopped (λ is. c.in-Err.ensures.before (ap Err is)) c.in-Err.ensures.called (sym c.from.ensures ∙ e));
}
