use Rattle.journal_store.proofs.Mounted.{found_stands, nothing_kept, told_before}
use Rattle.journal_store.proofs.journals.Journal.mount.Goals as goal

pub new-journal-requires : goal.new-journal-requires
new-journal-requires g c = record {
  room = rw c.in-Ok-Some.field-0-is at c.in-Ok-Some.ensures.room;
  stands = λ log e closed. told_before (g.B.Banks.log c.args.banks) (g.B.Banks.log c.find.new.banks) log c.in-Ok-Some.ensures.told.untold e
      (λ old k.
      let tells = rw c.in-Ok-Some.field-0-is at (c.in-Ok-Some.ensures.tells old k) in
      found_stands c.in-Ok-Some.found old log (g.B.Banks.log c.find.new.banks) tells (c.in-Ok-Some.ensures.synced old k) tt e);
}

pub new-requires : goal.new-requires
new-requires g c log e = told_before (g.B.Banks.log c.args.banks) (g.B.Banks.log c.find.new.banks) log c.in-Ok-None.ensures.told.untold e
    (λ old k.
    let tells = rw c.in-Ok-None.field-0-is at (c.in-Ok-None.ensures.tells old k) in
    nothing_kept old log (g.B.Banks.log c.find.new.banks) tells (c.in-Ok-None.ensures.synced old k) tt e)
