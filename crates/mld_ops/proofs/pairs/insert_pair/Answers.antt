use Rattle.mld_ops.proofs.Searching.{inserted_ascends, inserted_has, stays_has}
use Rattle.mld_ops.proofs.pairs.insert_pair.Goals as goal

pub returns-in_ok-insert-clause-ascending : goal.returns-in_ok-insert-clause-ascending
returns-in_ok-insert-clause-ascending c =
    let h = rw c.deref.ensures.value at c.in-Err.ensures.position in
    inserted_ascends c.args.pairs.now.items _ c.args.pair c.in-Err.place c.in_ok-insert.ensures.items c.requires h

pub returns-in_ok-insert-clause-ok : goal.returns-in_ok-insert-clause-ok
returns-in_ok-insert-clause-ok c = inserted_has _ _ _ _ c.in_ok-insert.ensures.items

pub returns-in_default-clause-ok : goal.returns-in_default-clause-ok
returns-in_default-clause-ok c =
    let l = rw c.deref.ensures.value at c.in_default.ensures.bound in
    let h = rw c.deref.ensures.value at c.in_default.ensures.ok in
    stays_has c.args.pairs.now.items c.args.pair c.in_default.field-0 l h
