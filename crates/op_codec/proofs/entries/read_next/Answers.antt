use Rattle.std.proofs.Common.{ℕ, List, sym, ap, ◌∙◌}
use Rattle.std.proofs.lemmas.Result.{err_from_is_err_and}
use Rattle.mld_ops.specs.Tagged.{insert_cmp}
use Rattle.rdf_terms.specs.declared.terms.Triple.{Triple}
use Rattle.op_codec.specs.Entries.{read_insert}
use Rattle.op_codec.specs.StoredLists.{is_above}
use Rattle.op_codec.proofs.ListLaws.{item_taken, item_unfit, item_refused}
use Rattle.op_codec.proofs.entries.read_next.Goals as goal

pub returns-in_err-insert : goal.returns-in_err-insert
returns-in_err-insert c =
    let p = err_from_is_err_and c.from_residual.result c.from_residual.ensures.1 in
    rw (p.1, p.2) (item_refused read_insert (is_above insert_cmp) c.args.input.now c.args.inserts.now.items c.args.place c.in_err-insert.field-0.0 c.in_err-insert.ensures)

pub returns-then-not-is_above : goal.returns-then-not-is_above
returns-then-not-is_above c =
    item_unfit read_insert (is_above insert_cmp) c.args.input.now c.args.inserts.now.items c.args.place c.in_ok-insert.insert c.in_ok-insert.next c.in_ok-insert.ensures (ap (λ (inserts : List (Triple × ℕ)). is_above insert_cmp inserts c.in_ok-insert.insert) (sym c.deref.ensures.value) ∙ sym c.is_above.ensures ∙ c.if-not-is_above.true)

pub returns : goal.returns
returns c =
    rw c.in_ok-push_item.ensures (item_taken read_insert (is_above insert_cmp) c.args.input.now c.args.inserts.now.items c.args.place c.in_ok-insert.insert c.in_ok-insert.next c.in_ok-insert.ensures (ap (λ (inserts : List (Triple × ℕ)). is_above insert_cmp inserts c.in_ok-insert.insert) (sym c.deref.ensures.value) ∙ sym c.is_above.ensures ∙ c.if-not-is_above.false))
