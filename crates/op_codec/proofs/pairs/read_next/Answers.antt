use Rattle.std.proofs.Common.{List, sym, ap, ◌∙◌}
use Rattle.std.proofs.lemmas.Result.{err_from_is_err_and}
use Rattle.mld_ops.specs.declared.tagged.Tagged.{Tagged}
use Rattle.op_codec.specs.PairBytes.{cover_of, fits_pairs, read_pair}
use Rattle.op_codec.proofs.ListLaws.{item_taken, item_unfit, item_refused}
use Rattle.op_codec.proofs.pairs.read_next.Goals as goal

pub returns-in_err-pair : goal.returns-in_err-pair
returns-in_err-pair c =
    let p = err_from_is_err_and c.from_residual.result c.from_residual.ensures.1 in
    rw (p.1, p.2) (item_refused read_pair (fits_pairs (cover_of (λ clock. clock.now.ticks) c.args.cover)) c.args.input.now c.args.pairs.now.items c.args.place c.in_err-pair.field-0.0 c.in_err-pair.ensures)

pub returns-then-not-fits_pairs : goal.returns-then-not-fits_pairs
returns-then-not-fits_pairs c =
    item_unfit read_pair (fits_pairs (cover_of (λ clock. clock.now.ticks) c.args.cover)) c.args.input.now c.args.pairs.now.items c.args.place c.in_ok-pair.pair c.in_ok-pair.next c.in_ok-pair.ensures (ap (λ (pairs : List Tagged). fits_pairs (cover_of (λ clock. clock.now.ticks) c.args.cover) pairs c.in_ok-pair.pair) (sym c.deref.ensures.value) ∙ sym c.fits_pairs.ensures ∙ c.if-not-fits_pairs.true)

pub returns : goal.returns
returns c =
    rw c.in_ok-push_item.ensures (item_taken read_pair (fits_pairs (cover_of (λ clock. clock.now.ticks) c.args.cover)) c.args.input.now c.args.pairs.now.items c.args.place c.in_ok-pair.pair c.in_ok-pair.next c.in_ok-pair.ensures (ap (λ (pairs : List Tagged). fits_pairs (cover_of (λ clock. clock.now.ticks) c.args.cover) pairs c.in_ok-pair.pair) (sym c.deref.ensures.value) ∙ sym c.fits_pairs.ensures ∙ c.if-not-fits_pairs.false))
