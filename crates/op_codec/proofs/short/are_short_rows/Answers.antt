use Rattle.std.proofs.Common.{List, All, refl, sym, subst, ◌∙◌}
use Rattle.std.proofs.lemmas.Bool.{false≢true}
use Rattle.std.proofs.lemmas.List.{take_all}
use Rattle.std.proofs.lemmas.List.Elements.{All-more}
use Rattle.mld_ops.specs.declared.pair_lists.PairRow.{PairRow}
use Rattle.mld_ops.specs.declared.tagged.Tagged.{Tagged}
use Rattle.op_codec.specs.Stored.{IsShortTriple}
use Rattle.op_codec.proofs.ShortRows.{short_pairs, short_row}
use Rattle.op_codec.proofs.short.are_short_rows.Goals as goal

pub returns-then-not-is_short_triple : goal.returns-then-not-is_short_triple
returns-then-not-is_short_triple c = (
  λ t. absurd (false≢true t),
  λ short.
      let one = short_row c.args.paths.now c.args.rows.now short c.loop-row.row-index c.row-item.result c.loop-row-test.true c.row-item.is in
      absurd (false≢true (sym c.if-not-is_short_triple.true ∙ c.is_short_triple.ensures.1 (subst (λ (pair : Tagged). IsShortTriple pair.triple) (sym c.row_ref.ensures) one))),
)

pub loop-row-preserved : goal.loop-row-preserved
loop-row-preserved c =
    let one = subst (λ (pair : Tagged). IsShortTriple pair.triple) c.row_ref.ensures (c.is_short_triple.ensures.0 c.if-not-is_short_triple.false) in
    All-more (λ (row : PairRow). IsShortTriple row.triple) c.args.rows.now c.loop-row.row-index c.row-item.result c.loop-row-test.true c.loop-row.invariant
    (subst (λ (row : PairRow). IsShortTriple row.triple) c.row-item.is one)

pub returns : goal.returns
returns c = (
  λ _. short_pairs c.args.paths.now c.args.rows.now c.if-rows-ge-COUNT_LIMIT.false
      (subst (λ (rows : List PairRow). All (λ (row : PairRow). IsShortTriple row.triple) rows) (take_all c.loop-row.row-index c.args.rows.now c.loop-row-test.false) c.loop-row.invariant),
  λ _. refl,
)
