use Rattle.std.proofs.Common.{sym, ◌∙◌}
use Rattle.std.proofs.lemmas.Bool.{false≢true}
use Rattle.tree_clock.specs.Lists.{Has}
use Rattle.mld_ops.specs.Tagged.{tagged_cmp}
use Rattle.mld_ops.specs.declared.tagged.Tagged.{Tagged}
use Rattle.op_fusion.proofs.Lists.{picks_none, picks_more, picks_skip, picks_all, picked_same}
use Rattle.op_fusion.proofs.cutting.present.Goals as goal
use Rattle.op_fusion.proofs.cutting.present.Goals.{then-has+in_ok-share+in_ok-push, else-has}

pub loop-pair-init : goal.loop-pair-init
loop-pair-init g c =
    picks_none tagged_cmp (λ (pair : Tagged). pair) (λ (pair : Tagged). Has (g.S.Tags.pairs c.args.state.now) pair) c.args.pairs.now c.new-present.result.items c.new-present.ensures.items

pub loop-pair-preserved : goal.loop-pair-preserved
loop-pair-preserved g c =
    elim c.if-has.branch [
      | then-has+in_ok-share+in_ok-push w ↦ rw (w.present-is, w.in_ok-push.ensures.items)
          (picks_more tagged_cmp (λ (pair : Tagged). pair) (λ (pair : Tagged). Has (g.S.Tags.pairs c.args.state.now) pair) tagged_cmp (λ a b h. h) c.args.pairs.now c.loop-pair.pair-index c.pair-item.result
          c.loop-pair.present.items w.in_ok-share.field-0 c.requires c.loop-pair-test.true c.pair-item.is w.in_ok-share.ensures (c.has.ensures.0 w.if-has.true) c.loop-pair.invariant)
      | else-has w ↦ rw w.present-is
          (picks_skip tagged_cmp (λ (pair : Tagged). pair) (λ (pair : Tagged). Has (g.S.Tags.pairs c.args.state.now) pair) c.args.pairs.now c.loop-pair.pair-index c.pair-item.result c.loop-pair.present.items
          c.loop-pair-test.true c.pair-item.is (λ h. false≢true (sym w.if-has.false ∙ c.has.ensures.1 h)) c.loop-pair.invariant)
    ]

pub returns-clause-ascending : goal.returns-clause-ascending
returns-clause-ascending g c = c.loop-pair.invariant.ascending

pub returns-clause-members : goal.returns-clause-members
returns-clause-members g c =
    picked_same tagged_cmp (λ (pair : Tagged). Has (g.S.Tags.pairs c.args.state.now) pair) c.args.pairs.now c.loop-pair.present.items
    (picks_all tagged_cmp (λ (pair : Tagged). pair) (λ (pair : Tagged). Has (g.S.Tags.pairs c.args.state.now) pair) c.args.pairs.now c.loop-pair.pair-index c.loop-pair.present.items c.loop-pair-test.false c.loop-pair.invariant)
