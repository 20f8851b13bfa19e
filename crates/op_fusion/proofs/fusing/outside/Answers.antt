use Rattle.std.proofs.Common.{sym, ◌∙◌}
use Rattle.std.proofs.lemmas.Bool.{false≢true}
use Rattle.tree_clock.specs.Dot.{IsIn}
use Rattle.mld_ops.specs.Tagged.{tagged_cmp}
use Rattle.mld_ops.specs.declared.tagged.Tagged.{Tagged}
use Rattle.op_fusion.proofs.Lists.{picks_none, picks_more, picks_skip, picks_all, picked_same}
use Rattle.op_fusion.proofs.fusing.outside.Goals as goal
use Rattle.op_fusion.proofs.fusing.outside.Goals.{then-not-contains+in_ok-share+in_ok-push, else-not-contains}

pub loop-pair-init : goal.loop-pair-init
loop-pair-init c =
    picks_none tagged_cmp (λ (pair : Tagged). pair) (λ (pair : Tagged). ¬ IsIn c.args.range.now pair.dot) c.args.pairs.now c.new-kept.result.items c.new-kept.ensures.items

pub loop-pair-preserved : goal.loop-pair-preserved
loop-pair-preserved c =
    elim c.if-not-contains.branch [
      | then-not-contains+in_ok-share+in_ok-push w ↦ rw (w.kept-is, w.in_ok-push.ensures.items)
          (picks_more tagged_cmp (λ (pair : Tagged). pair) (λ (pair : Tagged). ¬ IsIn c.args.range.now pair.dot) tagged_cmp (λ a b h. h) c.args.pairs.now c.loop-pair.pair-index c.pair-item.result c.loop-pair.kept.items
          w.in_ok-share.field-0 c.requires c.loop-pair-test.true c.pair-item.is w.in_ok-share.ensures (λ h. false≢true (sym w.if-not-contains.true ∙ c.contains.ensures.1 h)) c.loop-pair.invariant)
      | else-not-contains w ↦ rw w.kept-is
          (picks_skip tagged_cmp (λ (pair : Tagged). pair) (λ (pair : Tagged). ¬ IsIn c.args.range.now pair.dot) c.args.pairs.now c.loop-pair.pair-index c.pair-item.result c.loop-pair.kept.items
          c.loop-pair-test.true c.pair-item.is (λ n. n (c.contains.ensures.0 w.if-not-contains.false)) c.loop-pair.invariant)
    ]

pub returns-clause-ascending : goal.returns-clause-ascending
returns-clause-ascending c = c.loop-pair.invariant.ascending

pub returns-clause-members : goal.returns-clause-members
returns-clause-members c =
    picked_same tagged_cmp (λ (pair : Tagged). ¬ IsIn c.args.range.now pair.dot) c.args.pairs.now c.loop-pair.kept.items
    (picks_all tagged_cmp (λ (pair : Tagged). pair) (λ (pair : Tagged). ¬ IsIn c.args.range.now pair.dot) c.args.pairs.now c.loop-pair.pair-index c.loop-pair.kept.items c.loop-pair-test.false c.loop-pair.invariant)
