use Rattle.std.proofs.Common.{sym, ◌∙◌}
use Rattle.std.proofs.lemmas.Bool.{false≢true}
use Rattle.suset.proofs.Ranging.{of_none, of_more, of_skip, of_all}
use Rattle.suset.proofs.sets.inside.Goals as goal
use Rattle.suset.proofs.sets.inside.Goals.{then-contains+in_ok-share+in_ok-push, else-contains}

pub loop-pair-init : goal.loop-pair-init
loop-pair-init c = of_none c.args.range.now c.args.pairs.now c.new-found.result.items c.new-found.ensures.items

pub loop-pair-preserved : goal.loop-pair-preserved
loop-pair-preserved c =
    elim c.if-contains.branch [
      | then-contains+in_ok-share+in_ok-push w ↦ rw (w.found-is, w.in_ok-push.ensures.items)
          (of_more c.args.range.now c.args.pairs.now c.loop-pair.pair-index c.pair-item.result c.loop-pair.found.items c.loop-pair-test.true c.pair-item.is c.loop-pair.invariant c.requires
          w.in_ok-share.field-0 w.in_ok-share.ensures (c.contains.ensures.0 w.if-contains.true))
      | else-contains w ↦ rw w.found-is
          (of_skip c.args.range.now c.args.pairs.now c.loop-pair.pair-index c.pair-item.result c.loop-pair.found.items c.loop-pair-test.true c.pair-item.is c.loop-pair.invariant
          (λ h. false≢true (sym w.if-contains.false ∙ c.contains.ensures.1 h)))
    ]

pub returns : goal.returns
returns c = of_all c.args.range.now c.args.pairs.now c.loop-pair.pair-index c.loop-pair.found.items c.loop-pair-test.false c.loop-pair.invariant
