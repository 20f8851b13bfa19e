use Rattle.std.proofs.Common.{subst, ◌∙◌, inl, inr}
use Rattle.mld_ops.specs.declared.tagged.Tagged.{Tagged}
use Rattle.mld_ops.proofs.AscendingLaws.{has_take_more}
use Rattle.graph_index.specs.TermNumbers.{IsNumbered}
use Rattle.graph_index.proofs.Numbers.{grown_twice, kept_numbered}
use Rattle.graph_index.proofs.tables.Tables.give_all.Goals as goal

pub returns-in_err-numbers-clause-grown : goal.returns-in_err-numbers-clause-grown
returns-in_err-numbers-clause-grown c = grown_twice c.args.self.now c.loop-pair.self c.give.new.self c.loop-pair.invariant.grown c.give.ensures.grown

pub returns-in_err-push-clause-grown : goal.returns-in_err-push-clause-grown
returns-in_err-push-clause-grown c = grown_twice c.args.self.now c.loop-pair.self c.give.new.self c.loop-pair.invariant.grown c.give.ensures.grown

pub loop-pair-preserved : goal.loop-pair-preserved
loop-pair-preserved c = record {
  grown = grown_twice c.args.self.now c.loop-pair.self c.give.new.self c.loop-pair.invariant.grown c.give.ensures.grown;
  numbered = λ pair h. elim ((has_take_more c.args.pairs.now c.loop-pair.pair-index c.pair-item.result pair c.loop-pair-test.true).0 h) [
    | inl k ↦ kept_numbered c.loop-pair.self c.give.new.self pair c.give.ensures.grown (c.loop-pair.invariant.numbered pair k)
    | inr e ↦ subst (λ (w : Tagged). IsNumbered c.give.new.self w) (c.pair-item.is ∙ e) (c.in_ok-numbers.numbers, c.in_ok-numbers.ensures.ok)
  ];
}
