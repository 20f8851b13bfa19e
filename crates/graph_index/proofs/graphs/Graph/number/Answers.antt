use Rattle.std.proofs.Common.{◌≡◌, ℕ, Some, IfSome, IfNone, subst}
use Rattle.graph_index.specs.Graphs.{GraphValue}
use Rattle.graph_index.specs.Numbered.{AreAllNumbered, StandForOwn, term_numbered}
use Rattle.graph_index.proofs.ByNumbers.{all_numbered, number_none, number_some, stand_for_own}
use Rattle.graph_index.proofs.graphs.Graph.number.Goals as goal

pub returns-clause-some : goal.returns-clause-some
returns-clause-some c =
    subst (λ (v : GraphValue). IfSome c.term.result (λ number. term_numbered v number ≡ Some c.args.term.now)) c.parts.ensures.value
    (number_some c.parts.result.now c.parts.ensures.own c.parts.ensures.apart c.args.term.now c.term.result c.term.ensures)

pub returns-clause-none : goal.returns-clause-none
returns-clause-none c =
    subst (λ (v : GraphValue). IfNone c.term.result ((number : ℕ) → ¬ (term_numbered v number ≡ Some c.args.term.now))) c.parts.ensures.value
    (number_none c.parts.result.now c.parts.ensures.own c.parts.ensures.apart c.args.term.now c.term.result c.term.ensures)

pub returns-clause-own : goal.returns-clause-own
returns-clause-own c = subst (λ (v : GraphValue). StandForOwn v) c.parts.ensures.value (stand_for_own c.parts.result.now c.parts.ensures.own c.parts.ensures.apart)

pub returns-clause-all : goal.returns-clause-all
returns-clause-all c = subst (λ (v : GraphValue). AreAllNumbered v) c.parts.ensures.value (all_numbered c.parts.result.now c.parts.ensures.own c.parts.ensures.apart)
