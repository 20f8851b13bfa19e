use Rattle.std.proofs.Common.{◌∙◌, ap, subst}
use Rattle.graph_index.specs.Graphs.{GraphValue}
use Rattle.graph_index.specs.Numbered.{StandForOwn, term_numbered}
use Rattle.graph_index.proofs.ByNumbers.{stand_for_own}
use Rattle.graph_index.proofs.graphs.Graph.term.Goals as goal

pub returns-clause-value : goal.returns-clause-value
returns-clause-value c = c.term_at.ensures ∙ ap (λ (v : GraphValue). term_numbered v c.args.number) c.parts.ensures.value

pub returns-clause-own : goal.returns-clause-own
returns-clause-own c = subst (λ (v : GraphValue). StandForOwn v) c.parts.ensures.value (stand_for_own c.parts.result.now c.parts.ensures.own c.parts.ensures.apart)
