use Rattle.std.proofs.Common.{List, ◌∙◌, arith, ap, subst, sym}
use Rattle.mld_ops.specs.declared.pair_lists.PairRow.{PairRow}
use Rattle.pair_orders.specs.declared.keys.Numbers.{Numbers}
use Rattle.graph_index.specs.Graphs.{in_order_of, pairs_of}
use Rattle.graph_index.specs.TermNumbers.{HaveOwnNumbers}
use Rattle.graph_index.proofs.Fitting.{fits_grown}
use Rattle.graph_index.proofs.Moving.{kept_all, pairs_kept}
use Rattle.graph_index.proofs.graphs.prepare_parts.Goals as goal

pub returns-in_err-give_all-clause-own : goal.returns-in_err-give_all-clause-own
returns-in_err-give_all-clause-own c = kept_all c.args.parts.now.tables c.give_all.new.self c.args.parts.now.numbered.pairs c.give_all.ensures.grown c.requires

pub returns-in_err-give_all-clause-pairs : goal.returns-in_err-give_all-clause-pairs
returns-in_err-give_all-clause-pairs c = ap in_order_of (pairs_kept c.args.parts.now.tables c.give_all.new.self c.args.parts.now.numbered.pairs c.give_all.ensures.grown c.requires)

pub returns-in_err-give_all-clause-kept : goal.returns-in_err-give_all-clause-kept
returns-in_err-give_all-clause-kept c = λ cut f. fits_grown cut _ _ (omega arith) c.give_all.ensures.grown f

pub returns-clause-own : goal.returns-clause-own
returns-clause-own c =
    subst (λ (pairs : List (Numbers × PairRow)). HaveOwnNumbers c.give_all.new.self pairs) (sym c.prepare.ensures.pairs)
    (kept_all c.args.parts.now.tables c.give_all.new.self c.args.parts.now.numbered.pairs c.give_all.ensures.grown c.requires)

pub returns-clause-pairs : goal.returns-clause-pairs
returns-clause-pairs c =
    ap (λ (pairs : List (Numbers × PairRow)). in_order_of (pairs_of c.give_all.new.self.paths pairs)) c.prepare.ensures.pairs
    ∙ ap in_order_of (pairs_kept c.args.parts.now.tables c.give_all.new.self c.args.parts.now.numbered.pairs c.give_all.ensures.grown c.requires)

pub returns-clause-kept : goal.returns-clause-kept
returns-clause-kept c = λ cut f. fits_grown cut _ _ c.prepare.ensures.kept c.give_all.ensures.grown f
