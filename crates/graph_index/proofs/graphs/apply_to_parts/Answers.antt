use Rattle.std.proofs.Common.{List, ◌↔◌, refl, subst}
use Rattle.tree_clock.specs.Lists.{Has}
use Rattle.mld_ops.specs.declared.tagged.Tagged.{Tagged}
use Rattle.graph_index.specs.Graphs.{in_order_of, pairs_of}
use Rattle.graph_index.proofs.Fitting.{applied}
use Rattle.graph_index.proofs.graphs.apply_to_parts.Goals as goal

pub returns-clause-pairs : goal.returns-clause-pairs
returns-clause-pairs c =
    let paths = c.args.parts.now.tables.paths in
    let old = c.args.parts.now.numbered.pairs in
    let lost = c.lose_all.new.numbered.pairs in
    applied paths old lost c.gain_all.new.numbered.pairs c.args.cut.drops.items c.args.cut.adds.items (in_order_of (pairs_of paths old)) refl
    (subst (λ (drops : List Tagged). (pair : Tagged) → Has (pairs_of paths lost) pair ↔ (Has (pairs_of paths old) pair × ¬ Has drops pair)) c.deref.ensures.value c.lose_all.ensures.members)
    c.gain_all.ensures.members
