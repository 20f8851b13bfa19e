use Rattle.std.proofs.Common.{◌≡◌, ◌∙◌, List, ap, sym, subst}
use Rattle.tree_clock.specs.Lists.{IsAscending}
use Rattle.mld_ops.specs.Tagged.{tagged_cmp}
use Rattle.mld_ops.specs.declared.tagged.Tagged.{Tagged}
use Rattle.graph_index.specs.Graphs.{GraphValue}
use Rattle.graph_index.specs.Matching.{HasNoRepeat}
use Rattle.graph_index.proofs.Entries.{ascending_once}
use Rattle.graph_index.proofs.Fitting.{all_is, built_own}
use Rattle.graph_index.proofs.graphs.Graph.from_pairs.Goals as goal

pub with_table_numbers-requires : goal.with_table_numbers-requires
with_table_numbers-requires c = subst HasNoRepeat (sym c.parts.ensures) (ascending_once c.args.pairs.now c.requires)

pub graph_of-requires : goal.graph_of-requires
graph_of-requires c = built_own c.with_table_numbers.new.tables c.in_ok-numbered.numbered.pairs c.in_ok-entries.entries.items c.in_ok-numbered.ensures c.in_ok-entries.ensures.own

pub returns : goal.returns
returns c =
    ap (λ (v : GraphValue). v.pairs) c.graph_of.ensures ∙
    all_is c.with_table_numbers.new.tables.paths c.in_ok-numbered.numbered.pairs c.in_ok-entries.entries.items c.args.pairs.now c.requires c.in_ok-numbered.ensures (c.in_ok-entries.ensures.pairs ∙ c.parts.ensures)
