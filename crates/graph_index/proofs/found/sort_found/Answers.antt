use Rattle.std.proofs.Common.{rules}
use Rattle.std.proofs.lemmas.Fn.{always_returns_same}
use Rattle.std.proofs.lemmas.List.Sorted.{ranks_by}
use Rattle.std.specs.Ordering.{is_lt}
use Rattle.mld_ops.specs.PairLists.{row_pair}
use Rattle.mld_ops.specs.Tagged.{tagged_cmp}
use Rattle.mld_ops.proofs.TaggedLaws.{tagged_total}
use Rattle.graph_index.proofs.Putting.{sorted_rows}
use Rattle.graph_index.proofs.found.sort_found.Goals as goal

pub returns : goal.returns
returns c =
    let paths = c.args.paths.now in
    let up = c.sort_unstable_by.ensures.sorted (λ a b. is_lt (tagged_cmp (row_pair paths a.now) (row_pair paths b.now))) (ranks_by tagged_total (λ row. row_pair paths row.now)) (always_returns_same _ _ _ (λ a r f k. search rules)) in
    sorted_rows paths (λ row. row.now) c.args.found.now.items c.sort_unstable_by.new.self.items c.requires c.sort_unstable_by.ensures.permutation up
