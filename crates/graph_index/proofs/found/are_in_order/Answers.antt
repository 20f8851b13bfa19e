use Rattle.std.proofs.Common.{rules}
use Rattle.std.proofs.lemmas.Cmp.{on_total}
use Rattle.std.proofs.lemmas.Fn.{always_returns_same}
use Rattle.std.specs.Ordering.{is_lt}
use Rattle.mld_ops.proofs.Walking.{ascending_from_answer}
use Rattle.mld_ops.specs.PairLists.{row_pair}
use Rattle.mld_ops.specs.Tagged.{tagged_cmp}
use Rattle.mld_ops.proofs.TaggedLaws.{tagged_total}
use Rattle.graph_index.proofs.found.are_in_order.Goals as goal

pub returns : goal.returns
returns c =
    let paths = c.args.paths.now in
    (ascending_from_answer (λ x y. tagged_cmp (row_pair paths x.now) (row_pair paths y.now)) (on_total (λ x. row_pair paths x.now) tagged_total) c.args.found.now c.is_sorted_by.result
    (c.is_sorted_by.ensures.cases (λ x y. is_lt (tagged_cmp (row_pair paths x.now) (row_pair paths y.now))) (always_returns_same _ _ _ (λ a r f k. search rules)))).0
