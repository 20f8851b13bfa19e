use Rattle.std.proofs.Common.{◌≡◌, map, sym, subst}
use Rattle.std.proofs.lemmas.List.Sorted.{All-permutation, IsPermutation-map}
use Rattle.std.specs.List.Sorted.{IsSorted}
use Rattle.hinted_chunks.specs.Hinted.{hint_of}
use Rattle.hinted_chunks.proofs.HintedSort.{moved_sorted, sorted_by_hints}
use Rattle.hinted_chunks.proofs.sorting.sort_by_hints.Goals as goal

pub returns-clause-same : goal.returns-clause-same
returns-clause-same g c =
    moved_sorted c.args.elements.now.items c.put_back.new.elements.items c.take_hints.new.hinted.items c.sort_hinted.new.hinted.items c.take_hints.ensures.same c.sort_hinted.ensures.same
    c.put_back.ensures.moved

pub returns-clause-sorted : goal.returns-clause-sorted
returns-clause-sorted g c =
    let o = c.args.order.now in
    let text = g.O.TextOrder.text o in
    let hinted = c.take_hints.new.hinted.items in
    let sorted = c.sort_hinted.new.hinted.items in
    let mark = c.take_hints.ensures.hinted.0 in
    let are = c.take_hints.ensures.hinted.1 in
    subst (IsSorted (g.O.TextOrder.order o)) (sym c.put_back.ensures.moved)
    (sorted_by_hints (g.O.TextOrder.order o) (g.met.O.TextOrder.total o) text (g.met.O.TextOrder.by_text o) mark (map (λ pair. pair.1) hinted) sorted are.shared
    (IsPermutation-map (λ pair. pair.1) hinted sorted c.sort_hinted.ensures.same)
    (All-permutation (λ pair. pair.0 ≡ hint_of text mark pair.1) hinted sorted c.sort_hinted.ensures.same are.hints) c.sort_hinted.ensures.sorted)
