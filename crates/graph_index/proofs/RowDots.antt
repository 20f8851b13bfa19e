-- Dots of rows that name one path.
use Rattle.std.proofs.Common.{◌≡◌, ◌∙◌, ℕ, List, sym, ap}
use Rattle.std.specs.Ordering.{nat_cmp, ordering_then}
use Rattle.std.proofs.lemmas.Cmp.{nat_list_cmp_total, tied_itself}
use Rattle.std.specs.declared.cmp.Ordering.TheVariants.{Equal}
use Rattle.mld_ops.specs.PairLists.{path_numbered, row_pair}
use Rattle.mld_ops.specs.declared.pair_lists.PairRow.{PairRow}
use Rattle.tree_clock.specs.Dot.{dot_cmp}
use Rattle.tree_clock.specs.Path.{path_cmp}

-- the ticks tell them
pub dots_by_ticks : (paths : List (List ℕ)) (a b : PairRow) → a.path ≡ b.path → nat_cmp a.tick b.tick ≡ dot_cmp (row_pair paths a).dot (row_pair paths b).dot
dots_by_ticks paths a b e =
    let same : path_cmp (path_numbered paths a.path) (path_numbered paths b.path) ≡ Equal =
    ap (λ (n : ℕ). path_cmp (path_numbered paths a.path) (path_numbered paths n)) (sym e) ∙ tied_itself nat_list_cmp_total (path_numbered paths a.path) in
    sym (ap (λ o. ordering_then o (nat_cmp a.tick b.tick)) same)
