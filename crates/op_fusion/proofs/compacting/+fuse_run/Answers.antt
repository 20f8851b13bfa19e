use Rattle.std.proofs.Common.{◌≡◌, ◌++◌, List, inl, inr, sym, subst, arith}
use Rattle.std.proofs.lemmas.Result.{IfOk-weaker}
use Rattle.tree_clock.specs.Lists.{Has}
use Rattle.mld_ops.specs.Entry.{EntryValue, IsEntry}
use Rattle.mld_ops.proofs.AscendingLaws.{has_append}
use Rattle.op_fusion.specs.Compacting.{AreInRow, IsFusedRun}
use Rattle.op_fusion.specs.Fusion.{Fused}
use Rattle.op_fusion.proofs.Rows.{row_left, row_right, halves_are, halves_near, halves_fused, one_alone}
use Rattle.op_fusion.proofs.compacting.+fuse_run.Goals as goal

pub returns-then-entries-eq1-clause-fused : goal.returns-then-entries-eq1-clause-fused
returns-then-entries-eq1-clause-fused t c =
    IfOk-weaker c.copy_in.result (λ (copy : EntryValue). copy ≡ c.index-entries-0.result) (λ (copy : EntryValue). IsFusedRun c.args.entries.now copy)
    (λ copy same. one_alone c.args.entries.now c.index-entries-0.result copy c.if-entries-eq1.true c.index-entries-0.is same)
    c.copy_in.ensures

pub fuse_run-requires : goal.fuse_run-requires
fuse_run-requires t c = (
  omega (arith, c.split_at.ensures.front_len, c.requires.some),
  (
    omega (arith, c.split_at.ensures.front_len, c.requires.some, c.if-entries-eq1.false),
    row_left c.split_at.result.0.now c.split_at.result.1.now
        (subst AreInRow (halves_are c.args.entries.now c.split_at.result.0.now c.split_at.result.1.now _ c.split_at.ensures.front c.split_at.ensures.back) c.requires.row),
  ),
)

pub fuse_run-requires-2 : goal.fuse_run-requires-2
fuse_run-requires-2 t c = (
  omega (arith, c.split_at.ensures.back_len, c.requires.some, c.if-entries-eq1.false),
  (
    omega (arith, c.split_at.ensures.back_len, c.requires.some, c.if-entries-eq1.false),
    row_right c.split_at.result.0.now c.split_at.result.1.now
        (subst AreInRow (halves_are c.args.entries.now c.split_at.result.0.now c.split_at.result.1.now _ c.split_at.ensures.front c.split_at.ensures.back) c.requires.row),
  ),
)

pub fuse_neighbours-requires : goal.fuse_neighbours-requires
fuse_neighbours-requires t c =
    halves_near c.split_at.result.0.now c.split_at.result.1.now c.in_ok-first.first c.in_ok-second.second
    (subst AreInRow (halves_are c.args.entries.now c.split_at.result.0.now c.split_at.result.1.now _ c.split_at.ensures.front c.split_at.ensures.back) c.requires.row)
    c.in_ok-first.ensures.fused c.in_ok-second.ensures.fused

pub returns-clause-fused : goal.returns-clause-fused
returns-clause-fused t c =
    let split : c.args.entries.now ≡ c.split_at.result.0.now ++ c.split_at.result.1.now =
    halves_are c.args.entries.now c.split_at.result.0.now c.split_at.result.1.now _ c.split_at.ensures.front c.split_at.ensures.back in
    IfOk-weaker c.fuse_neighbours.result (λ (fused : EntryValue). Fused c.in_ok-first.first c.in_ok-second.second fused)
    (λ (fused : EntryValue). IsFusedRun c.args.entries.now fused)
    (λ fused f. subst (λ (es : List EntryValue). IsFusedRun es fused) (sym split)
    (halves_fused c.split_at.result.0.now c.split_at.result.1.now c.in_ok-first.first c.in_ok-second.second (subst AreInRow split c.requires.row) c.in_ok-first.ensures.fused
    c.in_ok-second.ensures.fused fused f))
    c.fuse_neighbours.ensures

pub returns-clause-entries : goal.returns-clause-entries
returns-clause-entries t c =
    let split : c.args.entries.now ≡ c.split_at.result.0.now ++ c.split_at.result.1.now =
    halves_are c.args.entries.now c.split_at.result.0.now c.split_at.result.1.now _ c.split_at.ensures.front c.split_at.ensures.back in
    let all : (entry : EntryValue) → Has c.args.entries.now entry → IsEntry entry =
    λ entry h. elim (has_append c.split_at.result.0.now c.split_at.result.1.now entry (subst (λ (es : List EntryValue). Has es entry) split h)) [
      | inl k ↦ c.in_ok-first.ensures.entries entry k
      | inr k ↦ c.in_ok-second.ensures.entries entry k
    ] in
    IfOk-weaker c.fuse_neighbours.result (λ (fused : EntryValue). Fused c.in_ok-first.first c.in_ok-second.second fused)
    (λ (fused : EntryValue). (entry : EntryValue) → Has c.args.entries.now entry → IsEntry entry) (λ fused f. all) c.fuse_neighbours.ensures
