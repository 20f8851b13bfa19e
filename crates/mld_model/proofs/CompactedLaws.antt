-- Compacted entries lead where the entries do.
use Rattle.std.proofs.Common.{ℕ, List, [], ◌∷◌, ◌++◌, append_assoc, inl, inr, subst, arith}
use Rattle.tree_clock.specs.Lists.{Has}
use Rattle.tree_clock.specs.Clock.{ticks_of, Covers, RaisesTo}
use Rattle.tree_clock.proofs.ClockLaws.{Covers-raised}
use Rattle.mld_ops.specs.declared.tagged.Tagged.{Tagged}
use Rattle.mld_ops.specs.Entry.{EntryValue, IsEntry}
use Rattle.mld_ops.specs.Cut.{IsCutOf}
use Rattle.mld_ops.specs.Ready.{last_dot}
use Rattle.mld_ops.proofs.AscendingLaws.{has_left, has_right}
use Rattle.op_fusion.specs.Compacting.{IsFusedRun, alone, both, AreFusedRuns}
use Rattle.op_fusion.specs.CompactingLaws.{AreReadyInTurn}
use Rattle.op_fusion.proofs.Runs.{near_all, fused_run_is_entry}
use Rattle.op_fusion.proofs.FusedCuts.{fused_is_ready, fused_raises_both, fused_cuts_both}
use Rattle.op_fusion.proofs.Staying.{insert_inside}
use Rattle.mld_model.specs.Local.{LeadsTo}

-- the clock that is raised for an entry has the dots of the pairs behind it
pub covered_behind : (ticks next : List (List ℕ × ℕ)) (entry : EntryValue) (old new : List Tagged) → IsEntry entry
    → RaisesTo ticks next (last_dot entry.range) → IsCutOf entry (ticks_of ticks entry.range.path) old new
    → ((pair : Tagged) → Has old pair → Covers ticks pair.dot) → (pair : Tagged) → Has new pair → Covers next pair.dot
covered_behind ticks next entry old new is raises cut covered pair h = (Covers-raised ticks next (last_dot entry.range) pair.dot raises).1 (elim ((cut.members pair).0 h) [
  | inl k ↦ inl (covered pair k.0)
  | inr a ↦
      let inside = insert_inside entry pair.triple pair.dot.tick is a.inserts in
      inr (a.path, omega (arith, is.first, inside.0), inside.1)
])

-- a run and what comes behind it, once the run is fused: the fused entry with the rest leads to the same
run_leads : (run : List EntryValue) (whole : EntryValue) → IsFusedRun run whole → (ticks : List (List ℕ × ℕ)) (pairs : List Tagged) (rest : List EntryValue)
    (after : List (List ℕ × ℕ)) (new : List Tagged) → ((entry : EntryValue) → Has run entry → IsEntry entry)
    → ((pair : Tagged) → Has pairs pair → Covers ticks pair.dot) → LeadsTo ticks pairs (run ++ rest) after new → LeadsTo ticks pairs (whole ∷ rest) after new
run_leads run whole (alone entry) ticks pairs rest after new all covered leads = leads
run_leads run whole (both left first next right second fused l r near f) ticks pairs rest after new all covered leads =
    let all_left : (entry : EntryValue) → Has left entry → IsEntry entry = λ entry h. all entry (has_left left (next ∷ right) entry h) in
    let all_right : (entry : EntryValue) → Has (next ∷ right) entry → IsEntry entry = λ entry h. all entry (has_right left (next ∷ right) entry h) in
    let first_is : IsEntry first = fused_run_is_entry left first l all_left in
    let one : LeadsTo ticks pairs (first ∷ next ∷ (right ++ rest)) after new =
    run_leads left first l ticks pairs (next ∷ (right ++ rest)) after new all_left covered
    (subst (λ (es : List EntryValue). LeadsTo ticks pairs es after new) (append_assoc left (next ∷ right) rest) leads) in
    let two : LeadsTo one.0 one.1 (second ∷ rest) after new =
    run_leads (next ∷ right) second r one.0 one.1 rest after new all_right (covered_behind ticks one.0 first pairs one.1 first_is one.3 one.4 covered) one.5 in
    let turn : AreReadyInTurn ticks one.0 first second = record {
      one = first_is;
      two = fused_run_is_entry (next ∷ right) second r all_right;
      near = near_all first.range next right second near r;
      ready = one.2;
      raises = one.3;
      ready_then = two.2;
    } in (
      two.0,
      two.1,
      fused_is_ready ticks one.0 first second fused turn f,
      fused_raises_both ticks one.0 two.0 first second fused turn f two.3,
      fused_cuts_both ticks one.0 first second fused pairs one.1 two.1 turn f covered one.4 two.4,
      two.5,
    )

-- from pairs of which the clock has the dots
pub compacted_leads : (ticks : List (List ℕ × ℕ)) (pairs : List Tagged) (entries compacted : List EntryValue) (after : List (List ℕ × ℕ)) (new : List Tagged)
    → ((pair : Tagged) → Has pairs pair → Covers ticks pair.dot) → ((entry : EntryValue) → Has entries entry → IsEntry entry)
    → LeadsTo ticks pairs entries after new → AreFusedRuns entries compacted → LeadsTo ticks pairs compacted after new
compacted_leads ticks pairs entries [] after new covered all leads runs = subst (λ (es : List EntryValue). LeadsTo ticks pairs es after new) runs leads
compacted_leads ticks pairs entries (whole ∷ others) after new covered all leads runs =
    let split : LeadsTo ticks pairs (runs.0 ++ runs.1) after new = subst (λ (es : List EntryValue). LeadsTo ticks pairs es after new) runs.2 leads in
    let each : (entry : EntryValue) → Has (runs.0 ++ runs.1) entry → IsEntry entry =
    subst (λ (es : List EntryValue). (entry : EntryValue) → Has es entry → IsEntry entry) runs.2 all in
    let each_of_run : (entry : EntryValue) → Has runs.0 entry → IsEntry entry = λ entry h. each entry (has_left runs.0 runs.1 entry h) in
    let step : LeadsTo ticks pairs (whole ∷ runs.1) after new = run_leads runs.0 whole runs.3 ticks pairs runs.1 after new each_of_run covered split in (
      step.0,
      step.1,
      step.2,
      step.3,
      step.4,
      compacted_leads step.0 step.1 runs.1 others after new
          (covered_behind ticks step.0 whole pairs step.1 (fused_run_is_entry runs.0 whole runs.3 each_of_run) step.3 step.4 covered)
          (λ entry h. each entry (has_right runs.0 runs.1 entry h)) step.5 runs.5,
    )
