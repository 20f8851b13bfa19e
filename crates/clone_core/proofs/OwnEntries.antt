-- A clone takes the entry of an operation of its own.
use Rattle.std.proofs.Common.{◌≡◌, ◌∙◌, ℕ, List, [], ◌∷◌, ◌++◌, refl, sym, ap, subst}
use Rattle.tree_clock.specs.declared.dots.Dot.{Dot}
use Rattle.tree_clock.specs.Clock.{ticks_of, RaisesTo}
use Rattle.mld_ops.specs.declared.tagged.Tagged.{Tagged}
use Rattle.mld_ops.specs.Applies.{Applies}
use Rattle.mld_ops.specs.Cut.{IsCutOf}
use Rattle.mld_ops.specs.Entry.{EntryValue, IsEntry}
use Rattle.mld_model.specs.Local.{LocalClone, LeadsTo, IsLocal, next_dot}
use Rattle.op_fusion.specs.Cutting.{AreCuts}
use Rattle.op_fusion.proofs.CutPairs.{cut_is_applied}
use Rattle.clone_parts.proofs.MakingLaws.{own_ready, own_last, path_is, local_taken, taken_by}
use Rattle.clone_parts.specs.Making.{IsNextEntry}
use Rattle.clone_core.specs.CallParts.{MakesDone}
use Rattle.clone_parts.specs.declared.answers.Done.TheVariants as done

-- its entry leads to the raised clock
made_leads : (ticks after : List (List ℕ × ℕ)) (old new : List Tagged) (dot : Dot) (entry : EntryValue) → IsNextEntry ticks dot entry
    → RaisesTo ticks after dot → IsCutOf entry (ticks_of ticks entry.range.path) old new → LeadsTo ticks old (entry ∷ []) after new
made_leads ticks after old new dot entry next raised cut = (
  after,
  new,
  own_ready ticks dot entry next,
  subst (λ (d : Dot). RaisesTo ticks after d) (sym (own_last ticks dot entry next)) raised,
  cut,
  (refl, refl),
)

module _ (old : LocalClone) (ticks : List (List ℕ × ℕ)) (pairs drops adds : List Tagged) (journal : List EntryValue) (dot : Dot) (entry : EntryValue)
    (cuts : AreCuts entry (ticks_of old.ticks entry.range.path) old.pairs drops adds) (applies : Applies drops adds old.pairs pairs) where
  -- what its cut leaves
  pub made_cut : IsCutOf entry (ticks_of old.ticks entry.range.path) old.pairs pairs
  made_cut = cut_is_applied entry (ticks_of old.ticks entry.range.path) old.pairs drops adds pairs cuts applies

  -- the clone is one then
  pub made_local : IsLocal old → IsNextEntry old.ticks dot entry → IsEntry entry → RaisesTo old.ticks ticks dot → journal ≡ old.entries ++ entry ∷ []
      → IsLocal (record (taken_by old [] old.held ticks pairs) { entries = journal })
  made_local local next is_entry raised behind =
      subst (λ (es : List EntryValue). IsLocal (record (taken_by old [] old.held ticks pairs) { entries = es })) (sym behind)
      (local_taken old (entry ∷ []) old.held ticks pairs local (is_entry, tt) (made_leads old.ticks ticks old.pairs pairs dot entry next raised made_cut) local.held)

  -- it has taken the entry of the next dot, and hands out a copy
  pub makes_done : dot ≡ next_dot old → IsNextEntry old.ticks dot entry → RaisesTo old.ticks ticks dot → journal ≡ old.entries ++ entry ∷ [] → (made : EntryValue) → made ≡ entry
      → MakesDone old entry (record (taken_by old [] old.held ticks pairs) { entries = journal }) (done.Made made)
  makes_done at next raised behind made same =
      let path : entry.range.path ≡ old.path = path_is old.ticks dot entry next ∙ ap (λ (d : Dot). d.path) at in (
        same,
        record {
          same = record { id = refl; domain = refl; properties = refl; path = refl; base = refl; base_pairs = refl };
          entries = behind;
          held = refl;
          clock = subst (λ (d : Dot). RaisesTo old.ticks ticks d) at raised;
          pairs = subst (λ (p : List ℕ). IsCutOf entry (ticks_of old.ticks p) old.pairs pairs) path made_cut;
        },
      )
