-- A journal's entries are taken one after another.
use Rattle.std.proofs.Common.{◌≡◌, ◌∙◌, ℕ, ◌+◌, ◌<◌, ◌≤◌, List, [], ◌∷◌, ◌++◌, length, get_or, take, drop, refl, sym, ap, subst}
use Rattle.std.proofs.lemmas.List.{take_more, take_all, drop_more}
use Rattle.tree_clock.specs.Clock.{ticks_of, RaisesTo}
use Rattle.mld_ops.specs.declared.tagged.Tagged.{Tagged}
use Rattle.mld_ops.specs.Cut.{IsCutOf}
use Rattle.mld_ops.specs.Entry.{EntryValue, IsEntry}
use Rattle.mld_ops.specs.Ready.{last_dot}
use Rattle.suset.specs.SnapshotJoin.{CoversAll}
use Rattle.mld_model.specs.Local.{LeadsTo}
use Rattle.clone_parts.specs.Replays.{AreReadyEntries}
use Rattle.clone_parts.proofs.MakingLaws.{cut_covered, leads_append}
use Rattle.clone_parts.proofs.ReadyLaws.{ready_rest}

module _ (base : List (List ℕ × ℕ)) (first : List Tagged) (all : List EntryValue) where
  -- the first entries led to the clock and the pairs
  pub record IsReplaying (i : ℕ) (ticks : List (List ℕ × ℕ)) (pairs : List Tagged) : Type 0 where
    pub leads : LeadsTo base first (take i all) ticks pairs
    pub ready : AreReadyEntries ticks (drop i all)
    pub covered : CoversAll ticks pairs

  -- one more
  pub replaying_more : (i : ℕ) (ticks next : List (List ℕ × ℕ)) (pairs new : List Tagged) (entry : EntryValue) → i < length all → entry ≡ get_or all i entry
      → IsReplaying i ticks pairs → IsEntry entry → RaisesTo ticks next (last_dot entry.range) → IsCutOf entry (ticks_of ticks entry.range.path) pairs new
      → IsReplaying (i + 1) next new
  replaying_more i ticks next pairs new entry l e so is raised cut =
      let left : drop i all ≡ entry ∷ drop (i + 1) all = drop_more all i entry l ∙ ap (λ (w : EntryValue). w ∷ drop (i + 1) all) (sym e) in
      let front : take (i + 1) all ≡ take i all ++ entry ∷ [] = take_more all i entry l ∙ ap (λ (w : EntryValue). take i all ++ w ∷ []) (sym e) in
      let ready : AreReadyEntries ticks (entry ∷ drop (i + 1) all) = subst (λ (es : List EntryValue). AreReadyEntries ticks es) left so.ready in
      record {
        leads = subst (λ (es : List EntryValue). LeadsTo base first es next new) (sym front)
            (leads_append base first (take i all) (entry ∷ []) ticks pairs next new so.leads (next, new, ready.0, raised, cut, (refl, refl)));
        ready = ready_rest ticks next entry (drop (i + 1) all) ready raised;
        covered = cut_covered ticks next entry (ticks_of ticks entry.range.path) pairs new is raised cut so.covered;
      }

  -- all
  pub replaying_all : (i : ℕ) (ticks : List (List ℕ × ℕ)) (pairs : List Tagged) → length all ≤ i → IsReplaying i ticks pairs → LeadsTo base first all ticks pairs
  replaying_all i ticks pairs past so = subst (λ (es : List EntryValue). LeadsTo base first es ticks pairs) (take_all i all past) so.leads
