-- Entries that are ready one after another, by what ticks each path has.
use Rattle.std.proofs.Common.{◌≡◌, ◌∙◌, ℕ, max, List, [], ◌∷◌, true, false, refl, sym, ap, inl, inr}
use Rattle.std.proofs.lemmas.Bool.{cases_Bool}
use Rattle.std.proofs.lemmas.Slice.Eq.{bytes_eq-Decides}
use Rattle.std.specs.Cmp.Lexicographic.{pointwise}
use Rattle.std.specs.Prelude.{nat_eq}
use Rattle.mld_ops.specs.declared.tagged.Tagged.{Tagged}
use Rattle.mld_ops.specs.Entry.{EntryValue}
use Rattle.mld_ops.specs.Ready.{last_dot}
use Rattle.mld_model.specs.Local.{LeadsTo}
use Rattle.tree_clock.specs.Clock.{ticks_of, RaisesTo}
use Rattle.tree_clock.specs.declared.dots.Dot.{Dot}
use Rattle.tree_clock.proofs.ClockLaws.{same_test, apart_test}
use Rattle.journal_store.proofs.of_journal_sides.Ready.{ready_same}
use Rattle.journal_store.specs.journal_sides.RecordBytes.{raised_to, known_after}
use Rattle.journal_store.specs.journal_sides.StoredVolumes.{AreGoodEntries}
use Rattle.clone_parts.specs.Replays.{AreReadyEntries}

-- ticks that are the same at each path
abbrev pub SameTicks : List (List ℕ × ℕ) → List (List ℕ × ℕ) → Type 0
SameTicks ticks other = (path : List ℕ) → ticks_of ticks path ≡ ticks_of other path

-- ticks that are raised as the journal does are those of the clock that was raised
raised_ticks : (ticks next other : List (List ℕ × ℕ)) (dot : Dot) → SameTicks other ticks → RaisesTo ticks next dot → SameTicks (raised_to other dot) next
raised_ticks ticks next other dot same raised path = elim (cases_Bool (pointwise nat_eq dot.path path)) [
  | inl s ↦
      let e : dot.path ≡ path = (bytes_eq-Decides dot.path path).0 s in
      let own : max (ticks_of other dot.path) dot.tick ≡ ticks_of next dot.path = ap (λ n. max n dot.tick) (same dot.path) ∙ sym raised.at in
      rw s (own ∙ ap (ticks_of next) e)
  | inr f ↦
      let apart : ¬ (path ≡ dot.path) = λ e. let t = (bytes_eq-Decides dot.path path).1 (sym e) in let c : false ≡ true = sym f ∙ t in cc in
      rw f (same path ∙ sym (raised.others path apart))
]

-- entries are ready one after another by what ticks each path has
pub ready_entries_same : (ticks other : List (List ℕ × ℕ)) (entries : List EntryValue) → SameTicks ticks other → AreReadyEntries ticks entries → AreReadyEntries other entries
ready_entries_same ticks other [] same ready = tt
ready_entries_same ticks other (entry ∷ entries) same ready =
    (ready_same ticks other entry same ready.0, ready_entries_same (raised_to ticks (last_dot entry.range)) (raised_to other (last_dot entry.range)) entries again ready.1)
  where
    again : SameTicks (raised_to ticks (last_dot entry.range)) (raised_to other (last_dot entry.range))
    again = raised_ticks other (raised_to other (last_dot entry.range)) ticks (last_dot entry.range) same (record {
      at = rw (same_test entry.range.path) refl;
      others = λ path apart. rw (apart_test entry.range.path path (λ e. apart (sym e))) refl;
    })

-- what is known behind a journal is what the entries lead to
pub known_leads : (ticks other : List (List ℕ × ℕ)) (pairs : List Tagged) (entries : List EntryValue) (after : List (List ℕ × ℕ)) (new : List Tagged)
    → SameTicks other ticks → LeadsTo ticks pairs entries after new → SameTicks (known_after other entries) after
known_leads ticks other pairs [] after new same leads path = same path ∙ ap (λ ts. ticks_of ts path) (sym leads.0)
known_leads ticks other pairs (entry ∷ entries) after new same leads path =
    known_leads leads.0 (raised_to other (last_dot entry.range)) leads.1 entries after new (raised_ticks ticks leads.0 other (last_dot entry.range) same leads.3) leads.5 path

-- entries that lead somewhere are ready one after another
pub leads_ready : (ticks other : List (List ℕ × ℕ)) (pairs : List Tagged) (entries : List EntryValue) (after : List (List ℕ × ℕ)) (new : List Tagged) → SameTicks ticks other
    → LeadsTo ticks pairs entries after new → AreReadyEntries other entries
leads_ready ticks other pairs [] after new same leads = tt
leads_ready ticks other pairs (entry ∷ entries) after new same leads = (
  ready_same ticks other entry same leads.2,
  leads_ready leads.0 (raised_to other (last_dot entry.range)) leads.1 entries after new
      (λ path. sym (raised_ticks ticks leads.0 other (last_dot entry.range) (λ p. sym (same p)) leads.3 path))
      leads.5,
)

-- entries that a journal keeps are ready one after another
pub good_ready : (ticks : List (List ℕ × ℕ)) (entries : List EntryValue) → AreGoodEntries ticks entries → AreReadyEntries ticks entries
good_ready ticks [] good = tt
good_ready ticks (entry ∷ entries) good = (good.0, good_ready (raised_to ticks (last_dot entry.range)) entries good.2)

-- the first of entries that are ready was taken
pub ready_rest : (ticks next : List (List ℕ × ℕ)) (entry : EntryValue) (entries : List EntryValue) → AreReadyEntries ticks (entry ∷ entries) → RaisesTo ticks next (last_dot entry.range) → AreReadyEntries next entries
ready_rest ticks next entry entries ready raised =
    ready_entries_same (raised_to ticks (last_dot entry.range)) next entries (raised_ticks ticks next ticks (last_dot entry.range) (λ path. refl) raised) ready.1
