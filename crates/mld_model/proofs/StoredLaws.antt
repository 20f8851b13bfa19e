-- What a clone keeps, and what a device has of it: it stands for the same in a history that has grown, a clone that begins with it stands
-- for what is kept, and stopping and opening keep a world sound.
use Rattle.std.specs.Prelude.{Option, MatchOption}
use Rattle.std.proofs.Common.{◌≡◌, ℕ, List, [], ◌∷◌, ◌++◌, ◌⊎◌, inl, inr, refl, sym, ◌∙◌, ap, arith, subst, length, get_or, set, append-nil, append_assoc}
use Rattle.std.specs.List.{AllZip}
use Rattle.std.proofs.lemmas.Bool.{cases_eq, cases_lt}
use Rattle.std.proofs.lemmas.List.{get_or-set_same, get_or-set_other, get_or_past, length-set}
use Rattle.tree_clock.specs.declared.dots.Range.{Range}
use Rattle.tree_clock.specs.Lists.{Has}
use Rattle.mld_ops.specs.declared.tagged.Tagged.{Tagged}
use Rattle.mld_ops.specs.Entry.{EntryValue}
use Rattle.mld_ops.specs.History.{Operation, IsNext, IsLawful}
use Rattle.mld_model.specs.Clone.{Clone, Absent, Asking, Empty, Down, Live, Stored, kept_of, known_of}
use Rattle.mld_model.specs.World.{World, clone_at, with_clone}
use Rattle.mld_model.specs.Local.{LocalClone, LocalStored, stored_of, LeadsTo, IsLocal}
use Rattle.mld_model.specs.Sound.{Keeps, IsSoundJournal, IsSoundClone, IsOpenGive, IsSound}
use Rattle.mld_model.specs.StandsFor.{EntryStandsFor, StoredStandsFor, LocalStandsFor}
use Rattle.mld_model.proofs.HistoryLaws.{done_not_fresh}
use Rattle.mld_model.proofs.JournalLaws.{journal_over, journal_done}
use Rattle.mld_model.proofs.LocalLaws.{KnowsAs, taker_knows, stored_stands_longer}

-- ---- what a device has

-- what a device has of a clone still stands for what is kept, in a history that has grown by one operation
pub stored_still_stands : (history : List Operation) (next : Operation) (running : LocalStored) (stored : Stored) → IsNext history next → IsSoundClone history stored
    → StoredStandsFor history running stored → StoredStandsFor (next ∷ history) running stored
stored_still_stands history next running stored is_next sound =
    stored_stands_longer history next running stored is_next
    (λ k. done_not_fresh history next next.dot is_next ((journal_over history stored.base stored.journal sound.journal).done next.dot k) refl)
    (journal_done history stored.base stored.journal sound.journal)

-- taking the entries of a journal, in order, leads from the dots that the journal is over to those and all of its own
pub journal_knows : (history : List Operation) (known journal : List Range) (ticks : List (List ℕ × ℕ)) (pairs : List Tagged) (entries : List EntryValue)
    (after : List (List ℕ × ℕ)) (new : List Tagged) → IsLawful history → IsSoundJournal history known journal
    → AllZip (EntryStandsFor history) entries journal
    → KnowsAs history known ticks pairs → LeadsTo ticks pairs entries after new → KnowsAs history (known ++ journal) after new
journal_knows history known [] ticks pairs [] after new lawful sound all knows leads =
    subst (λ (dots : List Range). KnowsAs history dots after new) (sym (append-nil known))
    (subst (λ (t : List (List ℕ × ℕ)). KnowsAs history known t new) (sym leads.0) (subst (λ (p : List Tagged). KnowsAs history known ticks p) (sym leads.1) knows))
journal_knows history known (range ∷ journal) ticks pairs (entry ∷ entries) after new lawful sound all knows leads =
    let next : KnowsAs history (known ++ range ∷ []) leads.0 leads.1 =
    taker_knows history known ticks pairs range entry leads.0 leads.1 knows all.0 (journal_done history known (range ∷ journal) sound range (inl refl))
    lawful sound.0 leads.2 leads.3 leads.4 in
    subst (λ (dots : List Range). KnowsAs history dots after new) (append_assoc known (range ∷ []) journal)
    (journal_knows history (known ++ range ∷ []) journal leads.0 leads.1 entries after new lawful sound.2 all.1 next leads.5)
journal_knows history known [] ticks pairs (entry ∷ entries) after new lawful sound all knows leads = absurd all
journal_knows history known (range ∷ journal) ticks pairs [] after new lawful sound all knows leads = absurd all

-- a clone that begins with what its device has of it stands for what is kept, and holds nothing back
pub opened_stands : (world : World) (number : ℕ) (running : LocalClone) (stored : Stored) → IsSound world → Keeps (clone_at world number) stored
    → IsLocal running → running.held ≡ []
    → StoredStandsFor world.history (stored_of running) stored → LocalStandsFor world.history running stored []
opened_stands world number running stored sound keeps local none stands =
    let base : KnowsAs world.history stored.base running.base running.base_pairs = record { known = stands.base; pairs = stands.base_pairs } in
    let knows : KnowsAs world.history (known_of stored) running.ticks running.pairs =
    journal_knows world.history stored.base stored.journal running.base running.base_pairs running.entries running.ticks running.pairs
    sound.lawful (sound.clones number stored keeps).journal stands.entries base local.leads in
    record {
      kept = stands;
      held = subst (λ (entries : List EntryValue). AllZip (EntryStandsFor world.history) entries []) (sym none) tt;
      known = knows.known;
      pairs = knows.pairs;
    }

-- ---- a clone in another state that keeps the same

-- the clones of a world, one of which is in another state and keeps what it kept
module _ (clones : List Clone) (number : ℕ) (now : Clone) (same : kept_of now ≡ kept_of (get_or clones number Absent)) where
  -- each clone keeps what it kept
  pub all_kept : (other : ℕ) → kept_of (get_or (set clones number now) other Absent) ≡ kept_of (get_or clones other Absent)
  all_kept other = elim (cases_eq other number) [
    | inl here ↦ elim (cases_lt number (length clones)) [
      | inl inside ↦
          ap (λ (k : ℕ). kept_of (get_or (set clones number now) k Absent)) here ∙ ap kept_of (get_or-set_same clones number now Absent inside)
          ∙ same ∙ ap (λ (k : ℕ). kept_of (get_or clones k Absent)) (sym here)
      | inr past ↦ ap kept_of (get_or_past (set clones number now) other Absent (omega (arith, past, here, length-set clones number now))
          ∙ sym (get_or_past clones other Absent (omega (arith, past, here))))
    ]
    | inr differs ↦ ap kept_of (get_or-set_other clones number other now Absent differs)
  ]

  -- so what is kept then was kept
  pub kept_before : (other : ℕ) (stored : Stored) → Keeps (get_or (set clones number now) other Absent) stored → Keeps (get_or clones other Absent) stored
  kept_before other stored = subst (λ (kept : Option Stored). MatchOption kept ⊥ (λ it. it ≡ stored)) (all_kept other)

  -- and what was kept still is
  pub kept_then : (other : ℕ) (stored : Stored) → Keeps (get_or clones other Absent) stored → Keeps (get_or (set clones number now) other Absent) stored
  kept_then other stored = subst (λ (kept : Option Stored). MatchOption kept ⊥ (λ it. it ≡ stored)) (sym (all_kept other))

-- who is live once one clone is in another state is that clone, or was live
live_then : (clones : List Clone) (number : ℕ) (now : Clone) (other : ℕ) (stored : Stored) (held : List Range)
    → get_or (set clones number now) other Absent ≡ Live stored held
    → (now ≡ Live stored held) ⊎ (get_or clones other Absent ≡ Live stored held)
live_then clones number now other stored held live = elim (cases_eq other number) [
  | inl here ↦ elim (cases_lt number (length clones)) [
    | inl inside ↦ inl (sym (ap (λ (k : ℕ). get_or (set clones number now) k Absent) here ∙ get_or-set_same clones number now Absent inside) ∙ live)
    | inr past ↦ absurd (none (sym (get_or_past (set clones number now) other Absent (omega (arith, past, here, length-set clones number now))) ∙ live))
  ]
  | inr differs ↦ inr (sym (get_or-set_other clones number other now Absent differs) ∙ live)
]
  where
    none : ¬ (Absent ≡ Live stored held)
    none is = cc

-- a world stays sound where one clone is in another state, keeps what it kept and holds nothing back
pub kept_sound : (world : World) (number : ℕ) (now : Clone) → IsSound world → kept_of now ≡ kept_of (clone_at world number)
    → ((stored : Stored) (held : List Range) → now ≡ Live stored held → held ≡ []) → IsSound (with_clone world number now)
kept_sound world number now sound same none =
    let was : (other : ℕ) (stored : Stored) → Keeps (get_or (set world.clones number now) other Absent) stored → Keeps (clone_at world other) stored
    = kept_before world.clones number now same in
    let was_open : (place id : ℕ) (path : List ℕ) (dots : List Range) → IsOpenGive (with_clone world number now) place id path dots → IsOpenGive world place id path dots
    = λ place id path dots opened. record { sent = opened.sent; waits = λ stored keeps. opened.waits stored (kept_then world.clones number now same id stored keeps) } in
    record {
      lawful = sound.lawful;
      count = length-set world.clones number now ∙ sound.count;
      apart = λ one other first second differ one_keeps other_keeps. sound.apart one other first second differ (was one first one_keeps) (was other second other_keeps);
      clones = λ one first keeps. sound.clones one first (was one first keeps);
      held = λ one first held live range h. elim (live_then world.clones number now one first held live) [
        | inl own ↦ absurd (subst (λ (ranges : List Range). Has ranges range) (none first held own) h)
        | inr before ↦ sound.held one first held before range h
      ];
      gives_held = λ place id path dots one first opened keeps. sound.gives_held place id path dots one first (was_open place id path dots opened) (was one first keeps);
      gives_apart = λ place id path dots second other leaf known differ opened too.
          sound.gives_apart place id path dots second other leaf known differ (was_open place id path dots opened) (was_open second other leaf known too);
      gives = λ place id path dots opened. sound.gives place id path dots (was_open place id path dots opened);
      messages = sound.messages;
    }

-- a clone of a sound world
module _ (world : World) (number : ℕ) (sound : IsSound world) where
  -- stopping a live clone keeps a world sound
  pub stopped_sound : (stored : Stored) (held : List Range) → clone_at world number ≡ Live stored held → IsSound (with_clone world number (Down stored))
  stopped_sound stored held live = kept_sound world number (Down stored) sound (ap kept_of (sym live)) (λ other back is. absurd (none other back is))
    where
      none : (other : Stored) (back : List Range) → ¬ (Down stored ≡ Live other back)
      none other back is = cc

  -- and so does opening one that is down with something kept
  pub opened_sound : (stored : Stored) → clone_at world number ≡ Down stored → IsSound (with_clone world number (Live stored []))
  opened_sound stored down = kept_sound world number (Live stored []) sound (ap kept_of (sym down)) (λ other back is. nothing other back is)
    where
      nothing : (other : Stored) (back : List Range) → Live stored [] ≡ Live other back → back ≡ []
      nothing other back is = cc

  -- and one that keeps nothing, and asks from then on
  pub opened_empty_sound : clone_at world number ≡ Empty → IsSound (with_clone world number Asking)
  opened_empty_sound down = kept_sound world number Asking sound (ap kept_of (sym down)) (λ other back is. absurd (none other back is))
    where
      none : (other : Stored) (back : List Range) → ¬ (Asking ≡ Live other back)
      none other back is = cc
