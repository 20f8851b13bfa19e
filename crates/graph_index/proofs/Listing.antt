-- Rows of a list of pairs that get numbers, one after another.
use Rattle.std.proofs.Common.{◌≡◌, ◌∙◌, ℕ, zero, suc, ◌+◌, ◌<◌, List, [], ◌∷◌, ◌++◌, ◌⊎◌, Option, None, Some, length, map, take, get_or, replicate, slice_index_or, slice_set, refl, sym, ap, subst, inl, inr}
use Rattle.std.proofs.lemmas.List.{append-nil, append_assoc, get_or-set_same, get_or-set_other, map-append, take_more}
use Rattle.mld_ops.specs.PairLists.{path_numbered, row_pair, rows_pairs}
use Rattle.mld_ops.specs.declared.pair_lists.PairRow.{PairRow}
use Rattle.mld_ops.specs.declared.tagged.Tagged.{Tagged}
use Rattle.number_tables.specs.TableNumbers.{number_of_path}
use Rattle.pair_orders.specs.declared.keys.Numbers.{Numbers}
use Rattle.graph_index.specs.Graphs.{entry_pair, pairs_of}
use Rattle.graph_index.specs.TermNumbers.{TablesValue, AreNoted, AreNumbersOf, HaveOwnNumbers, IsOwnEntry, KeepsNumbers}
use Rattle.graph_index.proofs.Entries.{own_more}
use Rattle.graph_index.proofs.Moving.{kept_all, one_or, pairs_kept}
use Rattle.graph_index.proofs.Numbers.{row_is, row_own}
use Rattle.graph_index.proofs.WantedPlaces.{some_injective}

-- ---- what is noted

abbrev no_number : Option ℕ
no_number = None

-- at first it is nothing
pub none_noted : (tables : TablesValue) (paths : List (List ℕ)) (count : ℕ) (noted : List (Option ℕ)) → noted ≡ replicate count None → AreNoted tables paths noted
none_noted tables paths count noted e at number h = absurd (differ (sym (nothing count at) ∙ subst (λ (ns : List (Option ℕ)). slice_index_or ns at None ≡ Some number) e h))
  where
    differ : None ≡ Some number → ⊥
    differ e = cc

    nothing : (n i : ℕ) → slice_index_or (replicate n no_number) i no_number ≡ no_number
    nothing zero i = refl
    nothing (suc n) zero = refl
    nothing (suc n) (suc i) = nothing n i

-- a number stays what is noted where tables grow
pub noted_kept : (old new : TablesValue) (paths : List (List ℕ)) (noted : List (Option ℕ)) → KeepsNumbers old new → AreNoted old paths noted → AreNoted new paths noted
noted_kept old new paths noted grown are at number h = grown.paths (path_numbered paths at) number (are at number h)

-- what one more note tells
pub note_told : (noted : List (Option ℕ)) (at number other found : ℕ) → at < length noted → slice_index_or (slice_set noted at (Some number)) other None ≡ Some found
    → (slice_index_or noted other None ≡ Some found) ⊎ ((other ≡ at) × (number ≡ found))
note_told noted at number other found l h = elim (one_or other at) [
  | inl e ↦ inr (
    e,
    some_injective number found
        (sym (get_or-set_same noted at (Some number) None l) ∙ subst (λ o. slice_index_or (slice_set noted at (Some number)) o None ≡ Some found) e h),
  )
  | inr n ↦ inl (sym (get_or-set_other noted at other (Some number) None n) ∙ h)
]

pub noted_more : (tables : TablesValue) (paths : List (List ℕ)) (old new : List (Option ℕ)) (at number : ℕ) → AreNoted tables paths old → number_of_path tables.paths (path_numbered paths at) ≡ Some number
    → ((other found : ℕ) → slice_index_or new other None ≡ Some found → (slice_index_or old other None ≡ Some found) ⊎ ((other ≡ at) × (number ≡ found))) → AreNoted tables paths new
noted_more tables paths old new at number noted is told other found h = elim (told other found h) [
  | inl k ↦ noted other found k
  | inr k ↦
      subst (λ n. number_of_path tables.paths (path_numbered paths other) ≡ Some n) k.1
      (subst (λ a. number_of_path tables.paths (path_numbered paths a) ≡ Some number) (sym k.0) is)
]

-- ---- one row more

module _ (old new : TablesValue) (paths : List (List ℕ)) (entries more : List (Numbers × PairRow)) (numbers : Numbers) (row copy : PairRow) (grown : KeepsNumbers old new) (own : HaveOwnNumbers old entries)
    (are : AreNumbersOf new (row_pair paths row) numbers) (copy_is : copy ≡ record { triple = row.triple; path = numbers.path; tick = row.tick }) (pushed : more ≡ entries ++ (numbers, copy) ∷ []) where
  copy_pair : row_pair new.paths copy ≡ row_pair paths row
  copy_pair = ap (row_pair new.paths) copy_is ∙ row_is new (row_pair paths row) numbers are

  pub row_owned : HaveOwnNumbers new more
  row_owned =
      own_more new entries more numbers copy (row_pair paths row) pushed copy_pair (kept_all old new entries grown own)
      (subst (λ (w : PairRow). IsOwnEntry new (numbers, w)) (sym copy_is) (row_own new (row_pair paths row) numbers are))

  pub row_added : pairs_of new.paths more ≡ pairs_of old.paths entries ++ row_pair paths row ∷ []
  row_added =
      ap (pairs_of new.paths) pushed ∙ map-append (entry_pair new.paths) entries ((numbers, copy) ∷ [])
      ∙ ap (λ (w : Tagged). pairs_of new.paths entries ++ w ∷ []) copy_pair
      ∙ ap (λ (ps : List Tagged). ps ++ row_pair paths row ∷ []) (pairs_kept old new entries grown own)

-- the pairs of one row more
pub rows_taken : (paths : List (List ℕ)) (rows : List PairRow) (i : ℕ) (d : PairRow) (before now : List Tagged) → i < length rows → now ≡ before ++ row_pair paths (get_or rows i d) ∷ []
    → before ≡ rows_pairs paths (take i rows) → now ≡ rows_pairs paths (take (i + 1) rows)
rows_taken paths rows i d before now l n b =
    n ∙ ap (λ (ps : List Tagged). ps ++ row_pair paths (get_or rows i d) ∷ []) b
    ∙ sym (map-append (row_pair paths) (take i rows) (get_or rows i d ∷ [])) ∙ ap (rows_pairs paths) (sym (take_more rows i d l))

-- ---- rows that move to their pairs, one after another

pub moved_more : (paths : List (List ℕ)) (before now : List Tagged) (rest left all : List PairRow) (row : PairRow) (pair : Tagged) → before ++ rows_pairs paths rest ≡ rows_pairs paths all → rest ≡ row ∷ left
    → pair ≡ row_pair paths row → now ≡ before ++ pair ∷ [] → now ++ rows_pairs paths left ≡ rows_pairs paths all
moved_more paths before now rest left all row pair b first is n =
    ap (λ (ps : List Tagged). ps ++ rows_pairs paths left) n
    ∙ append_assoc before (pair ∷ []) (rows_pairs paths left)
    ∙ ap (λ (p : Tagged). before ++ p ∷ rows_pairs paths left) is
    ∙ ap (λ (rs : List PairRow). before ++ rows_pairs paths rs) (sym first) ∙ b

pub moved_all : (paths : List (List ℕ)) (list : List Tagged) (rest all : List PairRow) → list ++ rows_pairs paths rest ≡ rows_pairs paths all → rest ≡ [] → list ≡ rows_pairs paths all
moved_all paths list rest all e none = sym (append-nil list) ∙ ap (λ (rs : List PairRow). list ++ rows_pairs paths rs) (sym none) ∙ e
