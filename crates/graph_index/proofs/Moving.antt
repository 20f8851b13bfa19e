-- What numbered pairs are by their pairs alone: what goes by its numbers is the pair, and what comes is that too.
use Rattle.std.proofs.Common.{◌≡◌, ◌∙◌, ℕ, List, [], ◌∷◌, map, ◌↔◌, ◌⊎◌, refl, sym, subst, ap, inl, inr, arith}
use Rattle.std.proofs.lemmas.Bool.{cases_lt}
use Rattle.tree_clock.specs.Lists.{Has}
use Rattle.mld_ops.specs.declared.pair_lists.PairRow.{PairRow}
use Rattle.mld_ops.specs.declared.tagged.Tagged.{Tagged}
use Rattle.pair_orders.specs.declared.keys.Numbers.{Numbers}
use Rattle.pair_orders.specs.PairEntries.{HasNumbers}
use Rattle.graph_index.specs.Graphs.{entry_pair, pairs_of}
use Rattle.graph_index.specs.Matching.{HasNoRepeat}
use Rattle.pair_orders.specs.PairEntries.{StandOnce}
use Rattle.mld_ops.specs.PairLists.{path_numbered, row_pair, rows_pairs}
use Rattle.graph_index.specs.TermNumbers.{TablesValue, AreNumbersOf, HaveOwnNumbers, IsNumbered, IsOwnEntry, KeepsNumbers}
use Rattle.graph_index.proofs.Numbers.{same_pair, same_numbers, kept_numbers, path_at_number}
use Rattle.graph_index.proofs.Sorting.{has_image, image_has}

-- the pairs of entries are those of their rows
pub entries_are : (paths : List (List ℕ)) (entries : List (Numbers × PairRow)) (rows : List PairRow) → map (λ (e : Numbers × PairRow). e.1) entries ≡ rows → pairs_of paths entries ≡ rows_pairs paths rows
entries_are paths entries rows e = each entries ∙ ap (rows_pairs paths) e
  where
    each : (list : List (Numbers × PairRow)) → pairs_of paths list ≡ rows_pairs paths (map (λ (e : Numbers × PairRow). e.1) list)
    each [] = refl
    each (e ∷ list) = ap (λ (rest : List Tagged). entry_pair paths e ∷ rest) (each list)

-- a row is among them, with the numbers of its pair
pub with_numbers : (tables : TablesValue) (pairs : List (Numbers × PairRow)) (pair : Tagged) (numbers : Numbers) → HaveOwnNumbers tables pairs → AreNumbersOf tables pair numbers
    → Has (pairs_of tables.paths pairs) pair → (row : PairRow) × Has pairs (numbers, row) × (row_pair tables.paths row ≡ pair)
with_numbers tables pairs pair numbers are own h =
    let i = image_has (entry_pair tables.paths) pairs pair h in
    let n = same_numbers tables (entry_pair tables.paths i.0) pair i.0.0 numbers i.2 (are i.0 i.1).numbers own in
    (i.0.1, subst (λ (w : Numbers). Has pairs (w, i.0.1)) n i.1, i.2)

pub from_numbers : (tables : TablesValue) (pairs : List (Numbers × PairRow)) (row : PairRow) (numbers : Numbers) → Has pairs (numbers, row) → Has (pairs_of tables.paths pairs) (row_pair tables.paths row)
from_numbers tables pairs row numbers h = has_image (entry_pair tables.paths) pairs (numbers, row) h

-- ---- a pair goes by its numbers

pub gone_numbered : (tables : TablesValue) (old new : List (Numbers × PairRow)) (numbers : Numbers) → HaveOwnNumbers tables old
    → ((e : Numbers × PairRow) → Has new e ↔ (Has old e × ¬ (e.0 ≡ numbers))) → HaveOwnNumbers tables new
gone_numbered tables old new numbers are same e h = are e ((same e).0 h).0

pub gone_members : (tables : TablesValue) (old new : List (Numbers × PairRow)) (pair : Tagged) (numbers : Numbers) → HaveOwnNumbers tables old → AreNumbersOf tables pair numbers
    → ((e : Numbers × PairRow) → Has new e ↔ (Has old e × ¬ (e.0 ≡ numbers))) → (other : Tagged)
    → Has (pairs_of tables.paths new) other ↔ (Has (pairs_of tables.paths old) other × ¬ (other ≡ pair))
gone_members tables old new pair numbers are own same other = (
  λ h. let i = image_has (entry_pair tables.paths) new other h in let g = (same i.0).0 i.1 in (
    subst (λ (w : Tagged). Has (pairs_of tables.paths old) w) i.2 (has_image (entry_pair tables.paths) old i.0 g.0),
    λ e. g.1 (same_numbers tables (entry_pair tables.paths i.0) pair i.0.0 numbers (i.2 ∙ e) (are i.0 g.0).numbers own),
  ),
  λ h. let i = image_has (entry_pair tables.paths) old other h.0 in
      subst (λ (w : Tagged). Has (pairs_of tables.paths new) w) i.2
      (has_image (entry_pair tables.paths) new i.0
      ((same i.0).1 (i.1, λ e. h.1 (sym i.2 ∙ same_pair tables (entry_pair tables.paths i.0) pair i.0.0 numbers e (are i.0 i.1).numbers own)))),
)

-- a pair without numbers is not among them
pub gone_none : (tables : TablesValue) (pairs : List (Numbers × PairRow)) (pair : Tagged) → HaveOwnNumbers tables pairs → ¬ IsNumbered tables pair
    → (other : Tagged) → Has (pairs_of tables.paths pairs) other ↔ (Has (pairs_of tables.paths pairs) other × ¬ (other ≡ pair))
gone_none tables pairs pair are none other = (
  λ h. (
    h,
    λ e. let i = image_has (entry_pair tables.paths) pairs other h in
        none (i.0.0, subst (λ (w : Tagged). AreNumbersOf tables w i.0.0) (i.2 ∙ e) (are i.0 i.1).numbers),
  ),
  λ h. h.0,
)

-- ---- a pair comes with its numbers

pub come_numbered : (tables : TablesValue) (old new : List (Numbers × PairRow)) (row : PairRow) (numbers : Numbers) → HaveOwnNumbers tables old → IsOwnEntry tables (numbers, row)
    → ((e : Numbers × PairRow) → Has new e ↔ (Has old e ⊎ ((e ≡ (numbers, row)) × ¬ HasNumbers old numbers))) → HaveOwnNumbers tables new
come_numbered tables old new row numbers are own same e h = elim ((same e).0 h) [
  | inl k ↦ are e k
  | inr k ↦ subst (λ (w : Numbers × PairRow). IsOwnEntry tables w) (sym k.0) own
]

pub come_members : (tables : TablesValue) (old new : List (Numbers × PairRow)) (pair : Tagged) (row : PairRow) (numbers : Numbers) → HaveOwnNumbers tables old → AreNumbersOf tables pair numbers
    → row_pair tables.paths row ≡ pair → ((e : Numbers × PairRow) → Has new e ↔ (Has old e ⊎ ((e ≡ (numbers, row)) × ¬ HasNumbers old numbers)))
    → (HasNumbers old numbers ⊎ (¬ HasNumbers old numbers)) → (other : Tagged) → Has (pairs_of tables.paths new) other ↔ (Has (pairs_of tables.paths old) other ⊎ (other ≡ pair))
come_members tables old new pair row numbers are own is same there other = (
  λ h. let i = image_has (entry_pair tables.paths) new other h in elim ((same i.0).0 i.1) [
    | inl k ↦ inl (subst (λ (w : Tagged). Has (pairs_of tables.paths old) w) i.2 (has_image (entry_pair tables.paths) old i.0 k))
    | inr k ↦ inr (sym i.2 ∙ ap (entry_pair tables.paths) k.0 ∙ is)
  ],
  λ h. elim h [
    | inl k ↦ let i = image_has (entry_pair tables.paths) old other k in
        subst (λ (w : Tagged). Has (pairs_of tables.paths new) w) i.2 (has_image (entry_pair tables.paths) new i.0 ((same i.0).1 (inl i.1)))
    | inr e ↦ subst (λ (w : Tagged). Has (pairs_of tables.paths new) w) (sym e) (elim there [
      | inl k ↦
          let p = same_pair tables (row_pair tables.paths k.0) pair numbers numbers refl (are (numbers, k.0) k.1).numbers own in
          subst (λ (w : Tagged). Has (pairs_of tables.paths new) w) p (from_numbers tables new k.0 numbers ((same (numbers, k.0)).1 (inl k.1)))
      | inr n ↦ subst (λ (w : Tagged). Has (pairs_of tables.paths new) w) is (from_numbers tables new row numbers ((same (numbers, row)).1 (inr (refl, n))))
    ])
  ],
)

-- ---- tables that grow

-- a row has the same pair
row_kept : (old new : TablesValue) (entry : Numbers × PairRow) → KeepsNumbers old new → IsOwnEntry old entry → row_pair new.paths entry.1 ≡ row_pair old.paths entry.1
row_kept old new entry grown own =
    let path = ap (path_numbered new.paths) own.path ∙ path_at_number new.paths (path_numbered old.paths entry.1.path) entry.0.path (grown.paths (path_numbered old.paths entry.1.path) entry.0.path own.numbers.path) in
    λ i. record { triple = entry.1.triple; dot = record { path = path i; tick = entry.1.tick } }

pub kept_all : (old new : TablesValue) (pairs : List (Numbers × PairRow)) → KeepsNumbers old new → HaveOwnNumbers old pairs → HaveOwnNumbers new pairs
kept_all old new pairs grown are e h = let own = are e h in record {
  numbers = subst (λ (w : Tagged). AreNumbersOf new w e.0) (sym (row_kept old new e grown own)) (kept_numbers old new (row_pair old.paths e.1) e.0 grown own.numbers);
  path = own.path;
}

-- all rows have the same pairs
pub pairs_kept : (old new : TablesValue) (pairs : List (Numbers × PairRow)) → KeepsNumbers old new → HaveOwnNumbers old pairs → pairs_of new.paths pairs ≡ pairs_of old.paths pairs
pairs_kept old new [] grown are = refl
pairs_kept old new (e ∷ pairs) grown are =
    let first = row_kept old new e grown (are e (inl refl)) in
    let rest = pairs_kept old new pairs grown (λ x h. are x (inr h)) in
    λ i. first i ∷ rest i

-- ---- no pair stands twice

pub once_by_numbers : (tables : TablesValue) (pairs : List (Numbers × PairRow)) → HaveOwnNumbers tables pairs → StandOnce (map (λ (e : Numbers × PairRow). e.0) pairs) → HasNoRepeat (pairs_of tables.paths pairs)
once_by_numbers tables [] are once = tt
once_by_numbers tables (e ∷ pairs) are once = (
  λ h. let i = image_has (entry_pair tables.paths) pairs (entry_pair tables.paths e) h in
      once.0 (subst (λ (w : Numbers). Has (map (λ (e : Numbers × PairRow). e.0) pairs) w)
      (same_numbers tables (entry_pair tables.paths i.0) (entry_pair tables.paths e) i.0.0 e.0 i.2 (are i.0 (inr i.1)).numbers (are e (inl refl)).numbers)
      (has_image (λ (e : Numbers × PairRow). e.0) pairs i.0 i.1)),
  once_by_numbers tables pairs (λ x h. are x (inr h)) once.1,
)

-- and no two rows have the same numbers where no pair stands twice
pub numbers_once : (tables : TablesValue) (pairs : List (Numbers × PairRow)) → HaveOwnNumbers tables pairs → HasNoRepeat (pairs_of tables.paths pairs) → StandOnce (map (λ (e : Numbers × PairRow). e.0) pairs)
numbers_once tables [] are once = tt
numbers_once tables (e ∷ pairs) are once = (
  λ h. let i = image_has (λ (e : Numbers × PairRow). e.0) pairs e.0 h in
      once.0 (subst (λ (w : Tagged). Has (pairs_of tables.paths pairs) w)
      (same_pair tables (entry_pair tables.paths i.0) (entry_pair tables.paths e) i.0.0 e.0 i.2 (are i.0 (inr i.1)).numbers (are e (inl refl)).numbers)
      (has_image (entry_pair tables.paths) pairs i.0 i.1)),
  numbers_once tables pairs (λ x h. are x (inr h)) once.1,
)

-- ---- numbers are there, or not

pub one_or : (a b : ℕ) → (a ≡ b) ⊎ (¬ (a ≡ b))
one_or a b = elim (cases_lt a b) [
  | inl l ↦ inr (λ e. omega (arith, l, e))
  | inr g ↦ elim (cases_lt b a) [
    | inl l ↦ inr (λ e. omega (arith, l, e))
    | inr k ↦ inl (omega (arith, g, k))
  ]
]

numbers_or : (a b : Numbers) → (a ≡ b) ⊎ (¬ (a ≡ b))
numbers_or a b = elim (one_or a.s b.s) [
  | inr n ↦ inr (λ e. n (ap (λ (w : Numbers). w.s) e))
  | inl s ↦ elim (one_or a.p b.p) [
    | inr n ↦ inr (λ e. n (ap (λ (w : Numbers). w.p) e))
    | inl p ↦ elim (one_or a.o b.o) [
      | inr n ↦ inr (λ e. n (ap (λ (w : Numbers). w.o) e))
      | inl o ↦ elim (one_or a.path b.path) [
        | inr n ↦ inr (λ e. n (ap (λ (w : Numbers). w.path) e))
        | inl path ↦ elim (one_or a.tick b.tick) [
          | inr n ↦ inr (λ e. n (ap (λ (w : Numbers). w.tick) e))
          | inl tick ↦ inl (λ i. record { s = s i; p = p i; o = o i; path = path i; tick = tick i })
        ]
      ]
    ]
  ]
]

pub there_or_not : (pairs : List (Numbers × PairRow)) (numbers : Numbers) → HasNumbers pairs numbers ⊎ (¬ HasNumbers pairs numbers)
there_or_not [] numbers = inr (λ h. h.1)
there_or_not (e ∷ pairs) numbers = elim (numbers_or e.0 numbers) [
  | inl s ↦ inl (e.1, inl (λ i. (s i, e.1)))
  | inr n ↦ elim (there_or_not pairs numbers) [
    | inl h ↦ inl (h.0, inr h.1)
    | inr m ↦ inr (λ h. elim h.1 [ inl q ↦ n (ap (λ (w : Numbers × PairRow). w.0) q) | inr k ↦ m (h.0, k) ])
  ]
]
