-- What the steps do by which rows move from one list to another.
use Rattle.std.proofs.Common.{◌≡◌, ◌∙◌, ℕ, zero, suc, ◌+◌, ◌-◌, ◌<◌, ◌≤◌, ◌↔◌, List, [], ◌∷◌, ◌++◌, length, take, drop, Bool, true, false, IsTrue, Option, Some, get_or, slice_get, refl, sym, ap, subst, inl, inr, length-append, take-append-drop, arith}
use Rattle.std.specs.List.{AllByRecursion}
use Rattle.std.proofs.lemmas.Bool.{false≢true}
use Rattle.rdf_terms.specs.declared.terms.Term.{Term}
use Rattle.jrql_ast.proofs.BoundSlots.{some_is}
use Rattle.reply_rows.specs.Rising.{IsRowPlace, IsUpto, LeavesOut, SkipsTo, row_order}
use Rattle.tree_clock.specs.Lists.{Has}
use Rattle.reply_rows.specs.Times.{is_same_row, times}
use Rattle.reply_rows.proofs.Risen.{often_append, often_other, often_same, same_or}
use Rattle.reply_rows.proofs.RowLaws.{rows_decide}
use Rattle.reply_rows.proofs.SearchLaws.{Row}

-- the last of a list
slice_get_end : {X : Type 0} (xs : List X) (x : X) → slice_get (xs ++ x ∷ []) (length xs) ≡ Some x
slice_get_end [] x = refl
slice_get_end (y ∷ xs) x = slice_get_end xs x

last_is : {X : Type 0} (xs front : List X) (x last : X) → Some x ≡ slice_get xs (length xs - 1) → xs ≡ front ++ last ∷ [] → x ≡ last
last_is xs front x last e h =
    let n : length (front ++ last ∷ []) ≡ length front + 1 = length-append front (last ∷ []) in
    let m : length xs - 1 ≡ length front = let l = ap length h in omega (arith, l, n) in
    some_is x last (e ∙ (λ i. slice_get (h i) (m i)) ∙ slice_get_end front last)

pub last_told : (rows front : List Row) (x last row : Row) (told : Bool) → Some x ≡ slice_get rows (length rows - 1) → (IsTrue told ↔ (x ≡ row)) → rows ≡ front ++ last ∷ [] → IsTrue told ↔ (last ≡ row)
last_told rows front x last row told e t h = subst (λ y. IsTrue told ↔ (y ≡ row)) (last_is rows front x last e h) t

-- the first of a list
pub first_told : (rows others : List Row) (x first row : Row) (told : Bool) → x ≡ get_or rows 0 x → (IsTrue told ↔ (x ≡ row)) → rows ≡ first ∷ others → IsTrue told ↔ (first ≡ row)
first_told rows others x first row told e t h = subst (λ y. IsTrue told ↔ (y ≡ row)) (e ∙ ap (λ l. get_or l 0 x) h) t

-- what is left out, and what is kept
abbrev pub TellsFirst : List Row → Row → Bool → Type 0
TellsFirst rows row told = (first : Row) (others : List Row) → rows ≡ first ∷ others → IsTrue told ↔ (first ≡ row)

pub left_out : (row : Row) (old new : List Row) (told : Bool) → TellsFirst old row told → (old ≡ [] → ¬ IsTrue told) → told ≡ true → new ≡ drop 1 old → LeavesOut row old new
left_out row [] new told first none e n = absurd (none refl e)
left_out row (x ∷ old) new told first none e n = inl ((first x old refl).0 e, n)

pub left_in : (row : Row) (old new : List Row) (told : Bool) → TellsFirst old row told → told ≡ false → new ≡ old → LeavesOut row old new
left_in row [] new told first e n = n
left_in row (x ∷ old) new told first e n = inr (λ s. false≢true (sym e ∙ (first x old refl).1 s), n)

-- rows that move to the place of a row
pub skipped : (row : Row) (rest kept others behind : List Row) (count : ℕ) → IsRowPlace row_order row rest count → others ≡ drop count rest → behind ≡ kept ++ take count rest
    → SkipsTo row_order row rest kept others behind
skipped row rest kept others behind count place o b = record {
  moved = take count rest;
  whole = sym (take-append-drop count rest) ∙ ap (λ l. take count rest ++ l) (sym o);
  behind_is = b;
  below = place.below;
  not_below = subst (AllByRecursion (IsUpto row_order row)) (sym o) place.not_below;
}

-- ---- whether a row is the last, and how often it stands in a list

parted_last : (x : Row) (xs : List Row) → (front : List Row) × (last : Row) × (x ∷ xs ≡ front ++ last ∷ [])
parted_last x [] = ([], x, refl)
parted_last x (y ∷ xs) = let p = parted_last y xs in (x ∷ p.0, p.1, ap (λ l. x ∷ l) p.2)

abbrev pub TellsLast : List Row → Row → Bool → Type 0
TellsLast rows row told = (front : List Row) (last : Row) → rows ≡ front ++ last ∷ [] → IsTrue told ↔ (last ≡ row)

there_counts : (row : Row) (front : List Row) (last : Row) → last ≡ row → 0 < times row (front ++ last ∷ [])
there_counts row front last e =
    let a = often_append is_same_row rows_decide row front (last ∷ []) in
    let b = often_same is_same_row rows_decide row last [] (sym e) in
    omega (arith, a, b)

pub last_counts : (rows : List Row) (row : Row) (told : Bool) → TellsLast rows row told → (rows ≡ [] → ¬ IsTrue told) → told ≡ true → 0 < times row rows
last_counts [] row told tells none e = absurd (none refl e)
last_counts (x ∷ rows) row told tells none e =
    let p = parted_last x rows in
    subst (λ l. 0 < times row l) (sym p.2) (there_counts row p.0 p.1 ((tells p.0 p.1 p.2).0 e))

pub has_counts : (rows : List Row) (row : Row) → Has rows row → 0 < times row rows
has_counts [] row h = absurd h
has_counts (x ∷ rows) row (inl e) = let f = often_same is_same_row rows_decide row x rows (sym e) in omega (arith, f)
has_counts (x ∷ rows) row (inr h) = elim (same_or is_same_row rows_decide row x) [
  | inl e ↦ (let f = often_same is_same_row rows_decide row x rows e in omega (arith, f))
  | inr n ↦ (let f = often_other is_same_row rows_decide row x rows n in let g = has_counts rows row h in omega (arith, f, g))
]

pub lacks_count : (rows : List Row) (row : Row) → (¬ Has rows row) → times row rows ≡ 0
lacks_count [] row n = refl
lacks_count (x ∷ rows) row n = often_other is_same_row rows_decide row x rows (λ e. n (inl (sym e))) ∙ lacks_count rows row (λ h. n (inr h))
