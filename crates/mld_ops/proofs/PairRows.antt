-- Rows of pairs, and paths that more are put behind.
use Rattle.std.proofs.Common.{◌≡◌, ◌∙◌, ℕ, zero, suc, ◌<◌, ◌≤◌, List, [], ◌∷◌, ◌++◌, Some, length, get_or, take, drop, refl, sym, ap, subst, arith}
use Rattle.std.proofs.lemmas.List.{append-nil, append_assoc, map-append, length-append, take-append-drop}
use Rattle.std.proofs.lemmas.Option.{get_or_from_slice_get, slice_get-get_or}
use Rattle.std.specs.List.{HoldsAt, slice_get}
use Rattle.std.specs.declared.cmp.Ordering.TheVariants.{Equal}
use Rattle.tree_clock.specs.DotLaws.{path_exact}
use Rattle.tree_clock.specs.Path.{path_cmp}
use Rattle.mld_ops.specs.PairLists.{path_numbered, row_pair, rows_pairs, IsNumberedIn, IsRowIn}
use Rattle.mld_ops.specs.declared.pair_lists.PairRow.{PairRow}
use Rattle.mld_ops.specs.declared.tagged.Tagged.{Tagged}

-- what stands at a place of a list stands there when more is put behind
pub slice_get_front : {X : Type 0} (xs ys : List X) (i : ℕ) (x : X) → slice_get xs i ≡ Some x → slice_get (xs ++ ys) i ≡ Some x
slice_get_front [] ys i x h = absurd cc
slice_get_front (y ∷ xs) ys zero x h = h
slice_get_front (y ∷ xs) ys (suc i) x h = slice_get_front xs ys i x h

-- what is put behind a list stands at the list's length
pub slice_get_end : {X : Type 0} (xs : List X) (x : X) → slice_get (xs ++ x ∷ []) (length xs) ≡ Some x
slice_get_end [] x = refl
slice_get_end (y ∷ xs) x = slice_get_end xs x

-- a path that is found among the first ones stands at that place among all
pub found_in_front : (paths : List (List ℕ)) (n : ℕ) (path : List ℕ) (place : ℕ) → place < length (take n paths)
    → HoldsAt (λ (other : List ℕ). path_cmp other path ≡ Equal) (take n paths) place → slice_get paths place ≡ Some path
found_in_front paths n path place inside alike =
    subst (λ (all : List (List ℕ)). slice_get all place ≡ Some path) (take-append-drop n paths)
    (slice_get_front (take n paths) (drop n paths) place path (
    slice_get-get_or (take n paths) place path inside
    ∙ ap Some (path_exact (get_or (take n paths) place path) path (alike path))
    ))

-- the rows so far are those of the pairs that have come, whatever paths are put behind
abbrev pub AreRowsSoFar : List (List ℕ) → List PairRow → List Tagged → List Tagged → Type 0
AreRowsSoFar paths rows rest list = (later : List (List ℕ)) → rows_pairs (paths ++ later) rows ++ rest ≡ list

-- no row yet
pub rows_first : (paths : List (List ℕ)) (rows : List PairRow) (rest list : List Tagged) → rows ≡ [] → rest ≡ list → AreRowsSoFar paths rows rest list
rows_first paths rows rest list none same later = ap (λ (rs : List PairRow). rows_pairs (paths ++ later) rs ++ rest) none ∙ same

-- one row more
pub rows_more : (old new : List (List ℕ)) (rows after : List PairRow) (pair : Tagged) (row : PairRow) (rest left list : List Tagged)
    → AreRowsSoFar old rows rest list → IsRowIn old new pair row → rest ≡ pair ∷ left → after ≡ rows ++ row ∷ [] → AreRowsSoFar new after left list
rows_more old new rows after pair row rest left list before is first pushed later =
    ap (λ (rs : List PairRow). rows_pairs (new ++ later) rs ++ left) pushed
    ∙ ap (λ (ps : List Tagged). ps ++ left) (map-append (row_pair (new ++ later)) rows (row ∷ []))
    ∙ append_assoc (rows_pairs (new ++ later) rows) (row_pair (new ++ later) row ∷ []) left
    ∙ ap (λ (p : Tagged). rows_pairs (new ++ later) rows ++ p ∷ left) (is.is later)
    ∙ ap (λ (ps : List Tagged). rows_pairs (new ++ later) rows ++ ps) (sym first)
    ∙ ap (λ (ps : List (List ℕ)). rows_pairs ps rows ++ rest) grown
    ∙ before (is.grown.0 ++ later)
  where
    grown : new ++ later ≡ old ++ (is.grown.0 ++ later)
    grown = ap (λ (ps : List (List ℕ)). ps ++ later) is.grown.1 ∙ append_assoc old is.grown.0 later

-- all rows
pub rows_all : (paths : List (List ℕ)) (rows : List PairRow) (rest list : List Tagged) → AreRowsSoFar paths rows rest list → rest ≡ [] → rows_pairs paths rows ≡ list
rows_all paths rows rest list are none =
    sym (append-nil (rows_pairs paths rows))
    ∙ ap (λ (ps : List (List ℕ)). rows_pairs ps rows ++ []) (sym (append-nil paths))
    ∙ ap (λ (ps : List Tagged). rows_pairs (paths ++ []) rows ++ ps) (sym none)
    ∙ are []

-- paths that have grown are as many at least
pub grown_length : (old new : List (List ℕ)) (pair : Tagged) (row : PairRow) (n : ℕ) → IsRowIn old new pair row → n ≤ length old → n ≤ length new
grown_length old new pair row n is l = omega (arith, l, ap length is.grown.1, length-append old is.grown.0)

-- a path that has a number has it whatever is put behind
pub numbered_front : (paths later : List (List ℕ)) (path : List ℕ) (number : ℕ) → slice_get paths number ≡ Some path → path_numbered (paths ++ later) number ≡ path
numbered_front paths later path number stands = get_or_from_slice_get (paths ++ later) number path [] (slice_get_front paths later number path stands)

-- the row of a pair, from its path's number
pub row_from_number : (old new : List (List ℕ)) (pair : Tagged) (row : PairRow) → IsNumberedIn old new pair.dot.path row.path
    → row.triple ≡ pair.triple → row.tick ≡ pair.dot.tick → IsRowIn old new pair row
row_from_number old new pair row numbered triple tick = record {
  grown = numbered.grown;
  is = λ later i. record {
    triple = triple i;
    dot = record { path = numbered_front new later pair.dot.path row.path numbered.stands i; tick = tick i };
  };
}

-- a path that was there already
pub numbered_there : (paths : List (List ℕ)) (path : List ℕ) (number : ℕ) → slice_get paths number ≡ Some path → IsNumberedIn paths paths path number
numbered_there paths path number stands = record { grown = ([], sym (append-nil paths)); stands = stands }

-- a path that is put behind
pub numbered_behind : (old new : List (List ℕ)) (path : List ℕ) (number : ℕ) → new ≡ old ++ path ∷ [] → number ≡ length old → IsNumberedIn old new path number
numbered_behind old new path number pushed count = record {
  grown = (path ∷ [], pushed);
  stands = ap (λ (ps : List (List ℕ)). slice_get ps number) pushed ∙ ap (λ (n : ℕ). slice_get (old ++ path ∷ []) n) count ∙ slice_get_end old path;
}
