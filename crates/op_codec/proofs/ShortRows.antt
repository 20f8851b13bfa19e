-- Rows of pairs, one by one, and whether they may be written.
use Rattle.std.proofs.Common.{◌≡◌, ◌∙◌, ℕ, ◌<◌, ◌≤◌, ◌^◌, List, All, length, get_or, sym, ap, subst, arith}
use Rattle.std.proofs.lemmas.List.{length-map, get_or-map}
use Rattle.std.proofs.lemmas.List.Elements.{All-map}
use Rattle.mld_ops.specs.PairLists.{row_pair, rows_pairs}
use Rattle.mld_ops.specs.declared.pair_lists.PairRow.{PairRow}
use Rattle.mld_ops.specs.declared.tagged.Tagged.{Tagged}
use Rattle.op_codec.specs.Stored.{IsShortTriple, AreShortPairs}

module _ (paths : List (List ℕ)) (rows : List PairRow) where
  -- there are as many pairs as rows
  pub as_many : length (rows_pairs paths rows) ≡ length rows
  as_many = length-map rows (row_pair paths)

  -- a place of a row is one of a pair
  pub pair_within : (i : ℕ) → i < length rows → i < length (rows_pairs paths rows)
  pair_within i l = omega (arith, l, as_many)

  -- the pair of a row that is read
  pub pair_read : (i : ℕ) (row : PairRow) → i < length rows → row ≡ get_or rows i row → row_pair paths row ≡ get_or (rows_pairs paths rows) i (row_pair paths row)
  pair_read i row l e = ap (row_pair paths) e ∙ sym (get_or-map (row_pair paths) rows i row (row_pair paths row) l)

  -- rows of short triples are short pairs
  pub short_pairs : length rows < 2 ^ 32 → All (λ (row : PairRow). IsShortTriple row.triple) rows → AreShortPairs (rows_pairs paths rows)
  short_pairs l all = record {
    count = omega (arith, l, as_many);
    texts = All-map (λ (pair : Tagged). IsShortTriple pair.triple) (row_pair paths) rows all;
  }

  -- there are few rows where there are few pairs
  pub few_rows : AreShortPairs (rows_pairs paths rows) → length rows < 2 ^ 32
  few_rows short = let few = short.count in omega (arith, few, as_many)

  -- a row of short pairs has a short triple
  pub short_row : AreShortPairs (rows_pairs paths rows) → (i : ℕ) (row : PairRow) → i < length rows → row ≡ get_or rows i row → IsShortTriple row.triple
  short_row short i row l e =
      subst (λ (pair : Tagged). IsShortTriple pair.triple) (sym (pair_read i row l e)) (short.texts i (row_pair paths row) (pair_within i l))

  -- once each row is passed each pair is
  pub all_passed : (i : ℕ) → length rows ≤ i → length (rows_pairs paths rows) ≤ i
  all_passed i l = omega (arith, l, as_many)
