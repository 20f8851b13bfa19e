-- A loop over ascending pairs that keeps those of a range.
use Rattle.std.proofs.Common.{◌≡◌, ℕ, ◌+◌, ◌<◌, ◌≤◌, List, [], ◌∷◌, ◌++◌, length, get_or, take, drop, inl, inr, sym, ◌∙◌, subst}
use Rattle.std.proofs.lemmas.List.{take_more, take_all, take-append-drop}
use Rattle.std.specs.declared.cmp.Ordering.TheVariants.{Less}
use Rattle.tree_clock.specs.declared.dots.Range.{Range}
use Rattle.tree_clock.specs.Dot.{IsIn}
use Rattle.tree_clock.specs.Lists.{Has, IsAscending}
use Rattle.mld_ops.specs.declared.tagged.Tagged.{Tagged}
use Rattle.mld_ops.specs.Applies.{IsOfRange}
use Rattle.mld_ops.specs.Tagged.{tagged_cmp}
use Rattle.mld_ops.proofs.AscendingLaws.{has_append, has_left, has_right, ascending_append, ascending_front, below_across, has_take_more}

module _ (range : Range) (pairs : List Tagged) where
  pub of_none : (found : List Tagged) → found ≡ [] → IsOfRange range (take 0 pairs) found
  of_none found e = rw e (record { ascending = tt; members = λ pair. (λ h. absurd h, λ h. absurd h.0) })

  pub of_all : (i : ℕ) (found : List Tagged) → length pairs ≤ i → IsOfRange range (take i pairs) found → IsOfRange range pairs found
  of_all i found l h = subst (λ (xs : List Tagged). IsOfRange range xs found) (take_all i pairs l) h

  module _ (i : ℕ) (pair : Tagged) (found : List Tagged) (l : i < length pairs) (e : pair ≡ get_or pairs i pair) (so_far : IsOfRange range (take i pairs) found) where
    -- one more pair, which isn't of the range
    pub of_skip : ¬ IsIn range pair.dot → IsOfRange range (take (i + 1) pairs) found
    of_skip out = record {
      ascending = so_far.ascending;
      members = λ x. (
        λ h. let m = (so_far.members x).0 h in ((has_take_more pairs i pair x l).1 (inl m.0), m.1),
        λ h. elim ((has_take_more pairs i pair x l).0 h.0) [
          | inl m ↦ (so_far.members x).1 (m, h.1)
          | inr same ↦ absurd (out (subst (λ (w : Tagged). IsIn range w.dot) (sym (e ∙ same)) h.1))
        ],
      );
    }

    -- one more, which is
    pub of_more : IsAscending tagged_cmp pairs → (copy : Tagged) → copy ≡ pair → IsIn range pair.dot → IsOfRange range (take (i + 1) pairs) (found ++ copy ∷ [])
    of_more a copy c inside = rw c (record {
      ascending = ascending_append tagged_cmp found (pair ∷ []) so_far.ascending (tt, tt) (λ x y h k. elim k [
        | inl same ↦ subst (λ (w : Tagged). tagged_cmp x w ≡ Less) same (below x ((so_far.members x).0 h).0)
        | inr none ↦ absurd none
      ]);
      members = λ x. (
        λ h. elim (has_append found (pair ∷ []) x h) [
          | inl k ↦ let m = (so_far.members x).0 k in ((has_take_more pairs i pair x l).1 (inl m.0), m.1)
          | inr k ↦ elim k [
            | inl same ↦ ((has_take_more pairs i pair x l).1 (inr (sym e ∙ same)), subst (λ (w : Tagged). IsIn range w.dot) same inside)
            | inr none ↦ absurd none
          ]
        ],
        λ h. elim ((has_take_more pairs i pair x l).0 h.0) [
          | inl m ↦ has_left found (pair ∷ []) x ((so_far.members x).1 (m, h.1))
          | inr same ↦ has_right found (pair ∷ []) x (inl (e ∙ same))
        ],
      );
    })
      where
        front : IsAscending tagged_cmp (take i pairs ++ get_or pairs i pair ∷ [])
        front = subst (λ (xs : List Tagged). IsAscending tagged_cmp xs) (take_more pairs i pair l)
            (ascending_front tagged_cmp (take (i + 1) pairs) (drop (i + 1) pairs) (subst (λ (xs : List Tagged). IsAscending tagged_cmp xs) (sym (take-append-drop (i + 1) pairs)) a))

        below : (x : Tagged) → Has (take i pairs) x → tagged_cmp x pair ≡ Less
        below x h = below_across tagged_cmp (take i pairs) (get_or pairs i pair ∷ []) x pair front h (inl (sym e))
