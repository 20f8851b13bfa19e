-- Pairs that get their numbers one after another, from the last on.
use Rattle.std.proofs.Common.{◌≡◌, ◌∙◌, List, [], ◌∷◌, ◌++◌, map, ◌↔◌, ◌⊎◌, sym, subst, ap, inl, inr}
use Rattle.std.proofs.lemmas.List.{map-append}
use Rattle.tree_clock.specs.Lists.{Has, IsAscending}
use Rattle.mld_ops.specs.declared.pair_lists.PairRow.{PairRow}
use Rattle.mld_ops.specs.declared.tagged.Tagged.{Tagged}
use Rattle.mld_ops.specs.Tagged.{tagged_cmp}
use Rattle.mld_ops.proofs.AscendingLaws.{below_member, has_append, has_left, has_right, not_below_itself}
use Rattle.mld_ops.proofs.TaggedLaws.{tagged_total}
use Rattle.pair_orders.specs.PairEntries.{StandOnce}
use Rattle.pair_orders.specs.declared.keys.Numbers.{Numbers}
use Rattle.mld_ops.specs.PairLists.{row_pair}
use Rattle.graph_index.specs.Graphs.{entry_pair, pairs_of}
use Rattle.graph_index.specs.Matching.{HasNoRepeat}
use Rattle.graph_index.specs.TermNumbers.{TablesValue, AreNumbersOf, HaveOwnNumbers, IsOwnEntry}
use Rattle.graph_index.proofs.Numbers.{same_pair}
use Rattle.graph_index.proofs.Sorting.{has_image, image_has}

-- no pair stands twice where they ascend
pub ascending_once : (pairs : List Tagged) → IsAscending tagged_cmp pairs → HasNoRepeat pairs
ascending_once [] a = tt
ascending_once (pair ∷ pairs) a =
    (λ h. not_below_itself tagged_cmp tagged_total pair (below_member tagged_cmp pair pairs pair a.0 h), ascending_once pairs a.1)

-- the last of a list without repeats isn't in front of itself
pub front_once : (rest more : List Tagged) (pair : Tagged) → more ≡ rest ++ pair ∷ [] → HasNoRepeat more → HasNoRepeat rest × (¬ Has rest pair)
front_once rest more pair e once = by rest (subst HasNoRepeat e once)
  where
    by : (rest : List Tagged) → HasNoRepeat (rest ++ pair ∷ []) → HasNoRepeat rest × (¬ Has rest pair)
    by [] o = (tt, λ h. h)
    by (x ∷ rest) o = let r = by rest o.1 in (
      (λ h. o.0 (has_left rest (pair ∷ []) x h), r.0),
      λ h. elim h [
        | inl q ↦ o.0 (has_right rest (pair ∷ []) x (inl (sym q)))
        | inr k ↦ r.1 k
      ],
    )

once_more : {X : Type 0} (xs : List X) (x : X) → StandOnce xs → ¬ Has xs x → StandOnce (xs ++ x ∷ [])
once_more [] x o n = (λ h. h, tt)
once_more (y ∷ xs) x o n = (
  λ h. elim (has_append xs (x ∷ []) y h) [
    | inl k ↦ o.0 k
    | inr k ↦ elim k [ inl e ↦ n (inl (sym e)) | inr m ↦ m ]
  ],
  once_more xs x o.1 (λ h. n (inr h)),
)

-- one more pair with its numbers
module _ (tables : TablesValue) (old new : List (Numbers × PairRow)) (numbers : Numbers) (row : PairRow) (pair : Tagged) (is : new ≡ old ++ (numbers, row) ∷ []) (row_is : row_pair tables.paths row ≡ pair) where
  pub own_more : HaveOwnNumbers tables old → IsOwnEntry tables (numbers, row) → HaveOwnNumbers tables new
  own_more are own e h = elim (has_append old ((numbers, row) ∷ []) e (subst (λ (zs : List (Numbers × PairRow)). Has zs e) is h)) [
    | inl k ↦ are e k
    | inr k ↦ elim k [ inl q ↦ subst (λ (w : Numbers × PairRow). IsOwnEntry tables w) q own | inr m ↦ absurd m ]
  ]

  pub stand_once_more : HaveOwnNumbers tables old → AreNumbersOf tables pair numbers → StandOnce (map (λ (e : Numbers × PairRow). e.0) old) → ¬ Has (pairs_of tables.paths old) pair
      → StandOnce (map (λ (e : Numbers × PairRow). e.0) new)
  stand_once_more are own once apart =
      subst StandOnce (sym (ap (map (λ (e : Numbers × PairRow). e.0)) is ∙ map-append (λ (e : Numbers × PairRow). e.0) old ((numbers, row) ∷ [])))
      (once_more (map (λ (e : Numbers × PairRow). e.0) old) numbers once (λ h.
      let i = image_has (λ (e : Numbers × PairRow). e.0) old numbers h in
      apart (subst (λ (w : Tagged). Has (pairs_of tables.paths old) w) (same_pair tables (entry_pair tables.paths i.0) pair i.0.0 numbers i.2 (are i.0 i.1).numbers own) (has_image (entry_pair tables.paths) old i.0 i.1))))

  pub members_more : (other : Tagged) → Has (pairs_of tables.paths new) other ↔ (Has (pairs_of tables.paths old) other ⊎ (other ≡ pair))
  members_more other =
      let same = ap (pairs_of tables.paths) is ∙ map-append (entry_pair tables.paths) old ((numbers, row) ∷ []) ∙ ap (λ (w : Tagged). pairs_of tables.paths old ++ w ∷ []) row_is in (
        λ h. elim (has_append (pairs_of tables.paths old) (pair ∷ []) other (subst (λ (zs : List Tagged). Has zs other) same h)) [
          | inl k ↦ inl k
          | inr k ↦ elim k [ inl q ↦ inr (sym q) | inr m ↦ absurd m ]
        ],
        λ h. subst (λ (zs : List Tagged). Has zs other) (sym same) (elim h [
          | inl k ↦ has_left (pairs_of tables.paths old) (pair ∷ []) other k
          | inr q ↦ has_right (pairs_of tables.paths old) (pair ∷ []) other (inl (sym q))
        ]),
      )

-- a list that is empty has no pair
pub none_there : (tables : TablesValue) (entries : List (Numbers × PairRow)) (pair : Tagged) → entries ≡ [] → Has (pairs_of tables.paths entries) pair → ⊥
none_there tables entries pair e h = subst (λ (zs : List (Numbers × PairRow)). Has (pairs_of tables.paths zs) pair) e h
