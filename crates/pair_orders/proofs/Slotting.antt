-- Slots that are taken, let go and made.
use Rattle.std.proofs.Common.{◌≡◌, ◌∙◌, ◌≤◌, ◌<◌, ℕ, suc, zero, List, [], ◌∷◌, ◌++◌, Option, None, Some, IsSome, length, refl, sym, subst, inl, inr, arith, length-append, slice_set}
use Rattle.std.proofs.lemmas.Bool.{false≢true}
use Rattle.std.proofs.lemmas.List.{get_or-set_same, get_or-set_other}
use Rattle.std.proofs.Math.ListN.{length-set}
use Rattle.mld_ops.specs.declared.pair_lists.PairRow.{PairRow}
use Rattle.tree_clock.specs.Lists.{Has}
use Rattle.mld_ops.proofs.AscendingLaws.{has_append, has_left, has_right}
use Rattle.pair_orders.specs.Keys.{slot_at}
use Rattle.pair_orders.specs.PairEntries.{StandOnce}
use Rattle.pair_orders.specs.KeptPairs.{AreFree, PutsAt}
use Rattle.pair_orders.proofs.Once.{once_more, once_front, once_last}

-- an occupied slot is one of the slots, and isn't an empty one
pub occupied_within : (slots : List (Option PairRow)) (slot : ℕ) → IsSome (slot_at slots slot) → slot < length slots
occupied_within [] slot h = absurd (false≢true h)
occupied_within (x ∷ slots) zero h = omega arith
occupied_within (x ∷ slots) (suc slot) h = let l = occupied_within slots slot h in omega arith

pub none_or_some : {A : Type 0} (content : Option A) → content ≡ None → IsSome content → ⊥
none_or_some None e h = false≢true h
none_or_some (Some a) e h = cc

-- what a written slot shows, and the others
pub puts_at : (slots : List (Option PairRow)) (slot : ℕ) (content : Option PairRow) → slot < length slots → PutsAt slots (slice_set slots slot content) slot content
puts_at slots slot content l = record {
  here = get_or-set_same slots slot content None l;
  elsewhere = λ other n. get_or-set_other slots slot other content None n;
}

-- a free slot that is taken
pub taken_free : (slots : List (Option PairRow)) (free rest : List ℕ) (slot : ℕ) (content : Option PairRow) → AreFree slots free → free ≡ rest ++ slot ∷ [] → AreFree (slice_set slots slot content) rest
taken_free slots free rest slot content are e =
    let once = subst (λ ns. StandOnce ns) e are.once in record {
      within = λ other h. let l = are.within other (member other h) in omega (arith, length-set slots slot content);
      empty = λ other h. get_or-set_other slots slot other content None (λ k. once_last rest slot once (subst (Has rest) k h)) ∙ are.empty other (member other h);
      once = once_front rest slot once;
    }
  where
    member : (other : ℕ) → Has rest other → Has free other
    member other h = subst (λ ns. Has ns other) (sym e) (has_left rest (slot ∷ []) other h)

pub last_free : (free rest : List ℕ) (slot : ℕ) → free ≡ rest ++ slot ∷ [] → Has free slot
last_free free rest slot e = subst (λ ns. Has ns slot) (sym e) (has_right rest (slot ∷ []) slot (inl refl))

-- an occupied slot that is let go
pub let_free : (slots : List (Option PairRow)) (free more : List ℕ) (slot : ℕ) → AreFree slots free → IsSome (slot_at slots slot) → more ≡ free ++ slot ∷ [] → AreFree (slice_set slots slot None) more
let_free slots free more slot are occupied e =
    subst (AreFree (slice_set slots slot None)) (sym e) (record {
      within = λ other h. elim (has_append free (slot ∷ []) other h) [
        | inl k ↦ let l = are.within other k in omega (arith, length-set slots slot None)
        | inr k ↦ elim k [ inl same ↦ let m = occupied_within slots slot occupied in omega (arith, length-set slots slot None) | inr n ↦ absurd n ]
      ];
      empty = λ other h. elim (has_append free (slot ∷ []) other h) [
        | inl k ↦ get_or-set_other slots slot other None None (λ same. apart (subst (Has free) same k)) ∙ are.empty other k
        | inr k ↦ elim k [
          | inl same ↦ subst (λ n. slot_at (slice_set slots slot None) n ≡ None) same (get_or-set_same slots slot None None (occupied_within slots slot occupied))
          | inr n ↦ absurd n
        ]
      ];
      once = once_more free slot are.once apart;
    })
  where
    apart : Has free slot → ⊥
    apart h = none_or_some (slot_at slots slot) (are.empty slot h) occupied

-- an empty slot behind the others changes none
pub slot_at-more : (slots : List (Option PairRow)) (slot : ℕ) → slot_at (slots ++ None ∷ []) slot ≡ slot_at slots slot
slot_at-more [] zero = refl
slot_at-more [] (suc slot) = refl
slot_at-more (x ∷ slots) zero = refl
slot_at-more (x ∷ slots) (suc slot) = slot_at-more slots slot

slot_at-behind : (slots : List (Option PairRow)) (slot : ℕ) → length slots ≤ slot → slot_at slots slot ≡ None
slot_at-behind [] slot l = refl
slot_at-behind (x ∷ slots) zero l = absurd (omega arith)
slot_at-behind (x ∷ slots) (suc slot) l = slot_at-behind slots slot (omega arith)

-- it is a free one
pub made_free : (slots wider : List (Option PairRow)) (free more : List ℕ) (slot : ℕ) → AreFree slots free → slot ≡ length slots → wider ≡ slots ++ None ∷ [] → more ≡ free ++ slot ∷ [] → AreFree wider more
made_free slots wider free more slot are last e f =
    subst (λ xs. AreFree xs more) (sym e) (subst (AreFree (slots ++ None ∷ [])) (sym f) (record {
      within = λ other h. elim (has_append free (slot ∷ []) other h) [
        | inl k ↦ let l = are.within other k in omega (arith, length-append slots (None ∷ []))
        | inr k ↦ elim k [ inl same ↦ omega (arith, length-append slots (None ∷ [])) | inr n ↦ absurd n ]
      ];
      empty = λ other h. slot_at-more slots other ∙ elim (has_append free (slot ∷ []) other h) [
        | inl k ↦ are.empty other k
        | inr k ↦ elim k [ inl same ↦ slot_at-behind slots other (omega arith) | inr n ↦ absurd n ]
      ];
      once = once_more free slot are.once (λ h. let l = are.within slot h in omega arith);
    }))
