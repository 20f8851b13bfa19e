-- Places in lists: where a range is held, where the first of a kind stands, and what is left once some are left out.
use Rattle.std.proofs.Common.{◌≡◌, ℕ, zero, suc, ◌+◌, ◌<◌, List, [], ◌∷◌, ◌++◌, length, get_or, take, Bool, true, false, IsTrue, MatchBool, ◌↔◌, inl, inr, refl, sym, subst, arith}
use Rattle.std.proofs.lemmas.Bool.{false≢true}
use Rattle.std.proofs.lemmas.List.{take_more}
use Rattle.std.specs.List.{AllWithin, HoldsAt, items_where_true, remove}
use Rattle.std.specs.List.Retain.{IsFiltered, ReturnsInTurn}
use Rattle.tree_clock.specs.declared.dots.Range.{Range}
use Rattle.mld_ops.specs.Entry.{EntryValue}
use Rattle.mld_ops.specs.Picking.{DropsThose, HasNone, TakesFirst}
use Rattle.causal_buffer.specs.HeldEntries.{IsHeldRange}

-- ---- ranges that are held

-- the range of an entry at a place is held
held_at : (entries : List EntryValue) (range : Range) (k : ℕ) → k < length entries → HoldsAt (λ (entry : EntryValue). entry.range ≡ range) entries k → IsHeldRange entries range
held_at [] range k l h = absurd (omega arith)
held_at (entry ∷ entries) range zero l h = inl (h entry)
held_at (entry ∷ entries) range (suc k) l h = inr (held_at entries range k (omega arith) (λ d. h d))

-- a range that no entry has isn't held
unheld_within : (entries : List EntryValue) (range : Range) → AllWithin (λ (entry : EntryValue). ¬ (entry.range ≡ range)) entries 0 (length entries) → ¬ IsHeldRange entries range
unheld_within [] range a h = h
unheld_within (entry ∷ entries) range a (inl s) = a 0 entry (omega arith) (omega arith) s
unheld_within (entry ∷ entries) range a (inr h) =
    unheld_within entries range (λ k d low high. a (suc k) d (omega arith) (omega arith)) h

-- a search for the range tells whether it is held
pub held_from_search : (entries : List EntryValue) (range : Range) (found : Bool)
    → MatchBool found ((k : ℕ) × (k < length entries) × HoldsAt (λ (entry : EntryValue). entry.range ≡ range) entries k) (AllWithin (λ (entry : EntryValue). ¬ (entry.range ≡ range)) entries 0 (length entries))
    → IsTrue found ↔ IsHeldRange entries range
held_from_search entries range true m = (λ _. held_at entries range m.0 m.1 m.2, λ _. refl)
held_from_search entries range false m = (λ t. absurd (false≢true t), λ h. absurd (unheld_within entries range m h))

module _ {X : Type 0} (P : X → Type 0) where
  -- ---- lists of which none is of a kind

  -- none is of the kind where none is at any place
  pub none_within : (xs : List X) → AllWithin (λ x. ¬ P x) xs 0 (length xs) → HasNone P xs
  none_within [] a = tt
  none_within (x ∷ xs) a = (
    a 0 x (omega arith) (omega arith),
    none_within xs (λ k d low high. a (suc k) d (omega arith) (omega arith)),
  )

  none_push : (xs : List X) (x : X) → HasNone P xs → ¬ P x → HasNone P (xs ++ x ∷ [])
  none_push [] x n h = (h, tt)
  none_push (y ∷ xs) x n h = (n.0, none_push xs x n.1 h)

  -- one more isn't of the kind
  pub none_more : (xs : List X) (i : ℕ) (x : X) → i < length xs → x ≡ get_or xs i x → HasNone P (take i xs) → ¬ P x → HasNone P (take (i + 1) xs)
  none_more xs i x l e n h =
      subst (λ (ys : List X). HasNone P ys) (sym (take_more xs i x l)) (none_push (take i xs) (get_or xs i x) n (subst (λ y. ¬ P y) e h))

  -- one is of the kind
  pub none_fails : (xs : List X) (i : ℕ) (x : X) → i < length xs → x ≡ get_or xs i x → P x → ¬ HasNone P xs
  none_fails [] i x l e h n = omega arith
  none_fails (y ∷ xs) zero x l e h n = n.0 (subst P e h)
  none_fails (y ∷ xs) (suc i) x l e h n = none_fails xs i x (omega arith) e h n.1

  -- ---- the first of a kind

  -- the first of the kind is taken out at its place
  pub takes_at : (xs : List X) (i : ℕ) (x : X) → i < length xs → x ≡ get_or xs i x → HoldsAt P xs i → AllWithin (λ y. ¬ P y) xs 0 i → TakesFirst P xs x (remove xs i)
  takes_at [] i x l e h a = absurd (omega arith)
  takes_at (y ∷ xs) zero x l e h a = inl (h y, e, refl)
  takes_at (y ∷ xs) (suc i) x l e h a = inr (
    a 0 y (omega arith) (omega arith),
    remove xs i,
    takes_at xs i x (omega arith) e (λ d. h d) (λ k d low high. a (suc k) d (omega arith) (omega arith)),
    refl,
  )

  -- ---- what is left out

  module _ {F : Type 0} (R : F → X → Bool → F → Type 0) (f : F) (says : (x : X) (b : Bool) (g : F) → R f x b g → (b ≡ true → ¬ P x) × (b ≡ false → P x) × (g ≡ f)) where
    drops_in_turn : (bs : List Bool) (xs : List X) (g : F) → length bs ≡ length xs → ReturnsInTurn R f bs xs g → DropsThose P xs (items_where_true bs xs)
    drops_in_turn [] [] g l r = refl
    drops_in_turn [] (x ∷ xs) g l r = absurd (omega arith)
    drops_in_turn (b ∷ bs) [] g l r = absurd (omega arith)
    drops_in_turn (true ∷ bs) (x ∷ xs) g l r =
        let s = says x true r.0 r.1 in
        inr (s.0 refl, items_where_true bs xs, drops_in_turn bs xs g (omega arith) (subst (λ h. ReturnsInTurn R h bs xs g) s.2 r.2), refl)
    drops_in_turn (false ∷ bs) (x ∷ xs) g l r =
        let s = says x false r.0 r.1 in
        inl (s.1 refl, drops_in_turn bs xs g (omega arith) (subst (λ h. ReturnsInTurn R h bs xs g) s.2 r.2))

    -- a filter that keeps just what isn't of the kind
    pub drops_filtered : (xs ys : List X) → IsFiltered R f xs ys → DropsThose P xs ys
    drops_filtered xs ys h = subst (λ zs. DropsThose P xs zs) (sym h.4) (drops_in_turn h.0 xs h.1 h.2 h.3)
