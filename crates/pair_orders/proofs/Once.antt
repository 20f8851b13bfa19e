-- Lists in which nothing stands twice.
use Rattle.std.proofs.Common.{◌≡◌, ◌∙◌, ◌+◌, ◌≤◌, List, [], ◌∷◌, ◌++◌, ◌⊎◌, ◌↔◌, length, refl, sym, subst, inl, inr, arith}
use Rattle.std.specs.Cmp.{IsTotalOrder}
use Rattle.std.specs.declared.cmp.Ordering.{Ordering}
use Rattle.tree_clock.specs.Lists.{Has, IsAscending}
use Rattle.mld_ops.proofs.AscendingLaws.{has_append, has_left, has_right, below_member, not_below_itself}
use Rattle.pair_orders.specs.PairEntries.{StandOnce}

-- one more behind the others
pub once_more : {X : Type 0} (xs : List X) (x : X) → StandOnce xs → ¬ Has xs x → StandOnce (xs ++ x ∷ [])
once_more [] x once not = (λ h. h, tt)
once_more (y ∷ xs) x once not = (
  λ h. elim (has_append xs (x ∷ []) y h) [
    | inl k ↦ once.0 k
    | inr k ↦ elim k [ inl e ↦ not (inl (sym e)) | inr n ↦ n ]
  ],
  once_more xs x once.1 (λ h. not (inr h)),
)

-- without the last
pub once_front : {X : Type 0} (xs : List X) (x : X) → StandOnce (xs ++ x ∷ []) → StandOnce xs
once_front [] x once = tt
once_front (y ∷ xs) x once = (λ h. once.0 (has_left xs (x ∷ []) y h), once_front xs x once.1)

pub once_last : {X : Type 0} (xs : List X) (x : X) → StandOnce (xs ++ x ∷ []) → ¬ Has xs x
once_last [] x once h = h
once_last (y ∷ xs) x once (inl e) = once.0 (has_right xs (x ∷ []) y (inl (sym e)))
once_last (y ∷ xs) x once (inr h) = once_last xs x once.1 h

-- in a list that ascends nothing stands twice
pub once_ascending : {X : Type 0} (R : X → X → Ordering) → IsTotalOrder R → (xs : List X) → IsAscending R xs → StandOnce xs
once_ascending R total [] a = tt
once_ascending R total (x ∷ xs) a = (λ h. not_below_itself R total x (below_member R x xs x a.0 h), once_ascending R total xs a.1)

-- a list without one of its members
pub record IsWithout {X : Type 0} (xs : List X) (x : X) (rest : List X) : Type 0 where
  pub length_is : length xs ≡ length rest + 1
  pub others : (y : X) → Has xs y → ¬ (y ≡ x) → Has rest y

pub without : {X : Type 0} (xs : List X) (x : X) → Has xs x → (rest : List X) × IsWithout xs x rest
without [] x h = absurd h
without (y ∷ xs) x (inl e) = (xs, record { length_is = omega arith; others = λ z h n. elim h [ inl k ↦ absurd (n (sym k ∙ e)) | inr k ↦ k ] })
without (y ∷ xs) x (inr h) =
    let w = without xs x h in
    (y ∷ w.0, record { length_is = let l = w.1.length_is in omega arith; others = λ z k n. elim k [ inl e ↦ inl e | inr m ↦ inr (w.1.others z m n) ] })

-- where each member is one of another list, that isn't shorter
pub length_within : {X : Type 0} (xs ys : List X) → StandOnce xs → ((x : X) → Has xs x → Has ys x) → length xs ≤ length ys
length_within [] ys once h = omega arith
length_within (x ∷ xs) ys once h =
    let w = without ys x (h x (inl refl)) in
    let l = length_within xs w.0 once.1 (λ y k. w.1.others y (h y (inr k)) (λ e. once.0 (subst (Has xs) e k))) in
    let m = w.1.length_is in
    omega arith

-- lists with the same members are of one length
pub length_same : {X : Type 0} (xs ys : List X) → StandOnce xs → StandOnce ys → ((x : X) → Has xs x ↔ Has ys x) → length xs ≡ length ys
length_same xs ys once other same =
    let l = length_within xs ys once (λ x. (same x).0) in
    let m = length_within ys xs other (λ x. (same x).1) in
    omega arith

-- one member more
pub length_more : {X : Type 0} (xs ys : List X) (x : X) → StandOnce xs → StandOnce ys → ¬ Has xs x → ((y : X) → Has ys y ↔ (Has xs y ⊎ (y ≡ x))) → length ys ≡ length xs + 1
length_more xs ys x once other not more =
    let l = length_same ys (x ∷ xs) other (not, once)
    (λ y. (λ h. elim ((more y).0 h) [ inl k ↦ inr k | inr e ↦ inl (sym e) ], λ h. (more y).1 (elim h [ inl e ↦ inr (sym e) | inr k ↦ inl k ]))) in
    omega arith
