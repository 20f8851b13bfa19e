-- A loop over a list that tests each element.
use Rattle.std.proofs.Common.{◌≡◌, ◌∙◌, ℕ, ◌+◌, ◌<◌, ◌≤◌, List, [], ◌∷◌, ◌++◌, length, get_or, take, Bool, true, false, IsTrue, ◌↔◌, refl, ap, sym, subst, arith}
use Rattle.std.proofs.lemmas.Bool.{true≢false, false≢true}
use Rattle.std.proofs.lemmas.List.{take_more, take_all}
use Rattle.std.proofs.lemmas.List.Elements.{All-from_recursion}
use Rattle.std.specs.Cmp.{IsTotalOrder}
use Rattle.std.specs.List.{AllByRecursion, IsAllAdjacentAnswer}
use Rattle.std.specs.Ordering.{is_lt}
use Rattle.std.specs.declared.cmp.Ordering.{Ordering}
use Rattle.std.specs.declared.cmp.Ordering.TheVariants.{Less, Equal, Greater}
use Rattle.tree_clock.specs.Lists.{IsAscending}
use Rattle.mld_ops.proofs.AscendingLaws.{ascending_from_adjacent, adjacent_from_ascending}

-- what holds of each element of two lists holds of each of both
all_push : {X : Type 0} (P : X → Type 0) (xs : List X) (x : X) → AllByRecursion P xs → P x → AllByRecursion P (xs ++ x ∷ [])
all_push P [] x a h = (h, tt)
all_push P (y ∷ xs) x a h = (a.0, all_push P xs x a.1 h)

-- one more element passes
pub all_more : {X : Type 0} (P : X → Type 0) (xs : List X) (i : ℕ) (x : X) → i < length xs → x ≡ get_or xs i x → AllByRecursion P (take i xs) → P x → AllByRecursion P (take (i + 1) xs)
all_more P xs i x l e a h = rw (take_more xs i x l) (all_push P (take i xs) (get_or xs i x) a (subst P e h))

-- one element fails
pub all_fails : {X : Type 0} (P : X → Type 0) (xs : List X) (i : ℕ) (x : X) → i < length xs → x ≡ get_or xs i x → ¬ P x → ¬ AllByRecursion P xs
all_fails P xs i x l e n a = n (subst P (sym e) (All-from_recursion P xs a i x l))

-- each element has passed
pub all_passed : {X : Type 0} (P : X → Type 0) (xs : List X) (i : ℕ) → length xs ≤ i → AllByRecursion P (take i xs) → AllByRecursion P xs
all_passed P xs i l a = subst (λ ys. AllByRecursion P ys) (take_all i xs l) a

lower : (o : Ordering) → true ≡ is_lt o → o ≡ Less
lower Less h = refl
lower Equal h = absurd (true≢false h)
lower Greater h = absurd (true≢false h)

-- whether each element is below the next one is whether the list ascends
pub ascending_from_answer : {X : Type 0} (R : X → X → Ordering) (total : IsTotalOrder R) (xs : List X) (r : Bool) → IsAllAdjacentAnswer (λ x y b. b ≡ is_lt (R x y)) xs r → IsTrue r ↔ IsAscending R xs
ascending_from_answer R total xs true h = (λ _. ascending_from_adjacent R total xs (λ k d l. lower (R (get_or xs k d) (get_or xs (k + 1) d)) (h k d l)), λ _. refl)
ascending_from_answer R total [] false h = absurd (omega (arith, h.1))
ascending_from_answer R total (x ∷ xs) false h = (
  λ t. absurd (false≢true t),
  λ a. let e : R (get_or (x ∷ xs) h.0 x) (get_or (x ∷ xs) (h.0 + 1) x) ≡ Less = adjacent_from_ascending R (x ∷ xs) a h.0 x h.1 in absurd (false≢true (h.2 x ∙ ap is_lt e)),
)
