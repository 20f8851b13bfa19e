-- A list has one sorting, where the order tells its elements apart.
use Rattle.std.proofs.Common.{◌≡◌, ◌∙◌, ℕ, suc, ◌+◌, ◌<◌, List, [], ◌∷◌, Bool, true, false, cond, All, get_or, refl, sym, ap, subst, inl, inr, true≢false, arith}
use Rattle.std.specs.Cmp.{IsTotalOrder, eq_by_cmp_equiv}
use Rattle.std.specs.List.{AllByRecursion}
use Rattle.std.specs.List.Sorted.{IsPermutation, IsSorted}
use Rattle.std.specs.Ordering.{is_eq, is_lt, ordering_reverse}
use Rattle.std.specs.declared.cmp.Ordering.{Ordering}
use Rattle.std.specs.declared.cmp.Ordering.TheVariants.{Less, Equal, Greater}
use Rattle.std.proofs.lemmas.Bool.{cases_Bool}
use Rattle.std.proofs.lemmas.List.Sorted.{All-permutation, ranks_by, sorted_far}
use Rattle.jrql_ast.specs.QueryAnswers.{IsSortingOf}
use Rattle.jrql_ast.proofs.Rearranging.{by_neighbours}

-- how often a test is passed
abbrev times : {X : Type 0} → (X → Bool) → List X → ℕ
times p [] = 0
times p (x ∷ xs) = cond (p x) 1 0 + times p xs

turned_sum : (a b n : ℕ) → a + (b + n) ≡ b + (a + n)
turned_sum a b n = omega arith

times_permuted : {X : Type 0} (p : X → Bool) (xs ys : List X) → IsPermutation xs ys → times p xs ≡ times p ys
times_permuted p xs ys h =
    by_neighbours (λ l m. times p l ≡ times p m) (λ l. refl) (λ l m n e f. e ∙ f) (λ x l m e. ap (λ n. cond (p x) 1 0 + n) e)
    (λ x y l. turned_sum (cond (p x) 1 0) (cond (p y) 1 0) (times p l)) xs ys h

-- from places to elements
pub by_recursion : {X : Type 0} (P : X → Type 0) (xs : List X) → All P xs → AllByRecursion P xs
by_recursion P [] all = tt
by_recursion P (x ∷ xs) all = (
  all 0 x (omega arith),
  by_recursion P xs (λ k d l. all (suc k) d (omega (arith, l))),
)

-- one that counts, and one that doesn't
counted : (b : Bool) (n : ℕ) → b ≡ true → 0 < cond b 1 0 + n
counted true n e = omega arith
counted false n e = absurd (true≢false (sym e))

uncounted : (b : Bool) (n : ℕ) → b ≡ false → 0 < cond b 1 0 + n → 0 < n
uncounted true n e h = absurd (true≢false e)
uncounted false n e h = omega (arith, h)

same_count : (b c : Bool) (m n : ℕ) → b ≡ c → cond b 1 0 + m ≡ cond c 1 0 + n → m ≡ n
same_count true true m n e h = omega (arith, h)
same_count true false m n e h = absurd (true≢false e)
same_count false true m n e h = absurd (true≢false (sym e))
same_count false false m n e h = omega (arith, h)

-- some element passes, and is as all are
passing : {X : Type 0} (p : X → Bool) (Q : X → Type 0) (xs : List X) → AllByRecursion Q xs → 0 < times p xs → (x : X) × (p x ≡ true) × Q x
passing p Q [] all h = absurd (omega (arith, h))
passing p Q (x ∷ xs) all h = elim (cases_Bool (p x)) [
  | inl passed ↦ (x, passed, all.0)
  | inr failed ↦ passing p Q xs all.1 (uncounted (p x) (times p xs) failed h)
]

is_equal : (o : Ordering) → is_eq o ≡ true → o ≡ Equal
is_equal Less h = absurd (true≢false (sym h))
is_equal Equal h = refl
is_equal Greater h = absurd (true≢false (sym h))

level : (o p : Ordering) → o ≡ ordering_reverse p → is_lt o ≡ false → is_lt p ≡ false → o ≡ Equal
level Less p e a b = absurd (true≢false a)
level Equal p e a b = refl
level Greater Less e a b = absurd (true≢false b)
level Greater Equal e a b = let f : Greater ≡ Equal = e in cc
level Greater Greater e a b = let f : Greater ≡ Less = e in cc

module _ {X : Type 0} (R : X → X → Ordering) (total : IsTotalOrder R) (P : X → Type 0) (exact : (x y : X) → P x → P y → R x y ≡ Equal → x ≡ y) where
  -- no element is below the first of a sorted list
  abbrev NotBelow : X → List X → Type 0
  NotBelow x xs = AllByRecursion (λ y. is_lt (R y x) ≡ false) xs

  itself : (x : X) → is_eq (R x x) ≡ true
  itself x = (eq_by_cmp_equiv total).refl x

  not_below_first : (x : X) (xs : List X) → IsSorted R (x ∷ xs) → NotBelow x (x ∷ xs)
  not_below_first x xs s = by_recursion (λ y. is_lt (R y x) ≡ false) (x ∷ xs) (λ k d l. sorted_far (λ a b. is_lt (R a b)) (ranks_by total (λ a. a)) (x ∷ xs) s 0 k d (omega arith) l)

  rest : (x : X) (xs : List X) → IsSorted R (x ∷ xs) → IsSorted R xs
  rest x xs s k d l g =
      let e : suc k + 1 ≡ suc (k + 1) = omega arith in
      subst (λ n. is_lt (R (get_or (x ∷ xs) n d) (get_or xs k d)) ≡ false) e (s (suc k) d (omega arith) (omega (arith, g)))

  -- an element that both lists have is not below the first of either
  not_below : (y z : X) (zs : List X) → IsSorted R (z ∷ zs) → 0 < times (λ w. is_eq (R y w)) (z ∷ zs) → is_lt (R y z) ≡ false
  not_below y z zs s h =
      let w = passing (λ w. is_eq (R y w)) (λ w. is_lt (R w z) ≡ false) (z ∷ zs) (not_below_first z zs s) h in
      ap is_lt (total.congr y w.0 z (is_equal (R y w.0) w.1)) ∙ w.2

  has_itself : (y : X) (ys : List X) → 0 < times (λ w. is_eq (R y w)) (y ∷ ys)
  has_itself y ys = counted (is_eq (R y y)) (times (λ w. is_eq (R y w)) ys) (itself y)

  one_by_counts : (ys zs : List X) → IsSorted R ys → IsSorted R zs → AllByRecursion P ys → AllByRecursion P zs
      → ((x : X) → times (λ w. is_eq (R x w)) ys ≡ times (λ w. is_eq (R x w)) zs) → ys ≡ zs
  one_by_counts [] [] s t a b h = refl
  one_by_counts [] (z ∷ zs) s t a b h = absurd (let g = h z in let f = has_itself z zs in omega (arith, g, f))
  one_by_counts (y ∷ ys) [] s t a b h = absurd (let g = h y in let f = has_itself y ys in omega (arith, g, f))
  one_by_counts (y ∷ ys) (z ∷ zs) s t a b h =
      let e = exact y z a.0 b.0 (level (R y z) (R z y) (total.antisymm y z)
      (not_below y z zs t (subst (λ n. 0 < n) (h y) (has_itself y ys)))
      (not_below z y ys s (subst (λ n. 0 < n) (sym (h z)) (has_itself z zs)))) in
      let r = one_by_counts ys zs (rest y ys s) (rest z zs t) a.1 b.1 (λ x. fewer x y z (times (λ w. is_eq (R x w)) ys) (times (λ w. is_eq (R x w)) zs) e (h x)) in
      λ i. e i ∷ r i
    where
      fewer : (x y z : X) (m n : ℕ) → y ≡ z → cond (is_eq (R x y)) 1 0 + m ≡ cond (is_eq (R x z)) 1 0 + n → m ≡ n
      fewer x y z m n e h = same_count (is_eq (R x y)) (is_eq (R x z)) m n (ap (λ w. is_eq (R x w)) e) h

  -- so there is one sorting
  pub one_sorting : (given ys zs : List X) → All P given → IsSortingOf R given ys → IsSortingOf R given zs → ys ≡ zs
  one_sorting given ys zs all s t =
      one_by_counts ys zs s.ascending t.ascending (by_recursion P ys (All-permutation P given ys s.same all)) (by_recursion P zs (All-permutation P given zs t.same all))
      (λ x. sym (times_permuted (λ w. is_eq (R x w)) given ys s.same) ∙ times_permuted (λ w. is_eq (R x w)) given zs t.same)
