-- Lists of which no element stands twice, sorted.
use Rattle.std.proofs.Common.{◌≡◌, ◌∙◌, zero, suc, ◌+◌, List, [], ◌∷◌, get_or, map, ◌↔◌, Bool, true, false, refl, sym, subst, ap, inl, inr, arith}
use Rattle.std.proofs.lemmas.Bool.{true≢false}
use Rattle.std.proofs.lemmas.Cmp.{eq_by_cmp_equiv}
use Rattle.std.proofs.lemmas.List.Sorted.{Contains-permutation, IsPermutation-sym}
use Rattle.std.proofs.lemmas.Map.Keys.{IsDistinct-IsPermutation, apart_from_distinct}
use Rattle.std.proofs.lemmas.Map.Lookups.{CmpEqualImpliesEq}
use Rattle.std.specs.Cmp.{IsTotalOrder}
use Rattle.std.specs.List.{AllByRecursion, Contains, IsDistinct}
use Rattle.std.specs.List.Sorted.{IsPermutation, IsSorted, IsSortedBy}
use Rattle.std.specs.Ordering.{is_lt, is_eq, eq_by_cmp, ordering_reverse}
use Rattle.std.specs.declared.cmp.Ordering.{Ordering}
use Rattle.std.specs.declared.cmp.Ordering.TheVariants.{Less, Equal, Greater}
use Rattle.tree_clock.specs.Lists.{Has, IsAscending, IsBelowAll}
use Rattle.mld_ops.proofs.AscendingLaws.{contains_from_has, has_at, ascending_from_adjacent}
use Rattle.pair_orders.specs.PairEntries.{StandOnce}

has_from_contains : {X : Type 0} (xs : List X) (x : X) → Contains xs x → Has xs x
has_from_contains xs x c = subst (λ y. Has xs y) c.2 (has_at xs c.0 x c.1)

-- what changes places has the same members
pub same_members : {X : Type 0} (xs ys : List X) → IsPermutation xs ys → (x : X) → Has ys x ↔ Has xs x
same_members xs ys moved x = (
  λ h. has_from_contains xs x (Contains-permutation ys xs x (IsPermutation-sym xs ys moved) (contains_from_has ys x h)),
  λ h. has_from_contains ys x (Contains-permutation xs ys x moved (contains_from_has xs x h)),
)

-- ---- images

-- the members of a list of images
pub has_image : {X Y : Type 0} (f : X → Y) (xs : List X) (x : X) → Has xs x → Has (map f xs) (f x)
has_image f [] x h = absurd h
has_image f (y ∷ xs) x (inl e) = inl (ap f e)
has_image f (y ∷ xs) x (inr h) = inr (has_image f xs x h)

pub image_has : {X Y : Type 0} (f : X → Y) (xs : List X) (y : Y) → Has (map f xs) y → (x : X) × Has xs x × (f x ≡ y)
image_has f [] y h = absurd h
image_has f (x ∷ xs) y (inl e) = (x, inl refl, e)
image_has f (x ∷ xs) y (inr h) = let i = image_has f xs y h in (i.0, inr i.1, i.2)

-- a list that is sorted by what each element is an image of
module _ {X Y : Type 0} (f : X → Y) (order : Y → Y → Ordering) where
  rest_sorted : (x : X) (xs : List X) → IsSortedBy (λ a b. is_lt (order (f a) (f b))) (x ∷ xs) → IsSortedBy (λ a b. is_lt (order (f a) (f b))) xs
  rest_sorted x xs h k d l g =
      let e : suc k + 1 ≡ suc (k + 1) = omega arith in
      subst (λ n. is_lt (order (f (get_or (x ∷ xs) n d)) (f (get_or xs k d))) ≡ false) e (h (suc k) d (omega arith) (omega (arith, g)))

  pub view_sorted : (xs : List X) → IsSortedBy (λ a b. is_lt (order (f a) (f b))) xs → IsSorted order (map f xs)
  view_sorted [] h k d l g = absurd (omega (arith, g))
  view_sorted (x ∷ []) h k d l g = absurd (omega (arith, g))
  view_sorted (x ∷ y ∷ xs) h zero d l g = h zero x (omega arith) (omega arith)
  view_sorted (x ∷ y ∷ xs) h (suc k) d l g =
      let e : suc k + 1 ≡ suc (k + 1) = omega arith in
      rw e (view_sorted (y ∷ xs) (rest_sorted x (y ∷ xs) h) k d (omega arith) (omega (arith, g)))

-- what ascends by its images has images that ascend
view_below : {X Y : Type 0} (f : X → Y) (order : Y → Y → Ordering) (x : X) (xs : List X) → IsBelowAll (λ a b. order (f a) (f b)) x xs → IsBelowAll order (f x) (map f xs)
view_below f order x [] below = tt
view_below f order x (y ∷ ys) below = (below.0, view_below f order x ys below.1)

pub view_ascends : {X Y : Type 0} (f : X → Y) (order : Y → Y → Ordering) (xs : List X) → IsAscending (λ a b. order (f a) (f b)) xs → IsAscending order (map f xs)
view_ascends f order [] up = tt
view_ascends f order (x ∷ xs) up = (view_below f order x xs up.0, view_ascends f order xs up.1)

-- ---- a sorted list of which no element stands twice ascends
module _ {X : Type 0} (R : X → X → Ordering) (total : IsTotalOrder R) (exact : CmpEqualImpliesEq R) where
  told_equal : (o : Ordering) → is_eq o ≡ true → o ≡ Equal
  told_equal Less h = absurd (true≢false (sym h))
  told_equal Equal h = refl
  told_equal Greater h = absurd (true≢false (sym h))

  apart : (x y : X) → ¬ (y ≡ x) → eq_by_cmp R x y ≡ false
  apart x y n = by (eq_by_cmp R x y) (λ h. exact x y (told_equal (R x y) h))
    where
      by : (b : Bool) → (b ≡ true → x ≡ y) → b ≡ false
      by true f = absurd (n (sym (f refl)))
      by false f = refl

  apart_all : (x : X) (xs : List X) → ¬ Has xs x → AllByRecursion (λ y. eq_by_cmp R x y ≡ false) xs
  apart_all x [] n = tt
  apart_all x (y ∷ ys) n = (apart x y (λ e. n (inl e)), apart_all x ys (λ h. n (inr h)))

  distinct : (xs : List X) → StandOnce xs → IsDistinct (eq_by_cmp R) xs
  unfolding IsDistinct
  distinct [] once = tt
  distinct (x ∷ xs) once = (apart_all x xs once.0, distinct xs once.1)

  below : (x y : X) → is_lt (R y x) ≡ false → eq_by_cmp R x y ≡ false → R x y ≡ Less
  below x y s d = by (R x y) (λ e. e) (λ e. ap is_lt (total.antisymm y x ∙ ap ordering_reverse e)) d
    where
      by : (o : Ordering) → (o ≡ Equal → R x y ≡ Equal) → (o ≡ Greater → is_lt (R y x) ≡ true) → is_eq o ≡ false → o ≡ Less
      by Less f g h = refl
      by Equal f g h = absurd (true≢false h)
      by Greater f g h = absurd (true≢false (sym (g refl) ∙ s))

  pub sorted_once : (xs ys : List X) → StandOnce xs → IsPermutation xs ys → IsSorted R ys → IsAscending R ys
  sorted_once xs ys once moved s =
      let d = IsDistinct-IsPermutation (eq_by_cmp R) (eq_by_cmp_equiv total).symm xs ys moved (distinct xs once) in
      ascending_from_adjacent R total ys (λ k e l. below (get_or ys k e) (get_or ys (k + 1) e) (s k e (omega arith) l) (apart_from_distinct (eq_by_cmp R) ys k (k + 1) e d (omega arith) l))
