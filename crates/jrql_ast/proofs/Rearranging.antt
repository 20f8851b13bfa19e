-- Lists in another order: what is so for neighbours that change places is so for every permutation.
use Rattle.std.proofs.Common.{◌≡◌, ℕ, zero, suc, ◌<◌, List, [], ◌∷◌, ◌++◌, length, Bool, true, false, cond, Option, None, Some, get_or, set, swap, filter, filter_map, flat_map, refl, sym, ap, subst, append_assoc, arith}
use Rattle.std.specs.List.{cons_option}
use Rattle.std.specs.List.Sorted.{IsPermutation}
use Rattle.std.proofs.lemmas.List.Sorted.{IsPermutation-refl, IsPermutation-sym, IsPermutation-keeps, IsPermutation-trans, IsPermutation-cons, IsPermutation-append, IsPermutation-append_left, IsPermutation-append_right, IsPermutation-append_comm}

-- equal lists are permutations
pub same_list : {X : Type 0} (xs ys : List X) → xs ≡ ys → IsPermutation xs ys
same_list xs ys e = subst (IsPermutation xs) e (IsPermutation-refl xs)

-- a relation of lists that holds for each list itself, one after another, behind a common element, and where the first two change places
module _ {X : Type 0} (R : List X → List X → Type 0)
    (itself : (xs : List X) → R xs xs)
    (joined : (xs ys zs : List X) → R xs ys → R ys zs → R xs zs)
    (behind : (x : X) (xs ys : List X) → R xs ys → R (x ∷ xs) (x ∷ ys))
    (turned : (x y : X) (xs : List X) → R (x ∷ y ∷ xs) (y ∷ x ∷ xs)) where
  -- the first element and a later one change places
  front : (xs : List X) (j : ℕ) (x d : X) → j < length xs → R (x ∷ xs) (get_or xs j d ∷ set xs j x)
  front [] j x d h = absurd (omega (arith, h))
  front (y ∷ ys) zero x d h = turned x y ys
  front (y ∷ ys) (suc j) x d h =
      joined _ _ _ (turned x y ys)
      (joined _ _ _ (behind y _ _ (front ys j x d (omega (arith, h)))) (turned y (get_or ys j d) (set ys j x)))

  -- and any two
  places : (xs : List X) (i j : ℕ) (d : X) → i < length xs → j < length xs → R xs (set (set xs i (get_or xs j d)) j (get_or xs i d))
  places [] i j d h g = itself []
  places (x ∷ xs) zero zero d h g = itself (x ∷ xs)
  places (x ∷ xs) zero (suc j) d h g = front xs j x d (omega (arith, g))
  places (x ∷ xs) (suc i) zero d h g = front xs i x d (omega (arith, h))
  places (x ∷ xs) (suc i) (suc j) d h g = behind x _ _ (places xs i j d (omega (arith, h)) (omega (arith, g)))

  exchanged : (xs : List X) (i j : ℕ) → i < length xs → j < length xs → R xs (swap xs i j)
  exchanged [] i j h g = itself []
  exchanged (x ∷ xs) i j h g = places (x ∷ xs) i j x h g

  -- so it holds for every permutation
  pub by_neighbours : (xs ys : List X) → IsPermutation xs ys → R xs ys
  by_neighbours xs ys p =
      IsPermutation-keeps xs (R xs) (itself xs) (λ l i j h g so_far. joined xs l (swap l i j) so_far (exchanged l i j h g)) ys p

-- four lists of which the middle ones change places
middle : {A : Type 0} (a b c d : List A) → IsPermutation ((a ++ b) ++ (c ++ d)) ((a ++ c) ++ (b ++ d))
middle a b c d =
    subst (λ l. IsPermutation l ((a ++ c) ++ (b ++ d))) (sym (append_assoc a b (c ++ d)))
    (subst (IsPermutation (a ++ (b ++ (c ++ d)))) (sym (append_assoc a c (b ++ d)))
    (IsPermutation-append_right a (b ++ (c ++ d)) (c ++ (b ++ d))
    (subst (λ l. IsPermutation l (c ++ (b ++ d))) (append_assoc b c d)
    (subst (IsPermutation ((b ++ c) ++ d)) (append_assoc c b d)
    (IsPermutation-append_left d (b ++ c) (c ++ b) (IsPermutation-append_comm b c))))))

-- lists for elements, in a row
module _ {X A : Type 0} where
  pub flat_map_same : (f g : X → List A) → ((x : X) → f x ≡ g x) → (xs : List X) → flat_map f xs ≡ flat_map g xs
  flat_map_same f g same [] = refl
  flat_map_same f g same (x ∷ xs) = λ i. same x i ++ flat_map_same f g same xs i

  pub flat_map_none : (xs : List X) → flat_map {X = X} {A = A} (λ x. []) xs ≡ []
  flat_map_none [] = refl
  flat_map_none (x ∷ xs) = flat_map_none xs

  pub flat_map_permutes : (f g : X → List A) → ((x : X) → IsPermutation (f x) (g x)) → (xs : List X) → IsPermutation (flat_map f xs) (flat_map g xs)
  flat_map_permutes f g each [] = IsPermutation-refl []
  flat_map_permutes f g each (x ∷ xs) = IsPermutation-append (f x) (g x) (flat_map f xs) (flat_map g xs) (each x) (flat_map_permutes f g each xs)

  pub flat_map_split : (f g : X → List A) (xs : List X) → IsPermutation (flat_map (λ x. f x ++ g x) xs) (flat_map f xs ++ flat_map g xs)
  flat_map_split f g [] = IsPermutation-refl []
  flat_map_split f g (x ∷ xs) =
      IsPermutation-trans _ _ _
      (IsPermutation-append_right (f x ++ g x) _ _ (flat_map_split f g xs))
      (middle (f x) (g x) (flat_map f xs) (flat_map g xs))

-- the lists for two elements, whichever is gone over first
pub flat_map_turned : {X Y A : Type 0} (f : X → Y → List A) (xs : List X) (ys : List Y)
    → IsPermutation (flat_map (λ x. flat_map (f x) ys) xs) (flat_map (λ y. flat_map (λ x. f x y) xs) ys)
flat_map_turned f [] ys = same_list _ _ (sym (flat_map_none ys))
flat_map_turned f (x ∷ xs) ys =
    IsPermutation-trans _ _ _
    (IsPermutation-append_right (flat_map (f x) ys) _ _ (flat_map_turned f xs ys))
    (IsPermutation-trans _ _ _ (split_back) (IsPermutation-refl _))
  where
    split_back : IsPermutation (flat_map (f x) ys ++ flat_map (λ y. flat_map (λ x. f x y) xs) ys) (flat_map (λ y. f x y ++ flat_map (λ x. f x y) xs) ys)
    split_back = IsPermutation-sym _ _ (flat_map_split (f x) (λ y. flat_map (λ x. f x y) xs) ys)

-- the list for a value that may be there
abbrev pub each_of : {X A : Type 0} → (X → List A) → Option X → List A
each_of f None = []
each_of f (Some x) = f x

one_more : {Y A : Type 0} (f : Y → List A) (o : Option Y) (ys : List Y) (rest : List A) → flat_map f ys ≡ rest → flat_map f (cons_option o ys) ≡ each_of f o ++ rest
one_more f None ys rest e = e
one_more f (Some y) ys rest e = ap (λ l. f y ++ l) e

pub flat_map_filter_map : {X Y A : Type 0} (f : Y → List A) (h : X → Option Y) (xs : List X)
    → flat_map f (filter_map h xs) ≡ flat_map (λ x. each_of f (h x)) xs
flat_map_filter_map f h [] = refl
flat_map_filter_map f h (x ∷ xs) = one_more f (h x) (filter_map h xs) _ (flat_map_filter_map f h xs)

-- what passes a test, in whatever order
pub filter_permutes : {X : Type 0} (p : X → Bool) (xs ys : List X) → IsPermutation xs ys → IsPermutation (filter p xs) (filter p ys)
filter_permutes {X} p xs ys h =
    by_neighbours (λ l m. IsPermutation (filter p l) (filter p m)) (λ l. IsPermutation-refl (filter p l)) (λ l m n. IsPermutation-trans _ _ _)
    (λ x l m. more x l m (p x)) (λ x y l. two x y l (p x) (p y)) xs ys h
  where
    more : (x : X) (l m : List X) (b : Bool) → IsPermutation (filter p l) (filter p m) → IsPermutation (cond b (x ∷ filter p l) (filter p l)) (cond b (x ∷ filter p m) (filter p m))
    more x l m true h = IsPermutation-cons x _ _ h
    more x l m false h = h

    two : (x y : X) (l : List X) (b c : Bool)
        → IsPermutation (cond b (x ∷ cond c (y ∷ filter p l) (filter p l)) (cond c (y ∷ filter p l) (filter p l))) (cond c (y ∷ cond b (x ∷ filter p l) (filter p l)) (cond b (x ∷ filter p l) (filter p l)))
    two x y l true true = IsPermutation-append_left (filter p l) (x ∷ y ∷ []) (y ∷ x ∷ []) (IsPermutation-append_comm (x ∷ []) (y ∷ []))
    two x y l true false = IsPermutation-refl _
    two x y l false true = IsPermutation-refl _
    two x y l false false = IsPermutation-refl _
