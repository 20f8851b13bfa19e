-- Lists that are filtered, joined and put in another order.
use Rattle.std.proofs.Common.{◌≡◌, ◌∙◌, ℕ, suc, ◌+◌, ◌≤◌, List, [], ◌∷◌, ◌++◌, length, map, Bool, true, false, cond, not, ◌&&◌, ◌||◌, Option, None, Some, filter, filter_map, flat_map, refl, sym, ap, subst, true≢false, length-append, arith}
use Rattle.std.specs.List.{AllByRecursion}
use Rattle.std.specs.List.Sorted.{IsPermutation}
use Rattle.std.proofs.lemmas.List.Sorted.{IsPermutation-refl, IsPermutation-sym, IsPermutation-trans, IsPermutation-cons, IsPermutation-middle}
use Rattle.jrql_ast.proofs.Rearranging.{each_of, same_list}

-- ---- what holds of each element

pub all_append : {X : Type 0} (P : X → Type 0) (xs ys : List X) → AllByRecursion P xs → AllByRecursion P ys → AllByRecursion P (xs ++ ys)
all_append P [] ys a b = b
all_append P (x ∷ xs) ys a b = (a.0, all_append P xs ys a.1 b)

pub all_front : {X : Type 0} (P : X → Type 0) (xs ys : List X) → AllByRecursion P (xs ++ ys) → AllByRecursion P xs
all_front P [] ys a = tt
all_front P (x ∷ xs) ys a = (a.0, all_front P xs ys a.1)

pub all_back : {X : Type 0} (P : X → Type 0) (xs ys : List X) → AllByRecursion P (xs ++ ys) → AllByRecursion P ys
all_back P [] ys a = a
all_back P (x ∷ xs) ys a = all_back P xs ys a.1

pub all_weaker : {X : Type 0} (P Q : X → Type 0) → ((x : X) → P x → Q x) → (xs : List X) → AllByRecursion P xs → AllByRecursion Q xs
all_weaker P Q w [] a = tt
all_weaker P Q w (x ∷ xs) a = (w x a.0, all_weaker P Q w xs a.1)

pub all_flat_map : {X Y : Type 0} (P : Y → Type 0) (f : X → List Y) (xs : List X) → ((x : X) → AllByRecursion P (f x)) → AllByRecursion P (flat_map f xs)
all_flat_map P f [] each = tt
all_flat_map P f (x ∷ xs) each = all_append P (f x) (flat_map f xs) (each x) (all_flat_map P f xs each)

-- what may be there
pub all_each : {X Y : Type 0} (P : Y → Type 0) (f : X → List Y) (o : Option X) → ((x : X) → o ≡ Some x → AllByRecursion P (f x)) → AllByRecursion P (each_of f o)
all_each P f None each = tt
all_each P f (Some x) each = each x refl

-- ---- filters

-- tests that agree on each element
pub filter_same : {X : Type 0} (p q : X → Bool) (xs : List X) → AllByRecursion (λ x. p x ≡ q x) xs → filter p xs ≡ filter q xs
filter_same p q [] a = refl
filter_same p q (x ∷ xs) a = λ i. cond (a.0 i) (x ∷ filter_same p q xs a.1 i) (filter_same p q xs a.1 i)

pub filter_alike : {X : Type 0} (p q : X → Bool) → ((x : X) → p x ≡ q x) → (xs : List X) → filter p xs ≡ filter q xs
filter_alike p q same [] = refl
filter_alike p q same (x ∷ xs) = λ i. cond (same x i) (x ∷ filter_alike p q same xs i) (filter_alike p q same xs i)

pub filter_none : {X : Type 0} (p : X → Bool) → ((x : X) → p x ≡ false) → (xs : List X) → filter p xs ≡ []
filter_none p fails [] = refl
filter_none p fails (x ∷ xs) = ap (λ b. cond b (x ∷ filter p xs) (filter p xs)) (fails x) ∙ filter_none p fails xs

pub filter_all : {X : Type 0} (p : X → Bool) (xs : List X) → AllByRecursion (λ x. p x ≡ true) xs → filter p xs ≡ xs
filter_all p [] a = refl
filter_all p (x ∷ xs) a = ap (λ b. cond b (x ∷ filter p xs) (filter p xs)) a.0 ∙ ap (λ l. x ∷ l) (filter_all p xs a.1)

pub filter_append : {X : Type 0} (p : X → Bool) (xs ys : List X) → filter p (xs ++ ys) ≡ filter p xs ++ filter p ys
filter_append p [] ys = refl
filter_append {X} p (x ∷ xs) ys = by (p x) (filter_append p xs ys)
  where
    by : (b : Bool) → filter p (xs ++ ys) ≡ filter p xs ++ filter p ys → cond b (x ∷ filter p (xs ++ ys)) (filter p (xs ++ ys)) ≡ cond b (x ∷ filter p xs) (filter p xs) ++ filter p ys
    by true h = ap (λ l. x ∷ l) h
    by false h = h

pub filter_flat_map : {X Y : Type 0} (p : Y → Bool) (f : X → List Y) (xs : List X) → filter p (flat_map f xs) ≡ flat_map (λ x. filter p (f x)) xs
filter_flat_map p f [] = refl
filter_flat_map p f (x ∷ xs) = filter_append p (f x) (flat_map f xs) ∙ ap (λ l. filter p (f x) ++ l) (filter_flat_map p f xs)

-- one filter behind another
pub filter_twice : {X : Type 0} (p q : X → Bool) (xs : List X) → filter p (filter q xs) ≡ filter (λ x. q x && p x) xs
filter_twice p q [] = refl
filter_twice {X} p q (x ∷ xs) = by (q x) (p x) refl (filter_twice p q xs)
  where
    by : (b c : Bool) → p x ≡ c → filter p (filter q xs) ≡ filter (λ y. q y && p y) xs → filter p (cond b (x ∷ filter q xs) (filter q xs)) ≡ cond (b && c) (x ∷ filter (λ y. q y && p y) xs) (filter (λ y. q y && p y) xs)
    by true c e h = (λ i. cond (e i) (x ∷ h i) (h i))
    by false c e h = h

both_ways : (b c : Bool) → (b && c) ≡ (c && b)
both_ways true true = refl
both_ways true false = refl
both_ways false true = refl
both_ways false false = refl

pub filters_turned : {X : Type 0} (p q : X → Bool) (xs : List X) → filter p (filter q xs) ≡ filter q (filter p xs)
filters_turned p q xs = filter_twice p q xs ∙ filter_alike _ _ (λ x. both_ways (q x) (p x)) xs ∙ sym (filter_twice q p xs)

pub filter_map_images : {X Y : Type 0} (p : Y → Bool) (f : X → Y) (xs : List X) → filter p (map f xs) ≡ map f (filter (λ x. p (f x)) xs)
filter_map_images p f [] = refl
filter_map_images {X} p f (x ∷ xs) = by (p (f x)) (filter_map_images p f xs)
  where
    by : (b : Bool) → filter p (map f xs) ≡ map f (filter (λ y. p (f y)) xs) → cond b (f x ∷ filter p (map f xs)) (filter p (map f xs)) ≡ map f (cond b (x ∷ filter (λ y. p (f y)) xs) (filter (λ y. p (f y)) xs))
    by true h = ap (λ l. f x ∷ l) h
    by false h = h

pub filter_shorter : {X : Type 0} (p : X → Bool) (xs : List X) → length (filter p xs) ≤ length xs
filter_shorter p [] = omega arith
filter_shorter {X} p (x ∷ xs) = by (p x) (filter_shorter p xs)
  where
    by : (b : Bool) → length (filter p xs) ≤ length xs → length (cond b (x ∷ filter p xs) (filter p xs)) ≤ suc (length xs)
    by true h = omega (arith, h)
    by false h = omega (arith, h)

-- ---- lists for elements, in a row

-- lists for what passes a test
pub flat_map_filter : {X A : Type 0} (f : X → List A) (k : X → Bool) (xs : List X) → flat_map f (filter k xs) ≡ flat_map (λ x. cond (k x) (f x) []) xs
flat_map_filter f k [] = refl
flat_map_filter {X} f k (x ∷ xs) = by (k x) (flat_map_filter f k xs)
  where
    by : (b : Bool) → flat_map f (filter k xs) ≡ flat_map (λ y. cond (k y) (f y) []) xs → flat_map f (cond b (x ∷ filter k xs) (filter k xs)) ≡ cond b (f x) [] ++ flat_map (λ y. cond (k y) (f y) []) xs
    by true h = ap (λ l. f x ++ l) h
    by false h = h

pub map_flat_map : {X Y Z : Type 0} (g : Y → Z) (f : X → List Y) (xs : List X) → map g (flat_map f xs) ≡ flat_map (λ x. map g (f x)) xs
map_flat_map g f [] = refl
map_flat_map {X} {Y} {Z} g f (x ∷ xs) = joined (f x) (flat_map f xs) ∙ ap (λ l. map g (f x) ++ l) (map_flat_map g f xs)
  where
    joined : (us vs : List Y) → map g (us ++ vs) ≡ map g us ++ map g vs
    joined [] vs = refl
    joined (u ∷ us) vs = ap (λ l. g u ∷ l) (joined us vs)

-- ---- a test that is one of two others, of which no element passes both

pub filter_parted : {X : Type 0} (p q r : X → Bool) → ((x : X) → (p x ≡ (q x || r x)) × ((q x && r x) ≡ false)) → (xs : List X)
    → IsPermutation (filter p xs) (filter q xs ++ filter r xs)
filter_parted p q r either [] = IsPermutation-refl []
filter_parted {X} p q r either (x ∷ xs) = by (p x) (q x) (r x) (either x).0 (either x).1 (filter_parted p q r either xs)
  where
    by : (b c d : Bool) → b ≡ (c || d) → (c && d) ≡ false → IsPermutation (filter p xs) (filter q xs ++ filter r xs)
        → IsPermutation (cond b (x ∷ filter p xs) (filter p xs)) (cond c (x ∷ filter q xs) (filter q xs) ++ cond d (x ∷ filter r xs) (filter r xs))
    by b true true e n h = absurd (true≢false n)
    by b true false e n h = subst (λ z. IsPermutation (cond z (x ∷ filter p xs) (filter p xs)) (x ∷ (filter q xs ++ filter r xs))) (sym e) (IsPermutation-cons x _ _ h)
    by b false true e n h =
        subst (λ z. IsPermutation (cond z (x ∷ filter p xs) (filter p xs)) (filter q xs ++ (x ∷ filter r xs))) (sym e)
        (IsPermutation-trans _ _ _ (IsPermutation-cons x _ _ h) (IsPermutation-sym _ _ (IsPermutation-middle (filter q xs) x (filter r xs))))
    by b false false e n h = subst (λ z. IsPermutation (cond z (x ∷ filter p xs) (filter p xs)) (filter q xs ++ filter r xs)) (sym e) h
