-- Lists that a test divides.
use Rattle.std.proofs.Common.{◌≡◌, List, [], ◌∷◌, ◌++◌, Bool, true, false, get_or, length, ◌<◌, ℕ, suc, zero, refl, sym, subst, ap, ◌∙◌, inl, inr, arith}
use Rattle.std.proofs.lemmas.Bool.{cases_Bool, true≢false, false≢true}
use Rattle.std.specs.Cmp.{IsTotalOrder}
use Rattle.std.specs.List.{AllByRecursion}
use Rattle.std.specs.List.Sorted.{IsPartitionedBy}
use Rattle.std.specs.Ordering.{is_lt}
use Rattle.std.specs.declared.cmp.Ordering.{Ordering}
use Rattle.std.specs.declared.cmp.Ordering.TheVariants.{Less, Equal, Greater}
use Rattle.hinted_chunks.specs.tree_clock.Lists.{Has, IsAscending}
use Rattle.hinted_chunks.proofs.of_mld_ops.AscendingLaws.{below_member, has_left, has_right, has_at}
use Rattle.chunked_list.specs.Joined.{joined_chunks, chunk_at}
use Rattle.hinted_chunks.specs.Hinted.{first_passes}
use Rattle.chunked_list.specs.Parted.{IsParted}
use Rattle.chunked_list.specs.Stores.{IsSized, AreSized}

-- what holds of each element holds of each member, and back
pub all_has : {X : Type 0} (P : X → Type 0) (xs : List X) (x : X) → AllByRecursion P xs → Has xs x → P x
all_has P [] x a h = absurd h
all_has P (y ∷ xs) x a (inl e) = subst P e a.0
all_has P (y ∷ xs) x a (inr h) = all_has P xs x a.1 h

pub has_all : {X : Type 0} (P : X → Type 0) (xs : List X) → ((x : X) → Has xs x → P x) → AllByRecursion P xs
has_all P [] h = tt
has_all P (x ∷ xs) h = (h x (inl refl), has_all P xs (λ y k. h y (inr k)))

-- the parts of a list that is divided
pub parted_left : {X : Type 0} (p : X → Bool) (xs ys : List X) → IsParted p (xs ++ ys) → IsParted p xs
parted_left p [] ys h = tt
parted_left p (x ∷ xs) ys h = (
  λ e. has_all (λ y. p y ≡ false) xs (λ y k. all_has (λ z. p z ≡ false) (xs ++ ys) y (h.0 e) (has_left xs ys y k)),
  parted_left p xs ys h.1,
)

pub parted_right : {X : Type 0} (p : X → Bool) (xs ys : List X) → IsParted p (xs ++ ys) → IsParted p ys
parted_right p [] ys h = h
parted_right p (x ∷ xs) ys h = parted_right p xs ys h.1

-- behind one that fails, all fail
pub parted_across : {X : Type 0} (p : X → Bool) (xs ys : List X) (x y : X) → IsParted p (xs ++ ys) → Has xs x → p x ≡ false → Has ys y → p y ≡ false
parted_across p [] ys x y h m f k = absurd m
parted_across p (z ∷ xs) ys x y h (inl e) f k = all_has (λ w. p w ≡ false) (xs ++ ys) y (h.0 (subst (λ w. p w ≡ false) (sym e) f)) (has_right xs ys y k)
parted_across p (z ∷ xs) ys x y h (inr m) f k = parted_across p xs ys x y h.1 m f k

-- before one that passes, all pass
pub parted_before : {X : Type 0} (p : X → Bool) (xs ys : List X) (x y : X) → IsParted p (xs ++ ys) → Has ys y → p y ≡ true → Has xs x → p x ≡ true
parted_before p xs ys x y h k t m = elim (cases_Bool (p x)) [
  | inl e ↦ e
  | inr e ↦ absurd (true≢false (sym t ∙ parted_across p xs ys x y h m e k))
]

-- what std's searches ask
pub partitioned : {X : Type 0} (p : X → Bool) (xs : List X) → IsParted p xs → IsPartitionedBy p xs
partitioned p [] h i j d l m t = absurd (omega arith)
partitioned p (x ∷ xs) h zero zero d l m t = t
partitioned p (x ∷ xs) h zero (suc j) d l m t = elim (cases_Bool (p x)) [
  | inl e ↦ e
  | inr e ↦ absurd (true≢false (sym t ∙ all_has (λ w. p w ≡ false) xs (get_or xs j d) (h.0 e) (has_at xs j d (omega (arith, m)))))
]
partitioned p (x ∷ xs) h (suc i) zero d l m t = absurd (omega (arith, l))
partitioned p (x ∷ xs) h (suc i) (suc j) d l m t = partitioned p xs h.1 i j d (omega (arith, l)) (omega (arith, m)) t

-- the first elements of the chunks of a divided list are divided too
heads_fail : {X : Type 0} (p : X → Bool) (chunks : List (List X)) → AreSized chunks → ((y : X) → Has (joined_chunks chunks) y → p y ≡ false)
    → AllByRecursion (λ chunk. first_passes p chunk ≡ false) chunks
heads_fail p [] a h = tt
heads_fail p ([] ∷ chunks) a h = absurd (omega (arith, a.0.0))
heads_fail p ((x ∷ xs) ∷ chunks) a h = (h x (inl refl), heads_fail p chunks a.1 (λ y k. h y (has_right (x ∷ xs) (joined_chunks chunks) y k)))

pub heads_parted : {X : Type 0} (p : X → Bool) (chunks : List (List X)) → AreSized chunks → IsParted p (joined_chunks chunks) → IsParted (first_passes p) chunks
heads_parted p [] a h = tt
heads_parted p ([] ∷ chunks) a h = absurd (omega (arith, a.0.0))
heads_parted p ((x ∷ xs) ∷ chunks) a h = (
  λ e. heads_fail p chunks a.1 (λ y k. all_has (λ w. p w ≡ false) (xs ++ joined_chunks chunks) y (h.0 e) (has_right xs (joined_chunks chunks) y k)),
  heads_parted p chunks a.1 (parted_right p (x ∷ xs) (joined_chunks chunks) h),
)

-- where no chunk begins with one that passes, none passes
pub none_passes : {X : Type 0} (p : X → Bool) (chunks : List (List X)) (x : X) → AreSized chunks → IsParted p (joined_chunks chunks)
    → ((chunk : List X) → Has chunks chunk → first_passes p chunk ≡ false) → Has (joined_chunks chunks) x → p x ≡ false
none_passes p [] x a h f k = absurd k
none_passes p ([] ∷ chunks) x a h f k = absurd (omega (arith, a.0.0))
none_passes p ((y ∷ ys) ∷ chunks) x a h f (inl e) = subst (λ w. p w ≡ false) e (f (y ∷ ys) (inl refl))
none_passes p ((y ∷ ys) ∷ chunks) x a h f (inr k) = all_has (λ w. p w ≡ false) (ys ++ joined_chunks chunks) x (h.0 (f (y ∷ ys) (inl refl))) k

-- a chunk whose first element passes has one that does
pub head_has : {X : Type 0} (p : X → Bool) (chunk : List X) → IsSized chunk → first_passes p chunk ≡ true → (x : X) × Has chunk x × (p x ≡ true)
head_has p [] s h = absurd (omega (arith, s.0))
head_has p (x ∷ xs) s h = (x, inl refl, h)

-- a chunk of the list
pub sized_at : {X : Type 0} (chunks : List (List X)) (c : ℕ) → c < length chunks → AreSized chunks → IsSized (chunk_at chunks c)
sized_at [] c l a = absurd (omega (arith, l))
sized_at (x ∷ xs) zero l a = a.0
sized_at (x ∷ xs) (suc c) l a = sized_at xs c (omega (arith, l)) a.1

-- an ascending list is divided by whether its elements are below one
module _ {X : Type 0} (R : X → X → Ordering) (total : IsTotalOrder R) where
  pub parted_ascending : (x : X) (xs : List X) → IsAscending R xs → IsParted (λ y. is_lt (R y x)) xs
  parted_ascending x [] a = tt
  parted_ascending x (y ∷ ys) a = (
    λ e. has_all (λ z. is_lt (R z x) ≡ false) ys (λ z k. fails y z (below_member R y ys z a.0 k) e),
    parted_ascending x ys a.1,
  )
    where
      lower : (o : Ordering) → is_lt o ≡ true → o ≡ Less
      lower Less h = refl
      lower Equal h = absurd (false≢true h)
      lower Greater h = absurd (false≢true h)

      fails : (y z : X) → R y z ≡ Less → is_lt (R y x) ≡ false → is_lt (R z x) ≡ false
      fails y z b e = elim (cases_Bool (is_lt (R z x))) [
        | inl t ↦ absurd (true≢false (sym (ap is_lt (total.trans y z x b (lower (R z x) t))) ∙ e))
        | inr f ↦ f
      ]
