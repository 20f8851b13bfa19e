-- Wanted places divide ascending keys: into those in front of what has them, those that have them, and those behind.
use Rattle.std.proofs.Common.{◌≡◌, ◌∙◌, ℕ, zero, suc, List, [], ◌∷◌, Bool, true, Option, None, Some, get_or, refl, sym, subst, ap, inl, inr, arith}
use Rattle.std.proofs.lemmas.Bool.{cases_lt, false≢true}
use Rattle.std.proofs.lemmas.Cmp.{ranked}
use Rattle.std.proofs.lemmas.Map.Lookups.{exact_unsigned}
use Rattle.std.specs.Cmp.{nat_cmp_is}
use Rattle.std.specs.List.Sorted.{IsPartitionedBy}
use Rattle.std.specs.Ordering.{nat_cmp, ordering_then, is_gt, is_ge}
use Rattle.std.specs.declared.cmp.Ordering.{Ordering}
use Rattle.std.specs.declared.cmp.Ordering.TheVariants.{Less, Equal, Greater}
use Rattle.tree_clock.specs.Lists.{IsAscending}
use Rattle.mld_ops.proofs.AscendingLaws.{below_member, has_at}
use Rattle.pair_orders.specs.Keys.{shape_cmp, places_cmp, wanted_then}
use Rattle.pair_orders.specs.Orders.{is_before_places, is_up_to_places}
use Rattle.pair_orders.specs.declared.keys.Key.{Key}
use Rattle.pair_orders.specs.declared.keys.Places.{Places}
use Rattle.pair_orders.specs.declared.keys.Shape.{Shape}
use Rattle.pair_orders.specs.declared.keys.Shape.TheVariants.{Dot, Subject, Predicate, Object}

-- how one thing compares with two that ascend: what it is above, it is above of the first too, and what it is below, it is below of the second too
record Descends (p q : Ordering) : Type 0 where
  above : q ≡ Greater → p ≡ Greater
  below : p ≡ Less → q ≡ Less

alike : Descends Equal Equal
alike = record { above = λ e. e; below = λ e. e }

above_all : (p q : Ordering) → Greater ≡ p → Descends p q
above_all p q e = subst (λ (w : Ordering). Descends w q) e (record { above = λ _. refl; below = λ h. cc })

below_all : (p q : Ordering) → Less ≡ q → Descends p q
below_all p q e = subst (λ (w : Ordering). Descends p w) e (record { above = λ h. cc; below = λ _. refl })

-- a number that is wanted first
first_below : (w a b : ℕ) (p q : Ordering) → nat_cmp a b ≡ Less → Descends (ordering_then (nat_cmp w a) p) (ordering_then (nat_cmp w b) q)
first_below w a b p q e = elim (cases_lt a w) [
  | inl l ↦ above_all _ _ (ap (λ o. ordering_then o p) (nat_cmp_is w a Greater l))
  | inr l ↦ below_all _ _ (ap (λ o. ordering_then o q) (nat_cmp_is w b Less (omega (arith, l, ranked a b Less (sym e)))))
]

then_both : (o p q : Ordering) → Descends p q → Descends (ordering_then o p) (ordering_then o q)
then_both Less p q d = record { above = λ e. e; below = λ e. e }
then_both Equal p q d = d
then_both Greater p q d = record { above = λ e. e; below = λ e. e }

first_same : (w a b : ℕ) (p q : Ordering) → nat_cmp a b ≡ Equal → Descends p q → Descends (ordering_then (nat_cmp w a) p) (ordering_then (nat_cmp w b) q)
first_same w a b p q e d =
    subst (λ (n : ℕ). Descends (ordering_then (nat_cmp w a) p) (ordering_then (nat_cmp w n) q)) (exact_unsigned a b e) (then_both (nat_cmp w a) p q d)

-- a number that may be wanted, where two keys ascend by their own and what follows
wanted_descends : (w : Option ℕ) (a b : ℕ) (rest p q : Ordering) → ordering_then (nat_cmp a b) rest ≡ Less → (rest ≡ Less → Descends p q) → Descends (wanted_then w a p) (wanted_then w b q)
wanted_descends None a b rest p q h d = alike
wanted_descends (Some w) a b rest p q h d = by_first (nat_cmp a b) refl h
  where
    by_first : (o : Ordering) → nat_cmp a b ≡ o → ordering_then o rest ≡ Less → Descends (ordering_then (nat_cmp w a) p) (ordering_then (nat_cmp w b) q)
    by_first Less e k = first_below w a b p q e
    by_first Equal e k = first_same w a b p q e (d k)
    by_first Greater e k = cc

three_descend : (v w x : Option ℕ) (a b c d e f : ℕ) (rest : Ordering)
    → ordering_then (nat_cmp a b) (ordering_then (nat_cmp c d) (ordering_then (nat_cmp e f) rest)) ≡ Less
    → Descends (wanted_then v a (wanted_then w c (wanted_then x e Equal))) (wanted_then v b (wanted_then w d (wanted_then x f Equal)))
three_descend v w x a b c d e f rest h =
    wanted_descends v a b _ _ _ h (λ i. wanted_descends w c d _ _ _ i (λ j. wanted_descends x e f rest Equal Equal j (λ _. alike)))

descends : (shape : Shape) (wanted : Places) (x y : Key) → shape_cmp shape x y ≡ Less → Descends (places_cmp shape wanted x) (places_cmp shape wanted y)
descends Dot wanted x y h = alike
descends Subject wanted x y h = three_descend wanted.s wanted.p wanted.o x.s y.s x.p y.p x.o y.o _ h
descends Predicate wanted x y h = three_descend wanted.p wanted.o wanted.s x.p y.p x.o y.o x.s y.s _ h
descends Object wanted x y h = three_descend wanted.o wanted.s wanted.p x.o y.o x.s y.s x.p y.p _ h

-- ---- so they divide the keys

partitioned : (R : Key → Key → Ordering) (p : Key → Bool) → ((x y : Key) → R x y ≡ Less → p y ≡ true → p x ≡ true) → (xs : List Key) → IsAscending R xs → IsPartitionedBy p xs
partitioned R p passes [] a i j d l m t = absurd (omega arith)
partitioned R p passes (x ∷ xs) a zero zero d l m t = t
partitioned R p passes (x ∷ xs) a zero (suc j) d l m t = passes x (get_or xs j d) (below_member R x xs (get_or xs j d) a.0 (has_at xs j d (omega (arith, m)))) t
partitioned R p passes (x ∷ xs) a (suc i) zero d l m t = absurd (omega (arith, l))
partitioned R p passes (x ∷ xs) a (suc i) (suc j) d l m t = partitioned R p passes xs a.1 i j d (omega (arith, l)) (omega (arith, m)) t

greater : (o : Ordering) → is_gt o ≡ true → o ≡ Greater
greater Less h = absurd (false≢true h)
greater Equal h = absurd (false≢true h)
greater Greater h = refl

not_less : (p q : Ordering) → (p ≡ Less → q ≡ Less) → is_ge q ≡ true → is_ge p ≡ true
not_less Less q h t = absurd (false≢true (ap is_ge (sym (h refl)) ∙ t))
not_less Equal q h t = refl
not_less Greater q h t = refl

pub before_divides : (shape : Shape) (wanted : Places) (keys : List Key) → IsAscending (shape_cmp shape) keys → IsPartitionedBy (is_before_places shape wanted) keys
before_divides shape wanted =
    partitioned (shape_cmp shape) (is_before_places shape wanted) (λ x y l t. ap is_gt ((descends shape wanted x y l).above (greater (places_cmp shape wanted y) t)))

pub up_to_divides : (shape : Shape) (wanted : Places) (keys : List Key) → IsAscending (shape_cmp shape) keys → IsPartitionedBy (is_up_to_places shape wanted) keys
up_to_divides shape wanted =
    partitioned (shape_cmp shape) (is_up_to_places shape wanted) (λ x y l t. not_less (places_cmp shape wanted x) (places_cmp shape wanted y) (descends shape wanted x y l).below t)

-- what is in front of them is not behind them
pub before_up_to : (shape : Shape) (wanted : Places) (key : Key) → is_before_places shape wanted key ≡ true → is_up_to_places shape wanted key ≡ true
before_up_to shape wanted key t = ap is_ge (greater (places_cmp shape wanted key) t)
