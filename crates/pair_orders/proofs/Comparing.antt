-- Few numbers are compared: six, three by three; and lists, from the first number on.
use Rattle.std.proofs.Common.{◌≡◌, ◌∙◌, ◌+◌, ◌<◌, ℕ, zero, suc, List, [], ◌∷◌, true, false, length, get_or, drop, refl, sym, ap, subst, arith}
use Rattle.std.proofs.lemmas.Bool.{true≢false, false≢true}
use Rattle.std.specs.Cmp.Lexicographic.{slice_cmp}
use Rattle.std.specs.Ordering.{nat_cmp, ordering_then, is_ne}
use Rattle.std.specs.declared.cmp.Ordering.{Ordering}
use Rattle.std.specs.declared.cmp.Ordering.TheVariants.{Less, Equal, Greater}
use Rattle.pair_orders.specs.Keys.{three_cmp}

-- what comes behind two comparisons comes behind the second
then_behind : (o p q : Ordering) → ordering_then (ordering_then o p) q ≡ ordering_then o (ordering_then p q)
then_behind Less p q = refl
then_behind Equal p q = refl
then_behind Greater p q = refl

then_end : (o : Ordering) → o ≡ ordering_then o Equal
then_end Less = refl
then_end Equal = refl
then_end Greater = refl

six_then : (a b c d e f : Ordering) → ordering_then (ordering_then a (ordering_then b c)) (ordering_then d (ordering_then e f))
    ≡ ordering_then a (ordering_then b (ordering_then c (ordering_then d (ordering_then e (ordering_then f Equal)))))
six_then a b c d e f =
    then_behind a (ordering_then b c) (ordering_then d (ordering_then e f))
    ∙ ap (ordering_then a) (then_behind b c (ordering_then d (ordering_then e f)))
    ∙ ap (λ w. ordering_then a (ordering_then b (ordering_then c (ordering_then d (ordering_then e w))))) (then_end f)

-- three numbers, by two steps of one more
pub three_made : (o p q : Ordering) (first second third : Ordering) → second ≡ ordering_then first p → third ≡ ordering_then second q → first ≡ o → third ≡ ordering_then o (ordering_then p q)
three_made o p q first second third s t e = t ∙ ap (λ w. ordering_then w q) (s ∙ ap (λ w. ordering_then w p) e) ∙ then_behind o p q

-- two threes make six
pub six_made : (first second : Ordering) (a b c d e f x y z u v w : ℕ) → first ≡ three_cmp (a, b, c) (x, y, z) → second ≡ ordering_then first (three_cmp (d, e, f) (u, v, w))
    → second ≡ slice_cmp nat_cmp (a ∷ b ∷ c ∷ d ∷ e ∷ f ∷ []) (x ∷ y ∷ z ∷ u ∷ v ∷ w ∷ [])
six_made first second a b c d e f x y z u v w p q =
    q ∙ ap (λ o. ordering_then o (three_cmp (d, e, f) (u, v, w))) p
    ∙ six_then (nat_cmp a x) (nat_cmp b y) (nat_cmp c z) (nat_cmp d u) (nat_cmp e v) (nat_cmp f w)

-- ---- lists, from a place on

pub rest_is : (xs ys : List ℕ) (i : ℕ) → i < length xs → i < length ys
    → slice_cmp nat_cmp (drop i xs) (drop i ys) ≡ ordering_then (nat_cmp (get_or xs i 0) (get_or ys i 0)) (slice_cmp nat_cmp (drop (i + 1) xs) (drop (i + 1) ys))
rest_is [] ys i h k = absurd (omega arith)
rest_is (x ∷ xs) [] i h k = absurd (omega arith)
rest_is (x ∷ xs) (y ∷ ys) zero h k = refl
rest_is (x ∷ xs) (y ∷ ys) (suc i) h k = let e : suc i + 1 ≡ suc (i + 1) = omega arith in rw e (rest_is xs ys i (omega arith) (omega arith))

-- behind the last of the first list
pub ended_less : (xs ys : List ℕ) (i : ℕ) → i ≡ length xs → length xs < length ys → Less ≡ slice_cmp nat_cmp (drop i xs) (drop i ys)
ended_less [] [] i e l = absurd (omega arith)
ended_less [] (y ∷ ys) i e l = subst (λ (n : ℕ). Less ≡ slice_cmp nat_cmp (drop n []) (drop n (y ∷ ys))) (sym e) refl
ended_less (x ∷ xs) [] i e l = absurd (omega arith)
ended_less (x ∷ xs) (y ∷ ys) zero e l = absurd (omega arith)
ended_less (x ∷ xs) (y ∷ ys) (suc i) e l = ended_less xs ys i (omega arith) (omega arith)

pub ended_equal : (xs ys : List ℕ) (i : ℕ) → i ≡ length xs → length xs ≡ length ys → Equal ≡ slice_cmp nat_cmp (drop i xs) (drop i ys)
ended_equal [] [] i e l = subst (λ (n : ℕ). Equal ≡ slice_cmp nat_cmp (drop n []) (drop n [])) (sym e) refl
ended_equal [] (y ∷ ys) i e l = absurd (omega arith)
ended_equal (x ∷ xs) [] i e l = absurd (omega arith)
ended_equal (x ∷ xs) (y ∷ ys) zero e l = absurd (omega arith)
ended_equal (x ∷ xs) (y ∷ ys) (suc i) e l = ended_equal xs ys i (omega arith) (omega arith)

-- numbers that differ tell, and others leave it to the rest
pub decides : (o rest : Ordering) → is_ne o ≡ true → o ≡ ordering_then o rest
decides Less rest e = refl
decides Equal rest e = absurd (false≢true e)
decides Greater rest e = refl

pub defers : (o rest : Ordering) → is_ne o ≡ false → rest ≡ ordering_then o rest
defers Less rest e = absurd (true≢false e)
defers Equal rest e = refl
defers Greater rest e = absurd (true≢false e)
