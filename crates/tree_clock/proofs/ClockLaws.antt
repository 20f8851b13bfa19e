-- What follows of clocks: a clock is its map, and the dots of a clock that was raised or merged.
use Rattle.std.proofs.Common.{◌≡◌, ◌≢◌, ℕ, ◌≤◌, List, [], ◌∷◌, ◌⊎◌, ◌↔◌, Bool, true, false, max, nat_eq, refl, sym, ◌∙◌, ap, subst, inl, inr, ⊎_elim, arith}
use Rattle.std.specs.Cmp.{tied_itself}
use Rattle.std.specs.Cmp.Lexicographic.{pointwise}
use Rattle.std.specs.Ordering.{ordering_reverse}
use Rattle.std.specs.declared.cmp.Ordering.{Ordering}
use Rattle.std.specs.declared.cmp.Ordering.TheVariants.{Less, Equal, Greater}
use Rattle.std.proofs.lemmas.Bool.{cases_lt}
use Rattle.tree_clock.specs.declared.dots.Dot.{Dot}
use Rattle.tree_clock.specs.Clock.{ticks_of, Covers, entry_cmp, IsClock, RaisesTo}
use Rattle.tree_clock.specs.DotLaws.{path_total, path_exact, path_eq-Decides}
use Rattle.tree_clock.specs.Lists.{IsBelowAll, IsAscending}
use Rattle.tree_clock.specs.Path.{path_cmp}

-- ---- paths that are the same, and paths that are not

-- a path passes the test against itself
pub same_test : (p : List ℕ) → pointwise nat_eq p p ≡ true
same_test p = (path_eq-Decides p p).1 refl

-- paths that are not one fail the test
pub apart_test : (p q : List ℕ) → ¬ (p ≡ q) → pointwise nat_eq p q ≡ false
apart_test p q n = by (pointwise nat_eq p q) (λ e. n ((path_eq-Decides p q).0 e))
  where
    by : (b : Bool) → (b ≢ true) → b ≡ false
    by true f = absurd (f refl)
    by false f = refl

-- a path is not below itself
pub less_apart : (p q : List ℕ) → path_cmp p q ≡ Less → ¬ (p ≡ q)
less_apart p q h e = let t : path_cmp p p ≡ Equal = tied_itself path_total p in let u : path_cmp p p ≡ Less = ap (path_cmp p) e ∙ h in cc

-- the order turned round
pub greater_turned : (p q : List ℕ) → path_cmp p q ≡ Greater → path_cmp q p ≡ Less
greater_turned p q h = path_total.antisymm q p ∙ ap ordering_reverse h

-- the same from the other side
pub less_turned : (p q : List ℕ) → path_cmp p q ≡ Less → path_cmp q p ≡ Greater
less_turned p q h = path_total.antisymm q p ∙ ap ordering_reverse h

-- two paths are one, or one is below the other
pub by_order : {G : Type 0} (p q : List ℕ) → (path_cmp p q ≡ Less → G) → (p ≡ q → G) → (path_cmp q p ≡ Less → G) → G
by_order {G} p q f g h = by (path_cmp p q) refl
  where
    by : (o : Ordering) → path_cmp p q ≡ o → G
    by Less e = f e
    by Equal e = g (path_exact p q e)
    by Greater e = h (greater_turned p q e)

-- ---- look-ups

-- the ticks of the first path
pub ticks_of-head : (p : List ℕ) (n : ℕ) (es : List (List ℕ × ℕ)) → ticks_of ((p, n) ∷ es) p ≡ n
ticks_of-head p n es = rw (same_test p)

-- the first entry says nothing of another path
pub ticks_of-tail : (e : List ℕ × ℕ) (es : List (List ℕ × ℕ)) (q : List ℕ) → ¬ (e.0 ≡ q) → ticks_of (e ∷ es) q ≡ ticks_of es q
ticks_of-tail e es q n = rw (apart_test e.0 q n)

-- a path below each entry has no ticks
pub ticks_of-below : (x : List ℕ × ℕ) (es : List (List ℕ × ℕ)) → IsBelowAll entry_cmp x es → ticks_of es x.0 ≡ 0
ticks_of-below x [] h = refl
ticks_of-below x (e ∷ es) h =
    ticks_of-tail e es x.0 (λ s. less_apart x.0 e.0 h.0 (sym s)) ∙ ticks_of-below x es h.1

-- what is below a head is below all
pub IsBelowAll-weaker : (x y : List ℕ × ℕ) (es : List (List ℕ × ℕ)) → ((q : List ℕ) → path_cmp x.0 q ≡ Less → path_cmp y.0 q ≡ Less) → IsBelowAll entry_cmp x es → IsBelowAll entry_cmp y es
IsBelowAll-weaker x y [] f h = tt
IsBelowAll-weaker x y (e ∷ es) f h = (f e.0 h.0, IsBelowAll-weaker x y es f h.1)

-- a path below the head of ascending entries has no ticks
pub ticks_of-under : (p : List ℕ) (e : List ℕ × ℕ) (es : List (List ℕ × ℕ)) → path_cmp p e.0 ≡ Less → IsAscending entry_cmp (e ∷ es) → ticks_of (e ∷ es) p ≡ 0
ticks_of-under p e es l h =
    ticks_of-below (p, 0) (e ∷ es) (l, IsBelowAll-weaker e (p, 0) es (λ q m. path_total.trans p e.0 q l m) h.0)

-- ---- a clock is its map

-- two clocks with the same ticks at each path are the same
pub clock_from_ticks : (xs ys : List (List ℕ × ℕ)) → IsClock xs → IsClock ys → ((path : List ℕ) → ticks_of xs path ≡ ticks_of ys path) → xs ≡ ys
clock_from_ticks [] [] c d h = refl
clock_from_ticks [] (y ∷ ys) c d h =
    let e = h y.0 ∙ ticks_of-head y.0 y.1 ys in absurd (omega (arith, e, d.positive.0))
clock_from_ticks (x ∷ xs) [] c d h =
    let e = sym (ticks_of-head x.0 x.1 xs) ∙ h x.0 in absurd (omega (arith, e, c.positive.0))
clock_from_ticks (x ∷ xs) (y ∷ ys) c d h =
    by_order x.0 y.0
    (λ l. let e = sym (ticks_of-head x.0 x.1 xs) ∙ h x.0 ∙ ticks_of-under x.0 y ys l d.ascending in absurd (omega (arith, e, c.positive.0)))
    (λ s.
    let n : x.1 ≡ y.1 = sym (ticks_of-head x.0 x.1 xs) ∙ h x.0 ∙ ap (ticks_of (y ∷ ys)) s ∙ ticks_of-head y.0 y.1 ys in
    let rest : xs ≡ ys = clock_from_ticks xs ys (record { ascending = c.ascending.1; positive = c.positive.1 }) (record { ascending = d.ascending.1; positive = d.positive.1 }) (λ q.
    by_order x.0 q
    (λ l. sym (ticks_of-tail x xs q (less_apart x.0 q l)) ∙ h q ∙ ticks_of-tail y ys q (λ t. less_apart x.0 q l (s ∙ t)))
    (λ t. ap (ticks_of xs) (sym t) ∙ ticks_of-below x xs c.ascending.0 ∙ sym (ticks_of-below y ys d.ascending.0) ∙ ap (ticks_of ys) (sym s ∙ t))
    (λ l. let n : ¬ (x.0 ≡ q) = λ t. less_apart q x.0 l (sym t) in sym (ticks_of-tail x xs q n) ∙ h q ∙ ticks_of-tail y ys q (λ t. n (s ∙ t)))) in
    λ i. (s i, n i) ∷ rest i)
    (λ l. let e = sym (ticks_of-head y.0 y.1 ys) ∙ sym (h y.0) ∙ ticks_of-under y.0 x xs l c.ascending in absurd (omega (arith, e, d.positive.0)))

-- ---- dots

-- what is at most the greater of two is at most one of them
le_max : (t a b : ℕ) → t ≤ max a b → (t ≤ a) ⊎ (t ≤ b)
le_max t a b h = ⊎_elim (λ l. inr (omega arith)) (λ l. inl l) (cases_lt a t)

-- a raised clock has the old dots, and those of the path up to the tick
pub Covers-raised : (old new : List (List ℕ × ℕ)) (dot other : Dot) → RaisesTo old new dot → Covers new other ↔ (Covers old other ⊎ ((other.path ≡ dot.path) × (1 ≤ other.tick) × (other.tick ≤ dot.tick)))
Covers-raised old new dot other r =
    let at : other.path ≡ dot.path → ticks_of new other.path ≡ max (ticks_of old other.path) dot.tick =
    λ s. ap (ticks_of new) s ∙ r.at ∙ ap (λ p. max (ticks_of old p) dot.tick) (sym s) in
    let away : ¬ (other.path ≡ dot.path) → ticks_of new other.path ≡ ticks_of old other.path = r.others other.path in
    let kept : ¬ (other.path ≡ dot.path) → Covers new other → Covers old other =
    λ n c. record { positive = c.positive; within = subst (λ m. other.tick ≤ m) (away n) c.within } in
    let back : ¬ (other.path ≡ dot.path) → Covers old other → Covers new other =
    λ n c. record { positive = c.positive; within = subst (λ m. other.tick ≤ m) (sym (away n)) c.within } in (
      λ c. by_order other.path dot.path
          (λ l. inl (kept (less_apart other.path dot.path l) c))
          (λ s. ⊎_elim (λ w. inl (record { positive = c.positive; within = w })) (λ w. inr (s, c.positive, w)) (le_max other.tick (ticks_of old other.path) dot.tick (subst (λ m. other.tick ≤ m) (at s) c.within)))
          (λ l. inl (kept (λ s. less_apart dot.path other.path l (sym s)) c)),
      ⊎_elim
          (λ c. by_order other.path dot.path
          (λ l. back (less_apart other.path dot.path l) c)
          (λ s. record { positive = c.positive; within = let e = at s in let w = c.within in omega arith })
          (λ l. back (λ s. less_apart dot.path other.path l (sym s)) c))
          (λ t. record { positive = t.1; within = let e = at t.0 in let w = t.2 in omega arith }),
    )

-- where a clock has at each path the greater of two clocks' ticks, it has the dots of both
pub Covers-max : (xs ys new : List (List ℕ × ℕ)) → ((path : List ℕ) → ticks_of new path ≡ max (ticks_of xs path) (ticks_of ys path)) → (dot : Dot) → Covers new dot ↔ (Covers xs dot ⊎ Covers ys dot)
Covers-max xs ys new h dot =
    let e = h dot.path in (
      λ c. ⊎_elim (λ w. inl (record { positive = c.positive; within = w })) (λ w. inr (record { positive = c.positive; within = w })) (le_max dot.tick (ticks_of xs dot.path) (ticks_of ys dot.path) (subst (λ m. dot.tick ≤ m) e c.within)),
      ⊎_elim
          (λ c. record { positive = c.positive; within = let w = c.within in omega arith })
          (λ c. record { positive = c.positive; within = let w = c.within in omega arith }),
    )

-- at most as many ticks at each path are a part of the dots
pub Covers-within : (xs ys : List (List ℕ × ℕ)) → ((path : List ℕ) → ticks_of xs path ≤ ticks_of ys path) ↔ ((dot : Dot) → Covers xs dot → Covers ys dot)
Covers-within xs ys = (
  λ h dot c. record { positive = c.positive; within = let e = h dot.path in let w = c.within in omega arith },
  λ h path. ⊎_elim
      (λ l. (h (record { path = path; tick = ticks_of xs path }) (record { positive = l; within = omega arith })).within)
      (λ l. omega arith)
      (cases_lt 0 (ticks_of xs path)),
)

-- a dot is one of the clock's, or it is not
pub Covers_or_not : (ticks : List (List ℕ × ℕ)) (dot : Dot) → Covers ticks dot ⊎ (¬ Covers ticks dot)
Covers_or_not ticks dot =
    ⊎_elim
    (λ low. ⊎_elim (λ high. inr (λ c. let w = c.within in omega arith)) (λ high. inl (record { positive = low; within = high })) (cases_lt (ticks_of ticks dot.path) dot.tick))
    (λ none. inr (λ c. let p = c.positive in omega arith))
    (cases_lt 0 dot.tick)
