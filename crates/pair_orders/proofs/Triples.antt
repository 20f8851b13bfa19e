-- Triples of keys, each once where those of one triple stand together.
use Rattle.std.proofs.Common.{◌≡◌, ◌∙◌, ◌+◌, ◌-◌, ◌<◌, ◌≤◌, ℕ, zero, suc, List, [], ◌∷◌, ◌++◌, ◌↔◌, Bool, true, ◌&&◌, nat_eq, nat_lt, Option, IsSome, IsTrue, Result, Ok, Err, IfOk, length, map, take, drop, get_or, refl, sym, ap, subst, inl, inr, arith}
use Rattle.std.proofs.lemmas.Bool.{and_parts, and_from, true≢false, false≢true}
use Rattle.std.proofs.lemmas.Bool.Decides.{eqb_tells}
use Rattle.std.proofs.lemmas.List.{take_all, take_more, map-append, take-append-drop}
use Rattle.std.proofs.lemmas.Simd.{map-map}
use Rattle.std.specs.List.{filter}
use Rattle.std.specs.declared.cmp.Ordering.{Ordering}
use Rattle.mld_ops.proofs.AscendingLaws.{ascending_back, ascending_front, has_append, has_at, has_filter, has_left, has_right}
use Rattle.mld_ops.specs.declared.pair_lists.PairRow.{PairRow}
use Rattle.tree_clock.specs.Lists.{Has, IsAscending}
use Rattle.pair_orders.specs.Keys.{shape_cmp, key_numbers, slot_at, LeadsByTerms}
use Rattle.pair_orders.specs.Orders.{IsOrder}
use Rattle.pair_orders.specs.PairEntries.{StandOnce, StandTogether, BeginsAlike, entries_of, numbers_of_terms}
use Rattle.pair_orders.specs.TripleEntries.{AreTriplesOf, IsRepeated, key_terms, term_numbers}
use Rattle.pair_orders.specs.declared.keys.Key.{Key}
use Rattle.pair_orders.specs.declared.keys.Numbers.{Numbers}
use Rattle.pair_orders.specs.declared.keys.Shape.{Shape}
use Rattle.pair_orders.specs.declared.keys.TermNumbers.{TermNumbers}
use Rattle.pair_orders.proofs.Holding.{entries_numbers, has_map}
use Rattle.pair_orders.proofs.Once.{once_more}
use Rattle.pair_orders.proofs.Together.{has_image, keys_together, mapped_together}

module _ {X Y : Type 0} (f : X → Y) where
  -- a value has the image of the one in front of it
  same_at : (xs : List X) (n : ℕ) (a b : X) → n + 1 < length xs → IsRepeated f xs (suc n) ↔ (f (get_or xs (suc n) a) ≡ f (get_or xs n b))
  same_at [] n a b l = absurd (omega (arith, l))
  same_at (x ∷ []) n a b l = absurd (omega (arith, l))
  same_at (x ∷ y ∷ xs) zero a b l = (λ h. h, λ h. h)
  same_at (x ∷ y ∷ xs) (suc n) a b l = same_at (y ∷ xs) n a b (omega (arith, l))

  -- the first has none in front of it
  pub first_at : (xs : List X) (i : ℕ) → i ≤ 0 → IsTrue (nat_lt 0 i) ↔ IsRepeated f xs i
  first_at [] zero l = (λ h. absurd (false≢true h), λ r. absurd r)
  first_at (x ∷ xs) zero l = (λ h. absurd (false≢true h), λ r. absurd r)
  first_at xs (suc i) l = absurd (omega (arith, l))

  pub next_at : (xs : List X) (i : ℕ) (a b : X) → 0 < i → i < length xs → IsRepeated f xs i ↔ (f (get_or xs i a) ≡ f (get_or xs (i - 1) b))
  next_at xs zero a b p l = absurd (omega (arith, p))
  next_at xs (suc i) a b p l = let e : suc i - 1 ≡ i = omega arith in rw e (same_at xs i a b (omega (arith, l)))

  -- then one in front has its image
  repeated_has : (xs : List X) (i : ℕ) (d : X) → IsRepeated f xs i → Has (map f (take i xs)) (f (get_or xs i d))
  repeated_has [] i d r = absurd r
  repeated_has (x ∷ xs) zero d r = absurd r
  repeated_has (x ∷ []) (suc zero) d r = absurd r
  repeated_has (x ∷ y ∷ xs) (suc zero) d r = inl (sym r)
  repeated_has (x ∷ xs) (suc (suc i)) d r = inr (repeated_has xs (suc i) d r)

  -- and else none, where those of one image stand together
  new_lacks : (xs : List X) (i : ℕ) (d : X) → StandTogether f xs → ¬ IsRepeated f xs i → i < length xs → ¬ Has (map f (take i xs)) (f (get_or xs i d))
  new_lacks [] i d t n l h = absurd (omega (arith, l))
  new_lacks (x ∷ xs) zero d t n l h = h
  new_lacks (x ∷ []) (suc i) d t n l h = absurd (omega (arith, l))
  new_lacks (x ∷ y ∷ xs) (suc zero) d t n l (inl e) = n (sym e)
  new_lacks (x ∷ y ∷ xs) (suc zero) d t n l (inr h) = h
  new_lacks (x ∷ y ∷ xs) (suc (suc i)) d t n l (inl e) = elim t.0 [
    | inl b ↦ new_lacks (y ∷ xs) (suc i) d t.1 n (omega (arith, l)) (inl (b ∙ e))
    | inr a ↦ a (get_or (y ∷ xs) (suc i) d) (has_at (y ∷ xs) (suc i) d (omega (arith, l))) (sym e)
  ]
  new_lacks (x ∷ y ∷ xs) (suc (suc i)) d t n l (inr h) = new_lacks (y ∷ xs) (suc i) d t.1 n (omega (arith, l)) h

  -- the images of those in front of a place were found, each once where those of one image stand together
  pub record AreImages (xs : List X) (i : ℕ) (found : List Y) : Type 0 where
    pub members : (y : Y) → Has found y ↔ Has (map f (take i xs)) y
    pub once : StandTogether f xs → StandOnce found

  pub images_ended : (xs : List X) (i : ℕ) (found : List Y) → length xs ≤ i → AreImages xs i found → (y : Y) → Has found y ↔ Has (map f xs) y
  images_ended xs i found l is y = subst (λ zs. Has found y ↔ Has (map f zs) y) (take_all i xs l) (is.members y)

  some_of : (xs : List X) (i : ℕ) → i < length xs → X
  some_of [] i l = absurd (omega (arith, l))
  some_of (x ∷ xs) i l = x

  module _ (xs : List X) (i : ℕ) (found : List Y) (l : i < length xs) (is : AreImages xs i found) where
    one_more : (d : X) → map f (take (i + 1) xs) ≡ map f (take i xs) ++ f (get_or xs i d) ∷ []
    one_more d = ap (map f) (take_more xs i d l) ∙ map-append f (take i xs) (get_or xs i d ∷ [])

    -- one that is repeated is left out
    pub images_same : IsRepeated f xs i → AreImages xs (i + 1) found
    images_same r = let d = some_of xs i l in record {
      members = λ y. (
        λ h. subst (λ zs. Has zs y) (sym (one_more d)) (has_left (map f (take i xs)) (f (get_or xs i d) ∷ []) y ((is.members y).0 h)),
        λ h. elim (has_append (map f (take i xs)) (f (get_or xs i d) ∷ []) y (subst (λ zs. Has zs y) (one_more d) h)) [
          | inl k ↦ (is.members y).1 k
          | inr k ↦ elim k [
            | inl e ↦ (is.members y).1 (subst (λ z. Has (map f (take i xs)) z) e (repeated_has xs i d r))
            | inr n ↦ absurd n
          ]
        ],
      );
      once = is.once;
    }

    -- another is put behind
    pub images_more : (d : X) (now : List Y) → ¬ IsRepeated f xs i → now ≡ found ++ f (get_or xs i d) ∷ [] → AreImages xs (i + 1) now
    images_more d now n q = record {
      members = λ y. (
        λ h. elim (has_append found (f (get_or xs i d) ∷ []) y (subst (λ zs. Has zs y) q h)) [
          | inl k ↦ subst (λ zs. Has zs y) (sym (one_more d)) (has_left (map f (take i xs)) (f (get_or xs i d) ∷ []) y ((is.members y).0 k))
          | inr k ↦ subst (λ zs. Has zs y) (sym (one_more d)) (has_right (map f (take i xs)) (f (get_or xs i d) ∷ []) y k)
        ],
        λ h. subst (λ zs. Has zs y) (sym q) (elim (has_append (map f (take i xs)) (f (get_or xs i d) ∷ []) y (subst (λ zs. Has zs y) (one_more d) h)) [
          | inl k ↦ has_left found (f (get_or xs i d) ∷ []) y ((is.members y).1 k)
          | inr k ↦ has_right found (f (get_or xs i d) ∷ []) y k
        ]),
      );
      once = λ t. subst (λ zs. StandOnce zs) (sym q) (once_more found (f (get_or xs i d)) (is.once t) (λ h. new_lacks xs i d t n l ((is.members (f (get_or xs i d))).0 h)));
    }

-- ---- numbers of terms

number_told : (a b : ℕ) → (nat_eq a b ≡ true) ↔ (a ≡ b)
number_told a b = elim (eqb_tells a b) [
  | inl p ↦ (λ h. p.1, λ e. p.0)
  | inr p ↦ (λ h. absurd (true≢false (sym h ∙ p.0)), λ e. absurd (p.1 e))
]

-- they are the same where each is
pub terms_told : (a b : TermNumbers) → ((nat_eq a.s b.s && (nat_eq a.p b.p && nat_eq a.o b.o)) ≡ true) ↔ (a ≡ b)
terms_told a b = (
  λ h.
      let t = and_parts (nat_eq a.s b.s) (nat_eq a.p b.p && nat_eq a.o b.o) h in
      let u = and_parts (nat_eq a.p b.p) (nat_eq a.o b.o) t.1 in
      let s = (number_told a.s b.s).0 t.0 in
      let p = (number_told a.p b.p).0 u.0 in
      let o = (number_told a.o b.o).0 u.1 in
      λ i. record { s = s i; p = p i; o = o i },
  λ e.
      and_from (nat_eq a.s b.s) (nat_eq a.p b.p && nat_eq a.o b.o) ((number_told a.s b.s).1 (ap (λ (t : TermNumbers). t.s) e))
      (and_from (nat_eq a.p b.p) (nat_eq a.o b.o) ((number_told a.p b.p).1 (ap (λ (t : TermNumbers). t.p) e)) ((number_told a.o b.o).1 (ap (λ (t : TermNumbers). t.o) e))),
)

-- a test of the terms at a place and of those in front of it
pub repeated_told : {X : Type 0} (f : X → TermNumbers) (xs : List X) (at : ℕ) (a b : X) (x y : TermNumbers) (told : Bool) → 0 < at → at < length xs
    → x ≡ f (get_or xs at a) → y ≡ f (get_or xs (at - 1) b) → told ≡ (nat_eq x.s y.s && (nat_eq x.p y.p && nat_eq x.o y.o)) → (told ≡ true) ↔ IsRepeated f xs at
repeated_told f xs at a b x y told p l d e q =
    let n = next_at f xs at a b p l in
    (λ h. n.1 (sym d ∙ (terms_told x y).0 (sym q ∙ h) ∙ e), λ r. q ∙ (terms_told x y).1 (d ∙ n.0 r ∙ sym e))

-- ---- those of the keys of an order

together_through : {X Y Z : Type 0} (f : X → Y) (g : Y → Z) (back : Z → Y) → ((y : Y) → back (g y) ≡ y) → (xs : List X) → StandTogether f xs → StandTogether (λ x. g (f x)) xs
together_through f g back turns [] t = tt
together_through {X} f g back turns (x ∷ xs) t = (
  elim t.0 [
    | inl b ↦ inl (alike x xs b)
    | inr n ↦ inr (λ other h e. n other h (sym (turns (f other)) ∙ ap back e ∙ turns (f x)))
  ],
  together_through f g back turns xs t.1,
)
  where
    alike : (x : X) (xs : List X) → BeginsAlike f x xs → BeginsAlike (λ x. g (f x)) x xs
    alike x [] b = absurd b
    alike x (y ∷ ys) b = ap g b

ascending_piece : (R : Key → Key → Ordering) (keys : List Key) (from count : ℕ) → IsAscending R keys → IsAscending R (take count (drop from keys))
ascending_piece R keys from count a =
    let behind = ascending_back R (take from keys) (drop from keys) (subst (IsAscending R) (sym (take-append-drop from keys)) a) in
    ascending_front R (take count (drop from keys)) (drop count (drop from keys)) (subst (IsAscending R) (sym (take-append-drop count (drop from keys))) behind)

-- those of one triple stand together, also where the keys are lent
pub piece_together : {K : Type 0} (key : K → Key) (shape : Shape) (keys : List Key) (slots : List (Option PairRow)) (from count : ℕ) (found : List K) → LeadsByTerms shape → IsOrder shape keys slots
    → map key found ≡ take count (drop from keys) → StandTogether (λ k. key_terms (key k)) found
piece_together key shape keys slots from count found leads is e =
    let piece = take count (drop from keys) in
    let together = keys_together shape leads piece (ascending_piece (shape_cmp shape) keys from count is.ascending) in
    let terms = together_through (λ k. numbers_of_terms (key_numbers k)) (λ (t : ℕ × ℕ × ℕ). record { s = t.0; p = t.1; o = t.2 }) (λ (t : TermNumbers). (t.s, t.p, t.o)) (λ t. refl) piece together in
    mapped_together key key_terms found (subst (λ ks. StandTogether key_terms ks) (sym e) terms)

-- what was found of lent keys is what was found of the keys
pub piece_members : {K : Type 0} (key : K → Key) (piece : List Key) (lent : List K) (found : List TermNumbers) → map key lent ≡ piece
    → ((terms : TermNumbers) → Has found terms ↔ Has (map (λ k. key_terms (key k)) lent) terms) → (terms : TermNumbers) → Has found terms ↔ Has (map key_terms piece) terms
piece_members key piece lent found e m = subst (λ ts. (terms : TermNumbers) → Has found terms ↔ Has ts terms) (sym (map-map key_terms key lent) ∙ ap (map key_terms) e) m

-- ---- those of the pairs

-- of the keys between two places that the wanted numbers divide
pub triples_of_entries : (slots : List (Option PairRow)) (test : Numbers → Bool) (entries : List (Numbers × PairRow)) (piece : List Key) → filter (λ entry. test entry.0) entries ≡ entries_of slots piece
    → ((key : Key) → Has piece key → IsSome (slot_at slots key.slot)) → (found : List TermNumbers) → ((terms : TermNumbers) → Has found terms ↔ Has (map key_terms piece) terms) → AreTriplesOf test entries found
triples_of_entries slots test entries piece e occupied found m terms =
    let numbers : map (λ entry. entry.0) (filter (λ entry. test entry.0) entries) ≡ map key_numbers piece = ap (map (λ entry. entry.0)) e ∙ entries_numbers slots piece occupied in (
      λ h.
          let k = has_map key_terms piece terms ((m terms).0 h) in
          let n = has_map (λ entry. entry.0) (filter (λ entry. test entry.0) entries) (key_numbers k.0) (subst (λ ns. Has ns (key_numbers k.0)) (sym numbers) (has_image key_numbers piece k.0 k.1)) in
          let p = (has_filter (λ entry. test entry.0) entries n.0).0 n.1 in
          (n.0, p.0, p.1, ap term_numbers n.2 ∙ k.2),
      λ h.
          let kept = (has_filter (λ entry. test entry.0) entries h.0).1 (h.1, h.2) in
          let n = has_map key_numbers piece h.0.0 (subst (λ ns. Has ns h.0.0) numbers (has_image (λ entry. entry.0) (filter (λ entry. test entry.0) entries) h.0 kept)) in
          (m terms).1 (subst (λ t. Has (map key_terms piece) t) (ap term_numbers n.2 ∙ h.3) (has_image key_terms piece n.0 n.1)),
    )

-- the same pairs in whatever order
pub same_triples : (test : Numbers → Bool) (entries pairs : List (Numbers × PairRow)) → ((entry : Numbers × PairRow) → Has entries entry ↔ Has pairs entry) → (found : List TermNumbers) → AreTriplesOf test entries found
    → AreTriplesOf test pairs found
same_triples test entries pairs same found are terms = (
  λ h. let e = (are terms).0 h in (e.0, (same e.0).0 e.1, e.2, e.3),
  λ h. (are terms).1 (h.0, (same h.0).1 h.1, h.2, h.3),
)

-- two facts of a result
pub ok_both : {A E : Type 0} (r : Result A E) (P Q R : A → Type 0) → ((a : A) → P a → Q a → R a) → IfOk r P → IfOk r Q → IfOk r R
ok_both (Ok a) P Q R f h k = f a h k
ok_both (Err e) P Q R f h k = tt
