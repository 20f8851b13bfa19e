-- Elements that share their texts up to a mark, and their hints.
use Rattle.std.proofs.Common.{◌≡◌, ◌∙◌, ℕ, suc, zero, ◌+◌, ◌<◌, ◌≤◌, List, [], ◌∷◌, ◌++◌, Some, None, length, get_or, map, min, take, drop, is_some, unwrap_or, slice_get, insert, remove, set, ◌⊎◌, refl, sym, subst, ap, inl, inr, arith}
use Rattle.std.proofs.lemmas.Bool.{true≢false, false≢true}
use Rattle.std.proofs.Math.Seq.{map-set_same}
use Rattle.std.proofs.lemmas.List.{length-map, map-append, map-set, take-map, drop-map, get_or-map, take-append-drop}
use Rattle.tree_clock.specs.Lists.{Has}
use Rattle.mld_ops.proofs.AscendingLaws.{has_append, has_at, has_left, has_right, has_insert, has_take_more}
use Rattle.hinted_chunks.specs.Hinted.{AreHinted, ShareText, hint_of}
use Rattle.hinted_chunks.specs.Leading.{leading}

-- what two texts share, they share up to each place before
pub same_before : (m n : ℕ) (a b : List ℕ) → m ≤ n → take n a ≡ take n b → take m a ≡ take m b
same_before zero n [] [] l e = refl
same_before zero n [] (y ∷ ys) l e = refl
same_before zero n (x ∷ xs) [] l e = refl
same_before zero n (x ∷ xs) (y ∷ ys) l e = refl
same_before (suc m) zero a b l e = absurd (omega (arith, l))
same_before (suc m) (suc n) [] [] l e = refl
same_before (suc m) (suc n) [] (y ∷ ys) l e = let k = ap length e in absurd (omega (arith, k))
same_before (suc m) (suc n) (x ∷ xs) [] l e = let k = ap length e in absurd (omega (arith, k))
same_before (suc m) (suc n) (x ∷ xs) (y ∷ ys) l e =
    let h : x ≡ y = ap (λ zs. get_or zs 0 x) e in
    let t = same_before m n xs ys (omega (arith, l)) (ap (drop 1) e) in
    λ i. h i ∷ t i

pub same_at_none : (a b : List ℕ) → take 0 a ≡ take 0 b
same_at_none [] [] = refl
same_at_none [] (y ∷ ys) = refl
same_at_none (x ∷ xs) [] = refl
same_at_none (x ∷ xs) (y ∷ ys) = refl

-- members of a list
pub first_has : {X : Type 0} (xs : List X) (x : X) → Some x ≡ slice_get xs 0 → Has xs x
first_has [] x e = absurd (true≢false (ap is_some e))
first_has (y ∷ ys) x e = inl (sym (ap (λ o. unwrap_or o y) e))

pub none_has : {X : Type 0} (xs : List X) (x : X) → None ≡ slice_get xs 0 → Has xs x → ⊥
none_has [] x e h = h
none_has (y ∷ ys) x e h = false≢true (ap is_some e)

pub has_front : {X : Type 0} (n : ℕ) (xs : List X) (x : X) → Has (take n xs) x → Has xs x
has_front n xs x h = subst (λ zs. Has zs x) (take-append-drop n xs) (has_left (take n xs) (drop n xs) x h)

pub has_back : {X : Type 0} (n : ℕ) (xs : List X) (x : X) → Has (drop n xs) x → Has xs x
has_back n xs x h = subst (λ zs. Has zs x) (take-append-drop n xs) (has_right (take n xs) (drop n xs) x h)

pub has_rest : {X : Type 0} (i : ℕ) (xs : List X) (x : X) → Has (remove xs i) x → Has xs x
has_rest i xs x h = elim (has_append (take i xs) (drop (suc i) xs) x h) [
  | inl k ↦ has_front i xs x k
  | inr k ↦ has_back (suc i) xs x k
]

has_set : {X : Type 0} (xs : List X) (i : ℕ) (x y : X) → Has (set xs i x) y → Has xs y ⊎ (x ≡ y)
has_set [] i x y h = absurd h
has_set (z ∷ zs) zero x y (inl e) = inr e
has_set (z ∷ zs) zero x y (inr k) = inl (inr k)
has_set (z ∷ zs) (suc i) x y (inl e) = inl (inl e)
has_set (z ∷ zs) (suc i) x y (inr k) = elim (has_set zs i x y k) [
  | inl m ↦ inl (inr m)
  | inr m ↦ inr m
]

module _ {X : Type 0} (key : X → List ℕ) where
  pub shared_lower : (m n : ℕ) (xs : List X) → m ≤ n → ShareText key n xs → ShareText key m xs
  shared_lower m n xs l s x y h k = same_before m n (key x) (key y) l (s x y h k)

  pub shared_part : (mark : ℕ) (xs ys : List X) → ((x : X) → Has ys x → Has xs x) → ShareText key mark xs → ShareText key mark ys
  shared_part mark xs ys p s x y h k = s x y (p x h) (p y k)

  pub shared_from_one : (mark : ℕ) (xs : List X) (x : X) → ((y : X) → Has xs y → take mark (key x) ≡ take mark (key y)) → ShareText key mark xs
  shared_from_one mark xs x s y z h k = sym (s y h) ∙ s z k

  -- one more element of a list that is gone over
  pub shared_more : (m n : ℕ) (x y d : X) (xs : List X) (i : ℕ) → i < length xs → get_or xs i d ≡ y → take n (key x) ≡ take n (key y)
      → ((z : X) → Has (take i xs) z → take m (key x) ≡ take m (key z)) → (z : X) → Has (take (i + 1) xs) z → take (min m n) (key x) ≡ take (min m n) (key z)
  shared_more m n x y d xs i l e f s z h = elim ((has_take_more xs i d z l).0 h) [
    | inl k ↦ same_before (min m n) m (key x) (key z) (omega arith) (s z k)
    | inr k ↦ subst (λ w. take (min m n) (key x) ≡ take (min m n) (key w)) (sym e ∙ k) (same_before (min m n) n (key x) (key y) (omega arith) f)
  ]

  -- what the first element shares with one more, each shares with it
  pub shared_with_all : (mark : ℕ) (xs : List X) (first x : X) → Some first ≡ slice_get xs 0 → ShareText key mark xs → take mark (key first) ≡ take mark (key x)
      → (y : X) → Has xs y → take mark (key y) ≡ take mark (key x)
  shared_with_all mark xs first x f s e y h = s y first h (first_has xs first f) ∙ e

  -- without an element any mark will do
  pub hinted_without : (m n : ℕ) (xs : List X) (numbers : List ℕ) → None ≡ slice_get xs 0 → AreHinted key m xs numbers → AreHinted key n xs numbers
  hinted_without m n [] numbers e h = record { shared = λ x y k l. absurd k; each = h.each }
  hinted_without m n (x ∷ xs) numbers e h = absurd (false≢true (ap is_some e))

  -- an element comes in
  pub put_hinted : (mark at : ℕ) (old new : List X) (numbers numbered : List ℕ) (x : X) (hint : ℕ) → AreHinted key mark old numbers
      → ((y : X) → Has old y → take mark (key y) ≡ take mark (key x)) → hint ≡ hint_of key mark x → new ≡ insert old at x → numbered ≡ insert numbers at hint → AreHinted key mark new numbered
  put_hinted mark at old new numbers numbered x hint h s e i j = record {
    shared = shared_from_one mark new x (λ y k. with_new y (subst (λ zs. Has zs y) i k));
    each = j ∙ ap (λ n. insert numbers at n) e ∙ ap (λ ns. insert ns at (f x)) h.each ∙ put_numbers ∙ ap (map f) (sym i);
  }
    where
      f : X → ℕ
      f = hint_of key mark

      with_new : (y : X) → Has (insert old at x) y → take mark (key x) ≡ take mark (key y)
      with_new y k = elim ((has_insert old at x y).0 k) [
        | inl m ↦ sym (s y m)
        | inr m ↦ ap (λ w. take mark (key w)) (sym m)
      ]

      put_numbers : insert (map f old) at (f x) ≡ map f (insert old at x)
      put_numbers =
          ap (λ ns. ns ++ f x ∷ drop at (map f old)) (take-map f at old)
          ∙ ap (λ ns. map f (take at old) ++ f x ∷ ns) (drop-map f at old)
          ∙ sym (map-append f (take at old) (x ∷ drop at old))

  -- an element goes
  pub taken_hinted : (mark at : ℕ) (old new : List X) (numbers numbered : List ℕ) → AreHinted key mark old numbers → new ≡ remove old at → numbered ≡ remove numbers at → AreHinted key mark new numbered
  taken_hinted mark at old new numbers numbered h i j = record {
    shared = shared_part mark old new (λ x k. has_rest at old x (subst (λ zs. Has zs x) i k)) h.shared;
    each = j ∙ ap (λ ns. remove ns at) h.each ∙ left_numbers ∙ ap (map f) (sym i);
  }
    where
      f : X → ℕ
      f = hint_of key mark

      left_numbers : remove (map f old) at ≡ map f (remove old at)
      left_numbers =
          ap (λ ns. ns ++ drop (suc at) (map f old)) (take-map f at old)
          ∙ ap (λ ns. map f (take at old) ++ ns) (drop-map f (suc at) old)
          ∙ sym (map-append f (take at old) (drop (suc at) old))

  -- the halves
  pub front_hinted : (mark n : ℕ) (old new : List X) (numbers numbered : List ℕ) → AreHinted key mark old numbers → new ≡ take n old → numbered ≡ take n numbers → AreHinted key mark new numbered
  front_hinted mark n old new numbers numbered h i j = record {
    shared = shared_part mark old new (λ x k. has_front n old x (subst (λ zs. Has zs x) i k)) h.shared;
    each = j ∙ ap (take n) h.each ∙ take-map (hint_of key mark) n old ∙ ap (map (hint_of key mark)) (sym i);
  }

  pub back_hinted : (mark n : ℕ) (old new : List X) (numbers numbered : List ℕ) → AreHinted key mark old numbers → new ≡ drop n old → numbered ≡ drop n numbers → AreHinted key mark new numbered
  back_hinted mark n old new numbers numbered h i j = record {
    shared = shared_part mark old new (λ x k. has_back n old x (subst (λ zs. Has zs x) i k)) h.shared;
    each = j ∙ ap (drop n) h.each ∙ drop-map (hint_of key mark) n old ∙ ap (map (hint_of key mark)) (sym i);
  }

  -- the hint of the element at a place
  pub hint_at : (mark at : ℕ) (xs : List X) (numbers : List ℕ) (hint : ℕ) (d : X) → AreHinted key mark xs numbers → at < length xs → hint ≡ get_or numbers at hint → hint ≡ hint_of key mark (get_or xs at d)
  hint_at mark at xs numbers hint d h l e =
      e ∙ ap (λ ns. get_or ns at hint) h.each ∙ get_or-map (hint_of key mark) xs at d hint l

  -- another element stands in place of one
  pub set_hinted : (mark at : ℕ) (xs : List X) (numbers : List ℕ) (x : X) (hint : ℕ) → AreHinted key mark xs numbers
      → ((y : X) → Has xs y → take mark (key y) ≡ take mark (key x)) → hint ≡ hint_of key mark x → AreHinted key mark (set xs at x) (set numbers at hint)
  set_hinted mark at xs numbers x hint h s e = record {
    shared = shared_from_one mark (set xs at x) x (λ y k. with_new y (has_set xs at x y k));
    each = ap (λ n. set numbers at n) e ∙ ap (λ ns. set ns at (hint_of key mark x)) h.each ∙ sym (map-set (hint_of key mark) xs at x);
  }
    where
      with_new : (y : X) → (Has xs y ⊎ (x ≡ y)) → take mark (key x) ≡ take mark (key y)
      with_new y (inl m) = sym (s y m)
      with_new y (inr m) = ap (λ w. take mark (key w)) m

  -- another one of its text
  pub set_same : (mark at : ℕ) (xs : List X) (numbers : List ℕ) (x d : X) → AreHinted key mark xs numbers → at < length xs → key x ≡ key (get_or xs at d) → AreHinted key mark (set xs at x) numbers
  set_same mark at xs numbers x d h l e = record {
    shared = λ y z j k. shared_as_one (stands y (has_set xs at x y j)) (stands z (has_set xs at x z k));
    each = h.each ∙ sym (map-set_same (hint_of key mark) xs at x d (ap (λ text. leading 8 (drop mark text)) e));
  }
    where
      stands : (y : X) → (Has xs y ⊎ (x ≡ y)) → (w : X) × Has xs w × (key w ≡ key y)
      stands y (inl m) = (y, m, refl)
      stands y (inr m) = (get_or xs at d, has_at xs at d l, sym e ∙ ap key m)

      shared_as_one : {y z : X} → ((w : X) × Has xs w × (key w ≡ key y)) → ((w : X) × Has xs w × (key w ≡ key z)) → take mark (key y) ≡ take mark (key z)
      shared_as_one v w = ap (take mark) (sym v.2) ∙ h.shared v.0 w.0 v.1 w.1 ∙ ap (take mark) w.2

  -- as many hints as elements
  pub hinted_length : (mark : ℕ) (xs : List X) (numbers : List ℕ) → AreHinted key mark xs numbers → length numbers ≡ length xs
  hinted_length mark xs numbers h = ap length h.each ∙ length-map xs (hint_of key mark)
