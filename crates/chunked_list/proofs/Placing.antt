-- Places in a list of chunks.
use Rattle.std.proofs.Common.{◌≡◌, ℕ, ◌+◌, ◌-◌, ◌<◌, ◌≤◌, List, [], ◌∷◌, ◌++◌, Bool, true, false, get_or, length, take, drop, suc, zero, refl, sym, subst, ap, ◌∙◌, inl, inr, arith, append_assoc}
use Rattle.std.proofs.lemmas.Bool.{cases_Bool, true≢false}
use Rattle.std.specs.List.Sorted.{IsPartitionPoint}
use Rattle.std.proofs.lemmas.List.{take-append-drop, take_all, drop_all, take_more, append-nil}
use Rattle.hinted_chunks.specs.tree_clock.Lists.{Has}
use Rattle.hinted_chunks.proofs.of_mld_ops.AscendingLaws.{has_append, has_at, has_left, has_right, within_front, within_back}
use Rattle.chunked_list.specs.Joined.{joined_chunks, chunk_at, front_of, back_of}
use Rattle.hinted_chunks.specs.Hinted.{first_passes}
use Rattle.chunked_list.proofs.JoinedLaws.{joined_append}
use Rattle.chunked_list.specs.Parted.{IsParted, Divides}
use Rattle.chunked_list.specs.Stores.{AreSized}
use Rattle.chunked_list.proofs.Parting.{all_has, parted_before, parted_left, parted_right, none_passes, head_has, sized_at}

-- the list at one of its chunks
pub at_chunk : {X : Type 0} (chunks : List (List X)) (c : ℕ) → c < length chunks → chunks ≡ take c chunks ++ chunk_at chunks c ∷ drop (c + 1) chunks
at_chunk [] c l = absurd (omega (arith, l))
at_chunk (x ∷ xs) zero l = refl
at_chunk (x ∷ xs) (suc c) l = let e : suc c + 1 ≡ suc (c + 1) = omega arith in rw e (ap (λ ys. x ∷ ys) (at_chunk xs c (omega (arith, l))))

pub joined_at : {X : Type 0} (chunks : List (List X)) (c : ℕ) → c < length chunks
    → joined_chunks chunks ≡ joined_chunks (take c chunks) ++ (chunk_at chunks c ++ joined_chunks (drop (c + 1) chunks))
joined_at chunks c l = ap joined_chunks (at_chunk chunks c l) ∙ joined_append (take c chunks) (chunk_at chunks c ∷ drop (c + 1) chunks)

-- what is in front of a place, and what is behind it, is all
pub whole : {X : Type 0} (chunks : List (List X)) (c at : ℕ) → c < length chunks → joined_chunks chunks ≡ front_of chunks c at ++ back_of chunks c at
whole chunks c at l =
    let ch = chunk_at chunks c in
    let k = joined_chunks (drop (c + 1) chunks) in
    joined_at chunks c l
    ∙ ap (λ zs. joined_chunks (take c chunks) ++ (zs ++ k)) (sym (take-append-drop at ch))
    ∙ ap (λ zs. joined_chunks (take c chunks) ++ zs) (append_assoc (take at ch) (drop at ch) k)
    ∙ sym (append_assoc (joined_chunks (take c chunks)) (take at ch) (drop at ch ++ k))

-- a place in the last chunk, behind its last element
pub at_end : {X : Type 0} (chunks : List (List X)) (c at : ℕ) → c < length chunks → length chunks ≤ c + 1 → length (chunk_at chunks c) ≤ at → back_of chunks c at ≡ []
at_end chunks c at l m n =
    ap (λ zs. zs ++ joined_chunks (drop (c + 1) chunks)) (drop_all at (chunk_at chunks c) n)
    ∙ ap joined_chunks (drop_all (c + 1) chunks m)

pub all_front : {X : Type 0} (chunks : List (List X)) (c at : ℕ) → c < length chunks → length chunks ≤ c + 1 → length (chunk_at chunks c) ≤ at → joined_chunks chunks ≡ front_of chunks c at
all_front chunks c at l m n =
    whole chunks c at l ∙ ap (λ zs. front_of chunks c at ++ zs) (at_end chunks c at l m n) ∙ append-nil (front_of chunks c at)

-- an element that is put behind all others
pub put_at_end : {X : Type 0} (chunks : List (List X)) (c at : ℕ) (x : X) → c < length chunks → length chunks ≤ c + 1 → length (chunk_at chunks c) ≤ at
    → joined_chunks chunks ++ x ∷ [] ≡ front_of chunks c at ++ x ∷ back_of chunks c at
put_at_end chunks c at x l m n = ap (λ zs. zs ++ x ∷ []) (all_front chunks c at l m n) ∙ ap (λ zs. front_of chunks c at ++ x ∷ zs) (sym (at_end chunks c at l m n))

-- without a chunk, and in front of the first one, there is nothing
pub none_front : {X : Type 0} (chunks : List (List X)) → length chunks ≡ 0 → (c at : ℕ) → joined_chunks chunks ≡ front_of chunks c at
none_front [] e zero zero = refl
none_front [] e zero (suc at) = refl
none_front [] e (suc c) zero = refl
none_front [] e (suc c) (suc at) = refl
none_front (x ∷ xs) e c at = absurd (omega (arith, e))

-- the end of a chunk is the beginning of the next
pub next_front : {X : Type 0} (chunks : List (List X)) (c at : ℕ) → c < length chunks → length (chunk_at chunks c) ≤ at → front_of chunks (c + 1) 0 ≡ front_of chunks c at
next_front {X = X} chunks c at l n =
    ap (λ zs. joined_chunks (take (c + 1) chunks) ++ zs) (none (chunk_at chunks (c + 1)))
    ∙ append-nil (joined_chunks (take (c + 1) chunks))
    ∙ ap joined_chunks (take_more chunks c [] l)
    ∙ joined_append (take c chunks) (chunk_at chunks c ∷ [])
    ∙ ap (λ zs. joined_chunks (take c chunks) ++ zs) (append-nil (chunk_at chunks c) ∙ sym (take_all at (chunk_at chunks c) n))
  where
    none : (zs : List X) → take 0 zs ≡ []
    none [] = refl
    none (z ∷ zs) = refl

pub next_back : {X : Type 0} (chunks : List (List X)) (c at : ℕ) → c + 1 < length chunks → length (chunk_at chunks c) ≤ at → back_of chunks (c + 1) 0 ≡ back_of chunks c at
next_back {X = X} chunks c at l n =
    sym (
    ap (λ zs. zs ++ joined_chunks (drop (c + 1) chunks)) (drop_all at (chunk_at chunks c) n)
    ∙ ap joined_chunks (at_drop chunks (c + 1) l)
    )
  where
    at_drop : (zs : List (List X)) (i : ℕ) → i < length zs → drop i zs ≡ drop 0 (chunk_at zs i) ∷ drop (i + 1) zs
    at_drop [] i l = absurd (omega (arith, l))
    at_drop (z ∷ zs) zero l = ap (λ ys. ys ∷ zs) (sym (zero_drop z))
      where
        zero_drop : (ys : List X) → drop 0 ys ≡ ys
        zero_drop [] = refl
        zero_drop (y ∷ ys) = refl
    at_drop (z ∷ zs) (suc i) l = let e : suc i + 1 ≡ suc (i + 1) = omega arith in rw e (at_drop zs i (omega (arith, l)))

-- what a search in a chunk that a search among the chunks found tells
module _ {X : Type 0} (p : X → Bool) (chunks : List (List X)) (a : AreSized chunks) (h : IsParted p (joined_chunks chunks)) where
  pub divides : (begun c at : ℕ) → c ≡ begun - 1 → c < length chunks
      → IsPartitionPoint (λ ch. first_passes p ch ≡ true) (λ ch. first_passes p ch ≡ false) chunks begun
      → IsPartitionPoint (λ x. p x ≡ true) (λ x. p x ≡ false) (chunk_at chunks c) at
      → Divides p chunks c at
  divides zero c at e l heads point = record {
    front = λ x k. elim (has_append (joined_chunks (take c chunks)) (take at (chunk_at chunks c)) x k) [
      | inl m ↦ absurd (subst (λ n. ¬ Has (joined_chunks (take n chunks)) x) (sym (e ∙ zero_less)) (λ z. z) m)
      | inr m ↦ within_front (λ y. p y ≡ true) (chunk_at chunks c) at x point.0 m
    ];
    back = λ x k. none_passes p chunks x a h
        (λ ch m. within_back (λ ys. first_passes p ys ≡ false) chunks 0 ch heads.1 m)
        (subst (λ zs. Has zs x) (sym (whole chunks c at l)) (has_right (front_of chunks c at) (back_of chunks c at) x k));
  }
    where
      zero_less : 0 - 1 ≡ 0
      zero_less = omega arith
  divides (suc b) c at e l heads point = record {
    front = λ x k. elim (has_append (joined_chunks (take c chunks)) (take at (chunk_at chunks c)) x k) [
      | inl m ↦
          let q = head_has p (chunk_at chunks c) (sized_at chunks c l a) (heads.0 c [] (omega arith) (omega (arith, e))) in
          parted_before p (joined_chunks (take c chunks)) (chunk_at chunks c ++ joined_chunks (drop (c + 1) chunks)) x q.0 (subst (IsParted p) (joined_at chunks c l) h)
          (has_left (chunk_at chunks c) (joined_chunks (drop (c + 1) chunks)) q.0 q.1) q.2 m
      | inr m ↦ within_front (λ y. p y ≡ true) (chunk_at chunks c) at x point.0 m
    ];
    back = λ x k. elim (has_append (drop at (chunk_at chunks c)) (joined_chunks (drop (c + 1) chunks)) x k) [
      | inl m ↦ within_back (λ y. p y ≡ false) (chunk_at chunks c) at x point.1 m
      | inr m ↦ none_passes p (drop (c + 1) chunks) x (sized_drop chunks (c + 1) a)
          (parted_right p (chunk_at chunks c) (joined_chunks (drop (c + 1) chunks)) (parted_right p (joined_chunks (take c chunks)) (chunk_at chunks c ++ joined_chunks (drop (c + 1) chunks)) (subst (IsParted p) (joined_at chunks c l) h)))
          (λ ch j. within_back (λ ys. first_passes p ys ≡ false) chunks (suc b) ch heads.1 (subst (λ n. Has (drop n chunks) ch) (same e) j)) m
    ];
  }
    where
      same : c ≡ suc b - 1 → c + 1 ≡ suc b
      same e = omega (arith, e)

      sized_drop : (zs : List (List X)) (i : ℕ) → AreSized zs → AreSized (drop i zs)
      sized_drop [] zero b = tt
      sized_drop [] (suc i) b = tt
      sized_drop (z ∷ zs) zero b = b
      sized_drop (z ∷ zs) (suc i) b = sized_drop zs i b.1

-- without a chunk, nothing is on either side
pub divides_none : {X : Type 0} (p : X → Bool) (chunks : List (List X)) (c : ℕ) → length chunks ≡ 0 → Divides p chunks c 0
divides_none p [] zero e = record { front = λ x k. absurd k; back = λ x k. absurd k }
divides_none p [] (suc c) e = record {
  front = λ x k. absurd k;
  back = λ x k. absurd (subst (λ zs. Has (joined_chunks zs) x) (drop_all (suc c + 1) [] (omega arith)) k);
}
divides_none p (x ∷ xs) c e = absurd (omega (arith, e))

-- where the last element passes, all do
last_passes : {X : Type 0} (p : X → Bool) (xs : List X) (i : ℕ) (d : X) → i + 1 ≡ length xs → IsParted p xs → p (get_or xs i d) ≡ true → (x : X) → Has xs x → p x ≡ true
last_passes p [] i d e h t x k = absurd k
last_passes p (y ∷ ys) zero d e h t x (inl q) = subst (λ z. p z ≡ true) q t
last_passes p (y ∷ []) zero d e h t x (inr k) = absurd k
last_passes p (y ∷ z ∷ ys) zero d e h t x (inr k) = absurd (omega (arith, e))
last_passes p (y ∷ ys) (suc i) d e h t x (inl q) = elim (cases_Bool (p y)) [
  | inl a ↦ subst (λ z. p z ≡ true) q a
  | inr a ↦ absurd (true≢false (sym t ∙ all_has (λ z. p z ≡ false) ys (get_or ys i d) (h.0 a) (has_at ys i d (omega (arith, e)))))
]
last_passes p (y ∷ ys) (suc i) d e h t x (inr k) = last_passes p ys i d (omega (arith, e)) h.1 t x k

pub all_pass : {X : Type 0} (p : X → Bool) (chunks : List (List X)) (c i : ℕ) (d : X) → c + 1 ≡ length chunks → i + 1 ≡ length (chunk_at chunks c) → IsParted p (joined_chunks chunks)
    → p (get_or (chunk_at chunks c) i d) ≡ true → (x : X) → Has (joined_chunks chunks) x → p x ≡ true
all_pass p chunks c i d e n h t x k =
    let front = joined_chunks (take c chunks) in
    let chunk = chunk_at chunks c in
    let rest = joined_chunks (drop (c + 1) chunks) in
    let at = joined_at chunks c (omega (arith, e)) in
    let parted = subst (IsParted p) at h in
    elim (has_append front (chunk ++ rest) x (subst (λ zs. Has zs x) at k)) [
      | inl m ↦ parted_before p front (chunk ++ rest) x (get_or chunk i d) parted (has_left chunk rest (get_or chunk i d) (has_at chunk i d (omega (arith, n)))) t m
      | inr m ↦ elim (has_append chunk rest x m) [
        | inl m ↦ last_passes p chunk i d n (parted_left p chunk rest (parted_right p front (chunk ++ rest) parted)) t x m
        | inr m ↦ absurd (subst (λ zs. Has (joined_chunks zs) x) (drop_all (c + 1) chunks (omega (arith, e))) m)
      ]
    ]

-- and the place is behind all
pub divides_behind : {X : Type 0} (p : X → Bool) (chunks : List (List X)) (c at : ℕ) → front_of chunks c at ≡ joined_chunks chunks → back_of chunks c at ≡ []
    → ((x : X) → Has (joined_chunks chunks) x → p x ≡ true) → Divides p chunks c at
divides_behind p chunks c at f b all = record {
  front = λ x k. all x (subst (λ zs. Has zs x) f k);
  back = λ x k. absurd (subst (λ zs. Has zs x) b k);
}
