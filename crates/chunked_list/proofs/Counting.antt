-- Elements of a list in chunks, by how many stand before them.
use Rattle.std.proofs.Common.{◌≡◌, ◌∙◌, ℕ, ◌+◌, ◌<◌, ◌≤◌, List, [], ◌∷◌, ◌++◌, Bool, true, false, length, get_or, max, take, drop, suc, zero, refl, sym, subst, ap, inl, inr, arith, append_assoc}
use Rattle.std.proofs.Math.Seq.{take-append_seam, drop-append_seam}
use Rattle.std.proofs.lemmas.Bool.{cases_lt}
use Rattle.std.proofs.lemmas.List.{length-append, length-take, take-append-drop, take_all, take_more}
use Rattle.std.specs.List.Sorted.{IsPartitionPoint}
use Rattle.hinted_chunks.specs.tree_clock.Lists.{Has}
use Rattle.hinted_chunks.proofs.of_mld_ops.AscendingLaws.{has_at}
use Rattle.chunked_list.specs.Joined.{joined_chunks, chunk_at, front_of, back_of}
use Rattle.chunked_list.specs.Parted.{Divides}
use Rattle.chunked_list.proofs.JoinedLaws.{joined_append, joined_more}
use Rattle.chunked_list.proofs.Placing.{whole}

-- what stands behind so many elements
pub drop_front : {X : Type 0} (chunks : List (List X)) (c at n : ℕ) → c < length chunks → length (front_of chunks c at) ≡ n → drop n (joined_chunks chunks) ≡ back_of chunks c at
drop_front chunks c at n l e =
    ap (drop n) (whole chunks c at l)
    ∙ subst (λ k. drop k (front_of chunks c at ++ back_of chunks c at) ≡ back_of chunks c at) e (drop-append_seam (front_of chunks c at) (back_of chunks c at))

pub drop_more : {X : Type 0} (n : ℕ) (xs : List X) → drop (n + 1) xs ≡ drop 1 (drop n xs)
drop_more zero [] = refl
drop_more zero (x ∷ xs) = refl
drop_more (suc n) [] = let e : suc n + 1 ≡ suc (n + 1) = omega arith in rw e refl
drop_more (suc n) (x ∷ xs) = let e : suc n + 1 ≡ suc (n + 1) = omega arith in rw e (drop_more n xs)

-- the element of a number
pub element_of : {X : Type 0} (chunks : List (List X)) (c at n : ℕ) (x : X) → c < length chunks → length (front_of chunks c at) ≡ n
    → back_of chunks c at ≡ x ∷ drop 1 (back_of chunks c at) → drop n (joined_chunks chunks) ≡ x ∷ drop (n + 1) (joined_chunks chunks)
element_of chunks c at n x l e b =
    let d = drop_front chunks c at n l e in
    d ∙ b ∙ ap (λ zs. x ∷ drop 1 zs) (sym d) ∙ ap (λ zs. x ∷ zs) (sym (drop_more n (joined_chunks chunks)))

-- how many stand before a place
pub front_length : {X : Type 0} (chunks : List (List X)) (c at : ℕ) → at ≤ length (chunk_at chunks c) → length (front_of chunks c at) ≡ length (joined_chunks (take c chunks)) + at
front_length chunks c at l =
    let a = length-append (joined_chunks (take c chunks)) (take at (chunk_at chunks c)) in
    let t = length-take at (chunk_at chunks c) in
    omega (arith, a, t, l)

-- how many stand before the next chunk
pub next_length : {X : Type 0} (chunks : List (List X)) (c : ℕ) → c < length chunks
    → length (joined_chunks (take (c + 1) chunks)) ≡ length (joined_chunks (take c chunks)) + length (chunk_at chunks c)
next_length chunks c l =
    let e = ap (λ zs. length (joined_chunks zs)) (take_more chunks c [] l) in
    let j = ap length (joined_append (take c chunks) (chunk_at chunks c ∷ [])) in
    let a = length-append (joined_chunks (take c chunks)) (chunk_at chunks c ++ []) in
    let b = length-append (chunk_at chunks c) [] in
    omega (arith, e, j, a, b)

-- fewer than all are before a chunk that there is
pub is_within : {X : Type 0} (chunks : List (List X)) (c n : ℕ) → length (joined_chunks (take c chunks)) ≤ n → n < length (joined_chunks chunks) → c < length chunks
is_within chunks c n l m = elim (cases_lt c (length chunks)) [
  | inl h ↦ h
  | inr h ↦ let e = ap (λ zs. length (joined_chunks zs)) (take_all c chunks h) in absurd (omega (arith, l, m, e))
]

take_none : {X : Type 0} (xs : List X) → take 0 xs ≡ []
take_none [] = refl
take_none (x ∷ xs) = refl

-- the first so many of what begins with the first so many
pub take_front : {X : Type 0} (n : ℕ) (xs ys : List X) → take n (take n xs ++ ys) ≡ take n (xs ++ ys)
take_front zero xs ys = take_none (take 0 xs ++ ys) ∙ sym (take_none (xs ++ ys))
take_front (suc n) [] ys = refl
take_front (suc n) (x ∷ xs) ys = ap (λ zs. x ∷ zs) (take_front n xs ys)

-- where there are so many already, none is added
pub take_reached : {X : Type 0} (n : ℕ) (xs ys : List X) → length xs ≡ n → take n (xs ++ ys) ≡ xs
take_reached n xs ys e = subst (λ k. take k (xs ++ ys) ≡ xs) e (take-append_seam xs ys)

-- a list of which a front is added
module _ {X : Type 0} (n i : ℕ) (olds news xs : List X) (e : news ≡ olds ++ take i xs) where
  split : news ++ drop i xs ≡ olds ++ xs
  split = ap (λ zs. zs ++ drop i xs) e ∙ append_assoc olds (take i xs) (drop i xs) ∙ ap (λ zs. olds ++ zs) (take-append-drop i xs)

  pub added_some : length news ≡ n → news ≡ take n (olds ++ xs)
  added_some l = sym (take_reached n news (drop i xs) l) ∙ ap (take n) split

-- chunks that are gone over one after another
module _ {X : Type 0} (n i : ℕ) (olds news : List X) (chunks : List (List X)) (e : news ≡ take n (olds ++ joined_chunks (take i chunks))) where
  rest : joined_chunks (take i chunks) ++ joined_chunks (drop i chunks) ≡ joined_chunks chunks
  rest = sym (joined_append (take i chunks) (drop i chunks)) ∙ ap joined_chunks (take-append-drop i chunks)

  -- with so many of what comes, as many as of all
  pub chunks_split : take n (news ++ joined_chunks (drop i chunks)) ≡ take n (olds ++ joined_chunks chunks)
  chunks_split =
      ap (λ zs. take n (zs ++ joined_chunks (drop i chunks))) e
      ∙ take_front n (olds ++ joined_chunks (take i chunks)) (joined_chunks (drop i chunks))
      ∙ ap (take n) (append_assoc olds (joined_chunks (take i chunks)) (joined_chunks (drop i chunks)))
      ∙ ap (λ zs. take n (olds ++ zs)) rest

  pub chunks_reached : length news ≡ n → news ≡ take n (olds ++ joined_chunks chunks)
  chunks_reached l = sym (take_reached n news (joined_chunks (drop i chunks)) l) ∙ chunks_split

  -- one chunk more
  pub chunks_more : (last chunk slice : List X) → i < length chunks → chunk ≡ get_or chunks i chunk → slice ≡ chunk → last ≡ take n (news ++ slice)
      → last ≡ take n (olds ++ joined_chunks (take (i + 1) chunks))
  chunks_more last chunk slice l c s t =
      t
      ∙ ap (λ zs. take n (zs ++ slice)) e
      ∙ take_front n (olds ++ joined_chunks (take i chunks)) slice
      ∙ ap (take n) (append_assoc olds (joined_chunks (take i chunks)) slice)
      ∙ ap (λ zs. take n (olds ++ (joined_chunks (take i chunks) ++ zs))) s
      ∙ ap (λ zs. take n (olds ++ zs)) (sym (joined_more chunks i chunk l c))

-- the first so many of what is behind a place: in its chunk, and in the chunks behind it
pub span_is : {X : Type 0} (n : ℕ) (chunks : List (List X)) (c at : ℕ) (olds mids lasts front : List X) (backs : List (List X)) → olds ≡ []
    → front ≡ drop at (chunk_at chunks c) → backs ≡ drop (c + 1) chunks → mids ≡ take n (olds ++ front) → lasts ≡ take n (mids ++ joined_chunks backs)
    → lasts ≡ take n (back_of chunks c at)
span_is n chunks c at olds mids lasts front backs o f b m l =
    l
    ∙ ap (λ zs. take n (zs ++ joined_chunks backs)) (m ∙ ap (λ zs. take n (zs ++ front)) o)
    ∙ take_front n front (joined_chunks backs)
    ∙ ap (λ zs. take n (zs ++ joined_chunks backs)) f
    ∙ ap (λ zs. take n (drop at (chunk_at chunks c) ++ joined_chunks zs)) b

pub span_none : {X : Type 0} (n : ℕ) (xs : List X) → n ≡ 0 → take n xs ≡ []
span_none n xs e = ap (λ k. take k xs) e ∙ take_none xs

-- ---- how many elements are in front of a place that divides them

one_more : {X : Type 0} (p : X → Bool) (z : X) (xs : List X) (n : ℕ) → p z ≡ true → IsPartitionPoint (λ x. p x ≡ true) (λ x. p x ≡ false) xs n
    → IsPartitionPoint (λ x. p x ≡ true) (λ x. p x ≡ false) (z ∷ xs) (suc n)
one_more {X = X} p z xs n e rest = (front, back)
  where
    front : (k : ℕ) (d : X) → 0 ≤ k → k < suc n → p (get_or (z ∷ xs) k d) ≡ true
    front zero d a b = e
    front (suc k) d a b = rest.0 k d (omega arith) (omega (arith, b))

    back : (k : ℕ) (d : X) → suc n ≤ k → k < length (z ∷ xs) → p (get_or (z ∷ xs) k d) ≡ false
    back zero d a b = absurd (omega (arith, a))
    back (suc k) d a b = rest.1 k d (omega (arith, a)) (omega (arith, b))

point_of : {X : Type 0} (p : X → Bool) (xs ys : List X) → ((x : X) → Has xs x → p x ≡ true) → ((x : X) → Has ys x → p x ≡ false)
    → IsPartitionPoint (λ x. p x ≡ true) (λ x. p x ≡ false) (xs ++ ys) (length xs)
point_of p [] ys pass fail = (λ k d a b. absurd (omega (arith, b)), λ k d a b. fail (get_or ys k d) (has_at ys k d b))
point_of p (z ∷ xs) ys pass fail = one_more p z (xs ++ ys) (length xs) (pass z (inl refl)) (point_of p xs ys (λ x k. pass x (inr k)) fail)

-- what is in front of a place, and what is behind it, is all; also where there is no chunk
pub all_divided : {X : Type 0} (chunks : List (List X)) (c at : ℕ) → c < max 1 (length chunks) → at ≤ length (chunk_at chunks c)
    → joined_chunks chunks ≡ front_of chunks c at ++ back_of chunks c at
all_divided [] zero zero l m = refl
all_divided [] zero (suc at) l m = absurd (omega (arith, m))
all_divided [] (suc c) at l m = absurd (omega (arith, l))
all_divided (x ∷ xs) c at l m = whole (x ∷ xs) c at (omega (arith, l))

pub counted_point : {X : Type 0} (p : X → Bool) (chunks : List (List X)) (c at n : ℕ) → c < max 1 (length chunks) → at ≤ length (chunk_at chunks c) → Divides p chunks c at
    → n ≡ length (front_of chunks c at) → IsPartitionPoint (λ x. p x ≡ true) (λ x. p x ≡ false) (joined_chunks chunks) n
counted_point p chunks c at n l m d e =
    rw (all_divided chunks c at l m, e) (point_of p (front_of chunks c at) (back_of chunks c at) d.front d.back)

pub counted_most : {X : Type 0} (chunks : List (List X)) (c at n : ℕ) → c < max 1 (length chunks) → at ≤ length (chunk_at chunks c)
    → n ≡ length (front_of chunks c at) → n ≤ length (joined_chunks chunks)
counted_most chunks c at n l m e =
    let w = ap length (all_divided chunks c at l m) in
    let a = length-append (front_of chunks c at) (back_of chunks c at) in
    omega (arith, e, w, a)

-- without a chunk none is
pub none_counted : {X : Type 0} (chunks : List (List X)) (c at : ℕ) → length chunks ≤ c → c < max 1 (length chunks) → at ≤ length (chunk_at chunks c) → 0 ≡ length (front_of chunks c at)
none_counted [] zero zero k l m = refl
none_counted [] zero (suc at) k l m = absurd (omega (arith, m))
none_counted [] (suc c) at k l m = absurd (omega (arith, l))
none_counted (x ∷ xs) c at k l m = absurd (omega (arith, k, l))
