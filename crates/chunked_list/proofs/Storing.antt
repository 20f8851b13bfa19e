-- What edits of chunks do to the list and to its room.
use Rattle.std.proofs.Common.{◌≡◌, ℕ, ◌+◌, ◌-◌, ◌*◌, ◌<◌, ◌≤◌, List, [], ◌∷◌, ◌++◌, length, get_or, set, take, drop, suc, zero, refl, sym, ap, ◌∙◌, arith, append_assoc}
use Rattle.std.proofs.lemmas.List.{length-append, length-take, length-drop, take-append-drop}
use Rattle.std.specs.List.{remove, insert}
use Rattle.hinted_chunks.specs.ChunkLimits.{chunk_limit, half_limit}
use Rattle.chunked_list.specs.Joined.{joined_chunks, chunk_at, front_of, back_of}
use Rattle.chunked_list.specs.Room.{excess_of}
use Rattle.chunked_list.specs.Stores.{IsSized, AreSized}
use Rattle.chunked_list.proofs.Parting.{sized_at}

step : (c : ℕ) → suc c + 1 ≡ suc (c + 1)
step c = omega arith

-- a chunk that is put in another's place
pub joined_set : {X : Type 0} (chunks : List (List X)) (c : ℕ) (v : List X) → c < length chunks → joined_chunks (set chunks c v) ≡ joined_chunks (take c chunks) ++ (v ++ joined_chunks (drop (c + 1) chunks))
joined_set [] c v l = absurd (omega (arith, l))
joined_set (x ∷ xs) zero v l = refl
joined_set (x ∷ xs) (suc c) v l = rw (step c) (
    ap (λ zs. x ++ zs) (joined_set xs c v (omega (arith, l)))
    ∙ sym (append_assoc x (joined_chunks (take c xs)) (v ++ joined_chunks (drop (c + 1) xs))))

pub count_set : {X : Type 0} (chunks : List (List X)) (c : ℕ) (v : List X) → c < length chunks → length (joined_chunks (set chunks c v)) + length (chunk_at chunks c) ≡ length (joined_chunks chunks) + length v
count_set [] c v l = absurd (omega (arith, l))
count_set (x ∷ xs) zero v l = let a = length-append v (joined_chunks xs) in let b = length-append x (joined_chunks xs) in omega (arith, a, b)
count_set (x ∷ xs) (suc c) v l =
    let a = length-append x (joined_chunks (set xs c v)) in let b = length-append x (joined_chunks xs) in
    let h = count_set xs c v (omega (arith, l)) in omega (arith, a, b, h)

pub excess_set : {X : Type 0} (chunks : List (List X)) (c : ℕ) (v : List X) → c < length chunks → excess_of (set chunks c v) + (length (chunk_at chunks c) - half_limit) ≡ excess_of chunks + (length v - half_limit)
excess_set [] c v l = absurd (omega (arith, l))
excess_set (x ∷ xs) zero v l = omega arith
excess_set (x ∷ xs) (suc c) v l = let h = excess_set xs c v (omega (arith, l)) in omega (arith, h)

pub sized_set : {X : Type 0} (chunks : List (List X)) (c : ℕ) (v : List X) → AreSized chunks → IsSized v → AreSized (set chunks c v)
sized_set [] c v a s = tt
sized_set (x ∷ xs) zero v a s = (s, a.1)
sized_set (x ∷ xs) (suc c) v a s = (a.0, sized_set xs c v a.1 s)

pub excess_at : {X : Type 0} (chunks : List (List X)) (c : ℕ) → c < length chunks → length (chunk_at chunks c) - half_limit ≤ excess_of chunks
excess_at [] c l = absurd (omega (arith, l))
excess_at (x ∷ xs) zero l = omega arith
excess_at (x ∷ xs) (suc c) l = let h = excess_at xs c (omega (arith, l)) in omega (arith, h)

pub count_at : {X : Type 0} (chunks : List (List X)) (c : ℕ) → c < length chunks → length (chunk_at chunks c) ≤ length (joined_chunks chunks)
count_at [] c l = absurd (omega (arith, l))
count_at (x ∷ xs) zero l = let a = length-append x (joined_chunks xs) in omega (arith, a)
count_at (x ∷ xs) (suc c) l = let a = length-append x (joined_chunks xs) in let h = count_at xs c (omega (arith, l)) in omega (arith, a, h)

-- the number of elements is bounded
pub count_bound : {X : Type 0} (chunks : List (List X)) → AreSized chunks → length (joined_chunks chunks) ≤ chunk_limit * length chunks
count_bound [] a = omega arith
count_bound (x ∷ xs) a = let b = length-append x (joined_chunks xs) in let h = count_bound xs a.1 in omega (arith, b, h, a.0.1)

pub excess_bound : {X : Type 0} (chunks : List (List X)) → AreSized chunks → excess_of chunks ≤ chunk_limit * length chunks
excess_bound [] a = omega arith
excess_bound (x ∷ xs) a = let h = excess_bound xs a.1 in omega (arith, h, a.0.1)

-- an element that is put into a chunk
pub joined_put : {X : Type 0} (chunks : List (List X)) (c at : ℕ) (x : X) → c < length chunks
    → joined_chunks (set chunks c (insert (chunk_at chunks c) at x)) ≡ front_of chunks c at ++ x ∷ back_of chunks c at
joined_put chunks c at x l =
    let ch = chunk_at chunks c in
    let k = joined_chunks (drop (c + 1) chunks) in
    joined_set chunks c (insert ch at x) l
    ∙ ap (λ zs. joined_chunks (take c chunks) ++ zs) (append_assoc (take at ch) (x ∷ drop at ch) k)
    ∙ sym (append_assoc (joined_chunks (take c chunks)) (take at ch) (x ∷ (drop at ch ++ k)))

pub length_put : {X : Type 0} (ch : List X) (at : ℕ) (x : X) → length (insert ch at x) ≡ length ch + 1
length_put ch at x =
    let a = length-append (take at ch) (x ∷ drop at ch) in
    let b = length-append (take at ch) (drop at ch) in
    let e : length (take at ch ++ drop at ch) ≡ length ch = ap length (take-append-drop at ch) in
    omega (arith, a, b, e)

-- the element at a place is the first behind it
drop_at : {X : Type 0} (xs : List X) (at : ℕ) (x : X) → at < length xs → x ≡ get_or xs at x → drop at xs ≡ x ∷ drop (suc at) xs
drop_at [] at x l e = absurd (omega (arith, l))
drop_at (y ∷ ys) zero x l e = ap (λ w. w ∷ ys) (sym e)
drop_at (y ∷ ys) (suc at) x l e = drop_at ys at x (omega (arith, l)) e

pub back_at : {X : Type 0} (chunks : List (List X)) (c at : ℕ) (x : X) → at < length (chunk_at chunks c) → x ≡ get_or (chunk_at chunks c) at x
    → back_of chunks c at ≡ x ∷ (drop (suc at) (chunk_at chunks c) ++ joined_chunks (drop (c + 1) chunks))
back_at chunks c at x l e = ap (λ zs. zs ++ joined_chunks (drop (c + 1) chunks)) (drop_at (chunk_at chunks c) at x l e)

pub back_first : {X : Type 0} (chunks : List (List X)) (c at : ℕ) (x : X) → at < length (chunk_at chunks c) → x ≡ get_or (chunk_at chunks c) at x
    → back_of chunks c at ≡ x ∷ drop 1 (back_of chunks c at)
back_first chunks c at x l e = let b = back_at chunks c at x l e in b ∙ ap (λ zs. x ∷ drop 1 zs) (sym b)

-- an element that is taken out of a chunk
pub joined_take : {X : Type 0} (chunks : List (List X)) (c at : ℕ) (x : X) → c < length chunks → at < length (chunk_at chunks c) → x ≡ get_or (chunk_at chunks c) at x
    → joined_chunks (set chunks c (remove (chunk_at chunks c) at)) ≡ front_of chunks c at ++ drop 1 (back_of chunks c at)
joined_take chunks c at x l m e =
    let ch = chunk_at chunks c in
    let k = joined_chunks (drop (c + 1) chunks) in
    joined_set chunks c (remove ch at) l
    ∙ ap (λ zs. joined_chunks (take c chunks) ++ zs) (append_assoc (take at ch) (drop (suc at) ch) k)
    ∙ sym (append_assoc (joined_chunks (take c chunks)) (take at ch) (drop (suc at) ch ++ k))
    ∙ ap (λ zs. front_of chunks c at ++ drop 1 zs) (sym (back_at chunks c at x m e))

pub length_take : {X : Type 0} (ch : List X) (at : ℕ) → at < length ch → length (remove ch at) + 1 ≡ length ch
length_take [] at l = absurd (omega (arith, l))
length_take (y ∷ ys) zero l = omega arith
length_take (y ∷ ys) (suc at) l = let h = length_take ys at (omega (arith, l)) in omega (arith, h)

-- a chunk that is taken out
pub joined_remove : {X : Type 0} (chunks : List (List X)) (c : ℕ) → joined_chunks (remove chunks c) ≡ joined_chunks (take c chunks) ++ joined_chunks (drop (c + 1) chunks)
joined_remove [] zero = refl
joined_remove [] (suc c) = rw (step c) refl
joined_remove (x ∷ xs) zero = refl
joined_remove (x ∷ xs) (suc c) = rw (step c) (
    ap (λ zs. x ++ zs) (joined_remove xs c) ∙ sym (append_assoc x (joined_chunks (take c xs)) (joined_chunks (drop (c + 1) xs))))

pub count_remove : {X : Type 0} (chunks : List (List X)) (c : ℕ) → c < length chunks → length (joined_chunks (remove chunks c)) + length (chunk_at chunks c) ≡ length (joined_chunks chunks)
count_remove [] c l = absurd (omega (arith, l))
count_remove (x ∷ xs) zero l = let a = length-append x (joined_chunks xs) in omega (arith, a)
count_remove (x ∷ xs) (suc c) l =
    let a = length-append x (joined_chunks xs) in let b = length-append x (joined_chunks (remove xs c)) in
    let h = count_remove xs c (omega (arith, l)) in omega (arith, a, b, h)

pub excess_remove : {X : Type 0} (chunks : List (List X)) (c : ℕ) → c < length chunks → excess_of (remove chunks c) + (length (chunk_at chunks c) - half_limit) ≡ excess_of chunks
excess_remove [] c l = absurd (omega (arith, l))
excess_remove (x ∷ xs) zero l = omega arith
excess_remove (x ∷ xs) (suc c) l = let h = excess_remove xs c (omega (arith, l)) in omega (arith, h)

pub sized_remove : {X : Type 0} (chunks : List (List X)) (c : ℕ) → AreSized chunks → AreSized (remove chunks c)
sized_remove [] zero a = tt
sized_remove [] (suc c) a = tt
sized_remove (x ∷ xs) zero a = a.1
sized_remove (x ∷ xs) (suc c) a = (a.0, sized_remove xs c a.1)

-- of a chunk with one element, nothing is in front or behind
only_front : {X : Type 0} (ch : List X) → take 0 ch ≡ []
only_front [] = refl
only_front (x ∷ xs) = refl

only_back : {X : Type 0} (ch : List X) → length ch ≡ 1 → drop 1 ch ≡ []
only_back [] e = refl
only_back (x ∷ []) e = refl
only_back (x ∷ y ∷ ys) e = absurd (omega (arith, e))

pub joined_only : {X : Type 0} (chunks : List (List X)) (c at : ℕ) → at < length (chunk_at chunks c) → length (chunk_at chunks c) ≡ 1
    → joined_chunks (remove chunks c) ≡ front_of chunks c at ++ drop 1 (back_of chunks c at)
joined_only {X = X} chunks c at l o =
    let ch = chunk_at chunks c in
    let k = joined_chunks (drop (c + 1) chunks) in
    let z : at ≡ 0 = omega (arith, l, o) in
    let b : drop 1 (ch ++ k) ≡ k = one ch k o in
    joined_remove chunks c
    ∙ sym (rw z (ap (λ zs. (joined_chunks (take c chunks) ++ zs) ++ drop 1 (drop 0 ch ++ k)) (only_front ch)
    ∙ rw (nil (joined_chunks (take c chunks))) (ap (λ zs. joined_chunks (take c chunks) ++ zs) b)))
  where
    one : (ch k : List X) → length ch ≡ 1 → drop 1 (ch ++ k) ≡ k
    one [] k e = absurd (omega (arith, e))
    one (x ∷ []) k e = refl
    one (x ∷ y ∷ ys) k e = absurd (omega (arith, e))

    nil : (xs : List X) → xs ++ [] ≡ xs
    nil [] = refl
    nil (x ∷ xs) = ap (λ zs. x ∷ zs) (nil xs)

-- a chunk that is split
abbrev pub split_of : {X : Type 0} → List (List X) → ℕ → List (List X)
split_of chunks c = take c chunks ++ take half_limit (chunk_at chunks c) ∷ drop half_limit (chunk_at chunks c) ∷ drop (c + 1) chunks

pub joined_split : {X : Type 0} (chunks : List (List X)) (c : ℕ) → c < length chunks → joined_chunks (split_of chunks c) ≡ joined_chunks chunks
joined_split [] c l = absurd (omega (arith, l))
joined_split (x ∷ xs) zero l = sym (append_assoc (take half_limit x) (drop half_limit x) (joined_chunks xs)) ∙ ap (λ zs. zs ++ joined_chunks xs) (take-append-drop half_limit x)
joined_split (x ∷ xs) (suc c) l = rw (step c) (ap (λ zs. x ++ zs) (joined_split xs c (omega (arith, l))))

pub excess_split : {X : Type 0} (chunks : List (List X)) (c : ℕ) → c < length chunks → length (chunk_at chunks c) ≡ chunk_limit → excess_of (split_of chunks c) + half_limit ≡ excess_of chunks
excess_split [] c l o = absurd (omega (arith, l))
excess_split (x ∷ xs) zero l o =
    let a = length-take half_limit x in let b = length-drop half_limit x in omega (arith, a, b, o)
excess_split (x ∷ xs) (suc c) l o = rw (step c) (let h = excess_split xs c (omega (arith, l)) o in omega (arith, h))

pub sized_split : {X : Type 0} (chunks : List (List X)) (c : ℕ) (v : List X) → c < length chunks → AreSized chunks → length v ≡ chunk_limit → AreSized (split_of (set chunks c v) c)
sized_split [] c v l a o = absurd (omega (arith, l))
sized_split (x ∷ xs) zero v l a o =
    let t = length-take half_limit v in let d = length-drop half_limit v in
    ((omega (arith, t, o), omega (arith, t, o)), ((omega (arith, d, o), omega (arith, d, o)), a.1))
sized_split (x ∷ xs) (suc c) v l a o = rw (step c) (a.0, sized_split xs c v (omega (arith, l)) a.1 o)

pub at_set : {X : Type 0} (chunks : List (List X)) (c : ℕ) (v : List X) → c < length chunks → chunk_at (set chunks c v) c ≡ v
at_set [] c v l = absurd (omega (arith, l))
at_set (x ∷ xs) zero v l = refl
at_set (x ∷ xs) (suc c) v l = at_set xs c v (omega (arith, l))

-- one element more, or one less, in one of the chunks
pub put_excess : {X : Type 0} (chunks items : List (List X)) (c at : ℕ) (x : X) → c < length chunks → items ≡ set chunks c (insert (chunk_at chunks c) at x)
    → excess_of items + (length (chunk_at chunks c) - half_limit) ≡ excess_of chunks + (length (chunk_at chunks c) + 1 - half_limit)
put_excess chunks items c at x l e =
    let h = excess_set chunks c (insert (chunk_at chunks c) at x) l in
    ap (λ zs. excess_of zs + (length (chunk_at chunks c) - half_limit)) e ∙ h ∙ ap (λ n. excess_of chunks + (n - half_limit)) (length_put (chunk_at chunks c) at x)

pub put_count : {X : Type 0} (chunks items : List (List X)) (c at : ℕ) (x : X) → c < length chunks → items ≡ set chunks c (insert (chunk_at chunks c) at x)
    → length (joined_chunks items) ≡ length (joined_chunks chunks) + 1
put_count chunks items c at x l e =
    let h = count_set chunks c (insert (chunk_at chunks c) at x) l in
    let n = length_put (chunk_at chunks c) at x in
    let i : length (joined_chunks items) ≡ length (joined_chunks (set chunks c (insert (chunk_at chunks c) at x))) = ap (λ zs. length (joined_chunks zs)) e in
    omega (arith, h, n, i)

pub put_sized : {X : Type 0} (chunks items : List (List X)) (c at : ℕ) (x : X) → items ≡ set chunks c (insert (chunk_at chunks c) at x)
    → AreSized chunks → length (chunk_at chunks c) + 1 < chunk_limit → AreSized items
put_sized chunks items c at x e a l =
    let n = length_put (chunk_at chunks c) at x in
    rw e (sized_set chunks c (insert (chunk_at chunks c) at x) a (omega (arith, n), omega (arith, n, l)))

pub take_excess : {X : Type 0} (chunks items : List (List X)) (c at : ℕ) → c < length chunks → at < length (chunk_at chunks c) → items ≡ set chunks c (remove (chunk_at chunks c) at)
    → excess_of items + (length (chunk_at chunks c) - half_limit) ≡ excess_of chunks + (length (chunk_at chunks c) - 1 - half_limit)
take_excess chunks items c at l m e =
    let h = excess_set chunks c (remove (chunk_at chunks c) at) l in
    let n = length_take (chunk_at chunks c) at m in
    let i : excess_of items ≡ excess_of (set chunks c (remove (chunk_at chunks c) at)) = ap excess_of e in
    omega (arith, h, n, i)

pub take_count : {X : Type 0} (chunks items : List (List X)) (c at : ℕ) → c < length chunks → at < length (chunk_at chunks c) → items ≡ set chunks c (remove (chunk_at chunks c) at)
    → length (joined_chunks items) + 1 ≡ length (joined_chunks chunks)
take_count chunks items c at l m e =
    let h = count_set chunks c (remove (chunk_at chunks c) at) l in
    let n = length_take (chunk_at chunks c) at m in
    let i : length (joined_chunks items) ≡ length (joined_chunks (set chunks c (remove (chunk_at chunks c) at))) = ap (λ zs. length (joined_chunks zs)) e in
    omega (arith, h, n, i)

pub take_sized : {X : Type 0} (chunks items : List (List X)) (c at : ℕ) → c < length chunks → at < length (chunk_at chunks c) → items ≡ set chunks c (remove (chunk_at chunks c) at)
    → AreSized chunks → 1 < length (chunk_at chunks c) → AreSized items
take_sized chunks items c at l m e a o =
    let n = length_take (chunk_at chunks c) at m in
    let s = sized_at chunks c l a in
    rw e (sized_set chunks c (remove (chunk_at chunks c) at) a (omega (arith, n, o), omega (arith, n, s.1)))
