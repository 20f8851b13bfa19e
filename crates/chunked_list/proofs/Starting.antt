-- How many elements stand before each chunk, and how that changes.
use Rattle.std.proofs.Common.{◌≡◌, ◌∙◌, ℕ, ◌+◌, ◌-◌, ◌*◌, ◌<◌, ◌≤◌, List, [], ◌∷◌, ◌++◌, length, get_or, set, map, take, drop, insert, remove, suc, zero, refl, sym, subst, ap, inl, inr, arith}
use Rattle.std.proofs.Math.ListN.{get_or-append}
use Rattle.std.proofs.Math.Seq.{take-append_seam, get_or-append_seam}
use Rattle.std.proofs.lemmas.Bool.{cases_lt}
use Rattle.std.proofs.lemmas.List.{length-append, length-map, length-take, length-drop, length-set, get_or-map, take-append-le, take-set-le, take_all}
use Rattle.std.proofs.lemmas.List.Edits.{get_or-insert_at, get_or-insert_below, get_or-insert_above, get_or-remove_below, get_or-remove_above}
use Rattle.hinted_chunks.specs.ChunkLimits.{chunk_limit, half_limit, chunks_limit}
use Rattle.chunked_list.specs.Joined.{joined_chunks, chunk_at, front_of}
use Rattle.chunked_list.specs.Stores.{AreSized, AreStarts}
use Rattle.chunked_list.proofs.Counting.{next_length, front_length}
use Rattle.chunked_list.proofs.Storing.{split_of, length_put, count_bound}

step : (c : ℕ) → suc c + 1 ≡ suc (c + 1)
step c = omega arith

-- numbers of which those from a place on are less and more by so many
abbrev pub moved : ℕ → ℕ → ℕ → List ℕ → List ℕ
moved less more from numbers = take from numbers ++ map (λ n. n - less + more) (drop from numbers)

module _ (less more : ℕ) where
  pub moved_front : (from i : ℕ) (xs : List ℕ) → i < from → i < length xs → get_or (moved less more from xs) i 0 ≡ get_or xs i 0
  moved_front from i [] l m = absurd (omega (arith, m))
  moved_front zero i (x ∷ xs) l m = absurd (omega (arith, l))
  moved_front (suc from) zero (x ∷ xs) l m = refl
  moved_front (suc from) (suc i) (x ∷ xs) l m = moved_front from i xs (omega (arith, l)) (omega (arith, m))

  pub moved_back : (from i : ℕ) (xs : List ℕ) → from ≤ i → i < length xs → get_or (moved less more from xs) i 0 ≡ get_or xs i 0 - less + more
  moved_back from i [] l m = absurd (omega (arith, m))
  moved_back zero zero (x ∷ xs) l m = refl
  moved_back zero (suc i) (x ∷ xs) l m = get_or-map (λ n. n - less + more) xs i 0 0 (omega (arith, m))
  moved_back (suc from) zero (x ∷ xs) l m = absurd (omega (arith, l))
  moved_back (suc from) (suc i) (x ∷ xs) l m = moved_back from i xs (omega (arith, l)) (omega (arith, m))

  pub moved_length : (from : ℕ) (xs : List ℕ) → length (moved less more from xs) ≡ length xs
  moved_length from xs =
      let a = length-append (take from xs) (map (λ n. n - less + more) (drop from xs)) in
      let t = length-take from xs in
      let d = length-drop from xs in
      let m = length-map (drop from xs) (λ n. n - less + more) in
      omega (arith, a, t, d, m)

-- a list whose numbers are changed one after another
abbrev changed : (ℕ → ℕ) → ℕ → List ℕ → List ℕ
changed f i list = map f (take i list) ++ drop i list

pub left_as_it_was : (f : ℕ → ℕ) (list : List ℕ) (i d : ℕ) → i < length list → get_or (changed f i list) i d ≡ get_or list i 0
left_as_it_was f [] i d l = absurd (omega (arith, l))
left_as_it_was f (x ∷ list) zero d l = refl
left_as_it_was f (x ∷ list) (suc i) d l = left_as_it_was f list i d (omega (arith, l))

pub one_changed : (f : ℕ → ℕ) (list now : List ℕ) (i y : ℕ) → i < length list → now ≡ changed f i list → y ≡ f (get_or list i 0) → set now i y ≡ changed f (i + 1) list
one_changed f list now i y l e h = (λ j. set (e j) i (h j)) ∙ one list i l
  where
    one : (xs : List ℕ) (k : ℕ) → k < length xs → set (changed f k xs) k (f (get_or xs k 0)) ≡ changed f (k + 1) xs
    one [] k m = absurd (omega (arith, m))
    one (x ∷ xs) zero m = refl
    one (x ∷ xs) (suc k) m = rw (step k) (ap (λ zs. f x ∷ zs) (one xs k (omega (arith, m))))

-- what stands before a chunk
pub front_less : {X : Type 0} (chunks : List (List X)) (i j : ℕ) → i ≤ j → length (joined_chunks (take i chunks)) ≤ length (joined_chunks (take j chunks))
front_less [] zero zero l = omega arith
front_less [] zero (suc j) l = omega arith
front_less [] (suc i) zero l = omega arith
front_less [] (suc i) (suc j) l = omega arith
front_less (x ∷ xs) zero j l = omega arith
front_less (x ∷ xs) (suc i) zero l = absurd (omega (arith, l))
front_less (x ∷ xs) (suc i) (suc j) l =
    let a = length-append x (joined_chunks (take i xs)) in
    let b = length-append x (joined_chunks (take j xs)) in
    let h = front_less xs i j (omega (arith, l)) in
    omega (arith, a, b, h)

pub front_some : {X : Type 0} (chunks : List (List X)) (c i : ℕ) → c < length chunks → c < i → length (chunk_at chunks c) ≤ length (joined_chunks (take i chunks))
front_some [] c i l m = absurd (omega (arith, l))
front_some (x ∷ xs) c zero l m = absurd (omega (arith, m))
front_some (x ∷ xs) zero (suc i) l m = let a = length-append x (joined_chunks (take i xs)) in omega (arith, a)
front_some (x ∷ xs) (suc c) (suc i) l m =
    let a = length-append x (joined_chunks (take i xs)) in
    let h = front_some xs c i (omega (arith, l)) (omega (arith, m)) in
    omega (arith, a, h)

pub start_most : {X : Type 0} (chunks : List (List X)) (starts : List ℕ) (i : ℕ) → AreStarts chunks starts → i < length chunks → get_or starts i 0 ≤ length (joined_chunks chunks)
start_most chunks starts i s l =
    let e = s.each i l in
    let f = front_less chunks i (length chunks) (omega (arith, l)) in
    let t = ap (λ zs. length (joined_chunks zs)) (take_all (length chunks) chunks (omega arith)) in
    omega (arith, e, f, t)

-- another chunk in place of one
front_set : {X : Type 0} (chunks : List (List X)) (c i : ℕ) (v : List X) → c < length chunks → c < i
    → length (joined_chunks (take i (set chunks c v))) + length (chunk_at chunks c) ≡ length (joined_chunks (take i chunks)) + length v
front_set [] c i v l m = absurd (omega (arith, l))
front_set (x ∷ xs) c zero v l m = absurd (omega (arith, m))
front_set (x ∷ xs) zero (suc i) v l m =
    let a = length-append v (joined_chunks (take i xs)) in let b = length-append x (joined_chunks (take i xs)) in omega (arith, a, b)
front_set (x ∷ xs) (suc c) (suc i) v l m =
    let a = length-append x (joined_chunks (take i (set xs c v))) in let b = length-append x (joined_chunks (take i xs)) in
    let h = front_set xs c i v (omega (arith, l)) (omega (arith, m)) in omega (arith, a, b, h)

module _ {X : Type 0} (less more : ℕ) (chunks items : List (List X)) (starts numbers : List ℕ) (c : ℕ) (v : List X) where
  pub starts_set : AreStarts chunks starts → c < length chunks → items ≡ set chunks c v → less ≤ length (chunk_at chunks c) → length v ≡ length (chunk_at chunks c) - less + more
      → numbers ≡ moved less more (c + 1) starts → AreStarts items numbers
  starts_set s l e k n m = record {
    len = ap length m ∙ moved_length less more (c + 1) starts ∙ s.len ∙ sym (length_is);
    each = λ i h. number i (omega (arith, h, length_is));
  }
    where
      length_is : length items ≡ length chunks
      length_is = ap length e ∙ length-set chunks c v

      number : (i : ℕ) → i < length chunks → get_or numbers i 0 ≡ length (joined_chunks (take i items))
      number i h = elim (cases_lt i (c + 1)) [
        | inl q ↦
            ap (λ ns. get_or ns i 0) m
            ∙ moved_front less more (c + 1) i starts q (omega (arith, h, s.len))
            ∙ s.each i h
            ∙ ap (λ zs. length (joined_chunks zs)) (sym (take-set-le i chunks c v (omega (arith, q))))
            ∙ ap (λ zs. length (joined_chunks (take i zs))) (sym e)
        | inr q ↦
            let a = ap (λ ns. get_or ns i 0) m ∙ moved_back less more (c + 1) i starts q (omega (arith, h, s.len)) in
            let b = s.each i h in
            let f = front_set chunks c i v l (omega (arith, q)) in
            let o = front_some chunks c i l (omega (arith, q)) in
            let t = ap (λ zs. length (joined_chunks (take i zs))) e in
            omega (arith, a, b, f, o, t, k, n)
      ]

-- a chunk that is split
split_front : {X : Type 0} (chunks : List (List X)) (c i : ℕ) → c < length chunks → i ≤ c → take i (split_of chunks c) ≡ take i chunks
split_front [] c i l m = absurd (omega (arith, l))
split_front (x ∷ xs) zero zero l m = refl
split_front (x ∷ xs) zero (suc i) l m = absurd (omega (arith, m))
split_front (x ∷ xs) (suc c) zero l m = refl
split_front (x ∷ xs) (suc c) (suc i) l m = rw (step c) (ap (λ zs. x ∷ zs) (split_front xs c i (omega (arith, l)) (omega (arith, m))))

split_middle : {X : Type 0} (chunks : List (List X)) (c : ℕ) → c < length chunks → half_limit ≤ length (chunk_at chunks c)
    → length (joined_chunks (take (suc c) (split_of chunks c))) ≡ length (joined_chunks (take c chunks)) + half_limit
split_middle [] c l o = absurd (omega (arith, l))
split_middle (x ∷ xs) zero l o =
    let a = length-append (take half_limit x) [] in let t = length-take half_limit x in omega (arith, a, t, o)
split_middle (x ∷ xs) (suc c) l o = rw (step c) (
    let a = length-append x (joined_chunks (take (suc c) (split_of xs c))) in let b = length-append x (joined_chunks (take c xs)) in
    let h = split_middle xs c (omega (arith, l)) o in omega (arith, a, b, h))

split_back : {X : Type 0} (chunks : List (List X)) (c j : ℕ) → c < length chunks → c ≤ j
    → length (joined_chunks (take (suc (suc j)) (split_of chunks c))) ≡ length (joined_chunks (take (suc j) chunks))
split_back [] c j l m = absurd (omega (arith, l))
split_back (x ∷ xs) zero j l m =
    let f = joined_chunks (take j xs) in
    let a = length-append (take half_limit x) (drop half_limit x ++ f) in let b = length-append (drop half_limit x) f in let d = length-append x f in
    let t = length-take half_limit x in let u = length-drop half_limit x in
    omega (arith, a, b, d, t, u)
split_back (x ∷ xs) (suc c) zero l m = absurd (omega (arith, m))
split_back (x ∷ xs) (suc c) (suc j) l m = rw (step c) (
    let a = length-append x (joined_chunks (take (suc (suc j)) (split_of xs c))) in let b = length-append x (joined_chunks (take (suc j) xs)) in
    let h = split_back xs c j (omega (arith, l)) (omega (arith, m)) in omega (arith, a, b, h))

split_length : {X : Type 0} (chunks : List (List X)) (c : ℕ) → c < length chunks → length (split_of chunks c) ≡ length chunks + 1
split_length [] c l = absurd (omega (arith, l))
split_length (x ∷ xs) zero l = omega arith
split_length (x ∷ xs) (suc c) l = rw (step c) (let h = split_length xs c (omega (arith, l)) in omega (arith, h))

module _ {X : Type 0} (items new : List (List X)) (starts numbers : List ℕ) (c : ℕ) where
  pub starts_split : AreStarts items starts → c < length items → half_limit ≤ length (chunk_at items c) → new ≡ split_of items c
      → numbers ≡ insert starts (c + 1) (get_or starts c 0 + half_limit) → AreStarts new numbers
  starts_split s l o e m = record {
    len = len_is;
    each = λ i h. number i (omega (arith, h, length_is));
  }
    where
      length_is : length new ≡ length items + 1
      length_is = ap length e ∙ split_length items c l

      len_is : length numbers ≡ length new
      len_is = let p = ap length m in let q = length_put starts (c + 1) (get_or starts c 0 + half_limit) in omega (arith, p, q, length_is, s.len)

      inside : c + 1 ≤ length starts
      inside = omega (arith, l, s.len)

      half : ℕ
      half = get_or starts c 0 + half_limit

      behind : (j : ℕ) → c ≤ j → suc j < length items → get_or numbers (suc (suc j)) 0 ≡ length (joined_chunks (take (suc (suc j)) new))
      behind j h k =
          let a : suc (suc j) ≡ suc j + 1 = omega arith in
          ap (λ ns. get_or ns (suc (suc j)) 0) m
          ∙ ap (λ n. get_or (insert starts (c + 1) half) n 0) a
          ∙ get_or-insert_above starts (c + 1) half 0 (suc j) (omega (arith, h)) inside
          ∙ s.each (suc j) k
          ∙ sym (split_back items c j l h)
          ∙ ap (λ zs. length (joined_chunks (take (suc (suc j)) zs))) (sym e)

      number : (i : ℕ) → i < length items + 1 → get_or numbers i 0 ≡ length (joined_chunks (take i new))
      number i h = elim (cases_lt i (c + 1)) [
        | inl q ↦
            ap (λ ns. get_or ns i 0) m
            ∙ get_or-insert_below starts (c + 1) half 0 i q inside
            ∙ s.each i (omega (arith, q, l))
            ∙ ap (λ zs. length (joined_chunks zs)) (sym (split_front items c i l (omega (arith, q))))
            ∙ ap (λ zs. length (joined_chunks (take i zs))) (sym e)
        | inr q ↦ elim (cases_lt (c + 1) i) [
          | inl p ↦
              let a : i ≡ suc (suc (i - 2)) = omega (arith, p) in
              subst (λ n. get_or numbers n 0 ≡ length (joined_chunks (take n new))) (sym a) (behind (i - 2) (omega (arith, p)) (omega (arith, p, h)))
          | inr p ↦
              let a : i ≡ c + 1 = omega (arith, p, q) in
              let b : i ≡ suc c = omega (arith, a) in
              let u = ap (λ ns. get_or ns i 0) m ∙ ap (λ n. get_or (insert starts (c + 1) half) n 0) a ∙ get_or-insert_at starts (c + 1) half 0 inside in
              let v = s.each c l in
              let w = split_middle items c l o in
              let t = ap (λ n. length (joined_chunks (take n new))) b ∙ ap (λ zs. length (joined_chunks (take (suc c) zs))) e in
              omega (arith, u, v, w, t)
        ]
      ]

-- a chunk that goes
remove_front : {X : Type 0} (chunks : List (List X)) (c i : ℕ) → c < length chunks → i ≤ c → take i (remove chunks c) ≡ take i chunks
remove_front [] c i l m = absurd (omega (arith, l))
remove_front (x ∷ []) zero zero l m = refl
remove_front (x ∷ y ∷ ys) zero zero l m = refl
remove_front (x ∷ xs) zero (suc i) l m = absurd (omega (arith, m))
remove_front (x ∷ xs) (suc c) zero l m = refl
remove_front (x ∷ xs) (suc c) (suc i) l m = ap (λ zs. x ∷ zs) (remove_front xs c i (omega (arith, l)) (omega (arith, m)))

remove_back : {X : Type 0} (chunks : List (List X)) (c i : ℕ) → c < length chunks → c ≤ i
    → length (joined_chunks (take i (remove chunks c))) + length (chunk_at chunks c) ≡ length (joined_chunks (take (suc i) chunks))
remove_back [] c i l m = absurd (omega (arith, l))
remove_back (x ∷ xs) zero i l m = let a = length-append x (joined_chunks (take i xs)) in omega (arith, a)
remove_back (x ∷ xs) (suc c) zero l m = absurd (omega (arith, m))
remove_back (x ∷ xs) (suc c) (suc i) l m =
    let a = length-append x (joined_chunks (take i (remove xs c))) in let b = length-append x (joined_chunks (take (suc i) xs)) in
    let h = remove_back xs c i (omega (arith, l)) (omega (arith, m)) in omega (arith, a, b, h)

remove_length : {X : Type 0} (xs : List X) (c : ℕ) → c < length xs → length (remove xs c) + 1 ≡ length xs
remove_length [] c l = absurd (omega (arith, l))
remove_length (x ∷ xs) zero l = omega arith
remove_length (x ∷ xs) (suc c) l = let h = remove_length xs c (omega (arith, l)) in omega (arith, h)

module _ {X : Type 0} (chunks new : List (List X)) (starts numbers : List ℕ) (c : ℕ) where
  pub starts_remove : AreStarts chunks starts → c < length chunks → length (chunk_at chunks c) ≡ 1 → new ≡ remove chunks c
      → numbers ≡ moved 1 0 c (remove starts c) → AreStarts new numbers
  starts_remove s l o e m = record {
    len = let p = ap length m ∙ moved_length 1 0 c (remove starts c) in omega (arith, p, fewer, length_is, s.len);
    each = λ i h. number i (omega (arith, h, length_is));
  }
    where
      length_is : length new + 1 ≡ length chunks
      length_is = ap (λ zs. length zs + 1) e ∙ remove_length chunks c l

      fewer : length (remove starts c) + 1 ≡ length starts
      fewer = remove_length starts c (omega (arith, l, s.len))

      number : (i : ℕ) → i + 1 < length chunks → get_or numbers i 0 ≡ length (joined_chunks (take i new))
      number i h = elim (cases_lt i c) [
        | inl q ↦
            ap (λ ns. get_or ns i 0) m
            ∙ moved_front 1 0 c i (remove starts c) q (omega (arith, h, fewer, s.len))
            ∙ get_or-remove_below starts c 0 i q (omega (arith, l, s.len))
            ∙ s.each i (omega (arith, h))
            ∙ ap (λ zs. length (joined_chunks zs)) (sym (remove_front chunks c i l (omega (arith, q))))
            ∙ ap (λ zs. length (joined_chunks (take i zs))) (sym e)
        | inr q ↦
            let a = ap (λ ns. get_or ns i 0) m ∙ moved_back 1 0 c i (remove starts c) q (omega (arith, h, fewer, s.len)) in
            let b = get_or-remove_above starts c 0 i q (omega (arith, l, s.len)) in
            let d = s.each (i + 1) h in
            let f = remove_back chunks c i l q in
            let n : suc i ≡ i + 1 = omega arith in
            let g = ap (λ k. length (joined_chunks (take k chunks))) n in
            let t = ap (λ zs. length (joined_chunks (take i zs))) e in
            omega (arith, a, b, d, f, g, t, o)
      ]

-- one chunk more behind all others
pub starts_behind : {X : Type 0} (chunks new : List (List X)) (starts numbers : List ℕ) (chunk : List X) (n : ℕ) → AreStarts chunks starts → new ≡ chunks ++ chunk ∷ []
    → numbers ≡ starts ++ n ∷ [] → n ≡ length (joined_chunks chunks) → AreStarts new numbers
starts_behind {X = X} chunks new starts numbers chunk n s e m k = record {
  len = let p = ap length m in let q = length-append starts (n ∷ []) in omega (arith, p, q, length_is, s.len);
  each = λ i h. number i (omega (arith, h, length_is));
}
  where
    length_is : length new ≡ length chunks + 1
    length_is = ap length e ∙ length-append chunks (chunk ∷ [])

    last : get_or (starts ++ n ∷ []) (length chunks) 0 ≡ n
    last = ap (λ j. get_or (starts ++ n ∷ []) j 0) (sym s.len) ∙ get_or-append_seam starts n [] 0

    number : (i : ℕ) → i < length chunks + 1 → get_or numbers i 0 ≡ length (joined_chunks (take i new))
    number i h = elim (cases_lt i (length chunks)) [
      | inl q ↦
          ap (λ ns. get_or ns i 0) m
          ∙ get_or-append starts (n ∷ []) 0 i (omega (arith, q, s.len))
          ∙ s.each i q
          ∙ ap (λ zs. length (joined_chunks zs)) (sym (take-append-le i chunks (chunk ∷ []) (omega (arith, q))))
          ∙ ap (λ zs. length (joined_chunks (take i zs))) (sym e)
      | inr q ↦
          let a : i ≡ length chunks = omega (arith, q, h) in
          ap (λ ns. get_or ns i 0) m
          ∙ ap (λ j. get_or (starts ++ n ∷ []) j 0) a
          ∙ last
          ∙ k
          ∙ ap (λ zs. length (joined_chunks zs)) (sym (take-append_seam chunks (chunk ∷ [])))
          ∙ ap (λ j. length (joined_chunks (take j (chunks ++ chunk ∷ [])))) (sym a)
          ∙ ap (λ zs. length (joined_chunks (take i zs))) (sym e)
    ]

-- the numbers stay such as a machine has, where one more element comes in, and where one goes
module _ {X : Type 0} (chunks : List (List X)) (starts : List ℕ) (s : AreStarts chunks starts) (a : AreSized chunks) (few : length chunks ≤ chunks_limit) where
  pub bounded : (i : ℕ) → i < length starts → get_or starts i 0 ≤ chunk_limit * chunks_limit
  bounded i h =
      let b = count_bound chunks a in
      let m = start_most chunks starts i s (omega (arith, h, s.len)) in
      omega (arith, b, m, few)

  pub may_grow : (i : ℕ) → i < length starts → (0 ≤ get_or starts i 0) × (get_or starts i 0 + 1 < 18446744073709551616)
  may_grow i h = let b = bounded i h in (omega arith, omega (arith, b))

  pub may_shrink : (c i : ℕ) → c < length chunks → 0 < length (chunk_at chunks c) → c < i → i < length starts → (1 ≤ get_or starts i 0) × (get_or starts i 0 + 0 < 18446744073709551616)
  may_shrink c i l n m h =
      let b = bounded i h in
      let e = s.each i (omega (arith, h, s.len)) in
      let o = front_some chunks c i l m in
      (omega (arith, e, o, n), omega (arith, b))

  -- behind a chunk that goes
  pub may_shrink_left : (c : ℕ) (left : List ℕ) → left ≡ remove starts c → c < length chunks → 0 < length (chunk_at chunks c)
      → (i : ℕ) → c ≤ i → i < length left → (1 ≤ get_or left i 0) × (get_or left i 0 + 0 < 18446744073709551616)
  may_shrink_left c left e l n i m h =
      let f = remove_length starts c (omega (arith, l, s.len)) in
      let g = ap length e in
      let q = may_shrink c (i + 1) l n (omega (arith, m)) (omega (arith, h, f, g)) in
      let r = ap (λ ns. get_or ns i 0) e ∙ get_or-remove_above starts c 0 i m (omega (arith, l, s.len)) in
      (omega (arith, q.0, r), omega (arith, q.1, r))

-- the chunk of an element, which the last number that is at most its own tells
module _ {X : Type 0} (chunks : List (List X)) (starts : List ℕ) (s : AreStarts chunks starts) (k n start : ℕ) (l : k < length chunks) (e : start ≡ get_or starts k 0) (m : start ≤ n) where
  pub is_inside : n < length (joined_chunks chunks) → (k + 1 < length chunks → n < get_or starts (k + 1) 0) → n - start < length (chunk_at chunks k)
  is_inside h next =
      let b = s.each k l in
      let c = next_length chunks k l in
      elim (cases_lt (k + 1) (length chunks)) [
        | inl p ↦ let d = s.each (k + 1) p in let q = next p in omega (arith, b, c, d, q, e, m)
        | inr p ↦ let d = ap (λ zs. length (joined_chunks zs)) (take_all (k + 1) chunks p) in omega (arith, b, c, d, e, m, h)
      ]

  pub is_front : n - start < length (chunk_at chunks k) → length (front_of chunks k (n - start)) ≡ n
  is_front h = let b = s.each k l in let f = front_length chunks k (n - start) (omega (arith, h)) in omega (arith, b, f, e, m)

-- the number of the chunk, and the place in it, is how many are in front of a place
pub counted_front : {X : Type 0} (chunks : List (List X)) (starts : List ℕ) (c at start : ℕ) → AreStarts chunks starts → c < length chunks → at ≤ length (chunk_at chunks c)
    → start ≡ get_or starts c 0 → start + at ≡ length (front_of chunks c at)
counted_front chunks starts c at start s l m e = let b = s.each c l in let f = front_length chunks c at m in omega (arith, b, f, e)
