-- An element that is put into a chunk, which is split then.
use Rattle.std.proofs.Common.{◌≡◌, ◌-◌, ℕ, ◌+◌, ◌<◌, List, [], ◌∷◌, ◌++◌, length, set, sym, subst, ap, ◌∙◌, arith}
use Rattle.std.proofs.lemmas.List.{length-set, length-append}
use Rattle.std.specs.List.{AllByRecursion, insert}
use Rattle.hinted_chunks.specs.ChunkLimits.{chunk_limit, half_limit}
use Rattle.chunked_list.specs.Joined.{joined_chunks, chunk_at, front_of, back_of}
use Rattle.chunked_list.specs.Room.{excess_of}
use Rattle.chunked_list.specs.Stores.{AreSized}
use Rattle.chunked_list.proofs.JoinedLaws.{joined_append}
use Rattle.chunked_list.proofs.Storing.{split_of, joined_split, excess_split, sized_split, at_set, joined_put, length_put, put_excess, put_count}

module _ {X : Type 0} (chunks items new : List (List X)) (c at : ℕ) (x : X) (l : c < length chunks) where
  inside : items ≡ set chunks c (insert (chunk_at chunks c) at x) → c < length items
  inside i = let n : length items ≡ length chunks = ap length i ∙ length-set chunks c (insert (chunk_at chunks c) at x) in omega (arith, n, l)

  pub is_full : length (chunk_at chunks c) + 1 ≡ chunk_limit → items ≡ set chunks c (insert (chunk_at chunks c) at x) → length (chunk_at items c) ≡ chunk_limit
  is_full f i = ap (λ zs. length (chunk_at zs c)) i ∙ ap length (at_set chunks c (insert (chunk_at chunks c) at x) l) ∙ length_put (chunk_at chunks c) at x ∙ f

  pub split_excess : length (chunk_at chunks c) + 1 ≡ chunk_limit → items ≡ set chunks c (insert (chunk_at chunks c) at x) → new ≡ split_of items c → excess_of new + (half_limit - 1) ≡ excess_of chunks
  split_excess f i s =
      let h = excess_split items c (inside i) (is_full f i) in
      let k = put_excess chunks items c at x l i in
      let e : excess_of new ≡ excess_of (split_of items c) = ap excess_of s in
      omega (arith, h, k, e, f)

  pub split_count : items ≡ set chunks c (insert (chunk_at chunks c) at x) → new ≡ split_of items c → length (joined_chunks new) ≡ length (joined_chunks chunks) + 1
  split_count i s = ap (λ zs. length (joined_chunks zs)) s ∙ ap length (joined_split items c (inside i)) ∙ put_count chunks items c at x l i

  pub split_sized : length (chunk_at chunks c) + 1 ≡ chunk_limit → items ≡ set chunks c (insert (chunk_at chunks c) at x) → new ≡ split_of items c → AreSized chunks → AreSized new
  split_sized f i s a =
      subst AreSized (sym (s ∙ ap (λ zs. split_of zs c) i)) (sized_split chunks c (insert (chunk_at chunks c) at x) l a (length_put (chunk_at chunks c) at x ∙ f))

  pub split_joined : items ≡ set chunks c (insert (chunk_at chunks c) at x) → new ≡ split_of items c → joined_chunks new ≡ front_of chunks c at ++ x ∷ back_of chunks c at
  split_joined i s = ap joined_chunks s ∙ joined_split items c (inside i) ∙ ap joined_chunks i ∙ joined_put chunks c at x l

-- the chunks to spare are empty without the last one, too
pub spare_left : {X : Type 0} (old new : List (List X)) (last : List X) → old ≡ new ++ last ∷ [] → AllByRecursion (λ chunk. chunk ≡ []) old → AllByRecursion (λ chunk. chunk ≡ []) new
spare_left {X = X} old new last e a = front new (subst (AllByRecursion (λ chunk. chunk ≡ [])) e a)
  where
    front : (zs : List (List X)) → AllByRecursion (λ chunk. chunk ≡ []) (zs ++ last ∷ []) → AllByRecursion (λ chunk. chunk ≡ []) zs
    front [] b = tt
    front (z ∷ zs) b = (b.0, front zs b.1)

pub spare_last : {X : Type 0} (old new : List (List X)) (last : List X) → old ≡ new ++ last ∷ [] → AllByRecursion (λ chunk. chunk ≡ []) old → last ≡ []
spare_last {X = X} old new last e a = back new (subst (AllByRecursion (λ chunk. chunk ≡ [])) e a)
  where
    back : (zs : List (List X)) → AllByRecursion (λ chunk. chunk ≡ []) (zs ++ last ∷ []) → last ≡ []
    back [] b = b.0
    back (z ∷ zs) b = back zs b.1

-- and with one more
pub spare_more : {X : Type 0} (old new : List (List X)) (last : List X) → new ≡ old ++ last ∷ [] → last ≡ [] → AllByRecursion (λ chunk. chunk ≡ []) old
    → AllByRecursion (λ chunk. chunk ≡ []) new
spare_more {X = X} old new last e n a = subst (AllByRecursion (λ chunk. chunk ≡ [])) (sym e) (more old a)
  where
    more : (zs : List (List X)) → AllByRecursion (λ chunk. chunk ≡ []) zs → AllByRecursion (λ chunk. chunk ≡ []) (zs ++ last ∷ [])
    more [] b = (n, tt)
    more (z ∷ zs) b = (b.0, more zs b.1)

-- a chunk of one element comes behind all others
module _ {X : Type 0} (chunks new : List (List X)) (x : X) (e : new ≡ chunks ++ (x ∷ []) ∷ []) where
  pub behind_sized : AreSized chunks → AreSized new
  behind_sized a = subst AreSized (sym e) (more chunks a)
    where
      more : (zs : List (List X)) → AreSized zs → AreSized (zs ++ (x ∷ []) ∷ [])
      more [] b = ((omega arith, omega arith), tt)
      more (z ∷ zs) b = (b.0, more zs b.1)

  pub behind_excess : excess_of new ≡ excess_of chunks
  behind_excess = ap excess_of e ∙ same chunks
    where
      same : (zs : List (List X)) → excess_of (zs ++ (x ∷ []) ∷ []) ≡ excess_of zs
      same [] = omega arith
      same (z ∷ zs) = let h = same zs in omega (arith, h)

  pub behind_joined : joined_chunks new ≡ joined_chunks chunks ++ x ∷ []
  behind_joined = ap joined_chunks e ∙ joined_append chunks ((x ∷ []) ∷ [])

  pub behind_count : length (joined_chunks new) ≡ length (joined_chunks chunks) + 1
  behind_count = let n = length-append (joined_chunks chunks) (x ∷ []) in let j = ap length behind_joined in omega (arith, n, j)
