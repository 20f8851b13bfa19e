-- Laws of lists in chunks.
use Rattle.std.proofs.Common.{◌≡◌, ◌∙◌, ℕ, ◌+◌, ◌<◌, List, [], ◌∷◌, ◌++◌, length, get_or, take, refl, sym, ap, append_assoc}
use Rattle.std.proofs.lemmas.List.{take_more, append-nil}
use Rattle.chunked_list.specs.Joined.{joined_chunks}

-- two lists of chunks joined_chunks
pub joined_append : {X : Type 0} (xs ys : List (List X)) → joined_chunks (xs ++ ys) ≡ joined_chunks xs ++ joined_chunks ys
joined_append [] ys = refl
joined_append (x ∷ xs) ys = ap (λ zs. x ++ zs) (joined_append xs ys) ∙ sym (append_assoc x (joined_chunks xs) (joined_chunks ys))

-- one chunk more
pub joined_more : {X : Type 0} (chunks : List (List X)) (i : ℕ) (chunk : List X) → i < length chunks → chunk ≡ get_or chunks i chunk
    → joined_chunks (take (i + 1) chunks) ≡ joined_chunks (take i chunks) ++ chunk
joined_more chunks i chunk l e =
    ap joined_chunks (take_more chunks i chunk l)
    ∙ joined_append (take i chunks) (get_or chunks i chunk ∷ [])
    ∙ ap (λ zs. joined_chunks (take i chunks) ++ zs) (append-nil (get_or chunks i chunk) ∙ sym e)
