-- The elements of a list between two places.
use Rattle.std.proofs.Common.{◌≡◌, ◌∙◌, ℕ, ◌+◌, ◌<◌, List, [], ◌∷◌, ◌++◌, Bool, true, false, not, cond, ◌&&◌, append_assoc, ◌-◌, length, get_or, take, drop, suc, zero, refl, sym, subst, ap, inl, inr, arith}
use Rattle.std.proofs.lemmas.List.{append-nil, get_or_default, take-append-drop, take_rest}
use Rattle.std.proofs.lemmas.List.Elements.{filter-append}
use Rattle.std.specs.List.{filter}
use Rattle.hinted_chunks.specs.tree_clock.Lists.{Has}
use Rattle.hinted_chunks.proofs.of_mld_ops.AscendingLaws.{has_right}
use Rattle.chunked_list.specs.Joined.{joined_chunks, chunk_at, front_of, back_of}
use Rattle.chunked_list.specs.Parted.{IsParted, Divides, HasFailing, is_between}
use Rattle.chunked_list.proofs.Parting.{all_has, parted_across, parted_left, parted_right}
use Rattle.chunked_list.proofs.Placing.{whole}
use Rattle.chunked_list.proofs.JoinedLaws.{joined_append, joined_more}

-- where no element passes, none is left
pub filter_none : {X : Type 0} (p : X → Bool) (xs : List X) → ((x : X) → Has xs x → p x ≡ false) → filter p xs ≡ []
filter_none p [] h = refl
filter_none p (x ∷ xs) h = rw (h x (inl refl)) (filter_none p xs (λ y k. h y (inr k)))

-- two tests that agree at each member keep the same
pub filter_members : {X : Type 0} (p q : X → Bool) (xs : List X) → ((x : X) → Has xs x → p x ≡ q x) → filter p xs ≡ filter q xs
filter_members p q [] h = refl
filter_members p q (x ∷ xs) h =
    filter-append p (x ∷ []) xs
    ∙ ap (λ b. cond b (x ∷ []) [] ++ filter p xs) (h x (inl refl))
    ∙ ap (λ zs. filter q (x ∷ []) ++ zs) (filter_members p q xs (λ y k. h y (inr k)))
    ∙ sym (filter-append q (x ∷ []) xs)

-- behind an element that fails none passes
pub filter_front : {X : Type 0} (p : X → Bool) (xs ys : List X) → IsParted p (xs ++ ys) → HasFailing p xs → filter p (xs ++ ys) ≡ filter p xs
filter_front p xs ys h f =
    filter-append p xs ys
    ∙ ap (λ zs. filter p xs ++ zs) (filter_none p ys (λ y k. parted_across p xs ys f.0 y h f.1 f.2 k))
    ∙ append-nil (filter p xs)

-- the elements in front of the first that fails are all that pass
pub filter_stops : {X : Type 0} (p : X → Bool) (xs : List X) (i : ℕ) (d : X) → IsParted p xs → i < length xs → p (get_or xs i d) ≡ false → filter p (take i xs) ≡ filter p xs
filter_stops p [] i d h l e = absurd (omega (arith, l))
filter_stops p (x ∷ xs) zero d h l e = sym (filter_none p (x ∷ xs) fails)
  where
    fails : (y : _) → Has (x ∷ xs) y → p y ≡ false
    fails y (inl m) = subst (λ w. p w ≡ false) m e
    fails y (inr k) = all_has (λ w. p w ≡ false) xs y (h.0 e) k
filter_stops p (x ∷ xs) (suc i) d h l e =
    filter-append p (x ∷ []) (take i xs)
    ∙ ap (λ zs. filter p (x ∷ []) ++ zs) (filter_stops p xs i d h.1 (omega (arith, l)) e)
    ∙ sym (filter-append p (x ∷ []) xs)

-- the elements between two places, where the first one is known
pub filter_between : {X : Type 0} (p q : X → Bool) (front back : List X) → ((x : X) → Has front x → p x ≡ true) → ((x : X) → Has back x → p x ≡ false)
    → filter (is_between p q) (front ++ back) ≡ filter q back
filter_between p q front back pass fail =
    filter-append (is_between p q) front back
    ∙ ap (λ zs. zs ++ filter (is_between p q) back) (filter_none (is_between p q) front (λ x k. ap (λ b. not b && q x) (pass x k)))
    ∙ filter_members (is_between p q) q back (λ x k. ap (λ b. not b && q x) (fail x k))

pub none_between : {X : Type 0} (p q : X → Bool) (xs : List X) → ((x : X) → Has xs x → p x ≡ true) → filter (is_between p q) xs ≡ []
none_between p q xs pass = filter_none (is_between p q) xs (λ x k. ap (λ b. not b && q x) (pass x k))

-- chunks that are gone over one after another
module _ {X : Type 0} (p : X → Bool) (chunks : List (List X)) (i : ℕ) (chunk slice : List X) (l : i < length chunks) (e : chunk ≡ get_or chunks i chunk) (f : slice ≡ chunk) where
  upto : joined_chunks chunks ≡ joined_chunks (take (i + 1) chunks) ++ joined_chunks (drop (i + 1) chunks)
  upto = ap joined_chunks (sym (take-append-drop (i + 1) chunks)) ∙ joined_append (take (i + 1) chunks) (drop (i + 1) chunks)

  here : joined_chunks (take (i + 1) chunks) ≡ joined_chunks (take i chunks) ++ slice
  here = joined_more chunks i chunk l e ∙ ap (λ zs. joined_chunks (take i chunks) ++ zs) (sym f)

  pub slice_parted : IsParted p (joined_chunks chunks) → IsParted p slice
  slice_parted h = parted_right p (joined_chunks (take i chunks)) slice
      (subst (IsParted p) here (parted_left p (joined_chunks (take (i + 1) chunks)) (joined_chunks (drop (i + 1) chunks)) (subst (IsParted p) upto h)))

  pub slice_more : (olds mids news : List X) → news ≡ mids ++ filter p slice → mids ≡ olds ++ filter p (joined_chunks (take i chunks)) → news ≡ olds ++ filter p (joined_chunks (take (i + 1) chunks))
  slice_more olds mids news n m =
      n
      ∙ ap (λ zs. zs ++ filter p slice) m
      ∙ append_assoc olds (filter p (joined_chunks (take i chunks))) (filter p slice)
      ∙ ap (λ zs. olds ++ zs) (sym (filter-append p (joined_chunks (take i chunks)) slice))
      ∙ ap (λ zs. olds ++ filter p zs) (sym here)

  pub slice_last : (olds mids news : List X) → IsParted p (joined_chunks chunks) → HasFailing p slice → news ≡ mids ++ filter p slice
      → mids ≡ olds ++ filter p (joined_chunks (take i chunks)) → news ≡ olds ++ filter p (joined_chunks chunks)
  slice_last olds mids news h b n m =
      let front = joined_chunks (take (i + 1) chunks) in
      let back = joined_chunks (drop (i + 1) chunks) in
      let q : HasFailing p front = (b.0, subst (λ zs. Has zs b.0) (sym here) (has_right (joined_chunks (take i chunks)) slice b.0 b.1), b.2) in
      slice_more olds mids news n m
      ∙ ap (λ zs. olds ++ zs) (sym (filter_front p front back (subst (IsParted p) upto h) q))
      ∙ ap (λ zs. olds ++ filter p zs) (sym upto)

-- the rest of a chunk from a place on
pub rest_at : {X : Type 0} (chunks : List (List X)) (c at : ℕ) (chunk slice : List X) → c < length chunks → chunk ≡ get_or chunks c chunk → slice ≡ chunk
    → take (length slice - at) (drop at slice) ≡ drop at (chunk_at chunks c)
rest_at chunks c at chunk slice l e f = take_rest slice at ∙ ap (drop at) (f ∙ e ∙ get_or_default chunks c chunk [] l)

-- what a search for the first place leaves to be gone over
pub between_divided : {X : Type 0} (p q : X → Bool) (chunks : List (List X)) (c at : ℕ) → c < length chunks → Divides p chunks c at
    → filter q (back_of chunks c at) ≡ filter (is_between p q) (joined_chunks chunks)
between_divided p q chunks c at l d =
    sym (ap (filter (is_between p q)) (whole chunks c at l) ∙ filter_between p q (front_of chunks c at) (back_of chunks c at) d.front d.back)

pub back_parted : {X : Type 0} (q : X → Bool) (chunks : List (List X)) (c at : ℕ) → c < length chunks → IsParted q (joined_chunks chunks) → IsParted q (back_of chunks c at)
back_parted q chunks c at l h = parted_right q (front_of chunks c at) (back_of chunks c at) (subst (IsParted q) (whole chunks c at l) h)
