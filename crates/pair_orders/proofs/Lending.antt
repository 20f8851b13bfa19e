-- Pairs that are lent, key by key, and what an order shows.
use Rattle.std.proofs.Common.{◌≡◌, ◌∙◌, ◌+◌, ◌<◌, ℕ, List, [], ◌∷◌, ◌++◌, ◌↔◌, Bool, not, ◌&&◌, nat_eq, nat_le, Option, Result, Ok, Err, IfOk, length, map, take, drop, get_or, refl, sym, ap, subst, inl, inr, arith, append_assoc}
use Rattle.std.proofs.lemmas.Bool.{cases_Bool}
use Rattle.std.proofs.lemmas.Bool.Decides.{nat_tests}
use Rattle.std.proofs.lemmas.List.{take_more, map-append}
use Rattle.std.proofs.lemmas.List.Elements.{filter_map-append}
use Rattle.std.specs.List.{filter}
use Rattle.std.specs.Ordering.{nat_cmp, is_lt, is_le, is_eq, ordering_then}
use Rattle.std.specs.declared.cmp.Ordering.{Ordering}
use Rattle.std.specs.declared.cmp.Ordering.TheVariants.{Less, Equal, Greater}
use Rattle.mld_ops.specs.declared.pair_lists.PairRow.{PairRow}
use Rattle.tree_clock.specs.Lists.{Has}
use Rattle.chunked_list.specs.Joined.{joined_chunks}
use Rattle.chunked_list.specs.Parted.{is_between}
use Rattle.chunked_list.proofs.JoinedLaws.{joined_more}
use Rattle.pair_orders.specs.KeyFronts.{is_before_front, is_up_to_front}
use Rattle.pair_orders.specs.Keys.{key_numbers, key_by, keys_by, numbers_in, slot_at, slot_pairs}
use Rattle.pair_orders.specs.PairEntries.{StandOnce, entries_of, is_of_ticks}
use Rattle.pair_orders.specs.KeptPairs.{AreHeld}
use Rattle.pair_orders.specs.declared.keys.Key.{Key}
use Rattle.pair_orders.specs.declared.keys.Numbers.{Numbers}
use Rattle.pair_orders.specs.declared.keys.RankedKey.{RankedKey}
use Rattle.pair_orders.specs.declared.keys.Shape.{Shape}
use Rattle.pair_orders.specs.declared.keys.Shape.TheVariants.{Dot}
use Rattle.pair_orders.proofs.Holding.{same_entries, entries_filter, length_entries, once_entries, held_same}
use Rattle.pair_orders.proofs.Once.{length_same}
use Rattle.pair_orders.proofs.Ranking.{keys_piece, slots_pairs}

slots_append : (slots : List (Option PairRow)) (xs ys : List ℕ) → slot_pairs slots (xs ++ ys) ≡ slot_pairs slots xs ++ slot_pairs slots ys
slots_append slots xs ys = filter_map-append (slot_at slots) xs ys

-- those of one slot more, behind others
pub lent_more : {K : Type 0} (slot : K → ℕ) (slots : List (Option PairRow)) (keys : List K) (i : ℕ) (d : K) (olds before now : List PairRow) → i < length keys → now ≡ before ++ slot_pairs slots (slot (get_or keys i d) ∷ [])
    → before ≡ olds ++ slot_pairs slots (map slot (take i keys)) → now ≡ olds ++ slot_pairs slots (map slot (take (i + 1) keys))
lent_more slot slots keys i d olds before now l n b =
    let last = slot (get_or keys i d) ∷ [] in
    n ∙ ap (λ xs. xs ++ slot_pairs slots last) b ∙ append_assoc olds (slot_pairs slots (map slot (take i keys))) (slot_pairs slots last)
    ∙ ap (λ xs. olds ++ xs) (sym (slots_append slots (map slot (take i keys)) last) ∙ ap (slot_pairs slots) (sym (map-append slot (take i keys) (get_or keys i d ∷ [])) ∙ ap (map slot) (sym (take_more keys i d l))))

-- of one chunk more
pub lent_chunk_more : (slots : List (Option PairRow)) (chunks : List (List RankedKey)) (i : ℕ) (chunk keys : List RankedKey) (before now : List PairRow) → i < length chunks → chunk ≡ get_or chunks i chunk → keys ≡ chunk
    → now ≡ before ++ slot_pairs slots (map (λ key. key.slot) keys) → before ≡ slot_pairs slots (map (λ key. key.slot) (joined_chunks (take i chunks)))
    → now ≡ slot_pairs slots (map (λ key. key.slot) (joined_chunks (take (i + 1) chunks)))
lent_chunk_more slots chunks i chunk keys before now l e k n b =
    n ∙ ap (λ xs. xs ++ slot_pairs slots (map (λ key. key.slot) keys)) b ∙ sym (slots_append slots (map (λ key. key.slot) (joined_chunks (take i chunks))) (map (λ key. key.slot) keys))
    ∙ ap (slot_pairs slots)
    (sym (map-append (λ key. key.slot) (joined_chunks (take i chunks)) keys) ∙ ap (map (λ key. key.slot)) (ap (λ xs. joined_chunks (take i chunks) ++ xs) k ∙ sym (joined_more chunks i chunk l e)))

-- ---- an order shows the pairs

pub order_entries : (slots shown : List (Option PairRow)) (keys dots : List Key) (pairs : List (Numbers × PairRow)) → shown ≡ slots → entries_of slots dots ≡ pairs → ((key : Key) → Has keys key ↔ Has dots key)
    → (entry : Numbers × PairRow) → Has (entries_of shown keys) entry ↔ Has pairs entry
order_entries slots shown keys dots pairs e v same =
    subst (λ (ps : List (Numbers × PairRow)). (entry : Numbers × PairRow) → Has (entries_of shown keys) entry ↔ Has ps entry) v
    (subst (λ (xs : List (Option PairRow)). (entry : Numbers × PairRow) → Has (entries_of xs keys) entry ↔ Has (entries_of slots dots) entry) (sym e) (same_entries slots keys dots same))

pub order_once : (slots shown : List (Option PairRow)) (keys dots : List Key) → shown ≡ slots → ((key : Key) → Has keys key ↔ Has dots key) → AreHeld slots dots → StandOnce keys → StandOnce (map (λ entry. entry.0) (entries_of shown keys))
order_once slots shown keys dots e same held once =
    subst (λ (xs : List (Option PairRow)). StandOnce (map (λ entry. entry.0) (entries_of xs keys))) (sym e) (once_entries slots keys (held_same slots dots keys same held) once)

pub order_length : (slots : List (Option PairRow)) (keys dots : List Key) (pairs : List (Numbers × PairRow)) → entries_of slots dots ≡ pairs → ((key : Key) → Has keys key ↔ Has dots key) → AreHeld slots dots → StandOnce keys → StandOnce dots
    → length keys ≡ length pairs
order_length slots keys dots pairs v same held once other = length_same keys dots once other same ∙ sym (length_entries slots dots held.occupied) ∙ ap (λ ps. length ps) v

-- ---- the pairs of a path's ticks

not_before : (t f : ℕ) → not (is_lt (ordering_then (nat_cmp t f) Equal)) ≡ nat_le f t
not_before t f = grind (arith, nat_tests)

not_behind : (t l : ℕ) → is_le (ordering_then (nat_cmp t l) Equal) ≡ nat_le t l
not_behind t l = grind (arith, nat_tests)

same_number : (a b : ℕ) → is_eq (nat_cmp a b) ≡ nat_eq a b
same_number a b = grind (arith, nat_tests)

of_one : (o low high : Ordering) → (not (is_lt (ordering_then o low)) && is_le (ordering_then o high)) ≡ is_eq o && (not (is_lt low) && is_le high)
of_one Less low high = refl
of_one Equal low high = refl
of_one Greater low high = refl

-- between the bounds of a path's ticks are these
within_tells : (path first last : ℕ) (key : RankedKey) → is_between (is_before_front (path ∷ first ∷ [])) (is_up_to_front (path ∷ last ∷ [])) key ≡ is_of_ticks path first last (numbers_in Dot key)
within_tells path first last key =
    of_one (nat_cmp key.first path) (ordering_then (nat_cmp key.second first) Equal) (ordering_then (nat_cmp key.second last) Equal)
    ∙ ap (λ b. b && (not (is_lt (ordering_then (nat_cmp key.second first) Equal)) && is_le (ordering_then (nat_cmp key.second last) Equal))) (same_number key.first path)
    ∙ ap (λ b. nat_eq key.first path && (b && is_le (ordering_then (nat_cmp key.second last) Equal))) (not_before key.second first)
    ∙ ap (λ b. nat_eq key.first path && (nat_le first key.second && b)) (not_behind key.second last)

map_filter : {X Y : Type 0} (f : X → Y) (p : Y → Bool) (xs : List X) → map f (filter (λ x. p (f x)) xs) ≡ filter p (map f xs)
map_filter f p [] = refl
map_filter f p (x ∷ xs) = elim (cases_Bool (p (f x))) [
  | inl t ↦ rw t (ap (λ ys. f x ∷ ys) (map_filter f p xs))
  | inr n ↦ rw n (map_filter f p xs)
]

pub within_pairs : (slots shown : List (Option PairRow)) (dots keys : List RankedKey) (pairs : List (Numbers × PairRow)) (path first last : ℕ) → shown ≡ slots → entries_of slots (keys_by Dot dots) ≡ pairs
    → keys ≡ filter (is_between (is_before_front (path ∷ first ∷ [])) (is_up_to_front (path ∷ last ∷ []))) dots
    → slot_pairs shown (map (λ key. key.slot) keys) ≡ map (λ entry. entry.1) (filter (λ entry. is_of_ticks path first last entry.0) pairs)
within_pairs slots shown dots keys pairs path first last e v k =
    ap (λ xs. slot_pairs xs (map (λ key. key.slot) keys)) e ∙ sym (slots_pairs Dot slots keys)
    ∙ ap (λ ks. map (λ entry. entry.1) (entries_of slots (keys_by Dot ks))) (k ∙ ap (λ (p : RankedKey → Bool). filter p dots) (λ i key. within_tells path first last key i))
    ∙ ap (λ ks. map (λ entry. entry.1) (entries_of slots ks)) (map_filter (key_by Dot) (λ key. is_of_ticks path first last (key_numbers key)) dots)
    ∙ ap (map (λ entry. entry.1)) (entries_filter slots (is_of_ticks path first last) (keys_by Dot dots) ∙ ap (filter (λ entry. is_of_ticks path first last entry.0)) v)

-- all pairs, by dot
pub lent_all : (slots shown : List (Option PairRow)) (elements joined : List RankedKey) (pairs : List (Numbers × PairRow)) → shown ≡ slots → joined ≡ elements → entries_of slots (keys_by Dot elements) ≡ pairs
    → slot_pairs shown (map (λ key. key.slot) joined) ≡ map (λ entry. entry.1) pairs
lent_all slots shown elements joined pairs e j v =
    (λ i. slot_pairs (e i) (map (λ key. key.slot) (j i))) ∙ sym (slots_pairs Dot slots elements) ∙ ap (map (λ entry. entry.1)) v

-- the pairs of an order's piece
pub lent_piece : (shape : Shape) (slots shown : List (Option PairRow)) (elements : List RankedKey) (keys : List Key) (lent : List RankedKey) (from count : ℕ) → lent ≡ take count (drop from elements) → keys_by shape elements ≡ keys → slots ≡ shown
    → slot_pairs slots (map (λ key. key.slot) lent) ≡ map (λ entry. entry.1) (entries_of shown (take count (drop from keys)))
lent_piece shape slots shown elements keys lent from count e k q =
    sym (slots_pairs shape slots lent)
    ∙ ap (λ ks. map (λ entry. entry.1) (entries_of slots ks)) (ap (keys_by shape) e ∙ keys_piece shape elements from count ∙ ap (λ ks. take count (drop from ks)) k)
    ∙ ap (λ (xs : List (Option PairRow)). map (λ entry. entry.1) (entries_of xs (take count (drop from keys)))) q

pub ok_weaker : {A E : Type 0} {P Q : A → Type 0} (r : Result A E) → ((a : A) → P a → Q a) → IfOk r P → IfOk r Q
ok_weaker (Ok a) f h = f a h
ok_weaker (Err e) f h = tt
