-- Keys as they stand in an order, and what that tells of the keys.
use Rattle.std.proofs.Common.{◌≡◌, ◌∙◌, ℕ, zero, suc, ◌+◌, ◌<◌, List, [], ◌∷◌, ◌++◌, ◌⊎◌, ◌↔◌, Bool, Option, None, Some, IfSome, IfNone, IsTrue, map, take, drop, get_or, length, refl, sym, ap, subst, inl, inr}
use Rattle.std.proofs.lemmas.Bool.{false≢true}
use Rattle.std.proofs.lemmas.List.{take_more, map-append}
use Rattle.std.proofs.lemmas.Simd.{map-map}
use Rattle.std.specs.List.{cons_option}
use Rattle.std.specs.Option.{option_map, is_some}
use Rattle.std.specs.declared.cmp.Ordering.{Ordering}
use Rattle.std.specs.declared.cmp.Ordering.TheVariants.{Less, Equal}
use Rattle.mld_ops.specs.declared.pair_lists.PairRow.{PairRow}
use Rattle.tree_clock.specs.Lists.{Has, IsBelowAll, IsAscending}
use Rattle.pair_orders.specs.Keys.{ranked, key_by, keys_by, slotted_key, ranked_cmp, ranked_total, shape_cmp, slot_at, slot_pairs, numbers_in, ranked_places, wanted_then, places_cmp}
use Rattle.pair_orders.specs.KeyFronts.{HasFront}
use Rattle.pair_orders.specs.KeptPairs.{AreKeysOf}
use Rattle.pair_orders.specs.PairEntries.{StandOnce, entries_of}
use Rattle.pair_orders.specs.declared.keys.Key.{Key}
use Rattle.pair_orders.specs.declared.keys.Numbers.{Numbers}
use Rattle.pair_orders.specs.declared.keys.Places.{Places}
use Rattle.pair_orders.specs.declared.keys.RankedKey.{RankedKey}
use Rattle.pair_orders.specs.declared.keys.Shape.{Shape}
use Rattle.pair_orders.specs.declared.keys.Shape.TheVariants.{Dot, Subject, Predicate, Object}
use Rattle.pair_orders.proofs.Holding.{has_map, once_map}
use Rattle.pair_orders.proofs.Once.{once_ascending}
use Rattle.pair_orders.proofs.Together.{has_image}

-- a key as it stands in an order is that key, and back
pub ranked_back : (shape : Shape) (key : RankedKey) → ranked shape (key_by shape key) ≡ key
ranked_back Dot key = refl
ranked_back Subject key = refl
ranked_back Predicate key = refl
ranked_back Object key = refl

pub key_back : (shape : Shape) (key : Key) → key_by shape (ranked shape key) ≡ key
key_back Dot key = refl
key_back Subject key = refl
key_back Predicate key = refl
key_back Object key = refl

same_key : (shape : Shape) (a b : Key) → ranked shape a ≡ ranked shape b → a ≡ b
same_key shape a b e = sym (key_back shape a) ∙ ap (key_by shape) e ∙ key_back shape b

same_ranked : (shape : Shape) (a b : RankedKey) → key_by shape a ≡ key_by shape b → a ≡ b
same_ranked shape a b e = sym (ranked_back shape a) ∙ ap (ranked shape) e ∙ ranked_back shape b

pub has_key : (shape : Shape) (xs : List RankedKey) (key : Key) → Has (keys_by shape xs) key ↔ Has xs (ranked shape key)
has_key shape xs key = (
  λ h. let r = has_map (key_by shape) xs key h in subst (Has xs) (sym (ranked_back shape r.0) ∙ ap (ranked shape) r.2) r.1,
  λ h. subst (Has (keys_by shape xs)) (key_back shape key) (has_image (key_by shape) xs (ranked shape key) h),
)

-- a key that comes into an order, and one that goes
pub put_members : (shape : Shape) (old new : List RankedKey) (key : Key) (put : RankedKey) → put ≡ ranked shape key → ((other : RankedKey) → Has new other ↔ (Has old other ⊎ (other ≡ put)))
    → (other : Key) → Has (keys_by shape new) other ↔ (Has (keys_by shape old) other ⊎ (other ≡ key))
put_members shape old new key put e members other =
    let m = members (ranked shape other) in (
      λ h. elim (m.0 ((has_key shape new other).0 h)) [ inl k ↦ inl ((has_key shape old other).1 k) | inr q ↦ inr (same_key shape other key (q ∙ e)) ],
      λ h. (has_key shape new other).1 (m.1 (elim h [ inl k ↦ inl ((has_key shape old other).0 k) | inr q ↦ inr (ap (ranked shape) q ∙ sym e) ])),
    )

pub take_members : (shape : Shape) (old new : List RankedKey) (key : Key) (taken : RankedKey) → taken ≡ ranked shape key → ((other : RankedKey) → Has new other ↔ (Has old other × ¬ (other ≡ taken)))
    → (other : Key) → Has (keys_by shape new) other ↔ (Has (keys_by shape old) other × ¬ (other ≡ key))
take_members shape old new key taken e members other =
    let m = members (ranked shape other) in (
      λ h. let k = m.0 ((has_key shape new other).0 h) in ((has_key shape old other).1 k.0, λ q. k.1 (ap (ranked shape) q ∙ sym e)),
      λ h. (has_key shape new other).1 (m.1 ((has_key shape old other).0 h.0, λ q. h.1 (same_key shape other key (q ∙ e)))),
    )

-- keys of ascending ones ascend
ascending_map : {X Y : Type 0} (f : X → Y) (R : X → X → Ordering) (Q : Y → Y → Ordering) → ((a b : X) → R a b ≡ Less → Q (f a) (f b) ≡ Less) → (xs : List X) → IsAscending R xs → IsAscending Q (map f xs)
ascending_map f R Q h [] a = tt
ascending_map f R Q h (x ∷ xs) a = (below_map xs a.0, ascending_map f R Q h xs a.1)
  where
    below_map : (ys : List _) → IsBelowAll R x ys → IsBelowAll Q (f x) (map f ys)
    below_map [] b = tt
    below_map (y ∷ ys) b = (h x y b.0, below_map ys b.1)

pub ascending_keys : (shape : Shape) (xs : List RankedKey) → IsAscending ranked_cmp xs → IsAscending (shape_cmp shape) (keys_by shape xs)
ascending_keys shape = ascending_map (key_by shape) ranked_cmp (shape_cmp shape) (λ a b e. (λ i. ranked_cmp (ranked_back shape a i) (ranked_back shape b i)) ∙ e)

pub once_keys : (shape : Shape) (xs : List RankedKey) → IsAscending ranked_cmp xs → StandOnce (keys_by shape xs)
once_keys shape xs a = once_map (key_by shape) xs (once_ascending ranked_cmp ranked_total xs a) (λ x y h k e. same_ranked shape x y e)

-- the key at a place
pub key_at : (shape : Shape) (xs ys : List RankedKey) (x : RankedKey) (at : ℕ) → drop at xs ≡ x ∷ ys → (none : Key) → get_or (keys_by shape xs) at none ≡ key_by shape x
key_at shape [] ys x zero e none = cc
key_at shape [] ys x (suc at) e none = cc
key_at shape (z ∷ xs) ys x zero e none = let q : z ≡ x = cc in ap (key_by shape) q
key_at shape (z ∷ xs) ys x (suc at) e none = key_at shape xs ys x at e none

-- a piece of the keys
pub keys_piece : (shape : Shape) (xs : List RankedKey) (from count : ℕ) → keys_by shape (take count (drop from xs)) ≡ take count (drop from (keys_by shape xs))
keys_piece shape [] zero zero = refl
keys_piece shape [] zero (suc count) = refl
keys_piece shape [] (suc from) zero = refl
keys_piece shape [] (suc from) (suc count) = refl
keys_piece shape (x ∷ xs) zero zero = refl
keys_piece shape (x ∷ xs) zero (suc count) = ap (λ ks. key_by shape x ∷ ks) (front xs count)
  where
    front : (zs : List RankedKey) (n : ℕ) → keys_by shape (take n zs) ≡ take n (keys_by shape zs)
    front [] zero = refl
    front [] (suc n) = refl
    front (z ∷ zs) zero = refl
    front (z ∷ zs) (suc n) = ap (λ ks. key_by shape z ∷ ks) (front zs n)
keys_piece shape (x ∷ xs) (suc from) count = keys_piece shape xs from count

-- of which some are lent
pub lent_keys : {K : Type 0} (now : K → RankedKey) (shape : Shape) (elements : List RankedKey) (keys : List Key) (lent : List K) (from count : ℕ) → map now lent ≡ take count (drop from elements) → keys_by shape elements ≡ keys
    → map (λ x. key_by shape (now x)) lent ≡ take count (drop from keys)
lent_keys now shape elements keys lent from count e k =
    sym (map-map (key_by shape) now lent) ∙ ap (keys_by shape) e ∙ keys_piece shape elements from count ∙ ap (λ ks. take count (drop from ks)) k

-- their pairs are those in their slots
pub slots_pairs : (shape : Shape) (slots : List (Option PairRow)) (xs : List RankedKey) → map (λ entry. entry.1) (entries_of slots (keys_by shape xs)) ≡ slot_pairs slots (map (λ key. key.slot) xs)
slots_pairs shape slots [] = refl
slots_pairs shape slots (x ∷ xs) = one (slot_at slots x.slot) (numbers_in shape x) (entries_of slots (keys_by shape xs)) ∙ ap (cons_option (slot_at slots x.slot)) (slots_pairs shape slots xs)
  where
    one : (o : Option PairRow) (numbers : Numbers) (rest : List (Numbers × PairRow)) → map (λ entry. entry.1) (cons_option (option_map (λ pair. (numbers, pair)) o) rest) ≡ cons_option o (map (λ entry. entry.1) rest)
    one None numbers rest = refl
    one (Some pair) numbers rest = refl

-- and back
unascending_map : {X Y : Type 0} (f : X → Y) (R : X → X → Ordering) (Q : Y → Y → Ordering) → ((a b : X) → Q (f a) (f b) ≡ Less → R a b ≡ Less) → (xs : List X) → IsAscending Q (map f xs) → IsAscending R xs
unascending_map f R Q h [] a = tt
unascending_map f R Q h (x ∷ xs) a = (below_map xs a.0, unascending_map f R Q h xs a.1)
  where
    below_map : (ys : List _) → IsBelowAll Q (f x) (map f ys) → IsBelowAll R x ys
    below_map [] b = tt
    below_map (y ∷ ys) b = (h x y b.0, below_map ys b.1)

pub ascending_ranked : (shape : Shape) (xs : List RankedKey) → IsAscending (shape_cmp shape) (keys_by shape xs) → IsAscending ranked_cmp xs
ascending_ranked shape = unascending_map (key_by shape) ranked_cmp (shape_cmp shape) (λ a b e. sym (λ i. ranked_cmp (ranked_back shape a i) (ranked_back shape b i)) ∙ e)

-- ---- keys that are sorted for an order

has_ranked : (shape : Shape) (keys : List Key) (key : Key) → Has (map (ranked shape) keys) (ranked shape key) ↔ Has keys key
has_ranked shape keys key = (
  λ h. let r = has_map (ranked shape) keys (ranked shape key) h in subst (Has keys) (same_key shape r.0 key r.2) r.1,
  λ h. has_image (ranked shape) keys key h,
)

pub once_ranked : (shape : Shape) (keys : List Key) (sorted : List RankedKey) → sorted ≡ map (ranked shape) keys → StandOnce keys → StandOnce sorted
once_ranked shape keys sorted e once = subst (λ (ks : List RankedKey). StandOnce ks) (sym e) (once_map (ranked shape) keys once (λ a b h k q. same_key shape a b q))

pub sorted_are : (shape : Shape) (keys : List Key) (sorted new : List RankedKey) → sorted ≡ map (ranked shape) keys → IsAscending ranked_cmp new → ((key : RankedKey) → Has new key ↔ Has sorted key) → AreKeysOf shape new keys
sorted_are shape keys sorted new e a same = record {
  ascending = a;
  same = λ key. (
    λ h. (has_ranked shape keys key).0 (subst (λ (ks : List RankedKey). Has ks (ranked shape key)) e ((same (ranked shape key)).0 ((has_key shape new key).0 h))),
    λ h. (has_key shape new key).1 ((same (ranked shape key)).1 (subst (λ (ks : List RankedKey). Has ks (ranked shape key)) (sym e) ((has_ranked shape keys key).1 h))),
  );
}

pub more_ranked : (shape : Shape) (keys : List Key) (i : ℕ) (d : Key) (before now : List RankedKey) (x : RankedKey) → i < length keys → x ≡ ranked shape (get_or keys i d) → now ≡ before ++ x ∷ []
    → before ≡ map (ranked shape) (take i keys) → now ≡ map (ranked shape) (take (i + 1) keys)
more_ranked shape keys i d before now x l e n b =
    n ∙ ap (λ y. before ++ y ∷ []) e ∙ ap (λ xs. xs ++ ranked shape (get_or keys i d) ∷ []) b
    ∙ sym (map-append (ranked shape) (take i keys) (get_or keys i d ∷ [])) ∙ ap (map (ranked shape)) (sym (take_more keys i d l))

-- ---- the first key that begins with given numbers

pub slot_found : (numbers : Numbers) (xs : List RankedKey) (key : RankedKey) → Has xs key → HasFront (numbers.path ∷ numbers.tick ∷ numbers.s ∷ numbers.p ∷ numbers.o ∷ []) key
    → Has (keys_by Dot xs) (slotted_key numbers key.slot)
slot_found numbers xs key h e = subst (Has (keys_by Dot xs)) is (has_image (key_by Dot) xs key h)
  where
    is : key_by Dot key ≡ slotted_key numbers key.slot
    is = λ i. record { s = get_or (e i) 2 0; p = get_or (e i) 3 0; o = get_or (e i) 4 0; path = get_or (e i) 0 0; tick = get_or (e i) 1 0; slot = key.slot }

pub slot_not_found : (numbers : Numbers) (xs : List RankedKey) → ((key : RankedKey) → Has xs key → ¬ HasFront (numbers.path ∷ numbers.tick ∷ numbers.s ∷ numbers.p ∷ numbers.o ∷ []) key)
    → (slot : ℕ) → ¬ Has (keys_by Dot xs) (slotted_key numbers slot)
slot_not_found numbers xs none slot h =
    let m = (has_key Dot xs (slotted_key numbers slot)).0 h in none (ranked Dot (slotted_key numbers slot)) m refl

pub terms_found : {K : Type 0} (now : K → RankedKey) (xs : List RankedKey) (dots : List Key) (s p o : ℕ) (found : Option K) (answer : Bool) → AreKeysOf Subject xs dots
    → IfSome found (λ key. Has xs (now key) × HasFront (s ∷ p ∷ o ∷ []) (now key)) → IfNone found ((key : RankedKey) → Has xs key → ¬ HasFront (s ∷ p ∷ o ∷ []) key) → answer ≡ is_some found
    → IsTrue answer ↔ ((key : Key) × Has dots key × (key.s ≡ s) × (key.p ≡ p) × (key.o ≡ o))
terms_found now xs dots s p o None answer are some none e = (
  λ h. absurd (false≢true (sym e ∙ h)),
  λ h. absurd (none (ranked Subject h.0) ((has_key Subject xs h.0).0 ((are.same h.0).1 h.1)) (λ i. h.2 i ∷ h.3 i ∷ h.4 i ∷ [])),
)
terms_found now xs dots s p o (Some key) answer are some none e = (
  λ h. (key_by Subject (now key), (are.same (key_by Subject (now key))).0 (has_image (key_by Subject) xs (now key) some.0), (λ i. get_or (some.1 i) 0 0), (λ i. get_or (some.1 i) 1 0), (λ i. get_or (some.1 i) 2 0)),
  λ h. e,
)

-- the wanted places against a key as it stands in an order
pub places_told : (shape : Shape) (wanted : Places) (key : RankedKey) → let places = ranked_places shape wanted in
    wanted_then places.0 key.first (wanted_then places.1 key.second (wanted_then places.2 key.third Equal)) ≡ places_cmp shape wanted (key_by shape key)
places_told Dot wanted key = refl
places_told Subject wanted key = refl
places_told Predicate wanted key = refl
places_told Object wanted key = refl
