-- Pairs that move out of their slots, one after another.
use Rattle.std.proofs.Common.{◌≡◌, ◌∙◌, ◌+◌, ◌<◌, ℕ, zero, suc, List, [], ◌∷◌, ◌++◌, Option, length, map, take, drop, get_or, refl, sym, ap, subst, inl, inr, arith}
use Rattle.std.proofs.lemmas.List.{take_more, map-append}
use Rattle.std.proofs.lemmas.List.Elements.{filter_map-append}
use Rattle.std.specs.List.{cons_option}
use Rattle.mld_ops.specs.declared.pair_lists.PairRow.{PairRow}
use Rattle.tree_clock.specs.Lists.{Has}
use Rattle.chunked_list.specs.Joined.{joined_chunks}
use Rattle.chunked_list.proofs.JoinedLaws.{joined_more}
use Rattle.pair_orders.specs.Keys.{keys_by, slot_at, slot_pairs}
use Rattle.pair_orders.specs.KeptPairs.{AreHeld}
use Rattle.pair_orders.specs.PairEntries.{StandOnce}
use Rattle.pair_orders.specs.declared.keys.RankedKey.{RankedKey}
use Rattle.pair_orders.specs.declared.keys.Shape.TheVariants.{Dot}
use Rattle.pair_orders.proofs.Holding.{once_map}

-- the slots of one chunk more
pub slots_more : (chunks : List (List RankedKey)) (i : ℕ) (chunk keys : List RankedKey) (before now : List ℕ) → i < length chunks → chunk ≡ get_or chunks i chunk → keys ≡ chunk → now ≡ before ++ map (λ key. key.slot) keys
    → before ≡ map (λ key. key.slot) (joined_chunks (take i chunks)) → now ≡ map (λ key. key.slot) (joined_chunks (take (i + 1) chunks))
slots_more chunks i chunk keys before now l e k n b =
    n ∙ ap (λ xs. xs ++ map (λ key. key.slot) keys) b ∙ sym (map-append (λ key. key.slot) (joined_chunks (take i chunks)) keys)
    ∙ ap (map (λ key. key.slot)) (ap (λ xs. joined_chunks (take i chunks) ++ xs) k ∙ sym (joined_more chunks i chunk l e))

-- slots that show the same there
one_slot : (slots others : List (Option PairRow)) (number : ℕ) → slot_at slots number ≡ slot_at others number → slot_pairs slots (number ∷ []) ≡ slot_pairs others (number ∷ [])
one_slot slots others number e = ap (λ o. cons_option o []) e

-- one pair more
pub moved_more : (slots rest : List (Option PairRow)) (numbers : List ℕ) (i d : ℕ) (before now : List PairRow) → i < length numbers → slot_at rest (get_or numbers i d) ≡ slot_at slots (get_or numbers i d)
    → now ≡ before ++ slot_pairs rest (get_or numbers i d ∷ []) → before ≡ slot_pairs slots (take i numbers) → now ≡ slot_pairs slots (take (i + 1) numbers)
moved_more slots rest numbers i d before now l same n b =
    let number = get_or numbers i d in
    n ∙ ap (λ xs. xs ++ slot_pairs rest (number ∷ [])) b ∙ ap (λ xs. slot_pairs slots (take i numbers) ++ xs) (one_slot rest slots number same)
    ∙ sym (filter_map-append (slot_at slots) (take i numbers) (number ∷ [])) ∙ ap (slot_pairs slots) (sym (take_more numbers i d l))

-- the next number is one of those that are left
pub rest_there : (numbers : List ℕ) (i d : ℕ) → i < length numbers → Has (drop i numbers) (get_or numbers i d)
rest_there [] i d l = absurd (none_below l)
  where
    none_below : i < 0 → ⊥
    none_below l = omega (arith, l)
rest_there (n ∷ numbers) zero d l = inl refl
rest_there (n ∷ numbers) (suc i) d l = rest_there numbers i d (omega (arith, l))

-- and none of those behind it
pub rest_other : (numbers : List ℕ) (i d other : ℕ) → i < length numbers → StandOnce numbers → Has (drop (i + 1) numbers) other → Has (drop i numbers) other × (¬ (other ≡ get_or numbers i d))
rest_other [] i d other l once h = absurd (none_below l)
  where
    none_below : i < 0 → ⊥
    none_below l = omega (arith, l)
rest_other (n ∷ numbers) zero d other l once h = (inr h, λ q. once.0 (subst (Has numbers) q h))
rest_other (n ∷ numbers) (suc i) d other l once h =
    let behind : suc i + 1 ≡ suc (i + 1) = omega arith in
    rest_other numbers i d other (omega (arith, l)) once.1 (subst (λ m. Has (drop m (n ∷ numbers)) other) behind h)

-- no two keys have one slot
pub slots_once : (slots : List (Option PairRow)) (elements joined : List RankedKey) → joined ≡ elements → AreHeld slots (keys_by Dot elements) → StandOnce (keys_by Dot elements) → StandOnce (map (λ key. key.slot) joined)
slots_once slots elements joined e held once =
    subst (λ (xs : List RankedKey). StandOnce (map (λ key. key.slot) xs)) (sym e)
    (subst (λ ns. StandOnce ns) (slots_by elements) (once_map (λ key. key.slot) (keys_by Dot elements) once held.slots_apart))
  where
    slots_by : (xs : List RankedKey) → map (λ key. key.slot) (keys_by Dot xs) ≡ map (λ key. key.slot) xs
    slots_by [] = refl
    slots_by (x ∷ xs) = ap (λ ns. x.slot ∷ ns) (slots_by xs)
