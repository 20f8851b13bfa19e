-- The keys of pairs, their orders, and the numbers that are wanted of a pair. The contracts of all files cite it.
use Rattle.std.proofs.Common.{◌≡◌, ◌∙◌, ℕ, List, [], ◌∷◌, Bool, true, ◌&&◌, nat_eq, get_or, map, filter_map, Option, None, Some, ap, sym}
use Rattle.std.proofs.lemmas.Cmp.{on_total, nat_list_cmp_total}
use Rattle.std.proofs.lemmas.Map.Lookups.{CmpEqualImpliesEq, exact_bytes}
use Rattle.std.specs.Cmp.{IsTotalOrder}
use Rattle.std.specs.Cmp.Lexicographic.{slice_cmp}
use Rattle.std.specs.List.{slice_index_or}
use Rattle.std.specs.Ordering.{nat_cmp, ordering_then}
use Rattle.std.specs.declared.cmp.Ordering.{Ordering}
use Rattle.std.specs.declared.cmp.Ordering.TheVariants.{Less, Equal, Greater}
use Rattle.chunked_list.specs.NumberLaws.{numbers_compared}
use Rattle.chunked_list.specs.NumberTexts.{numbers_text}
use Rattle.mld_ops.specs.declared.pair_lists.PairRow.{PairRow}
use Rattle.pair_orders.specs.declared.keys.Numbers.{Numbers}
use Rattle.pair_orders.specs.declared.keys.Places.{Places}
use Rattle.pair_orders.specs.declared.keys.Shape.{Shape}
use Rattle.pair_orders.specs.declared.keys.Shape.TheVariants.{Dot, Subject, Predicate, Object}
use Rattle.pair_orders.specs.declared.keys.Key.{Key}
use Rattle.pair_orders.specs.declared.keys.RankedKey.{RankedKey}

-- ---- keys

-- the key of a pair with these numbers, in a slot
abbrev pub slotted_key : Numbers → ℕ → Key
slotted_key numbers slot = record { s = numbers.s; p = numbers.p; o = numbers.o; path = numbers.path; tick = numbers.tick; slot = slot }

-- the numbers of a key's pair
abbrev pub key_numbers : Key → Numbers
key_numbers key = record { s = key.s; p = key.p; o = key.o; path = key.path; tick = key.tick }

-- the pair in a slot
abbrev pub slot_at : List (Option PairRow) → ℕ → Option PairRow
slot_at slots slot = slice_index_or slots slot None

-- the pairs in slots, where some are
abbrev pub slot_pairs : List (Option PairRow) → List ℕ → List PairRow
slot_pairs slots numbers = filter_map (slot_at slots) numbers

-- ---- orders

-- a key as it stands in an order
abbrev pub ranked : Shape → Key → RankedKey
ranked Dot key = record { first = key.path; second = key.tick; third = key.s; fourth = key.p; fifth = key.o; slot = key.slot }
ranked Subject key = record { first = key.s; second = key.p; third = key.o; fourth = key.path; fifth = key.tick; slot = key.slot }
ranked Predicate key = record { first = key.p; second = key.o; third = key.s; fourth = key.path; fifth = key.tick; slot = key.slot }
ranked Object key = record { first = key.o; second = key.s; third = key.p; fourth = key.path; fifth = key.tick; slot = key.slot }

-- the numbers of what stands so in an order
abbrev pub numbers_in : Shape → RankedKey → Numbers
numbers_in Dot key = record { s = key.third; p = key.fourth; o = key.fifth; path = key.first; tick = key.second }
numbers_in Subject key = record { s = key.first; p = key.second; o = key.third; path = key.fourth; tick = key.fifth }
numbers_in Predicate key = record { s = key.third; p = key.first; o = key.second; path = key.fourth; tick = key.fifth }
numbers_in Object key = record { s = key.second; p = key.third; o = key.first; path = key.fourth; tick = key.fifth }

-- and its key
abbrev pub key_by : Shape → RankedKey → Key
key_by shape key = slotted_key (numbers_in shape key) key.slot

abbrev pub keys_by : Shape → List RankedKey → List Key
keys_by shape keys = map (key_by shape) keys

-- the numbers in their row
abbrev pub row_of : RankedKey → List ℕ
row_of key = key.first ∷ key.second ∷ key.third ∷ key.fourth ∷ key.fifth ∷ key.slot ∷ []

-- the numbers of a key, as an order has them
abbrev pub ranks : Shape → Key → List ℕ
ranks shape key = row_of (ranked shape key)

-- keys are ordered by them, from the first
abbrev pub ranked_cmp : RankedKey → RankedKey → Ordering
ranked_cmp a b = slice_cmp nat_cmp (row_of a) (row_of b)

abbrev pub shape_cmp : Shape → Key → Key → Ordering
shape_cmp shape a b = ranked_cmp (ranked shape a) (ranked shape b)

-- their text is the first two numbers
abbrev pub ranked_text : RankedKey → List ℕ
ranked_text key = numbers_text key.first key.second

-- three numbers against three, from the first
abbrev pub three_cmp : ℕ × ℕ × ℕ → ℕ × ℕ × ℕ → Ordering
three_cmp a b = ordering_then (nat_cmp a.0 b.0) (ordering_then (nat_cmp a.1 b.1) (nat_cmp a.2 b.2))

-- the order is total
pub ranked_total : IsTotalOrder ranked_cmp
ranked_total = on_total row_of nat_list_cmp_total

pub shape_total : (shape : Shape) → IsTotalOrder (shape_cmp shape)
shape_total shape = on_total (ranks shape) nat_list_cmp_total

-- keys that it finds equal are the same key
pub ranked_exact : CmpEqualImpliesEq ranked_cmp
ranked_exact a b h = ap from_row (exact_bytes (row_of a) (row_of b) h)
  where
    from_row : List ℕ → RankedKey
    from_row r = record { first = get_or r 0 0; second = get_or r 1 0; third = get_or r 2 0; fourth = get_or r 3 0; fifth = get_or r 4 0; slot = get_or r 5 0 }

-- what two comparisons tell, those behind them don't change
pub told_by_two : (o p q r : Ordering) → ¬ (r ≡ Equal) → ordering_then o p ≡ r → ordering_then o (ordering_then p q) ≡ r
told_by_two Less p q r n e = e
told_by_two Equal Less q r n e = e
told_by_two Equal Equal q r n e = absurd (n (sym e))
told_by_two Equal Greater q r n e = e
told_by_two Greater p q r n e = e

-- what the texts say, the order says
pub ranked_by_text : (a b : RankedKey) (r : Ordering) → ¬ (r ≡ Equal) → slice_cmp nat_cmp (ranked_text a) (ranked_text b) ≡ r → ranked_cmp a b ≡ r
ranked_by_text a b r n e =
    told_by_two (nat_cmp a.first b.first) (nat_cmp a.second b.second) _ r n (sym (numbers_compared a.first a.second b.first b.second) ∙ e)

-- ---- wanted numbers

-- of three places none is wanted behind one that isn't
pub record AreLeading (first second third : Option ℕ) : Type 0 where
  pub second_is : first ≡ None → second ≡ None
  pub third_is : second ≡ None → third ≡ None

-- in that order none is; by dot none is wanted at all
abbrev pub LeadsIn : Shape → Places → Type 0
LeadsIn Dot wanted = (wanted.s ≡ None) × (wanted.p ≡ None) × (wanted.o ≡ None)
LeadsIn Subject wanted = AreLeading wanted.s wanted.p wanted.o
LeadsIn Predicate wanted = AreLeading wanted.p wanted.o wanted.s
LeadsIn Object wanted = AreLeading wanted.o wanted.s wanted.p

-- the numbers of terms lead in that order
abbrev pub LeadsByTerms : Shape → Type 0
LeadsByTerms Dot = ⊥
LeadsByTerms Subject = Unit {0}
LeadsByTerms Predicate = Unit {0}
LeadsByTerms Object = Unit {0}

-- a wanted number against that of a key, then the next ones; where none is wanted all are alike
abbrev pub wanted_then : Option ℕ → ℕ → Ordering → Ordering
wanted_then None number next = Equal
wanted_then (Some wanted) number next = ordering_then (nat_cmp wanted number) next

-- the wanted places in the row of an order
abbrev pub ranked_places : Shape → Places → Option ℕ × Option ℕ × Option ℕ
ranked_places Dot wanted = (None, None, None)
ranked_places Subject wanted = (wanted.s, wanted.p, wanted.o)
ranked_places Predicate wanted = (wanted.p, wanted.o, wanted.s)
ranked_places Object wanted = (wanted.o, wanted.s, wanted.p)

-- the wanted places against those of a key, as far as they are wanted from the front
abbrev pub places_cmp : Shape → Places → Key → Ordering
places_cmp Dot wanted key = Equal
places_cmp Subject wanted key = wanted_then wanted.s key.s (wanted_then wanted.p key.p (wanted_then wanted.o key.o Equal))
places_cmp Predicate wanted key = wanted_then wanted.p key.p (wanted_then wanted.o key.o (wanted_then wanted.s key.s Equal))
places_cmp Object wanted key = wanted_then wanted.o key.o (wanted_then wanted.s key.s (wanted_then wanted.p key.p Equal))

-- whether a number is the wanted one, where one is wanted
abbrev pub is_wanted : Option ℕ → ℕ → Bool
is_wanted None number = true
is_wanted (Some wanted) number = nat_eq wanted number

-- whether each wanted number is that of the pair
abbrev pub has_places : Places → Numbers → Bool
has_places wanted numbers = is_wanted wanted.s numbers.s && (is_wanted wanted.p numbers.p && is_wanted wanted.o numbers.o)
