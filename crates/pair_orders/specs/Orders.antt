-- What contracts see of an order of pairs, and the bound of a search in it. The calls that hand it out and search in it cite it.
use Rattle.std.specs.Prelude.{◌≡◌, ℕ, ◌≤◌, List, Option, Bool, true, false, IsSome, length}
use Rattle.std.specs.Int.Digits.{digits_of}
use Rattle.std.specs.List.{filter}
use Rattle.std.specs.List.Sorted.{IsPartitionPoint}
use Rattle.std.specs.Ordering.{is_gt, is_ge}
use Rattle.mld_ops.specs.declared.pair_lists.PairRow.{PairRow}
use Rattle.tree_clock.specs.Lists.{Has, IsAscending}
use Rattle.pair_orders.specs.Keys.{shape_cmp, slot_at, places_cmp, has_places}
use Rattle.pair_orders.specs.declared.keys.Key.{Key}
use Rattle.pair_orders.specs.declared.keys.Numbers.{Numbers}
use Rattle.pair_orders.specs.declared.keys.Places.{Places}
use Rattle.pair_orders.specs.declared.keys.Shape.{Shape}

-- which numbers lead, the keys, and the slots in which the pairs stand
pub record OrderValue : Type 0 where
  pub shape : Shape
  pub keys : List Key
  pub slots : List (Option PairRow)

-- the keys ascend, and the slot of each is occupied
pub record IsOrder (shape : Shape) (keys : List Key) (slots : List (Option PairRow)) : Type 0 where
  pub ascending : IsAscending (shape_cmp shape) keys
  pub occupied : (key : Key) → Has keys key → IsSome (slot_at slots key.slot)

-- of pairs with their numbers, those that have the wanted ones
abbrev pub entries_with : Places → List (Numbers × PairRow) → List (Numbers × PairRow)
entries_with wanted entries = filter (λ entry. has_places wanted entry.0) entries

-- how many digits a number has where it is written by twos; 0 has none
unfoldable pub binary_digits : ℕ → ℕ
binary_digits number = length (digits_of 2 number)

-- the key is in front of those that have the wanted places
abbrev pub is_before_places : Shape → Places → Key → Bool
is_before_places shape wanted key = is_gt (places_cmp shape wanted key)

-- the key is not behind them
abbrev pub is_up_to_places : Shape → Places → Key → Bool
is_up_to_places shape wanted key = is_ge (places_cmp shape wanted key)

-- what passes the test stands in front of the place, and what fails it behind
abbrev pub IsDividedAt : (Key → Bool) → List Key → ℕ → Type 0
IsDividedAt test keys place = IsPartitionPoint (λ key. test key ≡ true) (λ key. test key ≡ false) keys place

-- the keys that have the wanted places are those from one place to before another
pub record IsSpan (shape : Shape) (wanted : Places) (keys : List Key) (from to : ℕ) : Type 0 where
  pub order : from ≤ to
  pub end : to ≤ length keys
  pub before : IsDividedAt (is_before_places shape wanted) keys from
  pub up_to : IsDividedAt (is_up_to_places shape wanted) keys to
