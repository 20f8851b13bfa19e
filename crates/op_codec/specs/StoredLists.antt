-- Lists as bytes: how many items, and the items, strictly ascending. The grammars of lists are made of it.
use Rattle.std.specs.Prelude.{ℕ, zero, suc, ◌-◌, Bool, true, List, [], ◌∷◌, ◌++◌, Option, Some, None, length, if◌then◌else◌}
use Rattle.std.specs.List.{flat_map, slice_get}
use Rattle.std.specs.Ordering.{is_lt}
use Rattle.std.specs.declared.cmp.Ordering.{Ordering}
use Rattle.mld_bytes.specs.Bytes.{u32_bytes}
use Rattle.op_codec.specs.Reading.{Reading, Found, Fault, chain, read_u32}

-- a list as it is written, by what is written for an item
abbrev pub list_bytes : {X : Type 0} → (X → List ℕ) → List X → List ℕ
list_bytes item_bytes items = u32_bytes (length items) ++ flat_map item_bytes items

-- the item is above this one, if there is one
abbrev pub is_above_one : {X : Type 0} → (X → X → Ordering) → Option X → X → Bool
is_above_one order None item = true
is_above_one order (Some last) item = is_lt (order last item)

-- the item is above the last of those before it
abbrev pub is_above : {X : Type 0} → (X → X → Ordering) → List X → X → Bool
is_above order items item = is_above_one order (slice_get items (length items - 1)) item

-- so many items more behind those that were read; an item that doesn't fit behind them is a fault where it begins
unfoldable pub read_items : {X : Type 0} → (ℕ → List ℕ → Reading X) → (List X → X → Bool) → ℕ → List X → ℕ → List ℕ → Reading (List X)
read_items read_item fits zero items place bytes = Found items place bytes
read_items read_item fits (suc count) items place bytes =
    chain (read_item place bytes) (λ item next rest.
    if fits items item then read_items read_item fits count (items ++ item ∷ []) next rest else Fault place)

-- a list
abbrev pub read_list : {X : Type 0} → (ℕ → List ℕ → Reading X) → (List X → X → Bool) → ℕ → List ℕ → Reading (List X)
read_list read_item fits place bytes = chain (read_u32 place bytes) (λ count next rest. read_items read_item fits count [] next rest)
