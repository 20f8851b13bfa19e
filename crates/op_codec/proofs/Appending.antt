-- What is appended in two steps.
use Rattle.std.proofs.Common.{◌≡◌, ℕ, ◌+◌, ◌<◌, ◌≤◌, List, [], ◌∷◌, ◌++◌, Result, Ok, Err, OnOk, OnErr, length, take, get_or, refl, sym, ap, ◌∙◌, append_assoc, arith}
use Rattle.std.proofs.lemmas.Grind.{flat_map-append}
use Rattle.std.proofs.lemmas.List.{append-nil, take_all, take_more, take_at, take-take, length-append}
use Rattle.std.specs.List.{flat_map}
use Rattle.mld_bytes.specs.Bytes.{u32_bytes}
use Rattle.rdf_terms.specs.Kept.{KeepsStart}
use Rattle.op_codec.specs.StoredLists.{list_bytes}

-- what follows at a good end of what holds there
pub on_ok : {T E P Q : Type 0} (result : Result T E) → (P → Q) → OnOk result P → OnOk result Q
on_ok (Ok value) f h = f h
on_ok (Err error) f h = tt

-- what follows at a bad end of what holds there
pub on_err : {T E P Q : Type 0} (result : Result T E) → (P → Q) → OnErr result P → OnErr result Q
on_err (Ok value) f h = tt
on_err (Err error) f h = f h

-- what holds holds at a bad end
pub at_err : {T E P : Type 0} (result : Result T E) → P → OnErr result P
at_err (Ok value) h = tt
at_err (Err error) h = h

-- two pieces appended are their join appended
pub appended_both : (start middle end first second : List ℕ) → middle ≡ start ++ first → end ≡ middle ++ second → end ≡ start ++ (first ++ second)
appended_both start middle end first second m e =
    e ∙ ap (λ (l : List ℕ). l ++ second) m ∙ append_assoc start first second

-- what begins with a list keeps it
pub keeps_appended : (start more new : List ℕ) → new ≡ start ++ more → KeepsStart start new
keeps_appended start more new e = ap (take (length start)) e ∙ take_at start more (length start) refl

-- what keeps a longer list keeps its start
pub keeps_front : (start more middle new : List ℕ) → middle ≡ start ++ more → KeepsStart middle new → KeepsStart start new
keeps_front start more middle new e k =
    let long : length middle ≡ length start + length more = ap length e ∙ length-append start more in
    sym (take-take (length start) (length middle) new (omega arith)) ∙ ap (take (length start)) (k ∙ e) ∙ take_at start more (length start) refl

module _ {X : Type 0} (item_bytes : X → List ℕ) (items : List X) (start : List ℕ) where
  -- the count and the first items stand behind the start
  abbrev pub HasItems : ℕ → List ℕ → Type 0
  HasItems i out = out ≡ start ++ (u32_bytes (length items) ++ flat_map item_bytes (take i items))

  -- the count alone
  pub count_appended : (out : List ℕ) → out ≡ start ++ u32_bytes (length items) → HasItems 0 out
  count_appended out e = e ∙ ap (λ (l : List ℕ). start ++ l) (sym (append-nil (u32_bytes (length items))))

  -- what keeps the list so far keeps its start
  pub items_kept : (i : ℕ) (before after : List ℕ) → HasItems i before → KeepsStart before after → KeepsStart start after
  items_kept i before after h k = keeps_front start (u32_bytes (length items) ++ flat_map item_bytes (take i items)) before after h k

  -- one item more
  pub item_appended : (i : ℕ) (x : X) (before after : List ℕ) → i < length items → x ≡ get_or items i x → HasItems i before → after ≡ before ++ item_bytes x → HasItems (i + 1) after
  item_appended i x before after l e h f =
      let more : flat_map item_bytes (take (i + 1) items) ≡ flat_map item_bytes (take i items) ++ item_bytes x =
      ap (flat_map item_bytes) (take_more items i x l ∙ ap (λ (y : X). take i items ++ y ∷ []) (sym e)) ∙ flat_map-append item_bytes (take i items) (x ∷ []) ∙ ap (λ (l : List ℕ). flat_map item_bytes (take i items) ++ l) (append-nil (item_bytes x)) in
      f ∙ ap (λ (l : List ℕ). l ++ item_bytes x) h
      ∙ append_assoc start (u32_bytes (length items) ++ flat_map item_bytes (take i items)) (item_bytes x)
      ∙ ap (λ (l : List ℕ). start ++ l) (append_assoc (u32_bytes (length items)) (flat_map item_bytes (take i items)) (item_bytes x) ∙ ap (λ (l : List ℕ). u32_bytes (length items) ++ l) (sym more))

  -- all items
  pub all_appended : (i : ℕ) (out : List ℕ) → length items ≤ i → HasItems i out → out ≡ start ++ list_bytes item_bytes items
  all_appended i out l h = h ∙ ap (λ (xs : List X). start ++ (u32_bytes (length items) ++ flat_map item_bytes xs)) (take_all i items l)
