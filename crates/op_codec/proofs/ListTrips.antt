-- What is written for a list is read as it, and what is read was written so.
use Rattle.std.proofs.Common.{◌≡◌, ℕ, zero, suc, ◌+◌, ◌^◌, ◌<◌, List, [], ◌∷◌, ◌++◌, Bool, true, if◌then◌else◌, length, refl, sym, ap, ◌∙◌, subst, inl, inr, append_assoc, arith}
use Rattle.std.proofs.lemmas.Bool.{cases_Bool}
use Rattle.std.proofs.lemmas.List.{append-nil}
use Rattle.std.specs.Cmp.{IsTotalOrder}
use Rattle.std.specs.List.{AllByRecursion, flat_map}
use Rattle.std.specs.Ordering.{is_lt}
use Rattle.std.specs.declared.cmp.Ordering.{Ordering}
use Rattle.mld_bytes.proofs.Numbers.{length-u32_bytes}
use Rattle.mld_bytes.specs.Bytes.{u32_bytes}
use Rattle.tree_clock.specs.Lists.{IsAscending}
use Rattle.op_codec.specs.CodecLaws.{AreBytes, IsReadBack, IsOneSpelling}
use Rattle.op_codec.specs.StoredLists.{list_bytes, is_above, is_above_one, read_items, read_list}
use Rattle.op_codec.specs.Reading.{Reading, Found, Fault, read_u32}
use Rattle.op_codec.specs.Stored.{IsShort}
use Rattle.op_codec.proofs.ClockReading.{ascending_push, last_of_more}
use Rattle.op_codec.proofs.FieldLaws.{u32_takes}
use Rattle.op_codec.proofs.FieldTrips.{u32_was}
use Rattle.op_codec.proofs.Sequences.{then_back, Splits, splits, bytes_left, same_parts, fault_found, both_written}

-- each item fits behind those before it
abbrev pub IsFitting : {X : Type 0} → (List X → X → Bool) → List X → List X → Type 0
IsFitting fits done [] = Unit {0}
IsFitting fits done (x ∷ xs) = (fits done x ≡ true) × IsFitting fits (done ++ x ∷ []) xs

-- ---- ascending lists

-- an item that stands in an ascending list is above the last one before it
above_before : {X : Type 0} (order : X → X → Ordering) (done : List X) (x : X) (xs : List X) → IsAscending order (done ++ x ∷ xs) → is_above order done x ≡ true
above_before order [] x xs a = refl
above_before order (y ∷ []) x xs a = ap is_lt a.0.0
above_before order (y ∷ z ∷ zs) x xs a =
    ap (λ o. is_above_one order o x) (last_of_more y z zs) ∙ above_before order (z ∷ zs) x xs a.1

-- the items of an ascending list fit
pub fitting_from_ascending : {X : Type 0} (order : X → X → Ordering) (done xs : List X) → IsAscending order (done ++ xs) → IsFitting (is_above order) done xs
fitting_from_ascending order done [] a = tt
fitting_from_ascending {X = X} order done (x ∷ xs) a = (
  above_before order done x xs a,
  fitting_from_ascending order (done ++ x ∷ []) xs (subst (IsAscending order) (sym (append_assoc done (x ∷ []) xs)) a),
)

-- items that fit make an ascending list
pub ascending_from_fitting : {X : Type 0} (order : X → X → Ordering) → IsTotalOrder order → (done xs : List X) → IsAscending order done → IsFitting (is_above order) done xs → IsAscending order (done ++ xs)
ascending_from_fitting order total done [] a f = subst (IsAscending order) (sym (append-nil done)) a
ascending_from_fitting order total done (x ∷ xs) a f =
    subst (IsAscending order) (append_assoc done (x ∷ []) xs) (ascending_from_fitting order total (done ++ x ∷ []) xs (ascending_push order total done x a f.0) f.1)

module _ {X : Type 0} (IsItem : X → Type 0) (item_bytes : X → List ℕ) (read_item : ℕ → List ℕ → Reading X) (fits : List X → X → Bool) where
  -- ---- what is written is read

  -- items are read back behind others
  items_back : IsReadBack IsItem item_bytes read_item → (done items : List X) (place : ℕ) (rest : List ℕ) → AllByRecursion IsItem items → IsFitting fits done items
      → read_items read_item fits (length items) done place (flat_map item_bytes items ++ rest) ≡ Found (done ++ items) (place + length (flat_map item_bytes items)) rest
  unfolding read_items
  items_back back done [] place rest a f =
      let e : place ≡ place + 0 = omega arith in
      let same : done ≡ done ++ [] = sym (append-nil done) in
      λ i. Found (same i) (e i) rest
  items_back back done (x ∷ xs) place rest a f =
      then_back read_item (λ item next rest. if fits done item then read_items read_item fits (length xs) (done ++ item ∷ []) next rest else Fault place) place (item_bytes x) (flat_map item_bytes xs) rest x (done ++ x ∷ xs)
      (back x place (flat_map item_bytes xs ++ rest) a.0)
      (rw f.0 (items_back back (done ++ x ∷ []) xs (place + length (item_bytes x)) rest a.1 f.1 ∙ ap (λ (l : List X). Found l (place + length (item_bytes x) + length (flat_map item_bytes xs)) rest) (append_assoc done (x ∷ []) xs)))

  -- a list is read back
  pub list_back : IsReadBack IsItem item_bytes read_item → (items : List X) (place : ℕ) (rest : List ℕ) → IsShort items → AllByRecursion IsItem items → IsFitting fits [] items
      → read_list read_item fits place (list_bytes item_bytes items ++ rest) ≡ Found items (place + length (list_bytes item_bytes items)) rest
  list_back back items place rest s a f =
      let four = length-u32_bytes (length items) in
      then_back read_u32 (λ count next rest. read_items read_item fits count [] next rest) place (u32_bytes (length items)) (flat_map item_bytes items) rest (length items) items
      (u32_takes (length items) place (flat_map item_bytes items ++ rest) s ∙ ap (λ (n : ℕ). Found (length items) (place + n) (flat_map item_bytes items ++ rest)) (sym four))
      (items_back back [] items (place + length (u32_bytes (length items))) rest a f)

  -- ---- what is read was written

  -- items that were written behind others
  record WereItems (count : ℕ) (done : List X) (place : ℕ) (bytes : List ℕ) (items : List X) (next : ℕ) (rest : List ℕ) : Type 0 where
    more : List X
    items_are : items ≡ done ++ more
    count_is : length more ≡ count
    each : AllByRecursion IsItem more
    fitting : IsFitting fits done more
    front : bytes ≡ flat_map item_bytes more ++ rest
    next_is : next ≡ place + length (flat_map item_bytes more)

  -- items that are read were written so
  items_one : IsOneSpelling IsItem item_bytes read_item → (count : ℕ) (done : List X) (place : ℕ) (bytes : List ℕ) (items : List X) (next : ℕ) (rest : List ℕ) → AreBytes bytes
      → read_items read_item fits count done place bytes ≡ Found items next rest → WereItems count done place bytes items next rest
  unfolding read_items
  items_one one zero done place bytes items next rest b h =
      let e = same_parts done items place next bytes rest h in
      record {
        more = [];
        items_are = sym e.value ∙ sym (append-nil done);
        count_is = refl;
        each = tt;
        fitting = tt;
        front = e.rest_is;
        next_is = let p = e.place_is in omega arith;
      }
  items_one one (suc count) done place bytes items next rest b h =
      by (items_one one count) (splits (read_item place bytes) (λ item next rest. if fits done item then read_items read_item fits count (done ++ item ∷ []) next rest else Fault place) items next rest h)
    where
      by : ((done : List X) (place : ℕ) (bytes : List ℕ) (items : List X) (next : ℕ) (rest : List ℕ) → AreBytes bytes → read_items read_item fits count done place bytes ≡ Found items next rest → WereItems count done place bytes items next rest)
          → Splits (read_item place bytes) (λ item next rest. if fits done item then read_items read_item fits count (done ++ item ∷ []) next rest else Fault place) items next rest
          → WereItems (suc count) done place bytes items next rest
      by further s =
          let w = one place bytes s.value s.place s.rest b s.first in
          elim (cases_Bool (fits done s.value)) [
            | inr f ↦ fault_found (Fault place) place next items rest refl (rw f at s.second)
            | inl t ↦
                let v = further (done ++ s.value ∷ []) s.place s.rest items next rest (bytes_left bytes (item_bytes s.value) s.rest b w.front) (rw t at s.second) in
                let both = both_written (item_bytes s.value) (flat_map item_bytes v.more) place s.place next bytes s.rest rest w.front w.next_is v.front v.next_is in
                record {
                  more = s.value ∷ v.more;
                  items_are = v.items_are ∙ append_assoc done (s.value ∷ []) v.more;
                  count_is = ap suc v.count_is;
                  each = (w.value_is, v.each);
                  fitting = (t, v.fitting);
                  front = both.front;
                  next_is = both.next_is;
                }
          ]

  -- a list that was written
  pub record WasList (place : ℕ) (bytes : List ℕ) (items : List X) (next : ℕ) (rest : List ℕ) : Type 0 where
    pub count : IsShort items
    pub each : AllByRecursion IsItem items
    pub fitting : IsFitting fits [] items
    pub front : bytes ≡ list_bytes item_bytes items ++ rest
    pub next_is : next ≡ place + length (list_bytes item_bytes items)

  -- a list that is read was written so
  pub list_one : IsOneSpelling IsItem item_bytes read_item → (place : ℕ) (bytes : List ℕ) (items : List X) (next : ℕ) (rest : List ℕ) → AreBytes bytes
      → read_list read_item fits place bytes ≡ Found items next rest → WasList place bytes items next rest
  list_one one place bytes items next rest b h = by (splits (read_u32 place bytes) (λ count next rest. read_items read_item fits count [] next rest) items next rest h)
    where
      by : Splits (read_u32 place bytes) (λ count next rest. read_items read_item fits count [] next rest) items next rest → WasList place bytes items next rest
      by s =
          let w = u32_was place bytes s.value s.place s.rest b s.first in
          let v = items_one one s.value [] s.place s.rest items next rest (bytes_left bytes (u32_bytes s.value) s.rest b w.1) s.second in
          let count : s.value ≡ length items = sym v.count_is ∙ ap length (sym v.items_are) in
          let more = v.items_are in
          let place_is : s.place ≡ place + length (u32_bytes s.value) = w.2 ∙ ap (λ (n : ℕ). place + n) (sym (length-u32_bytes s.value)) in
          let both = both_written (u32_bytes s.value) (flat_map item_bytes v.more) place s.place next bytes s.rest rest w.1 place_is v.front v.next_is in
          let same : u32_bytes s.value ++ flat_map item_bytes v.more ≡ list_bytes item_bytes items = λ i. u32_bytes (count i) ++ flat_map item_bytes (sym more i) in
          record {
            count = subst (λ (n : ℕ). n < 2 ^ 32) count w.0;
            each = subst (AllByRecursion IsItem) (sym more) v.each;
            fitting = subst (IsFitting fits []) (sym more) v.fitting;
            front = both.front ∙ ap (λ (l : List ℕ). l ++ rest) same;
            next_is = both.next_is ∙ ap (λ (l : List ℕ). place + length l) same;
          }
