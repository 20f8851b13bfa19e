-- Laws of readings one behind the other.
use Rattle.std.proofs.Common.{◌≡◌, ℕ, ◌+◌, List, ◌++◌, length, get_or, refl, sym, ap, ◌∙◌, inl, inr, append_assoc, arith}
use Rattle.std.proofs.lemmas.Bool.{cases_lt}
use Rattle.std.proofs.lemmas.List.{length-append, get_or-append-add, get_or_append_left, get_or_past}
use Rattle.op_codec.specs.CodecLaws.{AreBytes, IsReadBack, RefusesRightly}
use Rattle.op_codec.specs.Reading.{Reading, Found, Fault, chain}

-- two things are read one behind the other
pub then_back : {X Y : Type 0} (read : ℕ → List ℕ → Reading X) (next : X → ℕ → List ℕ → Reading Y) (place : ℕ) (first second rest : List ℕ) (x : X) (y : Y)
    → read place (first ++ (second ++ rest)) ≡ Found x (place + length first) (second ++ rest)
    → next x (place + length first) (second ++ rest) ≡ Found y (place + length first + length second) rest
    → chain (read place ((first ++ second) ++ rest)) next ≡ Found y (place + length (first ++ second)) rest
then_back read next place first second rest x y h k =
    let e : place + length first + length second ≡ place + length (first ++ second) = let l = length-append first second in omega arith in
    ap (λ (bytes : List ℕ). chain (read place bytes) next) (append_assoc first second rest)
    ∙ ap (λ r. chain r next) h ∙ k ∙ ap (λ (n : ℕ). Found y n rest) e

-- a reading is turned into another value
pub map_back : {X Y : Type 0} (reading : Reading X) (f : X → Y) (x : X) (next : ℕ) (rest : List ℕ) → reading ≡ Found x next rest → chain reading (λ value end left. Found (f value) end left) ≡ Found (f x) next rest
map_back reading f x next rest h = ap (λ r. chain r (λ value end left. Found (f value) end left)) h

-- what was read first, and then
pub record Splits {X Y : Type 0} (reading : Reading X) (next : X → ℕ → List ℕ → Reading Y) (y : Y) (end : ℕ) (left : List ℕ) : Type 0 where
  pub value : X
  pub place : ℕ
  pub rest : List ℕ
  pub first : reading ≡ Found value place rest
  pub second : next value place rest ≡ Found y end left

-- what is read one behind the other was read so
pub splits : {X Y : Type 0} (reading : Reading X) (next : X → ℕ → List ℕ → Reading Y) (y : Y) (end : ℕ) (left : List ℕ) → chain reading next ≡ Found y end left → Splits reading next y end left
splits (Found value place rest) next y end left h = record { value = value; place = place; rest = rest; first = refl; second = h }
splits (Fault place) next y end left h = absurd (cc h)

-- what is left of bytes are bytes
pub bytes_left : (bytes front rest : List ℕ) → AreBytes bytes → bytes ≡ front ++ rest → AreBytes rest
bytes_left bytes front rest b e k =
    let at : get_or (front ++ rest) (length front + k) 0 ≡ get_or rest k 0 = get_or-append-add front rest k 0 in
    let same : get_or bytes (length front + k) 0 ≡ get_or (front ++ rest) (length front + k) 0 = ap (λ (l : List ℕ). get_or l (length front + k) 0) e in
    let h = b (length front + k) in omega arith

-- what comes first of bytes are bytes
pub bytes_front : (bytes front rest : List ℕ) → AreBytes bytes → bytes ≡ front ++ rest → AreBytes front
bytes_front bytes front rest b e k =
    elim (cases_lt k (length front)) [
      | inl l ↦
          let at : get_or (front ++ rest) k 0 ≡ get_or front k 0 = get_or_append_left front rest 0 k l in
          let same : get_or bytes k 0 ≡ get_or (front ++ rest) k 0 = ap (λ (l : List ℕ). get_or l k 0) e in
          let h = b k in omega arith
      | inr l ↦ let past : get_or front k 0 ≡ 0 = get_or_past front k 0 l in omega arith
    ]

-- the parts of what was found are the same
pub record SameParts {X : Type 0} (x y : X) (place other : ℕ) (rest left : List ℕ) : Type 0 where
  pub value : x ≡ y
  pub place_is : place ≡ other
  pub rest_is : rest ≡ left

pub same_parts : {X : Type 0} (x y : X) (place other : ℕ) (rest left : List ℕ) → Found x place rest ≡ Found y other left → SameParts x y place other rest left
same_parts x y place other rest left h = record { value = cc; place_is = cc; rest_is = cc }

-- a fault is nothing that was found
pub fault_found : {X Y : Type 0} (reading : Reading X) (place other : ℕ) (x : X) (rest : List ℕ) → reading ≡ Fault place → reading ≡ Found x other rest → Y
fault_found reading place other x rest h k = absurd (cc (sym h ∙ k))

-- two things that are written one behind the other
pub record AreWritten (first second : List ℕ) (place : ℕ) (bytes : List ℕ) (next : ℕ) (rest : List ℕ) : Type 0 where
  pub front : bytes ≡ (first ++ second) ++ rest
  pub next_is : next ≡ place + length (first ++ second)

-- the bytes of both come first
pub both_written : (first second : List ℕ) (place middle next : ℕ) (bytes between rest : List ℕ) → bytes ≡ first ++ between → middle ≡ place + length first → between ≡ second ++ rest → next ≡ middle + length second
    → AreWritten first second place bytes next rest
both_written first second place middle next bytes between rest e m f n = record {
  front = e ∙ ap (λ (l : List ℕ). first ++ l) f ∙ sym (append_assoc first second rest);
  next_is = let l = length-append first second in omega arith;
}

-- what is left may be told by another name
pub rest_moved : (front bytes rest other : List ℕ) → bytes ≡ front ++ rest → rest ≡ other → bytes ≡ front ++ other
rest_moved front bytes rest other e l = e ∙ ap (λ (m : List ℕ). front ++ m) l

-- refusals follow from what is read back
pub refuses_rightly : {X : Type 0} (IsValue : X → Type 0) (bytes_of : X → List ℕ) (read : ℕ → List ℕ → Reading X) → IsReadBack IsValue bytes_of read → RefusesRightly IsValue bytes_of read
refuses_rightly IsValue bytes_of read back place fault bytes h value rest is e =
    apart place (sym h ∙ ap (read place) e ∙ back value place rest is)
  where
    apart : (n : ℕ) → Fault fault ≡ Found value (place + length (bytes_of value)) rest → ⊥
    apart n h = cc
