-- What a spelling and its reading are to each other. The public readers cite it, and the laws of the crate, as `one_entry`.
use Rattle.std.specs.Prelude.{◌≡◌, ℕ, ◌+◌, ◌<◌, List, ◌++◌, length, drop, slice_index}
use Rattle.op_codec.specs.Reading.{Reading, Found, Fault}

-- each is a byte
abbrev pub AreBytes : List ℕ → Type 0
AreBytes bytes = (k : ℕ) → slice_index bytes k < 256

-- what is written for a value is read as that value, whatever follows
abbrev pub IsReadBack : {X : Type 0} → (X → Type 0) → (X → List ℕ) → (ℕ → List ℕ → Reading X) → Type 0
IsReadBack {X = X} IsValue bytes_of read =
    (value : X) (place : ℕ) (rest : List ℕ) → IsValue value
    → read place (bytes_of value ++ rest) ≡ Found value (place + length (bytes_of value)) rest

-- the bytes are what is written for a value of the grammar, and then the rest
pub record IsWritten {X : Type 0} (IsValue : X → Type 0) (bytes_of : X → List ℕ) (place : ℕ) (bytes : List ℕ) (value : X) (next : ℕ) (rest : List ℕ) : Type 0 where
  pub value_is : IsValue value
  pub front : bytes ≡ bytes_of value ++ rest
  pub next_is : next ≡ place + length (bytes_of value)

-- what is written for a value of the grammar stands in an input, from the first place up to the next
abbrev pub IsWrittenIn : {X : Type 0} → (X → Type 0) → (X → List ℕ) → ℕ → List ℕ → X → ℕ → Type 0
IsWrittenIn IsValue bytes_of place input value next = IsWritten IsValue bytes_of place (drop place input) value next (drop next input)

-- what is read as a value is what is written for it, and nothing else is
abbrev pub IsOneSpelling : {X : Type 0} → (X → Type 0) → (X → List ℕ) → (ℕ → List ℕ → Reading X) → Type 0
IsOneSpelling {X = X} IsValue bytes_of read =
    (place : ℕ) (bytes : List ℕ) (value : X) (next : ℕ) (rest : List ℕ) → AreBytes bytes → read place bytes ≡ Found value next rest
    → IsWritten IsValue bytes_of place bytes value next rest

-- where reading has a fault nothing that is written for a value comes first
abbrev pub RefusesRightly : {X : Type 0} → (X → Type 0) → (X → List ℕ) → (ℕ → List ℕ → Reading X) → Type 0
RefusesRightly {X = X} IsValue bytes_of read =
    (place fault : ℕ) (bytes : List ℕ) → read place bytes ≡ Fault fault → (value : X) (rest : List ℕ) → IsValue value
    → ¬ (bytes ≡ bytes_of value ++ rest)
