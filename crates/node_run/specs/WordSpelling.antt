-- What a text has to be for each value that the words give. A text spells at most one value.
use Rattle.std.specs.Prelude.{◌≡◌, ◌≢◌, ◌<◌, ◌≤◌, ◌^◌, ℕ, List, [], Bool, true, false, Option, None, Some, MatchOption, IsTrue, length, codes}
use Rattle.std.specs.List.{All}
use Rattle.std.specs.Fmt.{decimal}
use Rattle.uuid.specs.Text.{parsed}
use Rattle.text_rules.specs.Domain.{is_domain}
use Rattle.text_rules.specs.Iri.{is_absolute}

-- a UUID, in any form that `uuid` reads
abbrev pub SpellsId : List ℕ → List ℕ → Type 0
SpellsId text id = Some id ≡ parsed text

-- the name of a domain
pub record SpellsDomain (text domain : List ℕ) : Type 0 where
  pub is : domain ≡ text
  pub valid : IsTrue (is_domain text)

-- whether a node joins a clone that is there, or begins a new one
abbrev pub role_name : Bool → List ℕ
role_name true = codes "join"
role_name false = codes "genesis"

abbrev pub SpellsRole : List ℕ → Bool → Type 0
SpellsRole text join = text ≡ role_name join

-- a name of a folder or an address: any text but the empty one
pub record SpellsName (text name : List ℕ) : Type 0 where
  pub is : name ≡ text
  pub some : text ≢ []

-- a number of turns, in decimal digits of which the first is not 0
pub record SpellsTurns (text : List ℕ) (turns : ℕ) : Type 0 where
  pub written : text ≡ decimal turns
  pub least : 1 ≤ turns
  pub most : turns < 2 ^ 64

-- the turns where no number of them is given
abbrev pub default_turns : ℕ
default_turns = 4294967295

-- how many IRIs there are at most, repeats included
abbrev pub iri_count : ℕ
iri_count = 16

-- a text is there, and spells the value
abbrev pub IsGiven : {A : Type 0} → (List ℕ → A → Type 0) → Option (List ℕ) → A → Type 0
IsGiven Spells given value = MatchOption given ⊥ (λ text. Spells text value)

-- an address, where a text is there
abbrev pub IsPeer : Option (List ℕ) → Option (List ℕ) → Type 0
IsPeer None peer = peer ≡ None
IsPeer (Some text) None = ⊥
IsPeer (Some text) (Some name) = SpellsName text name

-- a number of turns, or where no text is there the default
abbrev pub AreTurns : Option (List ℕ) → ℕ → Type 0
AreTurns given turns = MatchOption given (turns ≡ default_turns) (λ text. SpellsTurns text turns)

-- absolute IRIs, in the order of the texts, and not too many of them
pub record AreIris (texts iris : List (List ℕ)) : Type 0 where
  pub are : iris ≡ texts
  pub absolute : All (λ text. IsTrue (is_absolute text)) texts
  pub few : length texts ≤ iri_count
