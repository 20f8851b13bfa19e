-- The tokens that a writer of JSON takes for data. That their text is that of the data is serde_json's own law (`print-outline`).
use Rattle.std.specs.Prelude.{◌≡◌, ℕ, List, ◌∷◌, ◌++◌}
use Rattle.json.specs.Token.{Token}
use Rattle.json.specs.Tree.{json_tokens, items_tokens, members_tokens}
use Rattle.json.specs.Written.{Written}
use Rattle.serde_json.specs.Data.{Data, Items, Members}
use Rattle.serde_json.specs.Written.{outline, items_outline, members_outline}

-- the tokens of data
abbrev pub tokens_of_data : Data → List Token
tokens_of_data value = json_tokens (outline value)

-- those of items, and of members, each with the closing bracket
abbrev pub tokens_of_items : Items → List Token
tokens_of_items items = items_tokens (items_outline items)

abbrev pub tokens_of_members : Members → List Token
tokens_of_members members = members_tokens (members_outline members)

-- data is written behind what was
abbrev pub WritesData : Written → Written → Data → Type 0
WritesData old new value = new.tokens ≡ old.tokens ++ tokens_of_data value

-- a member is, and members with the end of their object
abbrev pub WritesMember : Written → Written → List ℕ → Data → Type 0
WritesMember old new key value = new.tokens ≡ old.tokens ++ (Token.key key ∷ tokens_of_data value)

abbrev pub WritesMembers : Written → Written → Members → Type 0
WritesMembers old new members = new.tokens ≡ old.tokens ++ tokens_of_members members
