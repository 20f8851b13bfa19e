-- Arrays that are written item by item.
use Rattle.std.proofs.Common.{◌≡◌, ◌∙◌, ℕ, suc, ◌+◌, ◌<◌, ◌≤◌, List, [], ◌∷◌, ◌++◌, length, map, take, get_or, sym, ap, arith}
use Rattle.std.proofs.lemmas.List.{append_assoc, append-nil, map-append, take_all}
use Rattle.std.proofs.Math.Seq.{take-suc}
use Rattle.json.specs.Token.{Token}
use Rattle.serde_json.specs.Data.{Data, array}
use Rattle.serde_json.specs.View.{items_of}
use Rattle.jsonld_values.specs.WrittenTokens.{tokens_of_data, tokens_of_items}

-- an array is begun behind what stood there, and these items of it are written: whatever others come behind them
pub record HasBegun (old now : List Token) (items : List Data) : Type 0 where
  pub tokens : (more : List Data) → old ++ tokens_of_data (array (items_of (items ++ more))) ≡ now ++ tokens_of_items (items_of more)

pub begun : (old now : List Token) → now ≡ old ++ Token.begin_array ∷ [] → HasBegun old now []
begun old now is = record {
  tokens = λ more. sym (ap (λ (l : List Token). l ++ tokens_of_items (items_of more)) is ∙ append_assoc old (Token.begin_array ∷ []) (tokens_of_items (items_of more)));
}

pub one_more : (old now after : List Token) (items : List Data) (said : Data) → HasBegun old now items → after ≡ now ++ tokens_of_data said
    → HasBegun old after (items ++ said ∷ [])
one_more old now after items said has is = record {
  tokens = λ more.
      ap (λ (l : List Data). old ++ tokens_of_data (array (items_of l))) (append_assoc items (said ∷ []) more)
      ∙ has.tokens (said ∷ more)
      ∙ sym (append_assoc now (tokens_of_data said) (tokens_of_items (items_of more)))
      ∙ ap (λ (l : List Token). l ++ tokens_of_items (items_of more)) (sym is);
}

pub ended : (old now after : List Token) (items : List Data) → HasBegun old now items → after ≡ now ++ Token.end_array ∷ []
    → after ≡ old ++ tokens_of_data (array (items_of items))
ended old now after items has is =
    is ∙ sym (has.tokens []) ∙ ap (λ (l : List Data). old ++ tokens_of_data (array (items_of l))) (append-nil items)

-- so it is where the items are those of a list's elements, in order
pub next_of : {X : Type 0} (f : X → Data) (xs : List X) (index : ℕ) (x : X) (old now after : List Token) → index < length xs → get_or xs index x ≡ x
    → HasBegun old now (map f (take index xs)) → after ≡ now ++ tokens_of_data (f x) → HasBegun old after (map f (take (index + 1) xs))
next_of f xs index x old now after within is has written =
    let next_index : index + 1 ≡ suc index = omega arith in
    let next : take (index + 1) xs ≡ take index xs ++ x ∷ [] = ap (λ (n : ℕ). take n xs) next_index ∙ take-suc xs index x within ∙ ap (λ y. take index xs ++ y ∷ []) is in
    rw (next, map-append f (take index xs) (x ∷ [])) (one_more old now after (map f (take index xs)) (f x) has written)

pub all_of : {X : Type 0} (f : X → Data) (xs : List X) (index : ℕ) (old now after : List Token) → length xs ≤ index
    → HasBegun old now (map f (take index xs)) → after ≡ now ++ Token.end_array ∷ [] → after ≡ old ++ tokens_of_data (array (items_of (map f xs)))
all_of f xs index old now after past has is =
    ended old now after (map f (take index xs)) has is ∙ ap (λ l. old ++ tokens_of_data (array (items_of (map f l)))) (take_all index xs past)
