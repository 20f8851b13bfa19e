-- Objects that are written member by member.
use Rattle.std.proofs.Common.{◌≡◌, ◌∙◌, ℕ, List, [], ◌∷◌, ◌++◌, ap}
use Rattle.std.proofs.lemmas.List.{append_assoc}
use Rattle.json.specs.Token.{Token}
use Rattle.serde_json.specs.Data.{string}
use Rattle.jsonld_values.specs.TermWriting.{two_members}
use Rattle.jsonld_values.specs.WrittenTokens.{tokens_of_data}

-- an object of two strings
pub two_written : (old begun first second new : List Token) (key text other more : List ℕ)
    → begun ≡ old ++ Token.begin_object ∷ [] → first ≡ begun ++ (Token.key key ∷ Token.string text ∷ []) → second ≡ first ++ (Token.key other ∷ Token.string more ∷ [])
    → new ≡ second ++ Token.end_object ∷ [] → new ≡ old ++ tokens_of_data (two_members key (string text) other (string more))
two_written old begun first second new key text other more opens one two closes =
    let end : List Token = Token.end_object ∷ [] in
    let front : List Token = Token.key key ∷ Token.string text ∷ [] in
    let back : List Token = Token.key other ∷ Token.string more ∷ [] in
    closes
    ∙ (ap (λ (l : List Token). l ++ end) two ∙ (append_assoc first back end
    ∙ (ap (λ (l : List Token). l ++ (back ++ end)) one ∙ (append_assoc begun front (back ++ end)
    ∙ (ap (λ (l : List Token). l ++ (front ++ (back ++ end))) opens ∙ append_assoc old (Token.begin_object ∷ []) (front ++ (back ++ end)))))))
