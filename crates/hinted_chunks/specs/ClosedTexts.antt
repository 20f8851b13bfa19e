-- The texts by which pairs are ordered first.
use Rattle.std.specs.Prelude.{ℕ, List, [], ◌∷◌, ◌++◌}
use Rattle.text_rules.specs.Marks.{greater}

-- an IRI as it is written, without the mark in front
abbrev pub closed_text : List ℕ → List ℕ
closed_text iri = iri ++ greater ∷ []
