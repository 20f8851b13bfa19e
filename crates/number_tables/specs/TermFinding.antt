-- What a look-up finds. Private calls of the table of terms cite it.
use Rattle.std.specs.Prelude.{◌≡◌, ℕ, List, Option, Some, MatchOption}
use Rattle.std.specs.List.{slice_get}
use Rattle.rdf_terms.specs.declared.terms.Term.{Term}

-- it is the term's number, or else none of the numbers that stand there is
abbrev pub FindsTerm : List Term → Term → (ℕ → Type 0) → Option ℕ → Type 0
FindsTerm terms term stands result =
    MatchOption result ((number : ℕ) → stands number → ¬ (slice_get terms number ≡ Some term)) (λ number. slice_get terms number ≡ Some term)
