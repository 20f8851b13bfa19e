-- The texts by which rows are sorted first: those of their first places. The private orders of rows cite it.
use Rattle.std.specs.Prelude.{ℕ, List, [], ◌∷◌, Option, None, Some, if◌then◌else◌}
use Rattle.std.specs.Option.{is_some}
use Rattle.rdf_terms.specs.declared.terms.Term.{Term}
use Rattle.rdf_terms.specs.ReplyOrder.{integer_of}
use Rattle.graph_index.specs.hinted_chunks.TermFronts.{term_front}

-- a term's in the order of replies, in which integers come first
abbrev pub reply_front : Term → List ℕ
reply_front term = if is_some (integer_of term) then 0 ∷ [] else term_front term

-- a place's, by that of its term
abbrev pub front_in_place : (Term → List ℕ) → Option Term → List ℕ
front_in_place front None = []
front_in_place front (Some term) = front term

-- the first place of a row, unbound where there is none
abbrev pub first_place : List (Option Term) → Option Term
first_place [] = None
first_place (place ∷ places) = place
