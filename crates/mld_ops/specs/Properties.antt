-- Single-valued properties, which are kept in order.
use Rattle.std.specs.Prelude.{ℕ, List}
use Rattle.rdf_terms.specs.Order.{iri_cmp}
use Rattle.mld_ops.specs.InOrder.{IsPutInOrder}

-- the same IRIs, ascending as terms, each once
abbrev pub AreKept : List (List ℕ) → List (List ℕ) → Type 0
AreKept given kept = IsPutInOrder iri_cmp given kept
