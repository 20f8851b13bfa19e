-- The triples that are present.
use Rattle.std.specs.Prelude.{List, map}
use Rattle.std.specs.List.{dedup}
use Rattle.std.specs.Ordering.{eq_by_cmp}
use Rattle.rdf_terms.specs.declared.terms.Triple.{Triple}
use Rattle.rdf_terms.specs.Order.{triple_cmp}
use Rattle.mld_ops.specs.declared.tagged.Tagged.{Tagged}

-- the triples of ascending pairs, in order, each once: pairs of one triple are neighbours
abbrev pub present : List Tagged → List Triple
present pairs = dedup (eq_by_cmp triple_cmp) (map (λ (pair : Tagged). pair.triple) pairs)
