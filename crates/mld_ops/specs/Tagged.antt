-- Tagged triples: pairs of a triple and the dot of the operation that inserted it (optimised OR-Set; SU-Set,
-- Ibanez, Skaf-Molli, Molli and Corby 2012).
use Rattle.std.specs.Prelude.{ℕ}
use Rattle.std.specs.Ordering.{nat_cmp, ordering_then}
use Rattle.std.specs.declared.cmp.Ordering.{Ordering}
use Rattle.rdf_terms.specs.declared.terms.Triple.{Triple}
use Rattle.rdf_terms.specs.Order.{triple_cmp}
use Rattle.tree_clock.specs.Dot.{dot_cmp}
use Rattle.mld_ops.specs.declared.tagged.Tagged.{Tagged}

-- pairs are ordered by triple, then by the text of the path, then by tick
abbrev pub tagged_cmp : Tagged → Tagged → Ordering
tagged_cmp a b = ordering_then (triple_cmp a.triple b.triple) (dot_cmp a.dot b.dot)

-- the inserts of one path are ordered by triple, then by tick
abbrev pub insert_cmp : Triple × ℕ → Triple × ℕ → Ordering
insert_cmp a b = ordering_then (triple_cmp a.0 b.0) (nat_cmp a.1 b.1)
