-- Which triples come and go, and what becomes of the graph that keeps them. The private calls that change a graph cite it.
use Rattle.std.specs.Prelude.{◌≡◌, List, [], ◌⊎◌, ◌↔◌, Bool, not, ◌&&◌}
use Rattle.std.specs.List.{filter}
use Rattle.rdf_terms.specs.declared.terms.Triple.{Triple}
use Rattle.rdf_terms.specs.Order.{triple_cmp}
use Rattle.tree_clock.specs.declared.dots.Dot.{Dot}
use Rattle.tree_clock.specs.Lists.{Has, IsAscending}
use Rattle.mld_ops.specs.declared.tagged.Tagged.{Tagged}
use Rattle.mld_ops.specs.Present.{present}
use Rattle.mld_ops.specs.Tagged.{tagged_cmp}
use Rattle.jrql_ast.specs.declared.patterns.Group.{Group}
use Rattle.watch_laws.specs.Touched.{is_one_of}
use Rattle.watch_laws.specs.Watches.{matters}

-- the dot that each pair of a watch's graph has, which says nothing
abbrev pub mark : Dot
mark = record { path = []; tick = 1 }

-- a triple with that dot
abbrev pub pair_marked : Triple → Tagged
pair_marked triple = record { triple = triple; dot = mark }

-- pairs in order, of which each has it
pub record AreMarked (pairs : List Tagged) : Type 0 where
  pub ascending : IsAscending tagged_cmp pairs
  pub dots : (pair : Tagged) → Has pairs pair → pair.dot ≡ mark

-- an added triple comes where it matters and isn't kept yet
abbrev pub comes : List Triple → Group → Triple → Bool
comes kept group triple = matters group triple && not (is_one_of kept triple)

-- a removed triple goes where it is kept and isn't added
abbrev pub goes : List Triple → List Triple → Triple → Bool
goes kept added triple = is_one_of kept triple && not (is_one_of added triple)

-- the pairs of triples that are kept once some go and some come
pub record AreChanged (old : List Tagged) (gone come : List Triple) (new : List Tagged) : Type 0 where
  pub marked : AreMarked new
  pub members : (triple : Triple) → Has (present new) triple ↔ ((Has (present old) triple × ¬ Has gone triple) ⊎ Has come triple)

-- the triples that stay where some go
abbrev pub stay : List Triple → List Triple → List Triple
stay kept gone = filter (λ triple. not (is_one_of gone triple)) kept

-- triples that go are kept, and triples that come aren't; both ascend
pub record AreNet (kept gone come : List Triple) : Type 0 where
  pub gone_up : IsAscending triple_cmp gone
  pub come_up : IsAscending triple_cmp come
  pub gone_kept : (triple : Triple) → Has gone triple → Has kept triple
  pub come_new : (triple : Triple) → Has come triple → Has kept triple → ⊥

-- the triples that are kept behind
pub record AreKeptNext (kept gone come next : List Triple) : Type 0 where
  pub ascending : IsAscending triple_cmp next
  pub members : (triple : Triple) → Has next triple ↔ ((Has kept triple × ¬ Has gone triple) ⊎ Has come triple)
