-- Words of private contracts: templates of triples.
use Rattle.std.specs.Prelude.{◌≡◌, List, map}
use Rattle.rdf_terms.specs.declared.terms.Triple.{Triple}
use Rattle.jrql_ast.specs.declared.patterns.PatternTriple.{PatternTriple}
use Rattle.jrql_ast.specs.Templates.{template_of}
use Rattle.clone_history.specs.KeptMembers.{KeepsThose}

-- the templates are those of the triples of a kind, in order
pub record AreTemplates {X : Type 0} (P : X → Type 0) (triple_of : X → Triple) (items : List X) (templates : List PatternTriple) : Type 0 where
  pub kept : List X
  pub keeps : KeepsThose P items kept
  pub are : templates ≡ map (λ x. template_of (triple_of x)) kept
