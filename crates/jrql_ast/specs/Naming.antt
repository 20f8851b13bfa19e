-- Solutions as the code holds them.
use Rattle.std.specs.Prelude.{ℕ, ◌+◌, ◌≤◌, ◌^◌, List, IsTrue, Option, None, Some}
use Rattle.text_rules.specs.Domain.{is_domain}
use Rattle.rdf_terms.specs.declared.terms.Term.{Term}
use Rattle.rdf_terms.specs.declared.terms.Term.TheVariants as terms
use Rattle.jrql_ast.specs.declared.naming.Solution.{Solution}
use Rattle.jrql_ast.specs.FreshNames.{fresh_iri}

-- the names of a solution's fresh subjects
abbrev pub names_of : Solution → ℕ → List ℕ
names_of solution subject = fresh_iri solution.domain.now solution.dot.now (solution.first + subject)

-- and what they need: a domain, and numbers of 64 bits
pub record CanName (solution : Solution) : Type 0 where
  pub domain : IsTrue (is_domain solution.domain.now)
  pub first : solution.first ≤ 2 ^ 63

-- the IRI that a term is, where there is one and it is an IRI
abbrev pub iri_in : Option Term → Option (List ℕ)
iri_in None = None
iri_in (Some (terms.Iri iri)) = Some iri
iri_in (Some (terms.Literal literal)) = None
