use Rattle.std.proofs.Common.{◌≤◌, length, List, ℕ, subst, sym}
use Rattle.rdf_terms.specs.Literal.{lexical_limit}
use Rattle.rdf_terms.proofs.Plain.{plain_literal}
use Rattle.rdf_terms.proofs.terms.typed_literal.Goals as goal

pub plain-requires : goal.plain-requires
plain-requires c = plain_literal c.in_ok-lexical.lexical (subst (λ (l : List ℕ). length l ≤ lexical_limit) (sym c.in_ok-lexical.ensures) c.requires.short)
