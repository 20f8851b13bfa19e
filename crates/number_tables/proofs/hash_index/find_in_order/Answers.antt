use Rattle.std.proofs.Common.{◌∙◌, ℕ, Option, sym, subst}
use Rattle.std.proofs.lemmas.Bool.{true≢false}
use Rattle.rdf_terms.specs.Spelling.{term_text}
use Rattle.tree_clock.specs.Lists.{Has}
use Rattle.number_tables.specs.HashedTerms.{wanted_term}
use Rattle.number_tables.specs.TermFinding.{FindsTerm}
use Rattle.number_tables.proofs.Lookups.{absent_at, absent_behind, sought_parts}
use Rattle.number_tables.proofs.hash_index.find_in_order.Goals as goal

pub first_from-requires : goal.first_from-requires
first_from-requires c = sought_parts c.args.terms.now c.args.hash (term_text (wanted_term c.args.wanted.now)) c.args.places.now.elements c.requires

pub returns-in_err-place : goal.returns-in_err-place
returns-in_err-place c =
    subst
    (λ (o : Option ℕ). FindsTerm c.args.terms.now (wanted_term c.args.wanted.now) (λ number. Has c.args.places.now.elements (record { hash = c.args.hash; number = number })) o)
    (sym c.from_residual.ensures) (absent_behind c.args.terms.now c.args.places.now.elements c.args.hash (wanted_term c.args.wanted.now) c.requires c.in_err-place.ensures)

pub returns-then-is_at : goal.returns-then-is_at
returns-then-is_at c = c.is_at.ensures.0 c.if-is_at.true

pub returns : goal.returns
returns c =
    absent_at c.args.terms.now c.args.places.now.elements c.args.hash (wanted_term c.args.wanted.now) c.requires c.in_ok-place.place.now c.in_ok-place.ensures
    (λ own. true≢false (sym (c.is_at.ensures.1 own) ∙ c.if-is_at.false))
