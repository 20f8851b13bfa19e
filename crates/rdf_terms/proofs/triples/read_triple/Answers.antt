use Rattle.std.proofs.Common.{sym, subst, ◌∙◌}
use Rattle.std.proofs.lemmas.Result.{err_from_is_err_and}
use Rattle.rdf_terms.specs.declared.terms.Triple.{Triple}
use Rattle.rdf_terms.specs.Grammar.{SpellsTriple}
use Rattle.rdf_terms.specs.Parts.{triple_value}
use Rattle.rdf_terms.proofs.Sound.{read_spelled}
use Rattle.rdf_terms.proofs.Values.{sound_from_read, too_long_from_read, refused_from_read}
use Rattle.rdf_terms.proofs.triples.read_triple.Goals as goal
use Rattle.rdf_terms.proofs.triples.read_triple.Goals.{in-Iri-1, in-Plain-1, in-Typed-1, in-Tagged-1}

pub build_triple-requires : goal.build_triple-requires
build_triple-requires c = sound_from_read c.args.text.now (triple_value c.in_ok-parts.parts) c.in_ok-parts.ensures (sym c.is_within.ensures ∙ c.if-not-is_within.false)

pub returns-in_err-parts-clause-refusals : goal.returns-in_err-parts-clause-refusals
returns-in_err-parts-clause-refusals c =
    let p = err_from_is_err_and c.from_residual.result c.from_residual.ensures.1 in
    rw (p.1, p.2) (refused_from_read c.args.text.now c.in_err-parts.field-0.0 c.in_err-parts.ensures)

pub returns-then-not-is_within-clause-refusals : goal.returns-then-not-is_within-clause-refusals
returns-then-not-is_within-clause-refusals c =
    elim c.match-parts.branch [
      | in-Iri-1 w ↦ too_long_from_read c.args.text.now (triple_value c.in_ok-parts.parts) c.in_ok-parts.ensures (sym c.is_within.ensures ∙ c.if-not-is_within.true)
      | in-Plain-1 w ↦ too_long_from_read c.args.text.now (triple_value c.in_ok-parts.parts) c.in_ok-parts.ensures (sym c.is_within.ensures ∙ c.if-not-is_within.true)
      | in-Typed-1 w ↦ too_long_from_read c.args.text.now (triple_value c.in_ok-parts.parts) c.in_ok-parts.ensures (sym c.is_within.ensures ∙ c.if-not-is_within.true)
      | in-Tagged-1 w ↦ too_long_from_read c.args.text.now (triple_value c.in_ok-parts.parts) c.in_ok-parts.ensures (sym c.is_within.ensures ∙ c.if-not-is_within.true)
    ]

pub returns-clause-spelled : goal.returns-clause-spelled
returns-clause-spelled c =
    subst (λ (t : Triple). SpellsTriple c.args.text.now t) (sym c.build_triple.ensures) (read_spelled c.args.text.now (triple_value c.in_ok-parts.parts) c.in_ok-parts.ensures)
