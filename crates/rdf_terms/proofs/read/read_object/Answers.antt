use Rattle.std.proofs.Common.{◌+◌, [], arith}
use Rattle.std.proofs.lemmas.Result.{err_from_is_err_and}
use Rattle.text_rules.specs.declared.spots.Spot.TheVariants.{Lexical}
use Rattle.rdf_terms.specs.Parts.{object_value}
use Rattle.rdf_terms.specs.TripleReading.{LexicalForm, Object, Before, Within, Between}
use Rattle.rdf_terms.proofs.ReadLemmas.{object_ends, quote_leads, object_needs, boundary_behind_byte}
use Rattle.rdf_terms.proofs.read.read_object.Goals as goal

pub read_literal-requires-clause-boundary : goal.read_literal-requires-clause-boundary
read_literal-requires-clause-boundary c = boundary_behind_byte c.args.text.now c.args.at 34 c.utf8.text (omega arith) c.if-has_byte.ensures

pub returns-then-has_byte : goal.returns-then-has_byte
returns-then-has_byte c =
    let here = c.if-has_byte.ensures in
    object_ends c.args.text.now c.args.at (c.args.at + 1) (λ s p. Before (Object s p)) (λ s p. Within (LexicalForm s p) Lexical Between []) (λ read. object_value read.0) (λ read. read.1) c.read_literal.result
    (λ s p. quote_leads c.args.text.now c.args.at s p here) c.read_literal.ensures

pub returns-in_err-iri : goal.returns-in_err-iri
returns-in_err-iri c =
    let p = err_from_is_err_and c.from_residual.result c.from_residual.ensures.1 in
    let stops = c.in_err-iri.ensures in
    let unquoted = c.if-has_byte.ensures in
    rw (p.1, p.2) (λ s q. stops (Object s q) tt (object_needs c.args.text.now c.args.at s q c.requires.unblank unquoted))
