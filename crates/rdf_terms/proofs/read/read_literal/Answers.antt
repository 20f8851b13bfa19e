use Rattle.std.proofs.Common.{[]}
use Rattle.std.proofs.lemmas.Result.{err_from_is_err_and}
use Rattle.text_rules.specs.declared.spots.Spot.TheVariants.{Lexical}
use Rattle.rdf_terms.specs.Parts.{object_value}
use Rattle.rdf_terms.specs.TripleReading.{LexicalForm, Within, Between, Quoted}
use Rattle.rdf_terms.proofs.ReadLemmas.{object_ends}
use Rattle.rdf_terms.proofs.read.read_literal.Goals as goal

pub returns-in_err-lexical : goal.returns-in_err-lexical
returns-in_err-lexical c =
    let p = err_from_is_err_and c.from_residual.result c.from_residual.ensures.1 in
    let stops = c.in_err-lexical.ensures in
    rw (p.1, p.2) (λ s q. stops (LexicalForm s q))

pub returns : goal.returns
returns c =
    let body = c.in_ok-lexical.ensures in
    object_ends c.args.text.now c.args.at c.in_ok-lexical.next (λ s p. Within (LexicalForm s p) Lexical Between []) (λ s p. Quoted s p c.in_ok-lexical.lexical) (λ read. object_value read.0) (λ read. read.1) c.read_suffix.result
    (λ s p. body.leads (LexicalForm s p)) c.read_suffix.ensures
