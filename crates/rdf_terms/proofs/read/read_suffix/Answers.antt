use Rattle.std.proofs.Common.{◌+◌, [], false, arith}
use Rattle.rdf_terms.specs.Parts.{object_value}
use Rattle.rdf_terms.specs.TripleReading.{Quoted, Tag, Hat}
use Rattle.rdf_terms.proofs.ReadLemmas.{object_ends, at_leads, hat_leads, quoted_other, boundary_behind_byte}
use Rattle.rdf_terms.proofs.read.read_suffix.Goals as goal

pub read_tag-requires-clause-boundary : goal.read_tag-requires-clause-boundary
read_tag-requires-clause-boundary c = boundary_behind_byte c.args.text.now c.args.at 64 c.utf8.text (omega arith) c.if-has_byte.ensures

pub returns-then-has_byte : goal.returns-then-has_byte
returns-then-has_byte c =
    let here = c.if-has_byte.ensures in
    object_ends c.args.text.now c.args.at (c.args.at + 1) (λ s p. Quoted s p c.args.lexical) (λ s p. Tag s p c.args.lexical false false []) (λ read. object_value read.0) (λ read. read.1) c.read_tag.result
    (λ s p. at_leads c.args.text.now c.args.at c.args.lexical s p here) c.read_tag.ensures

pub returns-then-has_byte-2 : goal.returns-then-has_byte-2
returns-then-has_byte-2 c =
    let here = c.if-has_byte-2.ensures in
    object_ends c.args.text.now c.args.at (c.args.at + 1) (λ s p. Quoted s p c.args.lexical) (λ s p. Hat s p c.args.lexical) (λ read. object_value read.0) (λ read. read.1) c.read_datatype.result
    (λ s p. hat_leads c.args.text.now c.args.at c.args.lexical s p here) c.read_datatype.ensures

pub returns : goal.returns
returns c = quoted_other c.args.text.now c.args.at c.args.lexical c.requires c.if-has_byte.ensures c.if-has_byte-2.ensures
