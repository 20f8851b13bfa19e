use Rattle.std.proofs.Common.{ℕ, ◌≤◌, ◌<◌, arith, sym, subst}
use Rattle.text_rules.specs.Iri.{iri_limit}
use Rattle.rdf_terms.specs.Grammar.{IsIriText}
use Rattle.rdf_terms.proofs.IriAlone.{iri_text_read, absolute_read, iri_long, iri_ends_early, iri_refused, iri_unlimited}
use Rattle.rdf_terms.proofs.triples.read_iri.Goals as goal
use Rattle.rdf_terms.proofs.triples.read_iri.Goals.{then-next-text+else-len-le-IRI_LIMIT, else-next-text}

pub from_absolute-requires : goal.from_absolute-requires
from_absolute-requires c =
    let end = c.if-next-text.true in
    absolute_read c.args.text.now c.in-Ok.iri c.in-Ok.next c.in-Ok.ensures (omega (arith, end)) (subst (λ (n : ℕ). n ≤ iri_limit) c.len.ensures c.if-len-le-IRI_LIMIT.true)

pub returns-in-Ok : goal.returns-in-Ok
returns-in-Ok c =
    let end = c.if-next-text.true in
    subst (IsIriText c.args.text.now) (sym c.from_absolute.ensures)
    (iri_text_read c.args.text.now c.in-Ok.iri c.in-Ok.next c.in-Ok.ensures (omega (arith, end)) (subst (λ (n : ℕ). n ≤ iri_limit) c.len.ensures c.if-len-le-IRI_LIMIT.true))

pub returns-in-Ok-2 : goal.returns-in-Ok-2
returns-in-Ok-2 c = elim c.if-next-text.branch [
  | then-next-text+else-len-le-IRI_LIMIT w ↦
      let end = w.if-next-text.true in
      iri_long c.args.text.now c.in-Ok.iri c.in-Ok.next c.in-Ok.ensures (omega (arith, end)) (subst (λ (n : ℕ). iri_limit < n) w.len.ensures w.if-len-le-IRI_LIMIT.false)
  | else-next-text w ↦ iri_ends_early c.args.text.now c.in-Ok.iri c.in-Ok.next c.in-Ok.ensures w.if-next-text.false
]

pub returns-in-Err-NotTriple : goal.returns-in-Err-NotTriple
returns-in-Err-NotTriple c =
    iri_refused c.args.text.now (λ read. read.0) (λ read. read.1) c.read_iri.result c.in-Err-NotTriple.field-0 c.read_iri.ensures c.in-Err-NotTriple.is c.in-Err-NotTriple.field-0-is

pub unreachable-requires : goal.unreachable-requires
unreachable-requires c =
    iri_unlimited c.args.text.now (λ read. read.0) (λ read. read.1) c.read_iri.result c.in-Err-TooLong.field-0 c.read_iri.ensures c.in-Err-TooLong.is c.in-Err-TooLong.field-0-is
