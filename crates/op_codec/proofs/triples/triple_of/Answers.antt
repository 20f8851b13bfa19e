use Rattle.std.proofs.Common.{◌≡◌, ℕ, List, true, false, refl, sym, ap, ◌∙◌, subst}
use Rattle.std.specs.Str.{IsUtf8}
use Rattle.rdf_terms.specs.Building.{RefusesTriple}
use Rattle.rdf_terms.specs.declared.faults.TripleFault.{TripleFault}
use Rattle.rdf_terms.specs.Literal.{is_same}
use Rattle.rdf_terms.specs.Spelling.{triple_text}
use Rattle.op_codec.specs.Triples.{triple_of}
use Rattle.op_codec.proofs.TripleLaws.{not_utf8, triple_written, otherwise_written, too_long, not_spelled}
use Rattle.op_codec.proofs.triples.triple_of.Goals as goal

pub returns-in_default : goal.returns-in_default
returns-in_default c = (not_utf8 c.args.text.now c.in_default.ensures.cases.0, refl)

pub returns-in-Err-NotTriple : goal.returns-in-Err-NotTriple
returns-in-Err-NotTriple c =
    let e = c.in-Ok.ensures.cases.0 in
    let h = subst (λ (f : TripleFault). RefusesTriple c.in-Ok.spelling.now f) c.in-Err-NotTriple.field-0-is c.in-Err-NotTriple.ensures.refusals in
    (ap triple_of (sym e) ∙ not_spelled c.in-Ok.spelling.now h.unspelled, refl)

pub returns-in-Err-TooLong : goal.returns-in-Err-TooLong
returns-in-Err-TooLong c =
    let e = c.in-Ok.ensures.cases.0 in
    let t = subst (λ (f : TripleFault). RefusesTriple c.in-Ok.spelling.now f) c.in-Err-TooLong.field-0-is c.in-Err-TooLong.ensures.refusals in
    (ap triple_of (sym e) ∙ too_long c.in-Ok.spelling.now t.0 (subst IsUtf8 (sym e) c.in-Ok.ensures.cases.1) t.1 t.2, refl)

pub returns-then-not-branch : goal.returns-then-not-branch
returns-then-not-branch c =
    let e = c.in-Ok.ensures.cases.0 in
    let t = c.in-Ok-read_triple.triple in
    let f : is_same (triple_text t) c.args.text.now ≡ false = sym c.in_ok-is_written_so.ensures ∙ c.if-not-branch.true in (
      ap triple_of (sym e) ∙ otherwise_written c.in-Ok.spelling.now t (subst IsUtf8 (sym e) c.in-Ok.ensures.cases.1) c.in-Ok-read_triple.ensures.spelled c.in-Ok-read_triple.ensures.within
          (subst (λ (text : List ℕ). is_same (triple_text t) text ≡ false) (sym e) f),
      refl,
    )

pub returns : goal.returns
returns c =
    let e = c.in-Ok.ensures.cases.0 in
    let t = c.in-Ok-read_triple.triple in
    let f : is_same (triple_text t) c.args.text.now ≡ true = sym c.in_ok-is_written_so.ensures ∙ c.if-not-branch.false in
    ap triple_of (sym e) ∙ triple_written c.in-Ok.spelling.now t (subst IsUtf8 (sym e) c.in-Ok.ensures.cases.1) c.in-Ok-read_triple.ensures.spelled c.in-Ok-read_triple.ensures.within
    (subst (λ (text : List ℕ). is_same (triple_text t) text ≡ true) (sym e) f)
