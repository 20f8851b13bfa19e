use Rattle.std.proofs.Common.{◌∙◌, sym}
use Rattle.std.proofs.lemmas.Bool.{false≢true}
use Rattle.std.specs.Cmp.Lexicographic.{bytes_decides}
use Rattle.single_value.proofs.values.is_value_beside.Goals as goal

pub returns-then-eq : goal.returns-then-eq
returns-then-eq c = (
  λ t. record {
    subject_is = (bytes_decides c.args.other.now.s c.args.triple.now.s).0 (sym c.eq.ensures ∙ c.if-eq.true);
    property_is = (bytes_decides c.args.other.now.p c.args.triple.now.p).0 (sym c.eq-then-eq.ensures ∙ t);
  },
  λ v. c.eq-then-eq.ensures ∙ (bytes_decides c.args.other.now.p c.args.triple.now.p).1 v.property_is,
)

pub returns-else-eq : goal.returns-else-eq
returns-else-eq c = (
  λ t. absurd (false≢true (sym c.if-eq.false ∙ t)),
  λ v. c.eq.ensures ∙ (bytes_decides c.args.other.now.s c.args.triple.now.s).1 v.subject_is,
)
