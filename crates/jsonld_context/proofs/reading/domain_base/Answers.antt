use Rattle.std.proofs.Common.{◌≡◌, ℕ, List, codes, string_bytes, IsTrue, refl, sym, subst, ◌∙◌, arith}
use Rattle.std.proofs.lemmas.Result.{IfOk-weaker}
use Rattle.text_rules.specs.Iri.{is_absolute}
use Rattle.jsonld_context.proofs.Domains.{rooted_absolute}
use Rattle.jsonld_context.proofs.reading.domain_base.Goals as goal

pub returns-clause-absolute : goal.returns-clause-absolute
returns-clause-absolute c =
    let good = rooted_absolute c.args.domain.now (codes "/") c.requires refl (omega arith) in
    IfOk-weaker c.from_string.result (λ t. t ≡ string_bytes c.in_ok-between.field-0) (λ t. IsTrue (is_absolute t))
    (λ t is. subst (λ (u : List ℕ). IsTrue (is_absolute u)) (sym (is ∙ c.in_ok-between.ensures)) good) c.from_string.ensures
