use Rattle.std.proofs.Common.{◌≡◌, ℕ, ◌≤◌, List, length, string_bytes, IfOk, sym, subst, rules}
use Rattle.std.specs.Fmt.{signed_decimal}
use Rattle.std.proofs.lemmas.Result.{IfOk-weaker}
use Rattle.rdf_terms.specs.Literal.{lexical_limit}
use Rattle.jsonld_values.proofs.ShortTexts.{signed_short}
use Rattle.jsonld_values.proofs.literals.decimal_text.Goals as goal

pub returns-clause-short : goal.returns-clause-short
returns-clause-short c =
    let told : IfOk c.format.result (λ text. string_bytes text ≡ signed_decimal c.args.value) = search rules in
    IfOk-weaker c.format.result (λ text. string_bytes text ≡ signed_decimal c.args.value) (λ text. length (string_bytes text) ≤ lexical_limit)
    (λ text is. subst (λ (bytes : List ℕ). length bytes ≤ lexical_limit) (sym is) (signed_short c.args.value c.ranges.value)) told
