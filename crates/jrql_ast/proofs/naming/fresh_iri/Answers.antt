use Rattle.std.proofs.Common.{◌∙◌, List, ℕ, IsTrue, arith, sym, subst}
use Rattle.text_rules.specs.Iri.{is_absolute}
use Rattle.jrql_ast.proofs.FreshIris.{fresh_absolute}
use Rattle.jrql_ast.proofs.naming.fresh_iri.Goals as goal

pub known_iri-requires : goal.known_iri-requires
known_iri-requires c =
    let e = c.len-letters.ensures.value in
    let most = c.len-letters.ensures.at_most in
    subst (λ (text : List ℕ). IsTrue (is_absolute text)) (sym (c.as_str.ensures.value ∙ c.in_ok-text.ensures))
    (fresh_absolute c.args.domain.now (record { path = c.args.path.now; tick = c.args.tick }) c.args.number c.requires c.len-letters.ensures.letters
    (omega (arith, e, most)) (omega (arith, c.ranges.tick)) (omega (arith, c.ranges.number)))
