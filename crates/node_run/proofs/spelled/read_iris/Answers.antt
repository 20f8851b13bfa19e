use Rattle.std.proofs.Common.{◌≡◌, ℕ, List, [], Bor, IsTrue, Vec, Global, get_or, map, option_map, unwrap_or, refl}
use Rattle.text_rules.specs.Iri.{is_absolute}
use Rattle.node_run.specs.WordSpelling.{AreIris}
use Rattle.node_run.proofs.Iris.{absolute_at}
use Rattle.node_run.proofs.Passing.{passes_on}
use Rattle.node_run.proofs.spelled.read_iris.Goals as goal

pub returns-in_err-iri : goal.returns-in_err-iri
returns-in_err-iri c =
    let other : Bor (List ℕ) = record { ref_ptr = (0, 0); now = [] } in
    let text : List ℕ = (get_or c.in-Some.texts.now c.loop-text.text-index other).now in
    passes_on (λ (iri : List ℕ). (iri ≡ text) × IsTrue (is_absolute text))
    (λ (iris : Vec (List ℕ) Global). AreIris (unwrap_or (option_map (λ texts. map (λ text. text.now) texts.now) c.args.given) []) iris.items)
    c.in_err-iri.field-0.0 c.from_residual.result
    (λ iris h.
    let here : AreIris (map (λ text. text.now) c.in-Some.texts.now) iris.items = rw c.in-Some.is at h in
    (text, (refl, absolute_at c.in-Some.texts.now c.loop-text.text-index other c.loop-text-test.true here.absolute)))
    c.from_residual.ensures.0 c.from_residual.ensures.1 c.in_err-iri.ensures
