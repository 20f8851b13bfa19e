use Rattle.std.proofs.Common.{◌≡◌, ◌∙◌, ap, rules}
use Rattle.std.proofs.lemmas.Result.{IfOk-weaker}
use Rattle.jsonld_context.specs.Context.{ContextValue}
use Rattle.jsonld_context.specs.ShortForms.{compact_key}
use Rattle.jsonld_subjects.proofs.property_keys.PropertyKeys.key.Goals as goal

pub returns-in-Some-clause-key : goal.returns-in-Some-clause-key
returns-in-Some-clause-key c =
    let iri = c.args.iri.now in
    let key = c.in-Some.key.now in
    let under : c.self.inside.context.now ≡ c.args.self.now = search rules in
    let is : key ≡ compact_key c.args.self.now iri =
    c.self.invariant iri key (search rules) ∙ ap (λ (context : ContextValue). compact_key context iri) under in
    IfOk-weaker c.share.result (λ copy. copy ≡ key) (λ copy. copy ≡ compact_key c.args.self.now iri) (λ copy h. h ∙ is) c.share.ensures
