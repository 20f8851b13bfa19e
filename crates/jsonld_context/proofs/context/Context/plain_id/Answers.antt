use Rattle.std.proofs.Common.{◌≡◌, ◌∙◌, ℕ, List, ap}
use Rattle.text_rules.specs.Resolution.{folder_of}
use Rattle.jsonld_context.specs.Context.{ContextValue}
use Rattle.jsonld_context.specs.ShortForms.{plain_id}
use Rattle.jsonld_context.proofs.Folders.{plain_is}
use Rattle.jsonld_context.proofs.context.Context.plain_id.Goals as goal

pub returns : goal.returns
returns c =
    let base : List ℕ = c.args.self.now.base in
    let folder : c.as_str.result.now ≡ folder_of base = c.as_str.ensures ∙ (c.self.invariant.folder_is ∙ ap (λ (v : ContextValue). folder_of v.base) c.self.view_is) in
    plain_is c.args.self.now c.args.iri.now c.plain_id.result (c.plain_id.ensures base folder ∙ ap (plain_id base) c.as_str-2.ensures.text)
