use Rattle.std.proofs.Common.{◌≡◌, ◌∙◌, ◌+◌, Some, None, length, refl, sym, ap}
use Rattle.rdf_terms.specs.Literal.{language_of}
use Rattle.rdf_terms.specs.Spelling.{triple_text}
use Rattle.op_codec.proofs.ShortTriples.{short_typed, tagged_count, short_by_parts}
use Rattle.op_codec.proofs.short.is_short_literal.Goals as goal

pub returns-in-None : goal.returns-in-None
returns-in-None c =
    let none : language_of c.args.literal.now ≡ None = sym c.in-None.ensures in
    (λ h. short_typed c.args.triple.now c.requires.within c.args.literal.now c.requires.object none, λ h. refl)

pub returns-in-Some : goal.returns-in-Some
returns-in-Some c =
    let tag = c.in-Some.tag.now in
    let some : language_of c.args.literal.now ≡ Some tag = sym c.in-Some.ensures in
    let size = tagged_count c.args.triple.now c.requires.within c.args.literal.now tag c.requires.object some in
    short_by_parts (length (triple_text c.args.triple.now)) c.count_without_tag.result (length tag)
    (size ∙ ap (λ count. count + length tag) (sym c.count_without_tag.ensures.count)) c.count_without_tag.ensures.bounded
