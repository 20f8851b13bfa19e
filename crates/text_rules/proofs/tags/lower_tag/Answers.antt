use Rattle.std.proofs.Common.{◌≡◌, ◌<◌, [], ◌∷◌, ◌++◌, length, get_or, sym, ap, ◌∙◌, subst}
use Rattle.std.specs.Char.{to_ascii_lowercase}
use Rattle.std.proofs.lemmas.List.{map_more}
use Rattle.std.proofs.lemmas.Str.Ascii.{lowercase_ascii}
use Rattle.text_rules.proofs.TagLemmas.{tag_small}
use Rattle.text_rules.proofs.tags.lower_tag.Goals as goal

pub loop-byte-preserved : goal.loop-byte-preserved
loop-byte-preserved c =
    let i = c.loop-byte.byte-index in
    let tag = c.args.tag.now in
    let text = c.as_bytes-byte-items.result.now in
    let same : text ≡ tag = c.as_bytes-byte-items.ensures.value in
    let lt : i < length text = c.loop-byte-test.true in
    let small : get_or text i 0 < 128 = subst (λ t. get_or t i 0 < 128) (sym same) (tag_small tag i c.requires (subst (λ t. i < length t) same lt)) in
    let low : to_ascii_lowercase (get_or text i 0) < 128 = lowercase_ascii (get_or text i 0) small in
    let is : c.from.result ≡ to_ascii_lowercase (get_or text i 0) = c.from.ensures ∙ c.to_ascii_lowercase.ensures.value in
    let low' : c.from.result < 128 = subst (λ n. n < 128) (sym is) low in
    let p = c.in_ok-push.ensures.bytes in
    let q = c.push.ensures.ascii low' in
    rw (map_more to_ascii_lowercase text i 0 lt) (p ∙ rw (q, is) (ap (λ l. l ++ to_ascii_lowercase (get_or text i 0) ∷ []) c.loop-byte.invariant))
