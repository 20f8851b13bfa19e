use Rattle.std.proofs.Common.{lit<, ◌∙◌, ap, take}
use Rattle.std.specs.String.{string_bytes}
use Rattle.std.proofs.lemmas.Str.Pattern.{rfind_char}
use Rattle.text_rules.proofs.Slashes.{last_slash, cut_last}
use Rattle.text_rules.proofs.dots.drop_last.Goals as goal

pub returns : goal.returns
returns c =
    let text = string_bytes c.args.output.now in
    let found = rfind_char 47 c.as_str.result.now c.rfind.result c.rfind.ensures.cases (lit< tt) in
    let found_in = rw c.as_str.ensures.value at found in
    c.truncate.ensures.bytes ∙ ap (λ k. take k text) c.unwrap_or-end.ensures ∙ cut_last text c.rfind.result (last_slash text c.rfind.result found_in)
