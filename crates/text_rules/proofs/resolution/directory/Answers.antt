use Rattle.std.proofs.Common.{◌≡◌, ◌+◌, take, lit<, ◌∙◌, sym, arith}
use Rattle.std.specs.List.{slice_range}
use Rattle.std.proofs.lemmas.Str.Pattern.{rfind_char}
use Rattle.text_rules.specs.Resolution.{directory}
use Rattle.text_rules.proofs.Slashes.{last_slash, directory-none, directory-at}
use Rattle.text_rules.proofs.resolution.directory.Goals as goal

pub returns-in-Some : goal.returns-in-Some
returns-in-Some c =
    let found = last_slash c.args.path.now c.rfind.result (rfind_char 47 c.args.path.now c.rfind.result c.rfind.ensures.cases (lit< tt)) in
    let last = rw c.in-Some.is at found in
    let whole : directory c.args.path.now ≡ take (c.in-Some.place + 1) c.args.path.now = directory-at c.args.path.now c.in-Some.place last in
    let front : slice_range c.args.path.now 0 (c.in-Some.place + 1) ≡ take (c.in-Some.place + 1) c.args.path.now = grind arith in
    c.range.ensures.value ∙ front ∙ sym whole

pub returns-in-None : goal.returns-in-None
returns-in-None c =
    let found = last_slash c.args.path.now c.rfind.result (rfind_char 47 c.args.path.now c.rfind.result c.rfind.ensures.cases (lit< tt)) in
    let none = rw c.in-None.is at found in
    sym (directory-none c.args.path.now none)
