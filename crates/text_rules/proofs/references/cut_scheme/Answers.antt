use Rattle.std.proofs.Common.{◌≡◌, lit<, false, refl}
use Rattle.std.proofs.lemmas.Str.Pattern.{split_once_first}
use Rattle.text_rules.specs.Iri.{has_scheme}
use Rattle.text_rules.proofs.Slashes.{no_colon}
use Rattle.text_rules.proofs.references.cut_scheme.Goals as goal

pub returns-in_default-clause-scheme : goal.returns-in_default-clause-scheme
returns-in_default-clause-scheme c =
    let cut = split_once_first 58 c.args.text.now c.split_once.result c.split_once.ensures.cases (lit< tt) in
    let none : has_scheme c.args.text.now ≡ false = no_colon c.args.text.now (rw c.in_default.is at cut) in
    rw none refl

pub returns-in_default-clause-rest : goal.returns-in_default-clause-rest
returns-in_default-clause-rest c =
    let cut = split_once_first 58 c.args.text.now c.split_once.result c.split_once.ensures.cases (lit< tt) in
    let none : has_scheme c.args.text.now ≡ false = no_colon c.args.text.now (rw c.in_default.is at cut) in
    rw none refl
