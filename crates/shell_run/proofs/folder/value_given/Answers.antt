use Rattle.std.proofs.Common.{rules, ◌≡◌, ◌∙◌, ℕ, List, [], codes, inl, inr, arith, false, true, is_some, refl, ap₂, slice_index, sym}
use Rattle.std.proofs.lemmas.Bool.{false≢true}
use Rattle.std.specs.declared.result.Result.TheVariants.{Ok, Err}
use Rattle.clap.specs.declared.parser.matches.ArgMatches.{ArgMatches}
use Rattle.clap.specs.Words.{app_of, rule_of, with_rule, first_value, found_of}
use Rattle.clap.proofs.CallerLemmas.{one_required_value}
use Rattle.clap.proofs.KindLemmas.{fails_by_from}
use Rattle.shell_run.specs.FolderWords.{folder_app, folder_rule}
use Rattle.shell_run.proofs.FolderReading.{fails_as, value_as}
use Rattle.shell_run.proofs.folder.value_given.Goals as goal

pub returns-in_err-matches-clause-kinds : goal.returns-in_err-matches-clause-kinds
returns-in_err-matches-clause-kinds c =
    let folder_is : rule_of c.action-folder.result ≡ folder_rule = search rules in
    let app_is : app_of c.in_ok-command.command ≡ folder_app =
    c.in_ok-command.ensures.shape (search rules) ∙ ap₂ with_rule c.new-2.ensures.app folder_is in
    fails_by_from _ c.from_residual-in_err-matches.result c.in_err-matches.field-0.0
    (fails_as {T = ArgMatches} c.in_ok-command.command _ (Err c.in_err-matches.field-0.0) app_is c.in_err-matches.ensures.kinds)
    c.from_residual-in_err-matches.ensures.0 c.from_residual-in_err-matches.ensures.1

pub unreachable-requires : goal.unreachable-requires
unreachable-requires c =
    let dir : c.action-folder.result.id.now ≡ codes "DIR" = search rules in
    let first : (t : List ℕ) → c.action-folder.result.id.now ≡ t → slice_index t 0 ≡ 68 = λ t e. rw (← e, dir) refl in
    let given : is_some (first_value (found_of c.in_ok-matches.matches) c.action-folder.result.id.now) ≡ true =
    one_required_value c.new-2.result c.in_ok-command.command c.action-folder.result c.in_ok-matches.matches
    c.in_ok-command.ensures (search rules) (search rules) (search rules) (search rules) (search rules) (search rules) (search rules)
    (search rules) (search rules) (search rules)
    (λ e. let bad : 0 ≡ 68 = first [] e in absurd (omega arith))
    (λ auto. elim auto [
      | inl h ↦ let bad : 104 ≡ 68 = first _ h in absurd (omega arith)
      | inr h ↦ let bad : 118 ≡ 68 = first _ h in absurd (omega arith)
    ])
    c.in_ok-matches.ensures.parsed in
    let none : is_some (first_value (found_of c.in_ok-matches.matches) c.action-folder.result.id.now) ≡ false = rw (dir, ← c.in_default.ensures) refl in
    false≢true (sym none ∙ given)

pub returns-clause-ok : goal.returns-clause-ok
returns-clause-ok c =
    let folder_is : rule_of c.action-folder.result ≡ folder_rule = search rules in
    let app_is : app_of c.in_ok-command.command ≡ folder_app =
    c.in_ok-command.ensures.shape (search rules) ∙ ap₂ with_rule c.new-2.ensures.app folder_is in
    sym (c.in-Some.ensures ∙ value_as c.in_ok-command.command _ c.in_ok-matches.matches app_is c.in_ok-matches.ensures.matches)

pub returns-clause-kinds : goal.returns-clause-kinds
returns-clause-kinds c =
    let folder_is : rule_of c.action-folder.result ≡ folder_rule = search rules in
    let app_is : app_of c.in_ok-command.command ≡ folder_app =
    c.in_ok-command.ensures.shape (search rules) ∙ ap₂ with_rule c.new-2.ensures.app folder_is in
    fails_as c.in_ok-command.command _ (Ok c.in_ok-matches.matches) app_is c.in_ok-matches.ensures.kinds
