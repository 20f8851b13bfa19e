use Rattle.std.proofs.Common.{◌≡◌, ℕ, List, ◌∷◌, string_bytes, sym, ap, ◌∙◌, subst}
use Rattle.std.proofs.lemmas.Result.{err_from_is_err_and}
use Rattle.serde_json.specs.View.{view, members_view}
use Rattle.serde_json.proofs.Views.{Entry}
use Rattle.jsonld_context.specs.Telling.{IsToldBy}
use Rattle.jrql_patterns.specs.FilterReading.{compare_of, read_comparison, read_comparisons}
use Rattle.jrql_patterns.proofs.FirstMembers.{first_told}
use Rattle.jrql_patterns.proofs.filters.read_comparisons.Goals as goal

pub returns-in_err-read_comparison-clause-err : goal.returns-in_err-read_comparison-clause-err
returns-in_err-read_comparison-clause-err c =
    let l = c.loop-key in
    let e : Entry = (c.in-Some.key.now, c.in-Some.value.now) in
    let left = c.next.new.self in
    let steps : l.key-iterator ≡ e ∷ left = c.in-Some.ensures.steps in
    let same = ap (λ es. read_comparisons c.args.context.now (members_view es) l.so_far) (sym steps) ∙ l.invariant in
    let told = subst (λ (k : List ℕ). IsToldBy (read_comparison c.args.context.now (compare_of k) (view c.in-Some.value.now) l.so_far) c.in_err-read_comparison.field-0.0)
    c.as_str.ensures.value c.in_err-read_comparison.ensures.err in
    let p = err_from_is_err_and c.from_residual.result c.from_residual.ensures.1 in
    rw (p.1, p.2) (first_told (read_comparison c.args.context.now (compare_of (string_bytes c.in-Some.key.now)) (view c.in-Some.value.now) l.so_far) (read_comparisons c.args.context.now (members_view left))
    (read_comparisons c.args.context.now (members_view c.args.members.now.entries) c.args.so_far.now) c.in_err-read_comparison.field-0.0 same told)
