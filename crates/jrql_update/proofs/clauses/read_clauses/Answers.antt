use Rattle.std.proofs.Common.{◌≡◌, ℕ, List, ◌∷◌, string_bytes, sym, ap, ◌∙◌, subst}
use Rattle.std.proofs.lemmas.Result.{err_from_is_err_and}
use Rattle.serde_json.specs.View.{view, members_view}
use Rattle.serde_json.proofs.Views.{Entry}
use Rattle.jsonld_context.specs.Telling.{IsToldBy}
use Rattle.jrql_update.specs.UpdateReading.{read_clause, read_clauses}
use Rattle.jrql_update.proofs.FirstClauses.{first_told}
use Rattle.jrql_update.proofs.clauses.read_clauses.Goals as goal

pub returns-in_err-read_clause-clause-err : goal.returns-in_err-read_clause-clause-err
returns-in_err-read_clause-clause-err c =
    let l = c.loop-key in
    let e : Entry = (c.in-Some.key.now, c.in-Some.value.now) in
    let left = c.next.new.self in
    let steps : l.key-iterator ≡ e ∷ left = c.in-Some.ensures.steps in
    let same = ap (λ es. read_clauses c.args.context.now (members_view es) l.so_far) (sym steps) ∙ l.invariant in
    let told = subst (λ (k : List ℕ). IsToldBy (read_clause c.args.context.now k (view c.in-Some.value.now) l.so_far) c.in_err-read_clause.field-0.0)
    c.as_str.ensures.value c.in_err-read_clause.ensures.err in
    let p = err_from_is_err_and c.from_residual.result c.from_residual.ensures.1 in
    rw (p.1, p.2) (first_told (read_clause c.args.context.now (string_bytes c.in-Some.key.now) (view c.in-Some.value.now) l.so_far) (read_clauses c.args.context.now (members_view left))
    (read_clauses c.args.context.now (members_view c.args.members.now.entries) c.args.so_far.now) c.in_err-read_clause.field-0.0 same told)
