use Rattle.std.proofs.Common.{◌≡◌, ℕ, List, ◌∷◌, string_bytes, sym, ap, ◌∙◌, subst}
use Rattle.std.proofs.lemmas.Result.{err_from_is_err_and}
use Rattle.serde_json.specs.View.{view, members_view}
use Rattle.serde_json.proofs.Views.{Entry}
use Rattle.jsonld_context.specs.Telling.{IsToldBy}
use Rattle.jsonld_subjects.specs.MemberReading.{read_member}
use Rattle.jsonld_subjects.specs.SubjectReading.{read_members}
use Rattle.jsonld_subjects.proofs.MemberLaws.{fault_of_first}
use Rattle.jsonld_subjects.proofs.members.+subject.Goals as goal

pub read_members-returns-in_err-read_member-clause-err : goal.read_members-returns-in_err-read_member-clause-err
read_members-returns-in_err-read_member-clause-err t c =
    let l = c.loop-key in
    let e : Entry = (c.in-Some.key.now, c.in-Some.value.now) in
    let left = c.next.new.self in
    let steps : l.key-iterator ≡ e ∷ left = c.in-Some.ensures.steps in
    let same = ap (λ es. read_members c.args.context.now c.args.place (members_view es) l.so_far) (sym steps) ∙ l.invariant in
    let told = subst (λ (k : List ℕ). IsToldBy (read_member c.args.context.now c.args.place k (view c.in-Some.value.now) l.so_far) c.in_err-read_member.field-0.0)
    c.as_str.ensures.value c.in_err-read_member.ensures.err in
    let p = err_from_is_err_and c.from_residual.result c.from_residual.ensures.1 in
    rw (p.1, p.2) (fault_of_first c.args.context.now c.args.place (members_view c.args.members.now.entries) (members_view left) c.args.so_far.now l.so_far
    (string_bytes c.in-Some.key.now) (view c.in-Some.value.now) c.in_err-read_member.field-0.0 same told)
