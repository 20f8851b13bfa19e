-- An object whose member of a key was removed has its other members.
use Rattle.std.proofs.Common.{◌≡◌, ◌∙◌, ℕ, List, [], ◌∷◌, Bool, true, false, cond, is_eq, nat_cmp, string_bytes, refl, ap, if◌then◌else◌}
use Rattle.std.specs.Cmp.Lexicographic.{slice_cmp}
use Rattle.std.specs.BTreeMap.{is_at}
use Rattle.std.specs.Map.{remove_entry}
use Rattle.std.proofs.lemmas.Map.Text.{is_eq-slice_cmp}
use Rattle.serde_json.specs.Data.{Members, member}
use Rattle.serde_json.specs.View.{view, members_view}
use Rattle.serde_json.proofs.Views.{Entry}
use Rattle.jrql_update.specs.UpdateReading.{members_beside}

by_test : (test : Bool) (e : Entry) (es left : List Entry) (rest : Members) → members_view left ≡ rest
    → members_view (cond test es (e ∷ left)) ≡ (if test then members_view es else member (string_bytes e.0) (view e.1) rest)
by_test true e es left rest same = refl
by_test false e es left rest same = ap (member (string_bytes e.0) (view e.1)) same

pub removed_beside : (key : List ℕ) (es : List Entry) → members_view (remove_entry (is_at (λ k. slice_cmp nat_cmp key (string_bytes k))) es) ≡ members_beside key (members_view es)
removed_beside key [] = refl
removed_beside key (e ∷ es) =
    by_test (is_eq (slice_cmp nat_cmp key (string_bytes e.0))) e es _ _ (removed_beside key es)
    ∙ ap (λ (b : Bool). if b then members_view es else member (string_bytes e.0) (view e.1) (members_beside key (members_view es)))
    (is_eq-slice_cmp key (string_bytes e.0))
