-- An object has one member alone where its length is 1.
use Rattle.std.proofs.Common.{◌≡◌, List, [], ◌∷◌, suc, length, ◌==◌, refl, sym, arith}
use Rattle.std.proofs.lemmas.Bool.{ne_eqb}
use Rattle.serde_json.specs.View.{members_view}
use Rattle.serde_json.proofs.Views.{Entry}
use Rattle.jrql_patterns.specs.OpenGroups.{has_one}

pub one_by_length : (entries : List Entry) → has_one (members_view entries) ≡ (length entries == 1)
one_by_length [] = refl
one_by_length (entry ∷ []) = refl
one_by_length (entry ∷ other ∷ rest) = sym (ne_eqb (suc (suc (length rest))) 1 (λ h. omega arith))
