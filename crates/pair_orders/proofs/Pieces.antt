-- Pieces of a list.
use Rattle.std.proofs.Common.{◌≡◌, ℕ, ◌-◌, ◌≤◌, List, length, take, drop, subst, arith}
use Rattle.std.proofs.lemmas.List.{length-take, length-drop, take-append-drop}
use Rattle.mld_ops.proofs.AscendingLaws.{has_left, has_right}
use Rattle.tree_clock.specs.Lists.{Has}

-- how long a piece is, and where its members are from
pub length_piece : {X : Type 0} (xs : List X) (from to : ℕ) → from ≤ to → to ≤ length xs → length (take (to - from) (drop from xs)) ≡ to - from
length_piece xs from to l m = omega (arith, l, m, length-take (to - from) (drop from xs), length-drop from xs)

pub has_piece : {X : Type 0} (xs piece : List X) (from count : ℕ) (x : X) → piece ≡ take count (drop from xs) → Has piece x → Has xs x
has_piece xs piece from count x e h =
    let m = has_left (take count (drop from xs)) (drop count (drop from xs)) x (subst (λ zs. Has zs x) e h) in
    subst (λ zs. Has zs x) (take-append-drop from xs) (has_right (take from xs) (drop from xs) x (subst (λ zs. Has zs x) (take-append-drop count (drop from xs)) m))
