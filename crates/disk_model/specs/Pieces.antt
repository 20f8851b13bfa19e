-- Torn pieces.
use Rattle.std.specs.Prelude.{◌≡◌, ◌≢◌, ℕ, ◌-◌, ◌/◌, List, [], ◌∷◌, length, take, replicate}
use Rattle.std.proofs.Common.{ap, arith, get_or, length-append}
use Rattle.std.proofs.lemmas.List.{length-take-le, length-replicate}
use Rattle.disk_model.specs.SideSteps.{torn_piece}

-- what a torn piece holds is as long as the piece
pub length-torn_piece : (piece : List ℕ) → length (torn_piece piece) ≡ length piece
length-torn_piece piece =
    let half = length piece / 2 in
    let first : length (take half piece) ≡ half = length-take-le half piece (omega arith) in
    omega (arith, length-append (take half piece) (replicate (length piece - half) 255), length-replicate {A = ℕ} (length piece - half) 255)

-- a torn piece of the one byte 0 doesn't begin with 1
pub torn_piece_unset : (piece : List ℕ) → piece ≡ 0 ∷ [] → get_or (torn_piece piece) 0 0 ≢ 1
torn_piece_unset piece e = λ one. let torn : get_or (torn_piece piece) 0 0 ≡ 255 = ap (λ (l : List ℕ). get_or (torn_piece l) 0 0) e in omega (arith, one, torn)
