-- IRIs among texts.
use Rattle.std.proofs.Common.{◌<◌, ◌∷◌, ℕ, zero, suc, List, [], IsTrue, Bor, length, get_or, map, arith}
use Rattle.std.specs.List.{All}
use Rattle.text_rules.specs.Iri.{is_absolute}

-- where all are absolute, so is the one at a place
pub absolute_at : (texts : List (Bor (List ℕ))) (i : ℕ) (d : Bor (List ℕ)) → i < length texts
    → All (λ iri. IsTrue (is_absolute iri)) (map (λ text. text.now) texts) → IsTrue (is_absolute (get_or texts i d).now)
absolute_at [] i d low all = absurd (omega (arith, low))
absolute_at (y ∷ ys) zero d low all = all 0 y.now (omega arith)
absolute_at (y ∷ ys) (suc i) d low all = absolute_at ys i d (omega (arith, low)) (λ k e within. all (suc k) e (omega (arith, within)))
