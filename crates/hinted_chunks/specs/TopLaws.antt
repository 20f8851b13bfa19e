-- What a bound's text tells of the chunks that begin before it.
use Rattle.std.specs.Prelude.{◌≡◌, ℕ, List, [], ◌∷◌, Bool, true, false, refl}
use Rattle.std.proofs.Common.{ap}
use Rattle.std.proofs.lemmas.Bool.{false≢true}
use Rattle.std.specs.Cmp.Lexicographic.{slice_cmp}
use Rattle.std.specs.Ordering.{nat_cmp, is_gt}
use Rattle.std.specs.declared.cmp.Ordering.TheVariants.{Less, Greater}
use Rattle.hinted_chunks.specs.Hinted.{first_passes, top_key}

-- a chunk of a lesser text begins before the bound
pub top_below : {X : Type 0} (key : X → List ℕ) (p : X → Bool) (text : List ℕ) → ((x : X) → slice_cmp nat_cmp (key x) text ≡ Less → p x ≡ true)
    → (chunk : List X) → slice_cmp nat_cmp (top_key key chunk) text ≡ Less → first_passes p chunk ≡ true
top_below key p text h [] e = refl
top_below key p text h (x ∷ xs) e = h x e

-- a chunk of a greater text does not
pub top_above : {X : Type 0} (key : X → List ℕ) (p : X → Bool) (text : List ℕ) → ((x : X) → slice_cmp nat_cmp (key x) text ≡ Greater → p x ≡ false)
    → (chunk : List X) → slice_cmp nat_cmp (top_key key chunk) text ≡ Greater → first_passes p chunk ≡ false
top_above key p [] h [] e = absurd (false≢true (ap is_gt e))
top_above key p (b ∷ text) h [] e = absurd (false≢true (ap is_gt e))
top_above key p text h (x ∷ xs) e = h x e
