-- Lists where one element changes.
use Rattle.std.proofs.Common.{◌≡◌, ◌≢◌, ℕ, zero, suc, ◌<◌, List, [], ◌∷◌, Some, refl, sym, ◌∙◌, ap, arith, length, get_or, set, insert, remove}
use Rattle.std.specs.Prelude.{slice_get}
use Rattle.std.proofs.lemmas.List.{length-set, get_or-set_same, get_or-set_other, set-get_or}
use Rattle.std.proofs.lemmas.Option.{get_or_from_slice_get, slice_get-get_or, slice_get_within}
use Rattle.world_commands.specs.States.{HasState}

-- what was taken out at a place, and is put in again in another state
pub back_at : {X : Type 0} (items : List X) (number : ℕ) (state : X) → number < length items → insert (remove items number) number state ≡ set items number state
back_at [] number state inside = absurd (omega (arith, inside))
back_at (first ∷ items) zero state inside = refl
back_at {X = X} (first ∷ items) (suc before) state inside = ap (λ (l : List X). first ∷ l) (back_at items before state (omega (arith, inside)))

-- what stands at the place that was set
pub here_at : {X : Type 0} (items : List X) (number : ℕ) (new state : X) → slice_get (set items number new) number ≡ Some state → new ≡ state
here_at items number new state is =
    let inside : number < length items = omega (arith, slice_get_within (set items number new) number state is, length-set items number new) in
    sym (get_or-set_same items number new state inside) ∙ get_or_from_slice_get (set items number new) number state state is

-- and at any other place
pub other_at : {X : Type 0} (items : List X) (number other : ℕ) (new state : X) → other ≢ number → slice_get (set items number new) other ≡ Some state → slice_get items other ≡ Some state
other_at {X = X} items number other new state differs is =
    let inside : other < length items = omega (arith, slice_get_within (set items number new) other state is, length-set items number new) in
    let was : get_or items other state ≡ state = sym (get_or-set_other items number other new state differs) ∙ get_or_from_slice_get (set items number new) other state state is in
    slice_get-get_or items other state inside ∙ ap (λ (s : X). Some s) was

-- what stands at any other place is what stood there
pub elsewhere_at : {X : Type 0} (items : List X) (number other : ℕ) (new : X) → other ≢ number → slice_get (set items number new) other ≡ slice_get items other
elsewhere_at [] number other new differs = refl
elsewhere_at (first ∷ items) zero zero new differs = absurd (differs refl)
elsewhere_at (first ∷ items) zero (suc other) new differs = refl
elsewhere_at (first ∷ items) (suc number) zero new differs = refl
elsewhere_at (first ∷ items) (suc number) (suc other) new differs = elsewhere_at items number other new (λ same. differs (ap suc same))

-- what was set stands in a place that there was
pub set_here : {X : Type 0} (items : List X) (number : ℕ) (was new : X) → slice_get items number ≡ Some was → slice_get (set items number new) number ≡ Some new
set_here [] number was new at = absurd (cc at)
set_here (first ∷ items) zero was new at = refl
set_here (first ∷ items) (suc before) was new at = set_here items before was new at

-- a state that is known is written in its place again
pub set_again : {X : Type 0} (items : List X) (number : ℕ) (state : X) → HasState items number state → set items number state ≡ items
set_again {X = X} items number state at = ap (λ (s : X). set items number s) (sym (get_or_from_slice_get items number state state at)) ∙ set-get_or items number state

-- what was read is written back
pub read_back : {X : Type 0} (items : List X) (place : ℕ) (read : X) → read ≡ get_or items place read → set items place read ≡ items
read_back {X = X} items place read is = ap (λ (s : X). set items place s) is ∙ set-get_or items place read

-- the state that was read at a place
pub place_read : {X : Type 0} (items : List X) (number place : ℕ) (read state : X) → place ≡ number → number < length items → read ≡ get_or items place read → read ≡ state → HasState items number state
place_read {X = X} items number place read state at inside is same =
    slice_get-get_or items number read inside ∙ ap (λ (s : X). Some s) (sym (is ∙ ap (λ (k : ℕ). get_or items k read) at) ∙ same)
