-- Lists in an order in which elements may stand several times. The private calls that put rows in and take rows out cite it.
use Rattle.std.specs.Prelude.{◌≡◌, ℕ, ◌≤◌, List, [], ◌∷◌, ◌++◌, ◌⊎◌, false, length, drop, take, Option}
use Rattle.std.specs.Cmp.Lexicographic.{slice_cmp}
use Rattle.std.specs.List.{AllByRecursion}
use Rattle.std.specs.Ordering.{is_lt}
use Rattle.std.specs.declared.cmp.Ordering.{Ordering}
use Rattle.std.specs.declared.cmp.Ordering.TheVariants.{Less}
use Rattle.rdf_terms.specs.declared.terms.Term.{Term}
use Rattle.jrql_ast.specs.QueryAnswers.{reply_place_cmp}

-- the order of rows in replies
abbrev pub row_order : List (Option Term) → List (Option Term) → Ordering
row_order = slice_cmp reply_place_cmp

-- the first isn't above the second
abbrev pub IsUpto : {X : Type 0} → (X → X → Ordering) → X → X → Type 0
IsUpto order x y = is_lt (order y x) ≡ false

-- no element is above one behind it
abbrev pub IsRising : {X : Type 0} → (X → X → Ordering) → List X → Type 0
IsRising order [] = Unit {0}
IsRising order (x ∷ xs) = AllByRecursion (IsUpto order x) xs × IsRising order xs

-- what is below an element goes from the front of one list behind another
pub record SkipsTo {X : Type 0} (order : X → X → Ordering) (element : X) (rest kept others behind : List X) : Type 0 where
  pub moved : List X
  pub whole : rest ≡ moved ++ others
  pub behind_is : behind ≡ kept ++ moved
  pub below : AllByRecursion (λ other. order other element ≡ Less) moved
  pub not_below : AllByRecursion (IsUpto order element) others

-- so many elements at the front of a list are below an element, and the others aren't
pub record IsRowPlace {X : Type 0} (order : X → X → Ordering) (element : X) (list : List X) (place : ℕ) : Type 0 where
  pub within : place ≤ length list
  pub below : AllByRecursion (λ other. order other element ≡ Less) (take place list)
  pub not_below : AllByRecursion (IsUpto order element) (drop place list)

-- the first of a list is left out where it is the element
abbrev pub LeavesOut : {X : Type 0} → X → List X → List X → Type 0
LeavesOut element [] left = left ≡ []
LeavesOut element (first ∷ list) left = ((first ≡ element) × (left ≡ list)) ⊎ ((first ≡ element → ⊥) × (left ≡ first ∷ list))
