-- Laws of the dots that a clone knows.
use Rattle.std.proofs.Common.{◌≡◌, [], ◌∷◌, ◌++◌, ◌⊎◌, sym, append_assoc}
use Rattle.tree_clock.specs.declared.dots.Dot.{Dot}
use Rattle.tree_clock.specs.declared.dots.Range.{Range}
use Rattle.tree_clock.specs.Dot.{IsIn, Knows}
use Rattle.mld_ops.proofs.OperationLaws.{knows_more, knows_still, knows_last}
use Rattle.mld_model.specs.Clone.{Stored, known_of, with_range}

-- what a clone knows with one more range in its journal
pub known_with : (stored : Stored) (range : Range) → known_of (with_range stored range) ≡ known_of stored ++ range ∷ []
known_with stored range = sym (append_assoc stored.base stored.journal (range ∷ []))

-- what it knew it still knows
pub known_with-old : (stored : Stored) (range : Range) (dot : Dot) → Knows (known_of stored) dot → Knows (known_of (with_range stored range)) dot
known_with-old stored range dot h = rw known_with (knows_still (known_of stored) range dot h)

-- it knows the dots of the range
pub known_with-new : (stored : Stored) (range : Range) (dot : Dot) → IsIn range dot → Knows (known_of (with_range stored range)) dot
known_with-new stored range dot h = rw known_with (knows_last (known_of stored) range dot h)

-- and it knows no others
pub known_with-split : (stored : Stored) (range : Range) (dot : Dot) → Knows (known_of (with_range stored range)) dot
    → Knows (known_of stored) dot ⊎ IsIn range dot
known_with-split stored range dot h = knows_more (known_of stored) range dot (rw known_with at h)
