-- Entries that wait until what they rest on is known, in order of arrival (causal delivery).
use Rattle.std.specs.Prelude.{◌≡◌, ◌<◌, List, [], ◌∷◌, ◌++◌, length}
use Rattle.mld_ops.specs.Entry.{EntryValue}
use Rattle.mld_ops.specs.Held.{held_limit, ranges_of}
use Rattle.tree_clock.specs.Lists.{Has}
use Rattle.tree_clock.specs.declared.dots.Range.{Range}

-- some entry has this very range
abbrev pub IsHeldRange : List EntryValue → Range → Type 0
IsHeldRange held range = Has (ranges_of held) range

-- no entry has this range, and as many are held as may be
pub record HasNoRoomFor (held : List EntryValue) (range : Range) : Type 0 where
  pub unheld : ¬ IsHeldRange held range
  pub full : length held ≡ held_limit

-- no entry had the range of this one, there was room for it, and it comes behind the others
pub record IsAddedTo (old new : List EntryValue) (entry : EntryValue) : Type 0 where
  pub unheld : ¬ IsHeldRange old entry.range
  pub room : length old < held_limit
  pub behind : new ≡ old ++ entry ∷ []
