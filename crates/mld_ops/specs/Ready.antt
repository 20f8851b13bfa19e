-- When an entry may be taken by one who has the dots of a clock (causal delivery).
use Rattle.std.specs.Prelude.{ℕ, ◌+◌, ◌≤◌, List}
use Rattle.tree_clock.specs.declared.dots.Dot.{Dot}
use Rattle.tree_clock.specs.declared.dots.Range.{Range}
use Rattle.tree_clock.specs.Dot.{IsIn}
use Rattle.tree_clock.specs.Clock.{ticks_of, Covers}
use Rattle.mld_ops.specs.Entry.{EntryValue}
use Rattle.mld_ops.specs.History.{dot_at}

-- the last dot of a range
abbrev pub last_dot : Range → Dot
last_dot range = dot_at range.path range.last

-- the entry is known: the clock has the last dot of its range
abbrev pub IsKnownEntry : List (List ℕ × ℕ) → EntryValue → Type 0
IsKnownEntry ticks entry = Covers ticks (last_dot entry.range)

-- the entry is ready: it isn't known; the clock has the tick before the first of its range, if there is one, and each dot of its
-- time outside the range
pub record IsReadyEntry (ticks : List (List ℕ × ℕ)) (entry : EntryValue) : Type 0 where
  pub unknown : ¬ IsKnownEntry ticks entry
  pub before : entry.range.first ≤ ticks_of ticks entry.range.path + 1
  pub time : (dot : Dot) → Covers entry.time dot → ¬ IsIn entry.range dot → Covers ticks dot
