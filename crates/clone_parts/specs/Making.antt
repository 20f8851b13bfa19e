-- The entry of an operation of the clone's own. `entry_of_effect` cites it, and `make` of `clone_core`, which is private.
use Rattle.std.specs.Prelude.{◌≡◌, ℕ, ◌+◌, List}
use Rattle.tree_clock.specs.declared.dots.Dot.{Dot}
use Rattle.tree_clock.specs.Clock.{ticks_of, RaisesTo}
use Rattle.mld_ops.specs.Effect.{range_of}
use Rattle.mld_ops.specs.Effects.{EffectValue, MayMake, effect_entry}
use Rattle.mld_ops.specs.Entry.{EntryValue}

-- the entry is of the next dot of the clock at the path, behind all dots of the clock
pub record IsNextEntry (ticks : List (List ℕ × ℕ)) (dot : Dot) (entry : EntryValue) : Type 0 where
  pub tick : dot.tick ≡ ticks_of ticks dot.path + 1
  pub range : entry.range ≡ range_of dot
  pub time : RaisesTo ticks entry.time dot

-- the entry carries the effect at the dot, which is the next one of the clock, behind all dots of the clock
pub record IsEntryOf (ticks : List (List ℕ × ℕ)) (dot : Dot) (effect : EffectValue) (entry : EntryValue) : Type 0 where
  pub may : MayMake ticks dot effect
  pub time : RaisesTo ticks entry.time dot
  pub carries : entry ≡ effect_entry dot entry.time effect
