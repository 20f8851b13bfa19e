-- Entries that are held back until what they rest on comes (causal delivery).
use Rattle.std.specs.Prelude.{ℕ, List, map}
use Rattle.tree_clock.specs.declared.dots.Range.{Range}
use Rattle.mld_ops.specs.Entry.{EntryValue}

-- how many are held back at most
abbrev pub held_limit : ℕ
held_limit = 4096

-- the ranges of entries, in order
abbrev pub ranges_of : List EntryValue → List Range
ranges_of entries = map (λ entry. entry.range) entries
