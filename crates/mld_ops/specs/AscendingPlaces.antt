-- Places in an ascending list of pairs.
use Rattle.std.specs.Prelude.{◌≡◌, ℕ, List, take}
use Rattle.std.specs.declared.cmp.Ordering.TheVariants.{Less}
use Rattle.tree_clock.specs.Lists.{Has}
use Rattle.mld_ops.specs.Tagged.{tagged_cmp}
use Rattle.mld_ops.specs.declared.tagged.Tagged.{Tagged}

-- each pair of the list before a place is below a pair
abbrev pub AreBelow : List Tagged → ℕ → Tagged → Type 0
AreBelow pairs place pair = (other : Tagged) → Has (take place pairs) other → tagged_cmp other pair ≡ Less
