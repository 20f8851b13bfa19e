-- Changes of sets of pairs, and a set's pairs of a range.
use Rattle.std.specs.Prelude.{List, ◌⊎◌, ◌↔◌}
use Rattle.tree_clock.specs.declared.dots.Range.{Range}
use Rattle.tree_clock.specs.Dot.{IsIn}
use Rattle.tree_clock.specs.Lists.{Has, IsAscending}
use Rattle.mld_ops.specs.declared.tagged.Tagged.{Tagged}
use Rattle.mld_ops.specs.Tagged.{tagged_cmp}

-- the old pairs lose the dropped ones, and then gain the added ones; each pair stands once
pub record Applies (drops adds old new : List Tagged) : Type 0 where
  pub ascending : IsAscending tagged_cmp new
  pub members : (pair : Tagged) → Has new pair ↔ ((Has old pair × ¬ Has drops pair) ⊎ Has adds pair)

-- those of the pairs whose dot is one of the range, ascending
pub record IsOfRange (range : Range) (pairs found : List Tagged) : Type 0 where
  pub ascending : IsAscending tagged_cmp found
  pub members : (pair : Tagged) → Has found pair ↔ (Has pairs pair × IsIn range pair.dot)
