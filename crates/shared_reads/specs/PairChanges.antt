-- The pairs after changes. The clauses of seats and of publishers cite it.
use Rattle.std.specs.Prelude.{List, ◌++◌, Bool, not, fold, filter}
use Rattle.std.specs.List.{list_any}
use Rattle.mld_ops.specs.declared.tagged.Tagged.{Tagged}
use Rattle.mld_ops.specs.EffectEquality.{same_pair}
use Rattle.graph_index.specs.Graphs.{in_order_of}
use Rattle.shared_reads.specs.declared.marks.Change.{Change}
use Rattle.shared_reads.specs.declared.marks.Mark.{Mark}
use Rattle.shared_reads.specs.declared.marks.Mark.TheVariants.{Changed, Ended}

-- the pair is one of the list
abbrev pub is_among_pairs : List Tagged → Tagged → Bool
is_among_pairs pairs pair = list_any (λ other. same_pair other pair) pairs

-- the pairs after one change: those before it that it doesn't drop, and those that it adds, in order and each once
abbrev pub after : List Tagged → Change → List Tagged
after pairs change = in_order_of (filter (λ pair. not (is_among_pairs change.drops pair)) pairs ++ change.adds)

-- the pairs after a list of changes
abbrev pub pairs_after : List Tagged → List Change → List Tagged
pairs_after opening changes = fold after opening changes

-- and after a mark: the end mark leaves them as they are
abbrev pub after_mark : List Tagged → Mark → List Tagged
after_mark pairs (Changed change) = after pairs change
after_mark pairs Ended = pairs
