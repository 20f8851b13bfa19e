-- What contracts see of a graph by numbers, and when a cut fits into it. `Graph::prepare` and `Graph::apply` cite it, and so
-- does the model of `Graph`.
use Rattle.std.specs.Prelude.{ℕ, ◌≤◌, List, [], ◌∷◌, map, vec_len}
use Rattle.std.specs.declared.cmp.Ordering.{Ordering}
use Rattle.std.specs.declared.cmp.Ordering.TheVariants.{Less, Equal, Greater}
use Rattle.tree_clock.specs.Lists.{Has}
use Rattle.mld_ops.specs.declared.cuts.Cut.{Cut}
use Rattle.mld_ops.specs.declared.pair_lists.PairRow.{PairRow}
use Rattle.mld_ops.specs.declared.tagged.Tagged.{Tagged}
use Rattle.mld_ops.specs.PairLists.{row_pair}
use Rattle.mld_ops.specs.Tagged.{tagged_cmp}
use Rattle.pair_orders.specs.declared.keys.Numbers.{Numbers}
use Rattle.graph_index.specs.TermNumbers.{TablesValue, IsNumbered}

-- its pairs, as an ascending list; its room, and what has a number, of which `Fits` alone speaks
pub record GraphValue : Type 0 where
  pub pairs : List Tagged
  pub room : ℕ
  pub tables : TablesValue

-- what the cut adds can come into the graph without memory: there is room, and all of it has numbers
pub record Fits (cut : Cut) (graph : GraphValue) : Type 0 where
  pub adds : vec_len cut.adds ≤ graph.room
  pub numbered : (pair : Tagged) → Has cut.adds.items pair → IsNumbered graph.tables pair

-- where a pair goes by how it compares with the first of a list: in front, to it, or behind it
abbrev pub put_by : Ordering → List Tagged → List Tagged → List Tagged → List Tagged
put_by Less front same behind = front
put_by Equal front same behind = same
put_by Greater front same behind = behind

-- an ascending list with one more pair
abbrev pub with_pair : Tagged → List Tagged → List Tagged
with_pair pair [] = pair ∷ []
with_pair pair (first ∷ rest) = put_by (tagged_cmp pair first) (pair ∷ first ∷ rest) (first ∷ rest) (first ∷ with_pair pair rest)

-- pairs in order, each once
abbrev pub in_order_of : List Tagged → List Tagged
in_order_of [] = []
in_order_of (pair ∷ pairs) = with_pair pair (in_order_of pairs)

-- the pair of a row that stands with its numbers
abbrev pub entry_pair : List (List ℕ) → Numbers × PairRow → Tagged
entry_pair paths entry = row_pair paths entry.1

-- the pairs of such rows
abbrev pub pairs_of : List (List ℕ) → List (Numbers × PairRow) → List Tagged
pairs_of paths entries = map (entry_pair paths) entries
