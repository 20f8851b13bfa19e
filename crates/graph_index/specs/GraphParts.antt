-- What contracts see of the parts of a graph, which stand in an array of one. The model of `Graph` cites it, and so does its private
-- look at them.
use Rattle.std.specs.Prelude.{List, [], ◌∷◌}
use Rattle.graph_index.specs.Graphs.{GraphValue, in_order_of, pairs_of}
use Rattle.graph_index.specs.TermNumbers.{HaveOwnNumbers}
use Rattle.graph_index.specs.declared.parts.Parts.{Parts}

-- the value of a graph of these parts
abbrev pub graph_parts : Parts → GraphValue
graph_parts parts = record { pairs = in_order_of (pairs_of parts.tables.paths parts.numbered.pairs); room = parts.numbered.room; tables = parts.tables }

-- the same, of the first of a list of parts; where there is none, it has no pair
abbrev pub graph_value : List Parts → GraphValue
graph_value [] = record { pairs = []; room = 0; tables = record { terms = []; paths = [] } }
graph_value (parts ∷ _) = graph_parts parts

-- there are parts, and each pair has its own numbers
abbrev pub AreParts : List Parts → Type 0
AreParts [] = ⊥
AreParts (parts ∷ _) = HaveOwnNumbers parts.tables parts.numbered.pairs
