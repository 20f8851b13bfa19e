-- Trees of ticks, as the functions on them see them. A node is named by the letters that lead down to it.
-- A definition by cases reads `Left'`, `Right'` and `Fork'`, which have each `Box` in two parts: p and q are its pointer and allocator, and
-- the son is beside them. What a node and its sons give is one word for all kinds: an absent son is the empty list, or no node.
use Rattle.std.specs.Prelude.{◌≡◌, ℕ, suc, ◌<◌, ◌≤◌, List, [], ◌∷◌, ◌++◌, Option, Some, None, IsSome, unwrap_or, ◌==◌, if◌then◌else◌, max}
use Rattle.std.specs.Option.{option_map}
use Rattle.tree_clock.specs.Path.{zero_letter, one_letter}
use Rattle.tree_clock.specs.declared.trees.Tree.{Tree, Leaf, Left', Right', Fork'}
use Rattle.tree_clock.specs.declared.trees.Way.{Way}
use Rattle.tree_clock.specs.declared.trees.Way.TheVariants.{Away, Here, Zero, One}

-- what a letter picks: one at `0`, another at `1`, and the last at any other
abbrev pub by_letter : {A : Type 0} → ℕ → A → A → A → A
by_letter letter left right none = if letter == zero_letter then left else (if letter == one_letter then right else none)

-- the ticks of the node at a path, if there is such a node
abbrev pub node_at : Tree → List ℕ → Option ℕ
node_at (Leaf way ticks) [] = Some ticks
node_at (Left' way ticks p left) [] = Some ticks
node_at (Right' way ticks p right) [] = Some ticks
node_at (Fork' way ticks p left q right) [] = Some ticks
node_at (Leaf way ticks) (letter ∷ path) = by_letter letter None None None
node_at (Left' way ticks p left) (letter ∷ path) = by_letter letter (node_at left path) None None
node_at (Right' way ticks p right) (letter ∷ path) = by_letter letter None (node_at right path) None
node_at (Fork' way ticks p left q right) (letter ∷ path) = by_letter letter (node_at left path) (node_at right path) None

-- there is a node at the path
abbrev pub HasNode : Tree → List ℕ → Type 0
HasNode tree path = IsSome (node_at tree path)

-- the ticks at a path, 0 where there is no node
abbrev pub ticks_at : Tree → List ℕ → ℕ
ticks_at tree path = unwrap_or (node_at tree path) 0

-- no node has ticks
abbrev pub IsEmpty : Tree → Type 0
IsEmpty tree = (path : List ℕ) → ticks_at tree path ≡ 0

-- the node has no ticks, no son, and no own path
abbrev pub IsFresh : Tree → Type 0
IsFresh tree = tree ≡ Leaf Away 0

-- how many letters lead to the deepest node
abbrev pub height : Tree → ℕ
height (Leaf way ticks) = 0
height (Left' way ticks p left) = suc (height left)
height (Right' way ticks p right) = suc (height right)
height (Fork' way ticks p left q right) = suc (max (height left) (height right))

-- the entries, each below the path
abbrev pub under : List ℕ → List (List ℕ × ℕ) → List (List ℕ × ℕ)
under path [] = []
under path (entry ∷ entries) = (path ++ entry.0, entry.1) ∷ under path entries

-- the entry of a path, unless it has no ticks
abbrev pub entry_of : List ℕ → ℕ → List (List ℕ × ℕ)
entry_of path ticks = if ticks == 0 then [] else (path, ticks) ∷ []

-- the entry of a node, and those of its sons at `0` and at `1`
abbrev pub listed_over : ℕ → List (List ℕ × ℕ) → List (List ℕ × ℕ) → List (List ℕ × ℕ)
listed_over ticks left right = entry_of [] ticks ++ (under (zero_letter ∷ []) left ++ under (one_letter ∷ []) right)

-- the paths with their ticks, by path
abbrev pub listed : Tree → List (List ℕ × ℕ)
listed (Leaf way ticks) = listed_over ticks [] []
listed (Left' way ticks p left) = listed_over ticks (listed left) []
listed (Right' way ticks p right) = listed_over ticks [] (listed right)
listed (Fork' way ticks p left q right) = listed_over ticks (listed left) (listed right)

-- the paths, each below the letter
abbrev pub below_letter : ℕ → List (List ℕ) → List (List ℕ)
below_letter letter [] = []
below_letter letter (path ∷ paths) = (letter ∷ path) ∷ below_letter letter paths

-- the path of a node, and those of its sons at `0` and at `1`
abbrev pub nodes_over : List (List ℕ) → List (List ℕ) → List (List ℕ)
nodes_over left right = [] ∷ (below_letter zero_letter left ++ below_letter one_letter right)

-- the paths of the nodes
abbrev pub nodes : Tree → List (List ℕ)
nodes (Leaf way ticks) = nodes_over [] []
nodes (Left' way ticks p left) = nodes_over (nodes left) []
nodes (Right' way ticks p right) = nodes_over [] (nodes right)
nodes (Fork' way ticks p left q right) = nodes_over (nodes left) (nodes right)

-- the own path from a node on: none, the empty path, or a son's own path with its letter in front
abbrev pub own_by : Way → Option (List ℕ) → Option (List ℕ) → Option (List ℕ)
own_by Away left right = None
own_by Here left right = Some []
own_by Zero left right = option_map (λ path. zero_letter ∷ path) left
own_by One left right = option_map (λ path. one_letter ∷ path) right

-- the own path, if there is one
abbrev pub own_of : Tree → Option (List ℕ)
own_of (Leaf way ticks) = own_by way None None
own_of (Left' way ticks p left) = own_by way (own_of left) None
own_of (Right' way ticks p right) = own_by way None (own_of right)
own_of (Fork' way ticks p left q right) = own_by way (own_of left) (own_of right)

-- no path has more ticks in the first tree than in the second
abbrev pub IsTreeWithin : Tree → Tree → Type 0
IsTreeWithin tree other = (path : List ℕ) → ticks_at tree path ≤ ticks_at other path

-- some path has more ticks in the first tree than in the second
abbrev pub Exceeds : Tree → Tree → Type 0
Exceeds tree other = (path : List ℕ) × (ticks_at other path < ticks_at tree path)

-- no path but this one has more ticks in the first tree than in the second
abbrev pub IsWithinBut : List ℕ → Tree → Tree → Type 0
IsWithinBut but tree other = (path : List ℕ) → ¬ (path ≡ but) → ticks_at tree path ≤ ticks_at other path

-- some path but this one has more ticks in the first tree than in the second
abbrev pub ExceedsBut : List ℕ → Tree → Tree → Type 0
ExceedsBut but tree other = (path : List ℕ) × (¬ (path ≡ but)) × (ticks_at other path < ticks_at tree path)

-- a node that was there keeps its ticks, and a new one has none
abbrev pub IsKeptNode : Option ℕ → Option ℕ → Type 0
IsKeptNode None new = unwrap_or new 0 ≡ 0
IsKeptNode (Some ticks) new = new ≡ Some ticks

-- the new tree has the nodes of the old one, and perhaps some with no ticks
abbrev pub Grows : Tree → Tree → Type 0
Grows old new = (path : List ℕ) → IsKeptNode (node_at old path) (node_at new path)

-- the first tree has a node wherever the second has one
abbrev pub HasNodesOf : Tree → Tree → Type 0
HasNodesOf tree other = (path : List ℕ) → HasNode other path → HasNode tree path

-- the first tree has a node below the letter wherever the second has one
abbrev pub HasNodesBelow : ℕ → Tree → Tree → Type 0
HasNodesBelow letter tree other = (path : List ℕ) → HasNode other path → HasNode tree (letter ∷ path)

-- the ticks of a node, raised where they are fewer
abbrev pub raised_node : Option ℕ → ℕ → Option ℕ
raised_node None ticks = None
raised_node (Some own) ticks = Some (max own ticks)

-- the node at the path has at least these ticks, and nothing else changed
pub record RaisesNode (old new : Tree) (path : List ℕ) (ticks : ℕ) : Type 0 where
  pub at : node_at new path ≡ raised_node (node_at old path) ticks
  pub others : (other : List ℕ) → ¬ (other ≡ path) → node_at new other ≡ node_at old other

-- the nodes below the letter have at least these ticks, and nothing else changed
pub record RaisesBelow (letter : ℕ) (old new : Tree) (ticks : List ℕ → ℕ) : Type 0 where
  pub at : (path : List ℕ) → node_at new (letter ∷ path) ≡ raised_node (node_at old (letter ∷ path)) (ticks path)
  pub root : node_at new [] ≡ node_at old []
  pub others : (other : ℕ) (path : List ℕ) → ¬ (other ≡ letter) → node_at new (other ∷ path) ≡ node_at old (other ∷ path)
