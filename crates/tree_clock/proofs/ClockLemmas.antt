-- Clocks as the lists of their trees: what changes and comparisons of trees say of the lists.
use Rattle.std.proofs.Common.{◌≡◌, ◌≢◌, ℕ, ◌<◌, ◌≤◌, List, [], ◌++◌, Option, Some, None, unwrap_or, IsSome, Bool, true, false, IsTrue, MatchBool, max, ◌↔◌, Result, Ok, Err, OnErr, refl, sym, ◌∙◌, ap, subst, arith}
use Rattle.std.specs.Option.{option_map}
use Rattle.std.proofs.lemmas.Bool.{false≢true}
use Rattle.tree_clock.specs.Clock.{ticks_of, Covers, RaisesTo}
use Rattle.tree_clock.proofs.ClockLaws.{by_order, less_apart, Covers-within}
use Rattle.tree_clock.specs.Lists.{Has}
use Rattle.tree_clock.specs.Trees.{node_at, HasNode, ticks_at, listed, nodes, IsTreeWithin, Exceeds, IsWithinBut, ExceedsBut, Grows, HasNodesOf, raised_node, RaisesNode}
use Rattle.tree_clock.specs.declared.dots.Dot.{Dot}
use Rattle.tree_clock.specs.declared.trees.Tree.{Tree}
use Rattle.tree_clock.proofs.TreeLemmas.{ticks_of-listed, listed-same, Has-nodes, HasNode-from_nodes, HasNode-from_ticks, HasNode-grown, ticks_at-grown}

-- ---- nodes

-- a path with ticks has a node
pub Has-from_ticks : (tree : Tree) (path : List ℕ) → 1 ≤ ticks_of (listed tree) path → Has (nodes tree) path
Has-from_ticks tree path h =
    let e = ticks_of-listed tree path in
    Has-nodes tree path (HasNode-from_ticks tree path (omega arith))

-- nodes that are kept are kept in the lists
pub Has-kept : (old new : Tree) → ((path : List ℕ) → HasNode old path → HasNode new path) → (path : List ℕ) → Has (nodes old) path → Has (nodes new) path
Has-kept old new f path h = Has-nodes new path (f path (HasNode-from_nodes old path h))

-- a tree that grew has the nodes of the old one
pub Has-grown : (old new : Tree) → Grows old new → (path : List ℕ) → Has (nodes old) path → Has (nodes new) path
Has-grown old new h = Has-kept old new (λ path k. HasNode-grown old new path h k)

IsSome-raised : (node : Option ℕ) (ticks : ℕ) → IsSome node → IsSome (raised_node node ticks)
IsSome-raised None ticks h = h
IsSome-raised (Some own) ticks h = refl

-- a raise keeps the nodes
pub HasNode-raised : (old new : Tree) (path : List ℕ) (ticks : ℕ) → RaisesNode old new path ticks → (other : List ℕ) → HasNode old other → HasNode new other
HasNode-raised old new path ticks r other h =
    let away : ¬ (other ≡ path) → HasNode new other = λ n. subst (λ (o : Option ℕ). IsSome o) (sym (r.others other n)) h in
    by_order other path
    (λ l. away (less_apart other path l))
    (λ e. subst (λ p. HasNode new p) (sym e) (subst (λ (o : Option ℕ). IsSome o) (sym r.at) (IsSome-raised (node_at old path) ticks (subst (λ p. HasNode old p) e h))))
    (λ l. away (λ s. less_apart path other l (sym s)))

-- a merge keeps the nodes
pub HasNode-merged : (old new from : Tree) → ((path : List ℕ) → node_at new path ≡ raised_node (node_at old path) (ticks_at from path)) → (path : List ℕ) → HasNode old path → HasNode new path
HasNode-merged old new from f path h =
    subst (λ (o : Option ℕ). IsSome o) (sym (f path)) (IsSome-raised (node_at old path) (ticks_at from path) h)

-- ---- ticks

-- a tree that grew lists the same ticks
pub listed-grown : (old new : Tree) → Grows old new → listed new ≡ listed old
listed-grown old new h = listed-same new old (λ path. ticks_at-grown old new path h)

ticks-raised : (node : Option ℕ) (ticks : ℕ) → IsSome node → unwrap_or (raised_node node ticks) 0 ≡ max (unwrap_or node 0) ticks
ticks-raised None ticks h = absurd (false≢true h)
ticks-raised (Some own) ticks h = refl

-- a raise of a node is a raise of the list
pub RaisesTo-listed : (old new : Tree) (dot : Dot) → HasNode old dot.path → RaisesNode old new dot.path dot.tick → RaisesTo (listed old) (listed new) dot
RaisesTo-listed old new dot h r = record {
  at =
      ticks_of-listed new dot.path
      ∙ ap (λ o. unwrap_or o 0) r.at
      ∙ ticks-raised (node_at old dot.path) dot.tick h
      ∙ ap (λ n. max n dot.tick) (sym (ticks_of-listed old dot.path));
  others = λ path n. ticks_of-listed new path ∙ ap (λ o. unwrap_or o 0) (r.others path n) ∙ sym (ticks_of-listed old path);
}

ticks-merged : (node from : Option ℕ) → (IsSome from → IsSome node) → unwrap_or (raised_node node (unwrap_or from 0)) 0 ≡ max (unwrap_or node 0) (unwrap_or from 0)
ticks-merged None None f = omega arith
ticks-merged None (Some ticks) f = absurd (false≢true (f refl))
ticks-merged (Some own) from f = refl

-- a merge takes the greater ticks at each path
pub ticks_of-merged : (old mid new from : Tree) → Grows old mid → HasNodesOf mid from → ((path : List ℕ) → node_at new path ≡ raised_node (node_at mid path) (ticks_at from path)) → (path : List ℕ) → ticks_of (listed new) path ≡ max (ticks_of (listed old) path) (ticks_of (listed from) path)
ticks_of-merged old mid new from g h f path =
    ticks_of-listed new path
    ∙ ap (λ o. unwrap_or o 0) (f path)
    ∙ ticks-merged (node_at mid path) (node_at from path) (h path)
    ∙ (λ i. max (ticks_at-grown old mid path g i) (ticks_at from path))
    ∙ (λ i. max (sym (ticks_of-listed old path) i) (sym (ticks_of-listed from path) i))

-- the own path with its ticks, as the tree and as the list give it
pub own_listed : (tree : Tree) (own : Option (List ℕ)) → option_map {U = Dot} (λ rest. record { path = [] ++ rest; tick = ticks_at tree rest }) own ≡ option_map {U = Dot} (λ path. record { path = path; tick = ticks_of (listed tree) path }) own
own_listed tree None = refl
own_listed tree (Some path) = λ i. Some (record { path = path; tick = sym (ticks_of-listed tree path) i })

-- what holds, holds after an error
pub on_err_always : {T E P : Type 0} (r : Result T E) → P → OnErr r P
on_err_always (Ok x) p = tt
on_err_always (Err e) p = p

-- ---- comparisons

-- a comparison of trees is one of the lists
pub paths_listed : (r : Bool) (a b : Tree) → MatchBool r (IsTreeWithin a b) (Exceeds a b) → MatchBool r ((path : List ℕ) → ticks_of (listed a) path ≤ ticks_of (listed b) path) ((path : List ℕ) × (ticks_of (listed b) path < ticks_of (listed a) path))
paths_listed true a b h = λ path.
    let e = ticks_of-listed a path in let f = ticks_of-listed b path in let k = h path in omega arith
paths_listed false a b h =
    let e = ticks_of-listed a h.0 in let f = ticks_of-listed b h.0 in let k = h.1 in (h.0, omega arith)

-- no more ticks at any path is no more dots
pub dots_listed : (r : Bool) (xs ys : List (List ℕ × ℕ)) → MatchBool r ((path : List ℕ) → ticks_of xs path ≤ ticks_of ys path) ((path : List ℕ) × (ticks_of ys path < ticks_of xs path)) → IsTrue r ↔ ((dot : Dot) → Covers xs dot → Covers ys dot)
dots_listed true xs ys h = (λ _. (Covers-within xs ys).0 h, λ _. refl)
dots_listed false xs ys h =
    (λ f. absurd (false≢true f), λ all. let less = (Covers-within xs ys).1 all h.0 in let more = h.1 in absurd (omega arith))

-- the same of the dots at other paths than one
pub dots_elsewhere : (r : Bool) (but : List ℕ) (a b : Tree) → MatchBool r (IsWithinBut but a b) (ExceedsBut but a b) → IsTrue r ↔ ((dot : Dot) → dot.path ≢ but → Covers (listed a) dot → Covers (listed b) dot)
dots_elsewhere true but a b h = (
  λ _ dot n c.
      let e = ticks_of-listed a dot.path in
      let f = ticks_of-listed b dot.path in
      let k = h dot.path n in
      let w = c.within in record { positive = c.positive; within = omega arith },
  λ _. refl,
)
dots_elsewhere false but a b h = (
  λ f. absurd (false≢true f),
  λ all.
      let e = ticks_of-listed a h.0 in
      let f = ticks_of-listed b h.0 in
      let more = h.2 in
      let ticks = ticks_at a h.0 in
      let c = all (record { path = h.0; tick = ticks }) h.1 (record { positive = omega arith; within = omega arith }) in
      let w = c.within in absurd (omega arith),
)
