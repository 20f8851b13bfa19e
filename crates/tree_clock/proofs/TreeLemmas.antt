-- Trees of ticks: what a change of a son, or of both, says of the whole tree, and the lists of a tree's ticks and nodes.
use Rattle.std.proofs.Common.{◌≡◌, ◌≢◌, ℕ, zero, suc, ◌+◌, ◌<◌, ◌≤◌, List, [], ◌∷◌, ◌++◌, ◌⊎◌, ◌↔◌, Bool, true, false, not, IsTrue, MatchBool, cond, ◌==◌, if◌then◌else◌, Option, Some, None, unwrap_or, IsSome, length, length-append, drop, slice_index, nat_eq, append_assoc, refl, sym, ◌∙◌, ap, subst, inl, inr, ⊎_elim, arith}
use Rattle.std.specs.Cmp.{tied_itself}
use Rattle.std.specs.Cmp.Lexicographic.{pointwise}
use Rattle.std.specs.List.{AllByRecursion}
use Rattle.std.proofs.lemmas.Bool.{cases_eq, ne_eqb, eq-eqb, false≢true}
use Rattle.std.proofs.lemmas.Cmp.{nat_cmp_total}
use Rattle.std.proofs.lemmas.List.{drop_more, append-nil}
use Rattle.tree_clock.specs.Clock.{ticks_of, entry_cmp, IsClock}
use Rattle.tree_clock.proofs.ClockLaws.{ticks_of-tail, clock_from_ticks}
use Rattle.tree_clock.specs.Lists.{Has, IsBelowAll, IsAscending}
use Rattle.tree_clock.specs.Path.{path_cmp, zero_letter, one_letter}
use Rattle.tree_clock.specs.declared.trees.Tree.{Tree, Leaf, Left', Right', Fork'}
use Rattle.tree_clock.specs.declared.trees.Way.{Way}
use Rattle.tree_clock.specs.Trees.{by_letter, node_at, HasNode, ticks_at, under, entry_of, listed_over, listed, below_letter, nodes_over, nodes, IsKeptNode, Grows, HasNodesOf, HasNodesBelow, RaisesNode, IsTreeWithin, IsWithinBut, ExceedsBut}

-- ---- paths

-- the letter at a place leads the rest
pub drop_letter : (path : List ℕ) (i letter : ℕ) → i < length path → slice_index path i ≡ letter → drop i path ≡ letter ∷ drop (i + 1) path
drop_letter path i letter h e = drop_more path i 0 h ∙ ap (λ x. x ∷ drop (i + 1) path) e

-- what holds of the root, of paths below both letters, and where another letter leads, holds of each path
pub at_letters : (P : List ℕ → Type 0) → P [] → ((path : List ℕ) → P (zero_letter ∷ path)) → ((path : List ℕ) → P (one_letter ∷ path)) → ((letter : ℕ) (path : List ℕ) → letter ≢ zero_letter → letter ≢ one_letter → P (letter ∷ path)) → (path : List ℕ) → P path
at_letters P root low high other [] = root
at_letters P root low high other (letter ∷ path) =
    ⊎_elim
    (λ e. subst (λ x. P (x ∷ path)) (sym e) (low path))
    (λ n. ⊎_elim
    (λ e. subst (λ x. P (x ∷ path)) (sym e) (high path))
    (λ m. other letter path n m)
    (cases_eq letter one_letter))
    (cases_eq letter zero_letter)

-- another letter picks nothing
pub by_letter-none : {A : Type 0} (letter : ℕ) (left right none : A) → letter ≢ zero_letter → letter ≢ one_letter → by_letter letter left right none ≡ none
by_letter-none letter left right none n m = rw (ne_eqb letter zero_letter n, ne_eqb letter one_letter m) refl

-- another letter leads to no node
pub node_at-none : (tree : Tree) (letter : ℕ) (path : List ℕ) → letter ≢ zero_letter → letter ≢ one_letter → node_at tree (letter ∷ path) ≡ None
node_at-none (Leaf way ticks) letter path n m = by_letter-none letter None None None n m
node_at-none (Left' way ticks p left) letter path n m = by_letter-none letter (node_at left path) None None n m
node_at-none (Right' way ticks p right) letter path n m = by_letter-none letter None (node_at right path) None n m
node_at-none (Fork' way ticks p left q right) letter path n m = by_letter-none letter (node_at left path) (node_at right path) None n m

-- ---- growth

-- what grows keeps each path's ticks
pub ticks_at-grown : (old new : Tree) (path : List ℕ) → Grows old new → ticks_at new path ≡ ticks_at old path
ticks_at-grown old new path h = by (node_at old path) (node_at new path) (h path)
  where
    by : (a b : Option ℕ) → IsKeptNode a b → unwrap_or b 0 ≡ unwrap_or a 0
    by None b k = k
    by (Some ticks) b k = ap (λ o. unwrap_or o 0) k

-- what grows keeps each node
pub HasNode-grown : (old new : Tree) (path : List ℕ) → Grows old new → HasNode old path → HasNode new path
HasNode-grown old new path h = by (node_at old path) (node_at new path) (h path)
  where
    by : (a b : Option ℕ) → IsKeptNode a b → IsSome a → IsSome b
    by None b k n = absurd (false≢true n)
    by (Some ticks) b k n = subst (λ (o : Option ℕ). IsSome o) (sym k) n

-- there is a node at the root
pub HasNode-root : (tree : Tree) → HasNode tree []
HasNode-root (Leaf way ticks) = refl
HasNode-root (Left' way ticks p left) = refl
HasNode-root (Right' way ticks p right) = refl
HasNode-root (Fork' way ticks p left q right) = refl

front : (letter : ℕ) (low high low' high' : Option ℕ) → (IsSome low → IsSome low') → (IsSome high → IsSome high') → IsSome (by_letter letter low high None) → IsSome (by_letter letter low' high' None)
front letter low high low' high' f g h =
    ⊎_elim
    (λ (e : letter ≡ zero_letter). subst (λ x. IsSome (by_letter x low' high' None)) (sym e) (f (subst (λ x. IsSome (by_letter x low high None)) e h)))
    (λ (n : letter ≢ zero_letter).
    ⊎_elim
    (λ (e : letter ≡ one_letter). subst (λ x. IsSome (by_letter x low' high' None)) (sym e) (g (subst (λ x. IsSome (by_letter x low high None)) e h)))
    (λ (m : letter ≢ one_letter). absurd (false≢true (subst (λ (o : Option ℕ). IsSome o) (by_letter-none letter low high None n m) h)))
    (cases_eq letter one_letter))
    (cases_eq letter zero_letter)

-- a node below a letter is below a son there
pub HasNode-front : (tree : Tree) (letter : ℕ) (path : List ℕ) → HasNode tree (letter ∷ path) → HasNode tree (letter ∷ [])
HasNode-front (Leaf way ticks) letter path h = h
HasNode-front (Left' way ticks p left) letter path h = front letter (node_at left path) None (node_at left []) None (λ k. HasNode-root left) (λ k. k) h
HasNode-front (Right' way ticks p right) letter path h = front letter None (node_at right path) None (node_at right []) (λ k. k) (λ k. HasNode-root right) h
HasNode-front (Fork' way ticks p left q right) letter path h =
    front letter (node_at left path) (node_at right path) (node_at left []) (node_at right []) (λ k. HasNode-root left) (λ k. HasNode-root right) h

-- ---- nodes of one tree in another

-- a tree has the nodes of another where it has those below both letters
pub HasNodesOf-letters : (tree other : Tree) → ((path : List ℕ) → HasNode other (zero_letter ∷ path) → HasNode tree (zero_letter ∷ path)) → ((path : List ℕ) → HasNode other (one_letter ∷ path) → HasNode tree (one_letter ∷ path)) → HasNodesOf tree other
HasNodesOf-letters tree other low high =
    at_letters
    (λ path. HasNode other path → HasNode tree path)
    (λ h. HasNode-root tree)
    low
    high
    (λ letter path n m h. absurd (false≢true (subst (λ (o : Option ℕ). IsSome o) (node_at-none other letter path n m) h)))

-- a node with no son has the root alone
pub HasNodesOf-Leaf : (tree : Tree) (way : Way) (ticks : ℕ) → HasNodesOf tree (Leaf way ticks)
HasNodesOf-Leaf tree way ticks =
    HasNodesOf-letters tree (Leaf way ticks) (λ path h. absurd (false≢true h)) (λ path h. absurd (false≢true h))

-- growth keeps them
pub HasNodesBelow-grown : (letter : ℕ) (old new other : Tree) → Grows old new → HasNodesBelow letter old other → HasNodesBelow letter new other
HasNodesBelow-grown letter old new other g h = λ path k. HasNode-grown old new (letter ∷ path) g (h path k)

-- a raise at the root keeps each node
pub HasNodesOf-raised : (old new tree : Tree) (ticks : ℕ) → RaisesNode old new [] ticks → HasNodesOf old tree → HasNodesOf new tree
HasNodesOf-raised old new tree ticks r f [] h = HasNode-root new
HasNodesOf-raised old new tree ticks r f (letter ∷ path) h =
    subst (λ (o : Option ℕ). IsSome o) (sym (r.others (letter ∷ path) (λ e. cc))) (f (letter ∷ path) h)

-- a tree that has the nodes of another below a letter has a son there
pub HasNodesBelow-son : (letter : ℕ) (tree other : Tree) → HasNodesBelow letter tree other → HasNode tree (letter ∷ [])
HasNodesBelow-son letter tree other h = h [] (HasNode-root other)

-- ---- sons

-- a node with a son at `0` alone has one at a letter where the letter is `0`; one with both has one at either
pub son_of_left : (one : Bool) (left : Tree) → IsTrue (not one) ↔ IsSome (by_letter (if one then one_letter else zero_letter) (node_at left []) None None)
son_of_left true left = (λ h. absurd (false≢true h), λ h. absurd (false≢true h))
son_of_left false left = (λ h. HasNode-root left, λ h. refl)

pub son_of_right : (one : Bool) (right : Tree) → IsTrue one ↔ IsSome (by_letter (if one then one_letter else zero_letter) None (node_at right []) None)
son_of_right true right = (λ h. HasNode-root right, λ h. refl)
son_of_right false right = (λ h. absurd (false≢true h), λ h. absurd (false≢true h))

pub son_of_fork : (one : Bool) (left right : Tree) → IsSome (by_letter (if one then one_letter else zero_letter) (node_at left []) (node_at right []) None)
son_of_fork true left right = HasNode-root right
son_of_fork false left right = HasNode-root left

-- ---- comparisons

-- no path but one has more ticks: not the root, none below the other letter, and but the rest of that one none below its letter
pub IsWithinBut-sons : (one r : Bool) (a b low high here there : Tree) (path : List ℕ)
    → ticks_at a [] ≤ ticks_at b []
    → ((rest : List ℕ) → ticks_at low rest ≡ ticks_at a ((if not one then one_letter else zero_letter) ∷ rest))
    → ((rest : List ℕ) → ticks_at high rest ≡ ticks_at b ((if not one then one_letter else zero_letter) ∷ rest))
    → IsTreeWithin low high
    → ((rest : List ℕ) → ticks_at here rest ≡ ticks_at a ((if one then one_letter else zero_letter) ∷ rest))
    → ((rest : List ℕ) → ticks_at there rest ≡ ticks_at b ((if one then one_letter else zero_letter) ∷ rest))
    → MatchBool r (IsWithinBut path here there) (ExceedsBut path here there)
    → MatchBool r (IsWithinBut ((if one then one_letter else zero_letter) ∷ path) a b) (ExceedsBut ((if one then one_letter else zero_letter) ∷ path) a b)
IsWithinBut-sons true true a b low high here there path root f g within k l but =
    at_letters
    (λ place. ¬ (place ≡ one_letter ∷ path) → ticks_at a place ≤ ticks_at b place)
    (λ n. root)
    (λ rest n. let x = f rest in let y = g rest in let z = within rest in omega arith)
    (λ rest n. let x = k rest in let y = l rest in let z = but rest (λ e. n (ap (λ xs. one_letter ∷ xs) e)) in omega arith)
    (λ letter rest n m _. let x = ap (λ o. unwrap_or o 0) (node_at-none a letter rest n m) in omega arith)
IsWithinBut-sons false true a b low high here there path root f g within k l but =
    at_letters
    (λ place. ¬ (place ≡ zero_letter ∷ path) → ticks_at a place ≤ ticks_at b place)
    (λ n. root)
    (λ rest n. let x = k rest in let y = l rest in let z = but rest (λ e. n (ap (λ xs. zero_letter ∷ xs) e)) in omega arith)
    (λ rest n. let x = f rest in let y = g rest in let z = within rest in omega arith)
    (λ letter rest n m _. let x = ap (λ o. unwrap_or o 0) (node_at-none a letter rest n m) in omega arith)
IsWithinBut-sons one false a b low high here there path root f g within k l but = (
  (if one then one_letter else zero_letter) ∷ but.0,
  λ e. let t : but.0 ≡ path = cc in but.1 t,
  let x = k but.0 in let y = l but.0 in let z = but.2 in omega arith,
)

-- ---- lists

under-append : (path : List ℕ) (xs ys : List (List ℕ × ℕ)) → under path (xs ++ ys) ≡ under path xs ++ under path ys
under-append path [] ys = refl
under-append path (x ∷ xs) ys = ap (λ es. (path ++ x.0, x.1) ∷ es) (under-append path xs ys)

-- below the root is as before
pub under-root : (es : List (List ℕ × ℕ)) → under [] es ≡ es
under-root [] = refl
under-root (e ∷ es) = ap (λ ds. e ∷ ds) (under-root es)

under-under : (path rest : List ℕ) (es : List (List ℕ × ℕ)) → under path (under rest es) ≡ under (path ++ rest) es
under-under path rest [] = refl
under-under path rest (e ∷ es) = λ i. (sym (append_assoc path rest e.0) i, e.1) ∷ under-under path rest es i

under-entry : (path : List ℕ) (ticks : ℕ) → under path (entry_of [] ticks) ≡ entry_of path ticks
under-entry path ticks = by (ticks == 0)
  where
    by : (b : Bool) → under path (if b then [] else ([], ticks) ∷ []) ≡ if b then [] else (path, ticks) ∷ []
    by true = refl
    by false = λ i. (append-nil path i, ticks) ∷ []

-- the entries below a path: that of the path itself, and those below its sons
pub under-sons : (path : List ℕ) (n : ℕ) (left right : List (List ℕ × ℕ)) → under path (listed_over n left right) ≡ entry_of path n ++ (under (path ++ zero_letter ∷ []) left ++ under (path ++ one_letter ∷ []) right)
under-sons path n left right =
    under-append path (entry_of [] n) (under (zero_letter ∷ []) left ++ under (one_letter ∷ []) right)
    ∙ (λ i. under-entry path n i ++ under-append path (under (zero_letter ∷ []) left) (under (one_letter ∷ []) right) i)
    ∙ (λ i. entry_of path n ++ (under-under path (zero_letter ∷ []) left i ++ under-under path (one_letter ∷ []) right i))

-- the same where a son is absent
pub under-left : (path : List ℕ) (n : ℕ) (left : List (List ℕ × ℕ)) → under path (listed_over n left []) ≡ entry_of path n ++ under (path ++ zero_letter ∷ []) left
under-left path n left =
    under-sons path n left [] ∙ ap (λ es. entry_of path n ++ es) (append-nil (under (path ++ zero_letter ∷ []) left))

pub under-right : (path : List ℕ) (n : ℕ) (right : List (List ℕ × ℕ)) → under path (listed_over n [] right) ≡ entry_of path n ++ under (path ++ one_letter ∷ []) right
under-right path n right = under-sons path n [] right

-- ---- the list of a tree's ticks

-- what the front lacks is in the back
ticks_of-no_front : (xs ys : List (List ℕ × ℕ)) (path : List ℕ) → AllByRecursion (λ (e : List ℕ × ℕ). ¬ (e.0 ≡ path)) xs → ticks_of (xs ++ ys) path ≡ ticks_of ys path
ticks_of-no_front [] ys path h = refl
ticks_of-no_front (x ∷ xs) ys path h = ticks_of-tail x (xs ++ ys) path h.0 ∙ ticks_of-no_front xs ys path h.1

-- what the back lacks is in the front
ticks_of-no_back : (xs ys : List (List ℕ × ℕ)) (path : List ℕ) → ticks_of ys path ≡ 0 → ticks_of (xs ++ ys) path ≡ ticks_of xs path
ticks_of-no_back [] ys path h = h
ticks_of-no_back (x ∷ xs) ys path h = ap (λ n. cond (pointwise nat_eq x.0 path) x.1 n) (ticks_of-no_back xs ys path h)

-- a list all of whose paths are others lacks the path
ticks_of-none : (xs : List (List ℕ × ℕ)) (path : List ℕ) → AllByRecursion (λ (e : List ℕ × ℕ). ¬ (e.0 ≡ path)) xs → ticks_of xs path ≡ 0
ticks_of-none [] path h = refl
ticks_of-none (x ∷ xs) path h = ticks_of-tail x xs path h.0 ∙ ticks_of-none xs path h.1

-- no path below a letter is the root
under-not_root : (letter : ℕ) (es : List (List ℕ × ℕ)) → AllByRecursion (λ (e : List ℕ × ℕ). ¬ (e.0 ≡ [])) (under (letter ∷ []) es)
under-not_root letter [] = tt
under-not_root letter (e ∷ es) = (λ s. cc, under-not_root letter es)

-- no path below a letter begins with another
under-not_letter : (letter other : ℕ) (path : List ℕ) → letter ≢ other → (es : List (List ℕ × ℕ)) → AllByRecursion (λ (e : List ℕ × ℕ). ¬ (e.0 ≡ other ∷ path)) (under (letter ∷ []) es)
under-not_letter letter other path n [] = tt
under-not_letter letter other path n (e ∷ es) = (λ s. let t : letter ≡ other = cc in n t, under-not_letter letter other path n es)

-- a path below a letter has the ticks of the rest
ticks_of-under_letter : (letter : ℕ) (path : List ℕ) (es : List (List ℕ × ℕ)) → ticks_of (under (letter ∷ []) es) (letter ∷ path) ≡ ticks_of es path
ticks_of-under_letter letter path [] = refl
ticks_of-under_letter letter path (e ∷ es) =
    let test : pointwise nat_eq (letter ∷ e.0) (letter ∷ path) ≡ pointwise nat_eq e.0 path = rw (eq-eqb letter letter refl) refl in
    λ i. cond (test i) e.1 (ticks_of-under_letter letter path es i)

-- a node with ticks has an entry
entry_of-suc : (n : ℕ) → entry_of [] (suc n) ≡ ([], suc n) ∷ []
entry_of-suc n = rw (ne_eqb (suc n) 0 (λ e. absurd (omega (arith, e)))) refl

-- what holds of no entry, and of an entry with ticks, holds of the entry of the root
entry_cases : (P : List (List ℕ × ℕ) → Type 0) (ticks : ℕ) → P [] → (1 ≤ ticks → P (([], ticks) ∷ [])) → P (entry_of [] ticks)
entry_cases P zero h k = h
entry_cases P (suc n) h k = subst P (sym (entry_of-suc n)) (k (omega arith))

-- the entry of the root
ticks_of-entry : (ticks : ℕ) (es : List (List ℕ × ℕ)) → ticks_of es [] ≡ 0 → ticks_of (entry_of [] ticks ++ es) [] ≡ ticks
ticks_of-entry zero es h = h
ticks_of-entry (suc ticks) es h = ap (λ xs. ticks_of (xs ++ es) []) (entry_of-suc ticks)

-- the entry of the root is of no other path
entry-not_other : (ticks letter : ℕ) (path : List ℕ) → AllByRecursion (λ (e : List ℕ × ℕ). ¬ (e.0 ≡ letter ∷ path)) (entry_of [] ticks)
entry-not_other ticks letter path =
    entry_cases (λ es. AllByRecursion (λ (e : List ℕ × ℕ). ¬ (e.0 ≡ letter ∷ path)) es) ticks tt (λ h. (λ s. cc, tt))

-- the ticks of the root
ticks_of-root : (ticks : ℕ) (left right : List (List ℕ × ℕ)) → ticks_of (listed_over ticks left right) [] ≡ ticks
ticks_of-root ticks left right =
    let l = under (zero_letter ∷ []) left in
    let r = under (one_letter ∷ []) right in
    ticks_of-entry ticks (l ++ r) (ticks_of-no_front l r [] (under-not_root zero_letter left) ∙ ticks_of-none r [] (under-not_root one_letter right))

-- a path below a letter has the ticks that the rest has in the son there
ticks_of-below_letter : (ticks : ℕ) (left right : List (List ℕ × ℕ)) (low high : Option ℕ) (letter : ℕ) (path : List ℕ) → ticks_of left path ≡ unwrap_or low 0 → ticks_of right path ≡ unwrap_or high 0 → ticks_of (listed_over ticks left right) (letter ∷ path) ≡ unwrap_or (by_letter letter low high None) 0
ticks_of-below_letter ticks left right low high letter path f g =
    let l = under (zero_letter ∷ []) left in
    let r = under (one_letter ∷ []) right in
    ticks_of-no_front (entry_of [] ticks) (l ++ r) (letter ∷ path) (entry-not_other ticks letter path)
    ∙ ⊎_elim
    (λ (e : letter ≡ zero_letter).
    subst (λ x. ticks_of (l ++ r) (x ∷ path) ≡ unwrap_or (by_letter x low high None) 0) (sym e)
    (ticks_of-no_back l r (zero_letter ∷ path) (ticks_of-none r (zero_letter ∷ path) (under-not_letter one_letter zero_letter path (λ s. absurd (omega (arith, s))) right))
    ∙ ticks_of-under_letter zero_letter path left ∙ f))
    (λ (n : letter ≢ zero_letter).
    ticks_of-no_front l r (letter ∷ path) (under-not_letter zero_letter letter path (λ s. n (sym s)) left)
    ∙ ⊎_elim
    (λ (e : letter ≡ one_letter).
    subst (λ x. ticks_of r (x ∷ path) ≡ unwrap_or (by_letter x low high None) 0) (sym e)
    (ticks_of-under_letter one_letter path right ∙ g))
    (λ (m : letter ≢ one_letter).
    ticks_of-none r (letter ∷ path) (under-not_letter one_letter letter path (λ s. m (sym s)) right)
    ∙ sym (ap (λ o. unwrap_or o 0) (by_letter-none letter low high None n m)))
    (cases_eq letter one_letter))
    (cases_eq letter zero_letter)

-- the list has the ticks of each path
pub ticks_of-listed : (tree : Tree) (path : List ℕ) → ticks_of (listed tree) path ≡ ticks_at tree path
ticks_of-listed (Leaf way ticks) [] = ticks_of-root ticks [] []
ticks_of-listed (Left' way ticks p left) [] = ticks_of-root ticks (listed left) []
ticks_of-listed (Right' way ticks p right) [] = ticks_of-root ticks [] (listed right)
ticks_of-listed (Fork' way ticks p left q right) [] = ticks_of-root ticks (listed left) (listed right)
ticks_of-listed (Leaf way ticks) (letter ∷ path) = ticks_of-below_letter ticks [] [] None None letter path refl refl
ticks_of-listed (Left' way ticks p left) (letter ∷ path) =
    ticks_of-below_letter ticks (listed left) [] (node_at left path) None letter path (ticks_of-listed left path) refl
ticks_of-listed (Right' way ticks p right) (letter ∷ path) =
    ticks_of-below_letter ticks [] (listed right) None (node_at right path) letter path refl (ticks_of-listed right path)
ticks_of-listed (Fork' way ticks p left q right) (letter ∷ path) =
    ticks_of-below_letter ticks (listed left) (listed right) (node_at left path) (node_at right path) letter path (ticks_of-listed left path) (ticks_of-listed right path)

-- ---- the list is a clock

-- one letter more in front keeps the order
path_cmp-letter : (letter : ℕ) (a b : List ℕ) → path_cmp (letter ∷ a) (letter ∷ b) ≡ path_cmp a b
path_cmp-letter letter a b = rw (tied_itself nat_cmp_total letter) refl

IsBelowAll-under : (letter : ℕ) (x : List ℕ × ℕ) (es : List (List ℕ × ℕ)) → IsBelowAll entry_cmp x es → IsBelowAll entry_cmp (letter ∷ x.0, x.1) (under (letter ∷ []) es)
IsBelowAll-under letter x [] h = tt
IsBelowAll-under letter x (e ∷ es) h = (path_cmp-letter letter x.0 e.0 ∙ h.0, IsBelowAll-under letter x es h.1)

IsAscending-under : (letter : ℕ) (es : List (List ℕ × ℕ)) → IsAscending entry_cmp es → IsAscending entry_cmp (under (letter ∷ []) es)
IsAscending-under letter [] h = tt
IsAscending-under letter (e ∷ es) h = (IsBelowAll-under letter e es h.0, IsAscending-under letter es h.1)

IsBelowAll-append : (x : List ℕ × ℕ) (xs ys : List (List ℕ × ℕ)) → IsBelowAll entry_cmp x xs → IsBelowAll entry_cmp x ys → IsBelowAll entry_cmp x (xs ++ ys)
IsBelowAll-append x [] ys h k = k
IsBelowAll-append x (e ∷ xs) ys h k = (h.0, IsBelowAll-append x xs ys h.1 k)

IsAscending-append : (xs ys : List (List ℕ × ℕ)) → IsAscending entry_cmp xs → IsAscending entry_cmp ys → AllByRecursion (λ x. IsBelowAll entry_cmp x ys) xs → IsAscending entry_cmp (xs ++ ys)
IsAscending-append [] ys h k b = k
IsAscending-append (x ∷ xs) ys h k b = (IsBelowAll-append x xs ys h.0 b.0, IsAscending-append xs ys h.1 k b.1)

-- a path at `0` is below each path at `1`
zero_below : (a : List ℕ) (n : ℕ) (es : List (List ℕ × ℕ)) → IsBelowAll entry_cmp (zero_letter ∷ a, n) (under (one_letter ∷ []) es)
zero_below a n [] = tt
zero_below a n (e ∷ es) = (refl, zero_below a n es)

zeros_below : (ds es : List (List ℕ × ℕ)) → AllByRecursion (λ x. IsBelowAll entry_cmp x (under (one_letter ∷ []) es)) (under (zero_letter ∷ []) ds)
zeros_below [] es = tt
zeros_below (d ∷ ds) es = (zero_below d.0 d.1 es, zeros_below ds es)

-- the root is below each path at a letter
root_below : (n letter : ℕ) (es : List (List ℕ × ℕ)) → IsBelowAll entry_cmp ([], n) (under (letter ∷ []) es)
root_below n letter [] = tt
root_below n letter (e ∷ es) = (refl, root_below n letter es)

IsAscending-entry : (n : ℕ) → IsAscending entry_cmp (entry_of [] n)
IsAscending-entry n = entry_cases (λ es. IsAscending entry_cmp es) n tt (λ h. (tt, tt))

entry_below : (n : ℕ) (es : List (List ℕ × ℕ)) → IsBelowAll entry_cmp ([], n) es → AllByRecursion (λ x. IsBelowAll entry_cmp x es) (entry_of [] n)
entry_below n es h = entry_cases (λ ds. AllByRecursion (λ x. IsBelowAll entry_cmp x es) ds) n tt (λ _. (h, tt))

IsAscending-over : (ticks : ℕ) (left right : List (List ℕ × ℕ)) → IsAscending entry_cmp left → IsAscending entry_cmp right → IsAscending entry_cmp (listed_over ticks left right)
IsAscending-over ticks left right h k =
    let l = under (zero_letter ∷ []) left in
    let r = under (one_letter ∷ []) right in
    let sons : IsAscending entry_cmp (l ++ r) = IsAscending-append l r (IsAscending-under zero_letter left h) (IsAscending-under one_letter right k) (zeros_below left right) in
    IsAscending-append (entry_of [] ticks) (l ++ r) (IsAscending-entry ticks) sons
    (entry_below ticks (l ++ r) (IsBelowAll-append ([], ticks) l r (root_below ticks zero_letter left) (root_below ticks one_letter right)))

IsAscending-listed : (tree : Tree) → IsAscending entry_cmp (listed tree)
IsAscending-listed (Leaf way ticks) = IsAscending-over ticks [] [] tt tt
IsAscending-listed (Left' way ticks p left) = IsAscending-over ticks (listed left) [] (IsAscending-listed left) tt
IsAscending-listed (Right' way ticks p right) = IsAscending-over ticks [] (listed right) tt (IsAscending-listed right)
IsAscending-listed (Fork' way ticks p left q right) = IsAscending-over ticks (listed left) (listed right) (IsAscending-listed left) (IsAscending-listed right)

abbrev HasTick : List ℕ × ℕ → Type 0
HasTick entry = 1 ≤ entry.1

positive-append : (xs ys : List (List ℕ × ℕ)) → AllByRecursion HasTick xs → AllByRecursion HasTick ys → AllByRecursion HasTick (xs ++ ys)
positive-append [] ys h k = k
positive-append (x ∷ xs) ys h k = (h.0, positive-append xs ys h.1 k)

positive-under : (path : List ℕ) (es : List (List ℕ × ℕ)) → AllByRecursion HasTick es → AllByRecursion HasTick (under path es)
positive-under path [] h = tt
positive-under path (e ∷ es) h = (h.0, positive-under path es h.1)

positive-entry : (n : ℕ) → AllByRecursion HasTick (entry_of [] n)
positive-entry n = entry_cases (λ es. AllByRecursion HasTick es) n tt (λ h. (h, tt))

positive-over : (ticks : ℕ) (left right : List (List ℕ × ℕ)) → AllByRecursion HasTick left → AllByRecursion HasTick right → AllByRecursion HasTick (listed_over ticks left right)
positive-over ticks left right h k =
    positive-append (entry_of [] ticks) (under (zero_letter ∷ []) left ++ under (one_letter ∷ []) right) (positive-entry ticks)
    (positive-append (under (zero_letter ∷ []) left) (under (one_letter ∷ []) right) (positive-under (zero_letter ∷ []) left h) (positive-under (one_letter ∷ []) right k))

positive-listed : (tree : Tree) → AllByRecursion HasTick (listed tree)
positive-listed (Leaf way ticks) = positive-over ticks [] [] tt tt
positive-listed (Left' way ticks p left) = positive-over ticks (listed left) [] (positive-listed left) tt
positive-listed (Right' way ticks p right) = positive-over ticks [] (listed right) tt (positive-listed right)
positive-listed (Fork' way ticks p left q right) = positive-over ticks (listed left) (listed right) (positive-listed left) (positive-listed right)

pub IsClock-listed : (tree : Tree) → IsClock (listed tree)
IsClock-listed tree = record { ascending = IsAscending-listed tree; positive = positive-listed tree }

-- trees with the same ticks have one list
pub listed-same : (a b : Tree) → ((path : List ℕ) → ticks_at a path ≡ ticks_at b path) → listed a ≡ listed b
listed-same a b h =
    clock_from_ticks (listed a) (listed b) (IsClock-listed a) (IsClock-listed b) (λ path. ticks_of-listed a path ∙ h path ∙ sym (ticks_of-listed b path))

-- ---- the paths of the nodes

Has-append : (xs ys : List (List ℕ)) (path : List ℕ) → Has (xs ++ ys) path ↔ (Has xs path ⊎ Has ys path)
Has-append [] ys path = (λ h. inr h, ⊎_elim (λ h. absurd h) (λ h. h))
Has-append (x ∷ xs) ys path =
    let rest = Has-append xs ys path in (
      ⊎_elim (λ h. inl (inl h)) (λ h. ⊎_elim (λ k. inl (inr k)) (λ k. inr k) (rest.0 h)),
      ⊎_elim (⊎_elim (λ h. inl h) (λ h. inr (rest.1 (inl h)))) (λ h. inr (rest.1 (inr h))),
    )

-- a path is below a letter where it begins with it and the rest is there
Has-after : (letter : ℕ) (paths : List (List ℕ)) (path : List ℕ) → Has paths path → Has (below_letter letter paths) (letter ∷ path)
Has-after letter [] path h = absurd h
Has-after letter (p ∷ paths) path (inl e) = inl (ap (λ xs. letter ∷ xs) e)
Has-after letter (p ∷ paths) path (inr h) = inr (Has-after letter paths path h)

Has-from_after : (letter : ℕ) (paths : List (List ℕ)) (other : ℕ) (path : List ℕ) → Has (below_letter letter paths) (other ∷ path) → (letter ≡ other) × Has paths path
Has-from_after letter [] other path h = absurd h
Has-from_after letter (p ∷ paths) other path (inl e) = (let f : letter ≡ other = cc in f, inl (let f : p ≡ path = cc in f))
Has-from_after letter (p ∷ paths) other path (inr h) = let k = Has-from_after letter paths other path h in (k.0, inr k.1)

-- what is below a letter in the son there is below it in the node
Has-over : (left right : List (List ℕ)) (low high : Option ℕ) (letter : ℕ) (path : List ℕ) → (IsSome low → Has left path) → (IsSome high → Has right path) → IsSome (by_letter letter low high None) → Has (nodes_over left right) (letter ∷ path)
Has-over left right low high letter path f g h =
    let both = Has-append (below_letter zero_letter left) (below_letter one_letter right) (letter ∷ path) in
    ⊎_elim
    (λ (e : letter ≡ zero_letter).
    let k : IsSome low = subst (λ x. IsSome (by_letter x low high None)) e h in
    inr (both.1 (inl (subst (λ x. Has (below_letter zero_letter left) (x ∷ path)) (sym e) (Has-after zero_letter left path (f k))))))
    (λ (n : letter ≢ zero_letter).
    ⊎_elim
    (λ (e : letter ≡ one_letter).
    let k : IsSome high = subst (λ x. IsSome (by_letter x low high None)) e h in
    inr (both.1 (inr (subst (λ x. Has (below_letter one_letter right) (x ∷ path)) (sym e) (Has-after one_letter right path (g k))))))
    (λ (m : letter ≢ one_letter). absurd (false≢true (subst (λ (o : Option ℕ). IsSome o) (by_letter-none letter low high None n m) h)))
    (cases_eq letter one_letter))
    (cases_eq letter zero_letter)

-- and nothing else
HasNode-over : (left right : List (List ℕ)) (low high : Option ℕ) (letter : ℕ) (path : List ℕ) → (Has left path → IsSome low) → (Has right path → IsSome high) → Has (nodes_over left right) (letter ∷ path) → IsSome (by_letter letter low high None)
HasNode-over left right low high letter path f g (inl e) = cc
HasNode-over left right low high letter path f g (inr h) =
    ⊎_elim
    (λ k. let from = Has-from_after zero_letter left letter path k in
    subst (λ x. IsSome (by_letter x low high None)) from.0 (f from.1))
    (λ k. let from = Has-from_after one_letter right letter path k in
    subst (λ x. IsSome (by_letter x low high None)) from.0 (g from.1))
    ((Has-append (below_letter zero_letter left) (below_letter one_letter right) (letter ∷ path)).0 h)

-- the list has the paths of the nodes
pub Has-nodes : (tree : Tree) (path : List ℕ) → HasNode tree path → Has (nodes tree) path
Has-nodes (Leaf way ticks) [] h = inl refl
Has-nodes (Left' way ticks p left) [] h = inl refl
Has-nodes (Right' way ticks p right) [] h = inl refl
Has-nodes (Fork' way ticks p left q right) [] h = inl refl
Has-nodes (Leaf way ticks) (letter ∷ path) h = Has-over [] [] None None letter path (λ k. absurd (false≢true k)) (λ k. absurd (false≢true k)) h
Has-nodes (Left' way ticks p left) (letter ∷ path) h =
    Has-over (nodes left) [] (node_at left path) None letter path (Has-nodes left path) (λ k. absurd (false≢true k)) h
Has-nodes (Right' way ticks p right) (letter ∷ path) h =
    Has-over [] (nodes right) None (node_at right path) letter path (λ k. absurd (false≢true k)) (Has-nodes right path) h
Has-nodes (Fork' way ticks p left q right) (letter ∷ path) h =
    Has-over (nodes left) (nodes right) (node_at left path) (node_at right path) letter path (Has-nodes left path) (Has-nodes right path) h

-- and no others
pub HasNode-from_nodes : (tree : Tree) (path : List ℕ) → Has (nodes tree) path → HasNode tree path
HasNode-from_nodes tree [] h = HasNode-root tree
HasNode-from_nodes (Leaf way ticks) (letter ∷ path) h = HasNode-over [] [] None None letter path (λ k. absurd k) (λ k. absurd k) h
HasNode-from_nodes (Left' way ticks p left) (letter ∷ path) h =
    HasNode-over (nodes left) [] (node_at left path) None letter path (HasNode-from_nodes left path) (λ k. absurd k) h
HasNode-from_nodes (Right' way ticks p right) (letter ∷ path) h =
    HasNode-over [] (nodes right) None (node_at right path) letter path (λ k. absurd k) (HasNode-from_nodes right path) h
HasNode-from_nodes (Fork' way ticks p left q right) (letter ∷ path) h =
    HasNode-over (nodes left) (nodes right) (node_at left path) (node_at right path) letter path (HasNode-from_nodes left path) (HasNode-from_nodes right path) h

-- a path with ticks has a node
pub HasNode-from_ticks : (tree : Tree) (path : List ℕ) → 1 ≤ ticks_at tree path → HasNode tree path
HasNode-from_ticks tree path h = by (node_at tree path) h
  where
    by : (o : Option ℕ) → 1 ≤ unwrap_or o 0 → IsSome o
    by None h = absurd (omega arith)
    by (Some ticks) h = refl

-- how many entries there are below a path
length_under : (path : List ℕ) (entries : List (List ℕ × ℕ)) → length (under path entries) ≡ length entries
length_under path [] = refl
length_under path (entry ∷ entries) = let l = length_under path entries in omega (arith, l)

-- how many a node and its sons have
pub length_sons : (ticks : ℕ) (left right : List (List ℕ × ℕ))
    → length (listed_over ticks left right) ≡ length (entry_of [] ticks) + length left + length right
length_sons ticks left right =
    let all = length-append (entry_of [] ticks) (under (zero_letter ∷ []) left ++ under (one_letter ∷ []) right) in
    let sons = length-append (under (zero_letter ∷ []) left) (under (one_letter ∷ []) right) in
    let l = length_under (zero_letter ∷ []) left in
    let r = length_under (one_letter ∷ []) right in
    omega (arith, all, sons, l, r)
