-- Triples that don't matter for a group make no difference to its solutions.
use Rattle.std.proofs.Common.{◌≡◌, ◌∙◌, List, [], ◌∷◌, ◌++◌, length, Bool, true, false, cond, ◌&&◌, ◌||◌, Option, None, Some, filter, flat_map, if◌then◌else◌, refl, sym, ap, subst, inl, inr}
use Rattle.std.specs.List.{AllByRecursion, list_any}
use Rattle.std.proofs.lemmas.Bool.{and_from, or_left, or_right}
use Rattle.rdf_terms.specs.declared.terms.Term.{Term}
use Rattle.rdf_terms.specs.declared.terms.Term.TheVariants as terms
use Rattle.rdf_terms.specs.declared.terms.Triple.{Triple}
use Rattle.tree_clock.specs.Lists.{Has}
use Rattle.jrql_ast.specs.declared.patterns.Group.{Group}
use Rattle.jrql_ast.specs.declared.patterns.PatternTriple.{PatternTriple}
use Rattle.jrql_ast.specs.declared.patterns.Slot.{Slot}
use Rattle.jrql_ast.specs.declared.patterns.Slot.TheVariants as slots
use Rattle.jrql_ast.specs.QueryAnswers.{found}
use Rattle.jrql_ast.specs.Solutions.{agree, bind, branches_of, is_same_term, matches_from, unbound}
use Rattle.jrql_ast.proofs.BoundSlots.{agreeing, none_some}
use Rattle.jrql_ast.proofs.Rearranging.{each_of, flat_map_filter_map, flat_map_same}
use Rattle.watch_laws.specs.Touched.{passes}
use Rattle.watch_laws.specs.Watches.{matters, may_be, may_match}
use Rattle.reply_rows.proofs.Filtered.{all_append, flat_map_filter}
use Rattle.watch_laws.proofs.FirstTouched.{flat_map_same_there}

-- a slot, and a pattern, that was bound to something may be it
slot_may : (slot : Slot) (term : Term) (row next : List (Option Term)) → bind slot term row ≡ Some next → may_be slot term ≡ true
slot_may (slots.Term given) term row next h = by (is_same_term given term) h
  where
    by : (b : Bool) → (if b then Some row else None) ≡ Some next → b ≡ true
    by true e = refl
    by false e = none_some e
slot_may (slots.Var variable) term row next h = refl
slot_may (slots.Fresh subject) term row next h = none_some h

pattern_may : (pattern : PatternTriple) (triple : Triple) (row next : List (Option Term)) → agree pattern triple row ≡ Some next → may_match pattern triple ≡ true
pattern_may pattern triple row next h =
    let a = agreeing pattern triple row next h in
    and_from (may_be pattern.s (terms.Iri triple.s)) (may_be pattern.p (terms.Iri triple.p) && may_be pattern.o triple.o)
    (slot_may pattern.s (terms.Iri triple.s) row a.first a.subject)
    (and_from (may_be pattern.p (terms.Iri triple.p)) (may_be pattern.o triple.o)
    (slot_may pattern.p (terms.Iri triple.p) a.first a.second a.predicate) (slot_may pattern.o triple.o a.second next a.object))

-- a test that each triple passes which has the terms of the pattern
abbrev Passes : (Triple → Bool) → PatternTriple → Type 0
Passes test pattern = (triple : Triple) → may_match pattern triple ≡ true → test triple ≡ true

matches_passing : (test : Triple → Bool) (graph : List Triple) (patterns : List PatternTriple) (row : List (Option Term)) → AllByRecursion (Passes test) patterns
    → matches_from graph patterns row ≡ matches_from (filter test graph) patterns row
matches_passing test graph [] row all = refl
matches_passing test graph (pattern ∷ patterns) row all =
    flat_map_filter_map (matches_from graph patterns) (λ triple. agree pattern triple row) graph
    ∙ flat_map_same _ _ (λ triple. each triple (agree pattern triple row) refl (λ next. matches_passing test graph patterns next all.1)) graph
    ∙ sym (flat_map_filter (λ triple. each_of (matches_from (filter test graph) patterns) (agree pattern triple row)) test graph)
    ∙ sym (flat_map_filter_map (matches_from (filter test graph) patterns) (λ triple. agree pattern triple row) (filter test graph))
  where
    each : (triple : Triple) (o : Option (List (Option Term))) → agree pattern triple row ≡ o
        → ((next : List (Option Term)) → matches_from graph patterns next ≡ matches_from (filter test graph) patterns next)
        → each_of (matches_from graph patterns) o ≡ cond (test triple) (each_of (matches_from (filter test graph) patterns) o) []
    each triple None h same = by (test triple)
      where
        by : (b : Bool) → ◌≡◌ {A = List (List (Option Term))} [] (cond b [] [])
        by true = refl
        by false = refl
    each triple (Some next) h same =
        same next ∙ ap (λ b. cond b (matches_from (filter test graph) patterns next) []) (sym (all.0 triple (pattern_may pattern triple row next h)))

-- those of a group's patterns, and of its branches
any_member : {X : Type 0} (p : X → Bool) (xs : List X) (x : X) → Has xs x → p x ≡ true → list_any p xs ≡ true
any_member p [] x h e = absurd h
any_member p (y ∷ xs) x (inl k) e = or_left (p y) (list_any p xs) (ap p k ∙ e)
any_member p (y ∷ xs) x (inr h) e = or_right (p y) (list_any p xs) (any_member p xs x h e)

each_member : {X : Type 0} (P : X → Type 0) (xs : List X) → ((x : X) → Has xs x → P x) → AllByRecursion P xs
each_member P [] each = tt
each_member P (x ∷ xs) each = (each x (inl refl), each_member P xs (λ y h. each y (inr h)))

shared_pass : (group : Group) → AllByRecursion (Passes (matters group)) group.patterns
shared_pass group = each_member (Passes (matters group)) group.patterns (λ pattern h triple e.
    or_left (list_any (λ p. may_match p triple) group.patterns) (list_any (λ branch. list_any (λ p. may_match p triple) branch) group.branches)
    (any_member (λ p. may_match p triple) group.patterns pattern h e))

branch_pass : (group : Group) (branch : List PatternTriple) → Has (branches_of group.branches) branch → AllByRecursion (Passes (matters group)) branch
branch_pass group branch there = each_member (Passes (matters group)) branch (λ pattern h triple e.
    or_right (list_any (λ p. may_match p triple) group.patterns) (list_any (λ b. list_any (λ p. may_match p triple) b) group.branches)
    (own group.branches branch there pattern h triple e))
  where
    own : (branches : List (List PatternTriple)) (one : List PatternTriple) → Has (branches_of branches) one → (pattern : PatternTriple) → Has one pattern → (triple : Triple)
        → may_match pattern triple ≡ true → list_any (λ b. list_any (λ p. may_match p triple) b) branches ≡ true
    own [] one (inl k) pattern h triple e = absurd (subst (λ b. Has b pattern) (sym k) h)
    own [] one (inr k) pattern h triple e = absurd k
    own (first ∷ branches) one k pattern h triple e =
        any_member (λ b. list_any (λ p. may_match p triple) b) (first ∷ branches) one k (any_member (λ p. may_match p triple) one pattern h e)

-- so those that matter have the same solutions
pub found_matters : (graph : List Triple) (group : Group) → found graph group ≡ found (filter (matters group) graph) group
found_matters graph group =
    ap (filter (passes group.filters))
    (flat_map_same_there (λ branch. matches_from graph (group.patterns ++ branch) (unbound group)) (λ branch. matches_from (filter (matters group) graph) (group.patterns ++ branch) (unbound group))
    (branches_of group.branches) (λ branch h. matches_passing (matters group) graph (group.patterns ++ branch) (unbound group)
    (all_append (Passes (matters group)) group.patterns branch (shared_pass group) (branch_pass group branch h))))
