-- What becomes of the rows that match patterns where triples go: those stay in which no pattern is one of these triples.
use Rattle.std.proofs.Common.{◌≡◌, ◌∙◌, ℕ, List, [], ◌∷◌, ◌++◌, length, Bool, true, false, cond, not, ◌&&◌, ◌||◌, Option, None, Some, filter, flat_map, refl, sym, ap, subst}
use Rattle.std.specs.List.{AllByRecursion}
use Rattle.std.specs.Option.{option_map_or}
use Rattle.rdf_terms.specs.declared.terms.Term.{Term}
use Rattle.rdf_terms.specs.declared.terms.Term.TheVariants as terms
use Rattle.rdf_terms.specs.declared.terms.Triple.{Triple}
use Rattle.jrql_ast.specs.declared.patterns.PatternTriple.{PatternTriple}
use Rattle.jrql_ast.specs.declared.patterns.Slot.{Slot}
use Rattle.jrql_ast.specs.FilterMeaning.{side_value}
use Rattle.jrql_ast.specs.InForm.{IsPatternWithin}
use Rattle.jrql_ast.specs.Solutions.{agree, matches_from}
use Rattle.jrql_ast.specs.Templates.{triple_from}
use Rattle.jrql_ast.proofs.BoundSlots.{agree_length, agree_later, agree_now}
use Rattle.jrql_ast.proofs.Rearranging.{each_of, flat_map_filter_map, flat_map_same}
use Rattle.watch_laws.specs.Touched.{instance_in, is_one_of, is_touched, are_touched}
use Rattle.reply_rows.proofs.Filtered.{all_each, all_flat_map, all_weaker, filter_alike, filter_flat_map, filter_none, filter_same, flat_map_filter}

-- patterns of so many variables
abbrev pub AreWithin : ℕ → List PatternTriple → Type 0
AreWithin n patterns = AllByRecursion (IsPatternWithin n 0) patterns

-- what is bound in a row is so in another
abbrev pub Keeps : List (Option Term) → List (Option Term) → Type 0
Keeps row next = (slot : Slot) (x : Term) → side_value slot row ≡ Some x → side_value slot next ≡ Some x

-- what is bound in a row is so in each row that matches patterns from there
pub matches_keep : (graph : List Triple) (patterns : List PatternTriple) (row : List (Option Term)) → AllByRecursion (Keeps row) (matches_from graph patterns row)
matches_keep graph [] row = (λ slot x e. e, tt)
matches_keep graph (pattern ∷ patterns) row =
    subst (AllByRecursion (Keeps row)) (sym (flat_map_filter_map (matches_from graph patterns) (λ triple. agree pattern triple row) graph))
    (all_flat_map (Keeps row) (λ triple. each_of (matches_from graph patterns) (agree pattern triple row)) graph
    (λ triple. all_each (Keeps row) (matches_from graph patterns) (agree pattern triple row)
    (λ next h. all_weaker (Keeps next) (Keeps row) (λ last k slot x e. k slot x (agree_later pattern triple row next h slot x e))
    (matches_from graph patterns next) (matches_keep graph patterns next))))

-- three places that are bound to a triple's parts
parts_are : (s p o : Option Term) (triple : Triple) → s ≡ Some (terms.Iri triple.s) → p ≡ Some (terms.Iri triple.p) → o ≡ Some triple.o → triple_from s p o ≡ Some triple
parts_are s p o triple e f g = λ i. triple_from (e i) (f i) (g i)

-- a pattern that was taken for a triple is that triple in each row behind
pub instance_kept : (graph : List Triple) (pattern : PatternTriple) (triple : Triple) (patterns : List PatternTriple) (row next : List (Option Term))
    → IsPatternWithin (length row) 0 pattern → agree pattern triple row ≡ Some next
    → AllByRecursion (λ last. instance_in pattern last ≡ Some triple) (matches_from graph patterns next)
instance_kept graph pattern triple patterns row next within h =
    let now = agree_now pattern triple row next h within in
    all_weaker (Keeps next) (λ last. instance_in pattern last ≡ Some triple)
    (λ last k. parts_are (side_value pattern.s last) (side_value pattern.p last) (side_value pattern.o last) triple
    (k pattern.s (terms.Iri triple.s) now.0) (k pattern.p (terms.Iri triple.p) now.1) (k pattern.o triple.o now.2))
    (matches_from graph patterns next) (matches_keep graph patterns next)

-- a test of rows that is one of the first pattern's triple and one of the others
abbrev pub Divides : PatternTriple → (List (Option Term) → Bool) → (Triple → Bool) → (List (Option Term) → Bool) → Type 0
Divides pattern whole first others = (triple : Triple) (row : List (Option Term)) → instance_in pattern row ≡ Some triple → whole row ≡ (first triple && others row)

-- the rows that pass it: those behind a triple that passes the first, if they pass the second
module _ (graph : List Triple) (pattern : PatternTriple) (patterns : List PatternTriple)
    (whole : List (Option Term) → Bool) (first : Triple → Bool) (others : List (Option Term) → Bool) (divides : Divides pattern whole first others) where
  behind : (triple : Triple) (row : List (Option Term)) (o : Option (List (Option Term))) → IsPatternWithin (length row) 0 pattern → agree pattern triple row ≡ o
      → filter whole (each_of (matches_from graph patterns) o) ≡ cond (first triple) (each_of (λ next. filter others (matches_from graph patterns next)) o) []
  behind triple row None within h = by (first triple)
    where
      by : (b : Bool) → ◌≡◌ {A = List (List (Option Term))} [] (cond b [] [])
      by true = refl
      by false = refl
  behind triple row (Some next) within h =
      filter_same whole (λ last. first triple && others last) (matches_from graph patterns next)
      (all_weaker (λ last. instance_in pattern last ≡ Some triple) (λ last. whole last ≡ (first triple && others last)) (λ last e. divides triple last e)
      (matches_from graph patterns next) (instance_kept graph pattern triple patterns row next within h))
      ∙ by (first triple)
    where
      by : (b : Bool) → filter (λ last. b && others last) (matches_from graph patterns next) ≡ cond b (filter others (matches_from graph patterns next)) []
      by true = refl
      by false = filter_none _ (λ last. refl) (matches_from graph patterns next)

  pub by_first : (row : List (Option Term)) → IsPatternWithin (length row) 0 pattern
      → filter whole (matches_from graph (pattern ∷ patterns) row)
      ≡ flat_map (λ triple. each_of (λ next. filter others (matches_from graph patterns next)) (agree pattern triple row)) (filter first graph)
  by_first row within =
      ap (filter whole) (flat_map_filter_map (matches_from graph patterns) (λ triple. agree pattern triple row) graph)
      ∙ filter_flat_map whole (λ triple. each_of (matches_from graph patterns) (agree pattern triple row)) graph
      ∙ flat_map_same _ _ (λ triple. behind triple row (agree pattern triple row) within refl) graph
      ∙ sym (flat_map_filter (λ triple. each_of (λ next. filter others (matches_from graph patterns next)) (agree pattern triple row)) first graph)

-- none of these triples
abbrev pub is_none_of : List Triple → Triple → Bool
is_none_of triples triple = not (is_one_of triples triple)

abbrev pub are_untouched : List Triple → List PatternTriple → List (Option Term) → Bool
are_untouched triples patterns row = not (are_touched triples patterns row)

not_either : (b c : Bool) → not (b || c) ≡ (not b && not c)
not_either true c = refl
not_either false c = refl

untouched_divides : (triples : List Triple) (pattern : PatternTriple) (patterns : List PatternTriple)
    → Divides pattern (are_untouched triples (pattern ∷ patterns)) (is_none_of triples) (are_untouched triples patterns)
untouched_divides triples pattern patterns triple row e =
    ap (λ o. not (option_map_or (is_one_of triples) o false || are_touched triples patterns row)) e
    ∙ not_either (is_one_of triples triple) (are_touched triples patterns row)

-- the rows in which no pattern is one of these triples are those over the others
pub untouched_match : (graph triples : List Triple) (n : ℕ) (patterns : List PatternTriple) (row : List (Option Term)) → length row ≡ n → AreWithin n patterns
    → filter (are_untouched triples patterns) (matches_from graph patterns row) ≡ matches_from (filter (is_none_of triples) graph) patterns row
untouched_match graph triples n [] row e within = refl
untouched_match graph triples n (pattern ∷ patterns) row e within =
    by_first graph pattern patterns (are_untouched triples (pattern ∷ patterns)) (is_none_of triples) (are_untouched triples patterns)
    (untouched_divides triples pattern patterns) row (subst (λ k. IsPatternWithin k 0 pattern) (sym e) within.0)
    ∙ flat_map_same _ _ (λ triple. each triple (agree pattern triple row) (λ next h. untouched_match graph triples n patterns next (agree_length pattern triple row next h ∙ e) within.1)) (filter (is_none_of triples) graph)
    ∙ sym (flat_map_filter_map (matches_from (filter (is_none_of triples) graph) patterns) (λ triple. agree pattern triple row) (filter (is_none_of triples) graph))
  where
    each : (triple : Triple) (o : Option (List (Option Term)))
        → ((next : List (Option Term)) → o ≡ Some next → filter (are_untouched triples patterns) (matches_from graph patterns next) ≡ matches_from (filter (is_none_of triples) graph) patterns next)
        → each_of (λ next. filter (are_untouched triples patterns) (matches_from graph patterns next)) o ≡ each_of (matches_from (filter (is_none_of triples) graph) patterns) o
    each triple None h = refl
    each triple (Some next) h = h next refl
