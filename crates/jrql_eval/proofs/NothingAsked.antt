-- A group that asks for nothing has one solution, in which nothing is bound.
use Rattle.std.proofs.Common.{◌≡◌, ℕ, ◌+◌, ◌≤◌, ◌==◌, ◌&&◌, List, [], ◌∷◌, ◌++◌, true, Option, None, length, replicate, filter, flat_map, sym, ap, subst, eqb-true, arith}
use Rattle.std.specs.List.{range_with_len}
use Rattle.std.specs.List.Sorted.{IsPermutation}
use Rattle.std.proofs.lemmas.Bool.{and_parts}
use Rattle.std.proofs.lemmas.List.Sorted.{IsPermutation-refl}
use Rattle.jrql_rows.specs.rdf_terms.declared.terms.Term.{Term}
use Rattle.jrql_rows.specs.rdf_terms.declared.terms.Triple.{Triple}
use Rattle.jrql_rows.specs.jrql_ast.declared.patterns.Filter.{Filter}
use Rattle.jrql_rows.specs.jrql_ast.declared.patterns.Group.{Group}
use Rattle.jrql_rows.specs.jrql_ast.declared.patterns.PatternTriple.{PatternTriple}
use Rattle.jrql_rows.specs.jrql_ast.InForm.{variables_of}
use Rattle.jrql_rows.specs.jrql_ast.QueryAnswers.{IsSolutions, found, solution_limit}
use Rattle.jrql_rows.specs.jrql_ast.Solutions.{branches_of, matches_from}
use Rattle.jrql_eval.specs.Evaluating.{all_hold, asks_nothing}
use Rattle.jrql_eval.proofs.BranchLaws.{ended_none}

record HasNothing (group : Group) : Type 0 where
  variables : variables_of group ≡ 0
  patterns : group.patterns ≡ []
  branches : group.branches ≡ []
  filters : group.filters ≡ []

has_nothing : (group : Group) → asks_nothing group ≡ true → HasNothing group
has_nothing group h =
    let all = and_parts (variables_of group == 0) ((length group.patterns == 0) && ((length group.branches == 0) && (length group.filters == 0))) h in
    let more = and_parts (length group.patterns == 0) ((length group.branches == 0) && (length group.filters == 0)) all.1 in
    let last = and_parts (length group.branches == 0) (length group.filters == 0) more.1 in record {
      variables = eqb-true (variables_of group) 0 all.0;
      patterns = ended_none group.patterns more.0;
      branches = ended_none group.branches last.0;
      filters = ended_none group.filters last.1;
    }

rows_of_nothing : (graph : List Triple) (variables : ℕ) (patterns : List PatternTriple) (branches : List (List PatternTriple)) (filters : List Filter)
    → variables ≡ 0 → patterns ≡ [] → branches ≡ [] → filters ≡ []
    → filter (all_hold filters) (flat_map (λ (branch : List PatternTriple). matches_from graph (patterns ++ branch) (replicate variables None)) (branches_of branches)) ≡ [] ∷ []
rows_of_nothing graph variables patterns branches filters v p b f =
    λ i. filter (all_hold (f i)) (flat_map (λ (branch : List PatternTriple). matches_from graph (p i ++ branch) (replicate (v i) None)) (branches_of (b i)))

found_nothing : (graph : List Triple) (group : Group) → asks_nothing group ≡ true → found graph group ≡ [] ∷ []
found_nothing graph group h =
    let has = has_nothing group h in
    rows_of_nothing graph (variables_of group) group.patterns group.branches group.filters has.variables has.patterns has.branches has.filters

pub nothing_few : (graph : List Triple) (group : Group) → asks_nothing group ≡ true → length (found graph group) ≤ solution_limit
nothing_few graph group h = let one : length (found graph group) ≡ 1 = ap length (found_nothing graph group h) in omega (arith, one)

pub nothing_solved : (graph : List Triple) (group : Group) → asks_nothing group ≡ true → IsSolutions graph group ([] ∷ [])
nothing_solved graph group h =
    let none : length group.names + group.hidden ≡ 0 = (has_nothing group h).variables in
    let named : length group.names ≡ 0 = omega (arith, none) in
    let hidden : group.hidden ≡ 0 = omega (arith, none) in record {
      columns = [];
      by_columns = record {
        named = [];
        by_name = record {
          same = subst (λ (n : ℕ). IsPermutation (range_with_len 0 n) []) (sym named) (IsPermutation-refl []);
          ascending = λ k d l g. absurd (omega (arith, g));
        };
        whole = ap (λ (n : ℕ). range_with_len (length group.names) n) (sym hidden);
      };
      sorted = record {
        same = subst (λ (rows : List (List (Option Term))). IsPermutation rows ([] ∷ [])) (sym (found_nothing graph group h)) (IsPermutation-refl ([] ∷ []));
        ascending = λ k d l g. absurd (omega (arith, g));
      };
    }
