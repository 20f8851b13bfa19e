-- Names in a set of strings, by their bytes, and what is kept where one is put behind the others.
use Rattle.std.proofs.Common.{◌≡◌, ◌≢◌, ℕ, zero, suc, ◌+◌, ◌<◌, ◌≤◌, List, [], ◌∷◌, ◌++◌, length, map, get_or, Bool, true, false, ◌||◌, cond, not, nat_lt, Option, None, Some, is_some, MatchOption, String, string_bytes, refl, sym, ap, ◌∙◌, true≢false, ltb-true, ltb-false, arith}
use Rattle.std.specs.declared.alloc.Global.{Global}
use Rattle.std.specs.List.{list_any, position_or_len, position}
use Rattle.std.proofs.lemmas.Grind.{common_steps}
use Rattle.std.proofs.lemmas.List.{length-append, map-append}
use Rattle.std.proofs.lemmas.List.Quantifiers.{all_pairs_push}
use Rattle.std.proofs.lemmas.Slice.Eq.{bytes_eq-Decides}
use Rattle.indexmap.specs.IndexSet.{insert_key}
use Rattle.jrql_ast.specs.InForm.{variable_limit}
use Rattle.rdf_terms.specs.Literal.{is_same}
use Rattle.jsonld_values.specs.VariableNames.{NamesValue, IsNames, named_too, is_named, variables_met}

-- a test of the bytes of strings
pub any_of_bytes : (test : List ℕ → Bool) (names : List (String Global))
    → list_any test (map string_bytes names) ≡ list_any (λ name. test (string_bytes name)) names
any_of_bytes test [] = refl
any_of_bytes test (name ∷ names) = ap (λ b. test (string_bytes name) || b) (any_of_bytes test names)

pub place_of_bytes : (test : List ℕ → Bool) (names : List (String Global))
    → position_or_len test (map string_bytes names) ≡ position_or_len (λ name. test (string_bytes name)) names
place_of_bytes test [] = refl
place_of_bytes test (name ∷ names) = ap (λ n. cond (not (test (string_bytes name))) (1 + n) 0) (place_of_bytes test names)

neither : (a b : Bool) → (a || b) ≡ false → (a ≡ false) × (b ≡ false)
neither true b h = cc
neither false b h = (refl, h)

-- a name that isn't among others differs from each
other_at : (name : List ℕ) (names : List (List ℕ)) → list_any (is_same name) names ≡ false → (k : ℕ) (d : List ℕ) → k < length names → get_or names k d ≢ name
other_at name [] h k d within same = absurd (omega arith)
other_at name (x ∷ names) h zero d within same =
    let first = (neither (is_same name x) (list_any (is_same name) names) h).0 in
    true≢false (sym ((bytes_eq-Decides name x).1 (sym same)) ∙ first)
other_at name (x ∷ names) h (suc k) d within same =
    other_at name names (neither (is_same name x) (list_any (is_same name) names) h).1 k d (omega arith) same

-- names stay names where one more is put behind them
pub kept_named : (names : NamesValue) (name : List ℕ) → IsNames names → is_named names name ≡ false → variables_met names < variable_limit
    → IsNames (named_too names name)
kept_named names name kept new room =
    record {
      differ = all_pairs_push (λ name other. name ≢ other) names.named name kept.differ (other_at name names.named new);
      known = length-append names.since (true ∷ []) ∙ ap (λ n. n + 1) kept.known ∙ sym (length-append names.named (name ∷ []));
      limit = grind (arith, common_steps);
    }

short_at : (b : Bool) (place size : ℕ) → place ≤ size → cond b (1 + place) 0 ≤ suc size
short_at true place size h = omega arith
short_at false place size h = omega arith

pub short_place : {X : Type 0} (test : X → Bool) (names : List X) → position_or_len test names ≤ length names
short_place test [] = omega arith
short_place test (name ∷ names) = short_at (not (test name)) (position_or_len test names) (length names) (short_place test names)

none_found : (b : Bool) (place size : ℕ) → nat_lt place size ≡ b → ◌≡◌ {A = Option ℕ} None (cond b (Some place) None) → place ≤ size → place ≡ size
none_found true place size lt is short = cc
none_found false place size lt is short = let over = ltb-false place size lt in omega arith

one_found : (b : Bool) (place size found : ℕ) → nat_lt place size ≡ b → ◌≡◌ {A = Option ℕ} (Some found) (cond b (Some place) None)
    → (place ≡ found) × (found < size)
one_found false place size found lt is = cc
one_found true place size found lt is =
    let here : place ≡ found = cc in
    let under = ltb-true place size lt in
    (here, omega arith)

module _ (test : List ℕ → Bool) (names : List (String Global)) where
  abbrev by_bytes : String Global → Bool
  by_bytes name = test (string_bytes name)

  -- what a search for a name gives
  pub found_place : (result : Option ℕ) → result ≡ position by_bytes names → is_some result ≡ list_any by_bytes names
      → MatchOption result ((list_any test (map string_bytes names) ≡ false) × (position_or_len test (map string_bytes names) ≡ length names))
      (λ place. (list_any test (map string_bytes names) ≡ true) × (position_or_len test (map string_bytes names) ≡ place) × (place < length names))
  found_place None is any = (
    any_of_bytes test names ∙ sym any,
    place_of_bytes test names ∙ none_found (nat_lt (position_or_len by_bytes names) (length names)) (position_or_len by_bytes names) (length names) refl is (short_place by_bytes names),
  )
  found_place (Some place) is any =
      let found = one_found (nat_lt (position_or_len by_bytes names) (length names)) (position_or_len by_bytes names) (length names) place refl is in
      (any_of_bytes test names ∙ sym any, place_of_bytes test names ∙ found.0, found.1)

-- strings are the same where their bytes are
abbrev same_string : String Global → String Global → Bool
same_string name other = is_same (string_bytes name) (string_bytes other)

put_at : (b : Bool) (names : List (String Global)) (name : String Global) → b ≡ false
    → map string_bytes (cond b names (names ++ name ∷ [])) ≡ map string_bytes names ++ string_bytes name ∷ []
put_at true names name new = cc
put_at false names name new = map-append string_bytes names (name ∷ [])

-- a name that is new is put behind the others
pub put_behind : (names : List (String Global)) (name : String Global) → list_any (is_same (string_bytes name)) (map string_bytes names) ≡ false
    → map string_bytes (insert_key same_string names name) ≡ map string_bytes names ++ string_bytes name ∷ []
put_behind names name new =
    put_at (list_any (same_string name) names) names name (sym (any_of_bytes (is_same (string_bytes name)) names) ∙ new)
