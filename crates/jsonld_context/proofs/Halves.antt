-- Terms that ascend by their names, looked up by halves.
use Rattle.std.proofs.Common.{◌≡◌, ◌∙◌, ℕ, zero, suc, ◌+◌, ◌<◌, List, [], ◌∷◌, length, get_or, take, drop, true, false, cond, Bool, Ordering, ◌==◌, ◌/◌, Some, None, Less, Equal, Greater, nat_cmp, refl, sym, ap, subst, arith}
use Rattle.std.proofs.lemmas.Cmp.{nat_list_cmp_total}
use Rattle.std.specs.Cmp.Lexicographic.{slice_cmp}
use Rattle.std.specs.List.{AllByRecursion}
use Rattle.std.specs.List.Sorted.{IsStrictlySortedBy}
use Rattle.std.specs.Ordering.{is_eq}
use Rattle.std.proofs.lemmas.Bool.Decides.{nat_tests}
use Rattle.std.proofs.lemmas.Map.Text.{is_eq-slice_cmp}
use Rattle.rdf_terms.specs.Literal.{is_same}
use Rattle.jsonld_context.specs.Context.{AscendByName, find_term}
use Rattle.jsonld_context.specs.declared.definitions.Definition.{Definition}
use Rattle.jsonld_context.proofs.TermNames.{names}
use Rattle.jsonld_context.proofs.TextLaws.{same, differ, less_differ}

-- a text is below all others
abbrev IsBelow : List ℕ → List (List ℕ) → Type 0
IsBelow text others = AllByRecursion (λ other. slice_cmp nat_cmp text other ≡ Less) others

-- ---- parts of terms that ascend

below_taken : (text : List ℕ) (terms : List Definition) (k : ℕ) → IsBelow text (names terms) → IsBelow text (names (take k terms))
below_taken text terms zero h = tt
below_taken text [] (suc k) h = tt
below_taken text (term ∷ terms) (suc k) h = (h.0, below_taken text terms k h.1)

pub taken_ascend : (terms : List Definition) (k : ℕ) → AscendByName terms → AscendByName (take k terms)
unfolding IsStrictlySortedBy
taken_ascend terms zero h = tt
taken_ascend [] (suc k) h = tt
taken_ascend (term ∷ terms) (suc k) h = (below_taken term.name terms k h.0, taken_ascend terms k h.1)

pub dropped_ascend : (terms : List Definition) (k : ℕ) → AscendByName terms → AscendByName (drop k terms)
unfolding IsStrictlySortedBy
dropped_ascend terms zero h = h
dropped_ascend [] (suc k) h = tt
dropped_ascend (term ∷ terms) (suc k) h = dropped_ascend terms k h.1

below_at : (text : List ℕ) (terms : List Definition) (k : ℕ) (d : Definition) → k < length terms → IsBelow text (names terms)
    → slice_cmp nat_cmp text (get_or terms k d).name ≡ Less
below_at text [] k d within h = absurd (omega arith)
below_at text (term ∷ terms) zero d within h = h.0
below_at text (term ∷ terms) (suc k) d within h = below_at text terms k d (omega arith) h.1

-- ---- where a name isn't

-- a text that is below another isn't behind it
not_both : (text name : List ℕ) → slice_cmp nat_cmp text name ≡ Less → slice_cmp nat_cmp text name ≡ Greater → ⊥
not_both text name less greater = cc

none_above : (first name : List ℕ) (terms : List Definition) → IsBelow first (names terms) → slice_cmp nat_cmp first name ≡ Greater → find_term terms name ≡ None
none_above first name [] below greater = refl
none_above first name (term ∷ terms) below greater =
    let apart = differ term.name name (λ e. not_both first name (subst (λ (text : List ℕ). slice_cmp nat_cmp first text ≡ Less) e below.0) greater) in
    ap (λ b. cond b (Some term) (find_term terms name)) apart ∙ none_above first name terms below.1 greater

passed_by : (first : Definition) (terms : List Definition) (name : List ℕ) → slice_cmp nat_cmp first.name name ≡ Less
    → find_term (first ∷ terms) name ≡ find_term terms name
passed_by first terms name less = ap (λ b. cond b (Some first) (find_term terms name)) (less_differ first.name name less)

-- the middle of terms
pub middle_within : (size : ℕ) (empty : Bool) → empty ≡ (size == 0) → empty ≡ false → size / 2 < size
middle_within size empty is some = grind (arith, nat_tests)

module _ (name : List ℕ) (d : Definition) where
  -- how a term compares that was read
  pub compared : (terms : List Definition) (k : ℕ) (text : List ℕ) (told order : Ordering) → d ≡ get_or terms k d → text ≡ d.name
      → told ≡ slice_cmp nat_cmp text name → told ≡ order → slice_cmp nat_cmp (get_or terms k d).name name ≡ order
  compared terms k text told order read is said told_is =
      ap (λ (term : Definition). slice_cmp nat_cmp term.name name) (sym read) ∙ (ap (λ other. slice_cmp nat_cmp other name) (sym is) ∙ (sym said ∙ told_is))

  -- behind a lesser one
  pub found_behind : (terms : List Definition) (k : ℕ) → k < length terms → AscendByName terms
      → slice_cmp nat_cmp (get_or terms k d).name name ≡ Less → find_term (drop (k + 1) terms) name ≡ find_term terms name
  unfolding IsStrictlySortedBy
  found_behind [] k within h less = absurd (omega arith)
  found_behind (term ∷ terms) zero within h less = sym (passed_by term terms name less)
  found_behind (term ∷ terms) (suc k) within h less =
      let step : suc k + 1 ≡ suc (k + 1) = omega arith in
      let before : slice_cmp nat_cmp term.name name ≡ Less =
      nat_list_cmp_total.trans term.name (get_or terms k d).name name (below_at term.name terms k d (omega arith) h.0) less in
      rw step (found_behind terms k (omega arith) h.1 less ∙ sym (passed_by term terms name before))

  -- before a greater one
  pub found_before : (terms : List Definition) (k : ℕ) → k < length terms → AscendByName terms
      → slice_cmp nat_cmp (get_or terms k d).name name ≡ Greater → find_term (take k terms) name ≡ find_term terms name
  unfolding IsStrictlySortedBy
  found_before [] k within h greater = absurd (omega arith)
  found_before (term ∷ terms) zero within h greater =
      let apart : is_same term.name name ≡ false = sym (is_eq-slice_cmp term.name name) ∙ ap is_eq greater in
      sym (ap (λ b. cond b (Some term) (find_term terms name)) apart ∙ none_above term.name name terms h.0 greater)
  found_before (term ∷ terms) (suc k) within h greater =
      ap (λ found. cond (is_same term.name name) (Some term) found) (found_before terms k (omega arith) h.1 greater)

  -- at one with this name
  pub found_here : (terms : List Definition) (k : ℕ) → k < length terms → AscendByName terms
      → slice_cmp nat_cmp (get_or terms k d).name name ≡ Equal → find_term terms name ≡ Some (get_or terms k d)
  unfolding IsStrictlySortedBy
  found_here [] k within h equal = absurd (omega arith)
  found_here (term ∷ terms) zero within h equal =
      let is : is_same term.name name ≡ true = sym (is_eq-slice_cmp term.name name) ∙ ap is_eq equal in
      ap (λ b. cond b (Some term) (find_term terms name)) is
  found_here (term ∷ terms) (suc k) within h equal =
      let other = (get_or terms k d).name in
      let is : other ≡ name = same other name (sym (is_eq-slice_cmp other name) ∙ ap is_eq equal) in
      let before : slice_cmp nat_cmp term.name name ≡ Less = subst (λ (text : List ℕ). slice_cmp nat_cmp term.name text ≡ Less) is (below_at term.name terms k d (omega arith) h.0) in
      passed_by term terms name before ∙ found_here terms k (omega arith) h.1 equal
