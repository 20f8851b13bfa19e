-- Marks of variables say which of them stand in triples.
use Rattle.std.proofs.Common.{◌≡◌, ◌∙◌, ℕ, zero, suc, ◌+◌, ◌<◌, ◌≤◌, List, [], ◌∷◌, ◌++◌, Bool, true, false, ◌||◌, ◌==◌, length, replicate, cond, refl, sym, ap, ⊎_elim, arith}
use Rattle.std.specs.Prelude.{slice_index_or, slice_set}
use Rattle.std.specs.List.{filter, list_any, range_with_len}
use Rattle.jrql_ast.specs.declared.patterns.PatternTriple.{PatternTriple}
use Rattle.jrql_ast.specs.declared.patterns.Slot.{Slot}
use Rattle.jrql_ast.specs.declared.patterns.Slot.TheVariants as slots
use Rattle.std.proofs.lemmas.Bool.Decides.{eqb_tells}
use Rattle.std.proofs.lemmas.List.{set_past, get_or-set_same, get_or-set_other, length-set, length-replicate, get_or-replicate}
use Rattle.jrql_patterns.specs.Marking.{is_marked, marked_slot, marked_triple, marked_triples, marked_branches, marks_of, numbers_marked}
use Rattle.jrql_patterns.specs.OpenGroups.{OpenGroup}
use Rattle.jrql_patterns.specs.QueryReading.{is_variable_slot, has_variable, stands_in, standing_variables}

-- behind the last mark nothing is set
pub slot_past : (marks : List Bool) (place : ℕ) → length marks ≤ place → slice_set marks place true ≡ marks
slot_past marks place h = set_past marks place true h

-- ---- how many marks there are

size_slot : (marks : List Bool) (slot : Slot) → length (marked_slot marks slot) ≡ length marks
size_slot marks (slots.Var number) = length-set marks number true
size_slot marks (slots.Term term) = refl
size_slot marks (slots.Fresh subject) = refl

size_triple : (marks : List Bool) (triple : PatternTriple) → length (marked_triple marks triple) ≡ length marks
size_triple marks triple =
    size_slot (marked_slot (marked_slot marks triple.s) triple.p) triple.o ∙ size_slot (marked_slot marks triple.s) triple.p ∙ size_slot marks triple.s

pub size_triples : (marks : List Bool) (triples : List PatternTriple) → length (marked_triples marks triples) ≡ length marks
size_triples marks [] = refl
size_triples marks (triple ∷ rest) = size_triples (marked_triple marks triple) rest ∙ size_triple marks triple

pub size_branches : (marks : List Bool) (branches : List (List PatternTriple)) → length (marked_branches marks branches) ≡ length marks
size_branches marks [] = refl
size_branches marks (branch ∷ rest) = size_branches (marked_triples marks branch) rest ∙ size_triples marks branch

pub size_marks : (group : OpenGroup) → length (marks_of group) ≡ length group.names.named
size_marks group =
    let first = replicate (length group.names.named) false in
    size_branches (marked_triples first group.patterns) group.branches ∙ size_triples first group.patterns ∙ length-replicate (length group.names.named) false

-- ---- what is marked

or_false : (b : Bool) → (b || false) ≡ b
or_false true = refl
or_false false = refl

or_assoc : (a b c : Bool) → ((a || b) || c) ≡ (a || (b || c))
or_assoc true b c = refl
or_assoc false b c = refl

or_true : (b : Bool) → (b || true) ≡ true
or_true true = refl
or_true false = refl

-- one place is set
set_at : (marks : List Bool) (place number : ℕ) → number < length marks
    → slice_index_or (slice_set marks place true) number false ≡ (slice_index_or marks number false || (place == number))
set_at marks place number within = ⊎_elim
    (λ same. let e = same.1 in ap (λ n. slice_index_or (slice_set marks place true) n false) (sym e) ∙ get_or-set_same marks place true false (omega arith)
    ∙ sym (ap (λ b. slice_index_or marks number false || b) same.0 ∙ or_true (slice_index_or marks number false)))
    (λ other. get_or-set_other marks place number true false (λ e. other.1 (sym e))
    ∙ sym (ap (λ b. slice_index_or marks number false || b) other.0 ∙ or_false (slice_index_or marks number false)))
    (eqb_tells place number)

at_slot : (marks : List Bool) (slot : Slot) (number : ℕ) → number < length marks
    → slice_index_or (marked_slot marks slot) number false ≡ (slice_index_or marks number false || is_variable_slot number slot)
at_slot marks (slots.Var variable) number within = set_at marks variable number within
at_slot marks (slots.Term term) number within = sym (or_false (slice_index_or marks number false))
at_slot marks (slots.Fresh subject) number within = sym (or_false (slice_index_or marks number false))

at_triple : (marks : List Bool) (triple : PatternTriple) (number : ℕ) → number < length marks
    → slice_index_or (marked_triple marks triple) number false ≡ (slice_index_or marks number false || has_variable number triple)
at_triple marks triple number within =
    let one = marked_slot marks triple.s in
    let two = marked_slot one triple.p in
    let a = size_slot marks triple.s in
    let b = size_slot one triple.p in
    let was = slice_index_or marks number false in
    let s = is_variable_slot number triple.s in
    let p = is_variable_slot number triple.p in
    let o = is_variable_slot number triple.o in
    at_slot two triple.o number (omega arith)
    ∙ ap (λ t. t || o) (at_slot one triple.p number (omega arith) ∙ ap (λ t. t || p) (at_slot marks triple.s number within))
    ∙ ap (λ t. t || o) (or_assoc was s p) ∙ or_assoc was (s || p) o

pub at_triples : (marks : List Bool) (triples : List PatternTriple) (number : ℕ) → number < length marks
    → slice_index_or (marked_triples marks triples) number false ≡ (slice_index_or marks number false || list_any (has_variable number) triples)
at_triples marks [] number within = sym (or_false (slice_index_or marks number false))
at_triples marks (triple ∷ rest) number within =
    let size = size_triple marks triple in
    at_triples (marked_triple marks triple) rest number (omega arith)
    ∙ ap (λ t. t || list_any (has_variable number) rest) (at_triple marks triple number within)
    ∙ or_assoc (slice_index_or marks number false) (has_variable number triple) (list_any (has_variable number) rest)

pub at_branches : (marks : List Bool) (branches : List (List PatternTriple)) (number : ℕ) → number < length marks
    → slice_index_or (marked_branches marks branches) number false ≡ (slice_index_or marks number false || list_any (list_any (has_variable number)) branches)
at_branches marks [] number within = sym (or_false (slice_index_or marks number false))
at_branches marks (branch ∷ rest) number within =
    let size = size_triples marks branch in
    at_branches (marked_triples marks branch) rest number (omega arith)
    ∙ ap (λ t. t || list_any (list_any (has_variable number)) rest) (at_triples marks branch number within)
    ∙ or_assoc (slice_index_or marks number false) (list_any (has_variable number) branch) (list_any (list_any (has_variable number)) rest)

at_marks : (group : OpenGroup) (number : ℕ) → number < length group.names.named → is_marked (marks_of group) number ≡ stands_in group number
at_marks group number within =
    let first = replicate (length group.names.named) false in
    let a = length-replicate (length group.names.named) false in
    let b = size_triples first group.patterns in
    at_branches (marked_triples first group.patterns) group.branches number (omega arith)
    ∙ ap (λ t. t || list_any (list_any (has_variable number)) group.branches)
    (at_triples first group.patterns number (omega arith)
    ∙ ap (λ t. t || list_any (has_variable number) group.patterns) (get_or-replicate (length group.names.named) number false false within))

-- ---- which numbers are marked

-- two tests that agree on numbers up to a bound find the same ones
same_found : (one other : ℕ → Bool) (first count high : ℕ) → first + count ≤ high → ((number : ℕ) → number < high → one number ≡ other number)
    → filter one (range_with_len first count) ≡ filter other (range_with_len first count)
same_found one other first zero high h same = refl
same_found one other first (suc count) high h same =
    let rest = same_found one other (first + 1) count high (omega arith) same in
    ap (λ b. cond b (first ∷ filter one (range_with_len (first + 1) count)) (filter one (range_with_len (first + 1) count))) (same first (omega arith))
    ∙ ap (λ l. cond (other first) (first ∷ l) l) rest

pub marks_are_standing : (group : OpenGroup) → numbers_marked (marks_of group) ≡ standing_variables group
marks_are_standing group =
    ap (λ size. filter (is_marked (marks_of group)) (range_with_len 0 size)) (size_marks group)
    ∙ same_found (is_marked (marks_of group)) (stands_in group) 0 (length group.names.named) (length group.names.named) (omega arith) (at_marks group)

-- one number more
from_first : (test : ℕ → Bool) (first count : ℕ) → filter test (range_with_len first (count + 1)) ≡ filter test (range_with_len first count) ++ filter test ((first + count) ∷ [])
from_first test first zero = ap (λ n. filter test (n ∷ [])) (omega arith)
from_first test first (suc count) =
    let next : suc count + 1 ≡ suc (count + 1) = omega arith in
    let same : first + 1 + count ≡ first + suc count = omega arith in
    let rest = from_first test (first + 1) count in
    rw (next, sym same) (elim (test first) as (λ b. cond b (first ∷ filter test (range_with_len (first + 1) (count + 1))) (filter test (range_with_len (first + 1) (count + 1)))
    ≡ cond b (first ∷ filter test (range_with_len (first + 1) count)) (filter test (range_with_len (first + 1) count)) ++ filter test ((first + 1 + count) ∷ [])) [
      | true ↦ ap (λ l. first ∷ l) rest
      | false ↦ rest
    ])

pub more_found : (test : ℕ → Bool) (count : ℕ) → filter test (range_with_len 0 (count + 1)) ≡ filter test (range_with_len 0 count) ++ filter test (count ∷ [])
more_found test count = from_first test 0 count ∙ ap (λ n. filter test (range_with_len 0 count) ++ filter test (n ∷ [])) (omega arith)
