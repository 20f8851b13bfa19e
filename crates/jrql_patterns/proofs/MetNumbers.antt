-- The number of a variable that is met.
use Rattle.std.proofs.Common.{◌≡◌, ℕ, ◌+◌, ◌<◌, List, [], ◌∷◌, ◌++◌, length, Bool, true, false, nat_lt, Result, Ok, Err, refl, sym, ap, ◌∙◌, subst, if◌then◌else◌, arith}
use Rattle.std.proofs.lemmas.List.{length-append}
use Rattle.jrql_ast.specs.InForm.{variable_limit}
use Rattle.jrql_ast.specs.declared.patterns.Slot.{Slot}
use Rattle.jrql_ast.specs.declared.patterns.Slot.TheVariants as slots
use Rattle.rdf_terms.specs.Literal.{is_same}
use Rattle.rdf_terms.specs.declared.terms.Term.{Term}
use Rattle.jsonld_context.specs.declared.faults.JsonFault.{JsonFault}
use Rattle.jsonld_context.specs.declared.faults.JsonFault.TheVariants as faults
use Rattle.jsonld_subjects.specs.jsonld_values.Literals.{made_of}
use Rattle.jsonld_subjects.specs.jsonld_values.VariableNames.{NamesValue, variables_met, is_named, name_number, met_again, named_too, meet_variable}
use Rattle.jsonld_subjects.proofs.of_jsonld_values.Meeting.{place_found}
use Rattle.jsonld_subjects.proofs.of_jsonld_values.Naming.{short_place}
use Rattle.jsonld_subjects.proofs.KeptNames.{ok_same, no_fault}
use Rattle.jrql_patterns.specs.OpenGroups.{meet_number}

-- it is its place among the names, and below their number
pub record IsItsNumber (names : NamesValue) (name : List ℕ) (met : NamesValue × Slot) : Type 0 where
  pub slot : met.1 ≡ slots.Var (name_number names name)
  pub named : name_number names name < length met.0.named

by_ways : (names : NamesValue) (name : List ℕ) (met : NamesValue × Slot) (known room : Bool) → is_named names name ≡ known
    → ◌≡◌ {A = Result (NamesValue × Slot) JsonFault} (if known then Ok (met_again names (name_number names name), slots.Var (name_number names name))
    else (if room then Ok (named_too names name, slots.Var (name_number names name)) else Err (faults.BadQuery name))) (Ok met)
    → IsItsNumber names name met
by_ways names name met true room known reads =
    subst (IsItsNumber names name) (ok_same _ met reads) (record { slot = refl; named = place_found (is_same name) names.named known })
by_ways names name met false true known reads =
    let short = short_place (is_same name) names.named in
    let longer : length (names.named ++ name ∷ []) ≡ length names.named + 1 = length-append names.named (name ∷ []) in
    let within : name_number names name < length (names.named ++ name ∷ []) = omega arith in
    subst (IsItsNumber names name) (ok_same _ met reads) (record { slot = refl; named = within })
by_ways names name met false false known reads = absurd (no_fault met (faults.BadQuery name) reads)

pub met_number : (names : NamesValue) (name : List ℕ) (met : NamesValue × Slot) → meet_variable names name ≡ Ok met → IsItsNumber names name met
met_number names name met reads = by_ways names name met (is_named names name) (nat_lt (variables_met names) variable_limit) refl reads

var_same : (one other : ℕ) → ◌≡◌ {A = Slot} (slots.Var one) (slots.Var other) → one ≡ other
var_same one other h = cc

not_term : (term : Term) (variable : ℕ) → ◌≡◌ {A = Slot} (slots.Term term) (slots.Var variable) → ⊥
not_term term variable h = cc

not_fresh : (subject variable : ℕ) → ◌≡◌ {A = Slot} (slots.Fresh subject) (slots.Var variable) → ⊥
not_fresh subject variable h = cc

-- a variable is met and nothing else, and by this number
pub number_met : (names : NamesValue) (name : List ℕ) (after : NamesValue) (variable : ℕ) → meet_variable names name ≡ Ok (after, slots.Var variable)
    → meet_number names name ≡ Ok (after, variable)
number_met names name after variable reads =
    let same = var_same variable (name_number names name) (met_number names name (after, slots.Var variable) reads).slot in
    ap (λ (r : Result (NamesValue × Slot) JsonFault). made_of r (λ met. (met.0, name_number names name))) reads ∙ ap (λ n. Ok (after, n)) (sym same)

pub no_term_met : (names : NamesValue) (name : List ℕ) (after : NamesValue) (term : Term) → meet_variable names name ≡ Ok (after, slots.Term term) → ⊥
no_term_met names name after term reads = not_term term (name_number names name) (met_number names name (after, slots.Term term) reads).slot

pub no_fresh_met : (names : NamesValue) (name : List ℕ) (after : NamesValue) (subject : ℕ) → meet_variable names name ≡ Ok (after, slots.Fresh subject) → ⊥
no_fresh_met names name after subject reads = not_fresh subject (name_number names name) (met_number names name (after, slots.Fresh subject) reads).slot
