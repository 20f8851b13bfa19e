-- A variable that is met stands behind the names that were met before.
use Rattle.std.proofs.Common.{◌≡◌, ◌∙◌, ℕ, ◌+◌, ◌<◌, suc, List, [], ◌∷◌, ◌++◌, length, Bool, true, false, ◌||◌, cond, not, nat_lt, Result, Ok, Err, refl, sym, subst, if◌then◌else◌, inl, ltb-true, arith}
use Rattle.std.specs.List.{list_any, position_or_len}
use Rattle.std.proofs.lemmas.List.{append-nil, length-append, length-set}
use Rattle.jrql_ast.specs.InForm.{variable_limit}
use Rattle.jrql_ast.specs.declared.patterns.Slot.{Slot}
use Rattle.jrql_ast.specs.declared.patterns.Slot.TheVariants as slots
use Rattle.jsonld_context.specs.declared.faults.JsonFault.{JsonFault}
use Rattle.jsonld_context.specs.declared.faults.JsonFault.TheVariants as faults
use Rattle.rdf_terms.specs.Literal.{is_same}
use Rattle.jsonld_values.specs.Numbering.{IsMetBehind}
use Rattle.jsonld_values.specs.VariableNames.{NamesValue, is_named, name_number, named_too, met_again, variables_met, meet_variable}
use Rattle.jsonld_values.proofs.Naming.{short_place, kept_named}

-- the place of an element that passes is one of the list
place_at : (passes rest : Bool) (place size : ℕ) → (passes || rest) ≡ true → (rest ≡ true → place < size) → cond (not passes) (1 + place) 0 < suc size
place_at true rest place size some behind = omega arith
place_at false rest place size some behind = let h = behind some in omega arith

pub place_found : {X : Type 0} (test : X → Bool) (list : List X) → list_any test list ≡ true → position_or_len test list < length list
place_found test [] some = absurd (none some)
  where
    none : false ≡ true → ⊥
    none h = cc
place_found test (x ∷ list) some =
    place_at (test x) (list_any test list) (position_or_len test list) (length list) some (place_found test list)

-- one that was met before
again : (names : NamesValue) (name : List ℕ) → is_named names name ≡ true
    → IsMetBehind names (met_again names (name_number names name), slots.Var (name_number names name))
again names name known = record {
  grown = record { more = []; named = sym (append-nil names.named); hidden = omega arith; fresh = omega arith };
  hidden = refl;
  fresh = refl;
  slot = inl (place_found (is_same name) names.named known);
  still = λ kept. record { differ = kept.differ; known = length-set names.since (name_number names name) true ∙ kept.known; limit = kept.limit };
}

-- a new one
behind : (names : NamesValue) (name : List ℕ) → is_named names name ≡ false → variables_met names < variable_limit
    → IsMetBehind names (named_too names name, slots.Var (name_number names name))
behind names name new room =
    let short = short_place (is_same name) names.named in
    let longer : length (names.named ++ name ∷ []) ≡ length names.named + 1 = length-append names.named (name ∷ []) in
    let within : name_number names name < length (names.named ++ name ∷ []) = omega arith in
    record {
      grown = record { more = name ∷ []; named = refl; hidden = omega arith; fresh = omega arith };
      hidden = refl;
      fresh = refl;
      slot = inl within;
      still = λ kept. kept_named names name kept new room;
    }

ok_same : {X : Type 0} (x y : X) → ◌≡◌ {A = Result X JsonFault} (Ok x) (Ok y) → x ≡ y
ok_same x y h = cc

no_fault : {X : Type 0} (x : X) (fault : JsonFault) → ◌≡◌ {A = Result X JsonFault} (Err fault) (Ok x) → ⊥
no_fault x fault h = cc

met_by : (names : NamesValue) (name : List ℕ) (met : NamesValue × Slot) (known room : Bool) → is_named names name ≡ known → nat_lt (variables_met names) variable_limit ≡ room
    → ◌≡◌ {A = Result (NamesValue × Slot) JsonFault} (if known then Ok (met_again names (name_number names name), slots.Var (name_number names name))
    else (if room then Ok (named_too names name, slots.Var (name_number names name)) else Err (faults.BadQuery name))) (Ok met)
    → IsMetBehind names met
met_by names name met true room known is reads = subst (IsMetBehind names) (ok_same _ met reads) (again names name known)
met_by names name met false true known is reads =
    subst (IsMetBehind names) (ok_same _ met reads) (behind names name known (ltb-true (variables_met names) variable_limit is))
met_by names name met false false known is reads = absurd (no_fault met (faults.BadQuery name) reads)

pub met_behind : (names : NamesValue) (name : List ℕ) (met : NamesValue × Slot) → meet_variable names name ≡ Ok met → IsMetBehind names met
met_behind names name met reads = met_by names name met (is_named names name) (nat_lt (variables_met names) variable_limit) refl refl reads
