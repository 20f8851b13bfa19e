-- What keeps to names, as they grow, and once its variables are numbered.
use Rattle.std.proofs.Common.{◌≡◌, ◌∙◌, ℕ, ◌+◌, ◌-◌, ◌<◌, ◌≤◌, List, [], ◌++◌, length, map, Bool, true, false, nat_lt, refl, sym, ap, if◌then◌else◌, inl, inr, ltb-true, ltb-false, arith}
use Rattle.std.specs.List.{All}
use Rattle.std.proofs.lemmas.List.{append_assoc, append-nil, length-append, length-replicate}
use Rattle.std.proofs.lemmas.List.Elements.{All-map, All-weaker}
use Rattle.jrql_ast.specs.InForm.{variable_limit, IsSlotWithin, IsPatternWithin, IsFilterWithin, IsGroupInForm, IsPlanInForm, IsTargetWithin, IsAskedInForm, IsQueryInForm}
use Rattle.jrql_ast.specs.declared.patterns.Filter.{Filter}
use Rattle.jrql_ast.specs.declared.patterns.PatternTriple.{PatternTriple}
use Rattle.jrql_ast.specs.declared.patterns.Slot.{Slot}
use Rattle.jrql_ast.specs.declared.patterns.Slot.TheVariants as slots
use Rattle.jrql_ast.specs.declared.queries.Target.{Target}
use Rattle.jrql_ast.specs.declared.queries.Target.TheVariants as targets
use Rattle.jrql_ast.specs.declared.queries.What.{What}
use Rattle.jrql_ast.specs.declared.queries.What.TheVariants as kinds
use Rattle.jsonld_values.specs.Numbering.{IsVariableOf, IsSlotOf, IsPatternOf, IsFilterOf, HasGrown, numbered_variable, numbered_slot, numbered_triple, numbered_filter, numbered_triples, numbered_filters, group_read, plan_read, IsAskedOf}
use Rattle.jsonld_values.specs.VariableNames.{NamesValue, IsNames, no_names, variables_met, marked}

-- ---- growing

pub grown_begins : (names : NamesValue) → HasGrown names names
grown_begins names = record { more = []; named = sym (append-nil names.named); hidden = omega arith; fresh = omega arith }

pub grown_on : (first second third : NamesValue) → HasGrown first second → HasGrown second third → HasGrown first third
grown_on first second third one two =
    let a = one.hidden in
    let b = two.hidden in
    let c = one.fresh in
    let d = two.fresh in
    record {
      more = one.more ++ two.more;
      named = two.named ∙ ap (λ (l : List (List ℕ)). l ++ two.more) one.named ∙ append_assoc first.named one.more two.more;
      hidden = omega arith;
      fresh = omega arith;
    }

-- a mark leaves names as they are
pub mark_grown : (names : NamesValue) → HasGrown names (marked names)
mark_grown names = record { more = []; named = sym (append-nil names.named); hidden = omega arith; fresh = omega arith }

pub mark_kept : (names : NamesValue) → IsNames names → IsNames (marked names)
mark_kept names kept = record { differ = kept.differ; known = length-replicate (length names.named) false; limit = kept.limit }

-- there are none at first
pub none_named : IsNames no_names
none_named = record { differ = λ i j other h g. absurd (omega arith); known = refl; limit = omega arith }

-- at least as many variables are named
pub grown_named : (before after : NamesValue) → HasGrown before after → length before.named ≤ length after.named
grown_named before after grown =
    let longer : length after.named ≡ length before.named + length grown.more = ap length grown.named ∙ length-append before.named grown.more in
    omega arith

pub variable_keeps : (before after : NamesValue) (variable : ℕ) → HasGrown before after → IsVariableOf before variable → IsVariableOf after variable
variable_keeps before after variable grown (inl named) = let longer = grown_named before after grown in inl (omega arith)
variable_keeps before after variable grown (inr hidden) = let more = grown.hidden in let low = hidden.0 in let high = hidden.1 in inr (low, omega arith)

pub slot_keeps : (before after : NamesValue) (fresh more : ℕ) (slot : Slot) → HasGrown before after → fresh ≤ more → IsSlotOf before fresh slot → IsSlotOf after more slot
slot_keeps before after fresh more (slots.Term term) grown h is = tt
slot_keeps before after fresh more (slots.Var variable) grown h is = variable_keeps before after variable grown is
slot_keeps before after fresh more (slots.Fresh subject) grown h is = omega arith

pub pattern_keeps : (before after : NamesValue) (fresh more : ℕ) (triple : PatternTriple) → HasGrown before after → fresh ≤ more → IsPatternOf before fresh triple → IsPatternOf after more triple
pattern_keeps before after fresh more triple grown h is = record {
  subject = slot_keeps before after fresh more triple.s grown h is.subject;
  predicate = slot_keeps before after fresh more triple.p grown h is.predicate;
  object = slot_keeps before after fresh more triple.o grown h is.object;
}

pub patterns_keep : (before after : NamesValue) (fresh more : ℕ) (triples : List PatternTriple) → HasGrown before after → fresh ≤ more
    → All (IsPatternOf before fresh) triples → All (IsPatternOf after more) triples
patterns_keep before after fresh more triples grown h all =
    All-weaker (IsPatternOf before fresh) (IsPatternOf after more) (λ triple is. pattern_keeps before after fresh more triple grown h is) triples all

pub filter_keeps : (before after : NamesValue) (filter : Filter) → HasGrown before after → IsFilterOf before filter → IsFilterOf after filter
filter_keeps before after filter grown is = record {
  left = slot_keeps before after 0 0 filter.left grown (omega arith) is.left;
  right = slot_keeps before after 0 0 filter.right grown (omega arith) is.right;
}

pub filters_keep : (before after : NamesValue) (filters : List Filter) → HasGrown before after → All (IsFilterOf before) filters → All (IsFilterOf after) filters
filters_keep before after filters grown all =
    All-weaker (IsFilterOf before) (IsFilterOf after) (λ filter is. filter_keeps before after filter grown is) filters all

target_on : (less more : ℕ) (target : Target) → less ≤ more → IsTargetWithin less target → IsTargetWithin more target
target_on less more (targets.Iri iri) h is = tt
target_on less more (targets.Var variable) h is = omega arith

targets_on : (less more : ℕ) (list : List Target) → less ≤ more → All (IsTargetWithin less) list → All (IsTargetWithin more) list
targets_on less more list h all = All-weaker (IsTargetWithin less) (IsTargetWithin more) (λ target is. target_on less more target h is) list all

pub asked_keeps : (before after : NamesValue) (what : What) → HasGrown before after → IsAskedOf before what → IsAskedOf after what
asked_keeps before after (kinds.Select select) grown all =
    let longer = grown_named before after grown in
    All-weaker (λ (variable : ℕ). variable < length before.named) (λ (variable : ℕ). variable < length after.named) (λ variable h. omega arith) select.vars all
asked_keeps before after (kinds.Describe list) grown all =
    targets_on (length before.named) (length after.named) list (grown_named before after grown) all

-- ---- numbering

by_limit : (names : NamesValue) (variable : ℕ) (low : Bool) → nat_lt variable variable_limit ≡ low → IsNames names → IsVariableOf names variable
    → (if low then variable else length names.named + (variable - variable_limit)) < variables_met names
by_limit names variable true low kept (inl named) = omega arith
by_limit names variable true low kept (inr hidden) = let under = ltb-true variable variable_limit low in let over = hidden.0 in absurd (omega arith)
by_limit names variable false low kept (inl named) =
    let over = ltb-false variable variable_limit low in
    let limit = kept.limit in
    absurd (omega arith)
by_limit names variable false low kept (inr hidden) = let a = hidden.0 in let b = hidden.1 in omega arith

pub variable_within : (names : NamesValue) (variable : ℕ) → IsNames names → IsVariableOf names variable
    → numbered_variable (length names.named) variable < variables_met names
variable_within names variable kept is = by_limit names variable (nat_lt variable variable_limit) refl kept is

pub slot_within : (names : NamesValue) (fresh : ℕ) (slot : Slot) → IsNames names → IsSlotOf names fresh slot
    → IsSlotWithin (variables_met names) fresh (numbered_slot (length names.named) slot)
slot_within names fresh (slots.Term term) kept is = tt
slot_within names fresh (slots.Var variable) kept is = variable_within names variable kept is
slot_within names fresh (slots.Fresh subject) kept is = is

pub triple_within : (names : NamesValue) (fresh : ℕ) (triple : PatternTriple) → IsNames names → IsPatternOf names fresh triple
    → IsPatternWithin (variables_met names) fresh (numbered_triple (length names.named) triple)
triple_within names fresh triple kept is = record {
  subject = slot_within names fresh triple.s kept is.subject;
  predicate = slot_within names fresh triple.p kept is.predicate;
  object = slot_within names fresh triple.o kept is.object;
}

pub triples_within : (names : NamesValue) (fresh : ℕ) (triples : List PatternTriple) → IsNames names → All (IsPatternOf names fresh) triples
    → All (IsPatternWithin (variables_met names) fresh) (numbered_triples names triples)
triples_within names fresh triples kept all =
    All-map (IsPatternWithin (variables_met names) fresh) (numbered_triple (length names.named)) triples
    (All-weaker (IsPatternOf names fresh) (λ triple. IsPatternWithin (variables_met names) fresh (numbered_triple (length names.named) triple)) (λ triple is. triple_within names fresh triple kept is) triples all)

pub branches_within : (names : NamesValue) (branches : List (List PatternTriple)) → IsNames names → All (All (IsPatternOf names 0)) branches
    → All (All (IsPatternWithin (variables_met names) 0)) (map (numbered_triples names) branches)
branches_within names branches kept all =
    All-map (All (IsPatternWithin (variables_met names) 0)) (numbered_triples names) branches
    (All-weaker (All (IsPatternOf names 0)) (λ branch. All (IsPatternWithin (variables_met names) 0) (numbered_triples names branch)) (λ branch is. triples_within names 0 branch kept is) branches all)

pub filter_within : (names : NamesValue) (filter : Filter) → IsNames names → IsFilterOf names filter
    → IsFilterWithin (variables_met names) (numbered_filter (length names.named) filter)
filter_within names filter kept is = record {
  left = slot_within names 0 filter.left kept is.left;
  right = slot_within names 0 filter.right kept is.right;
}

pub filters_within : (names : NamesValue) (filters : List Filter) → IsNames names → All (IsFilterOf names) filters
    → All (IsFilterWithin (variables_met names)) (numbered_filters names filters)
filters_within names filters kept all =
    All-map (IsFilterWithin (variables_met names)) (numbered_filter (length names.named)) filters
    (All-weaker (IsFilterOf names) (λ filter. IsFilterWithin (variables_met names) (numbered_filter (length names.named) filter)) (λ filter is. filter_within names filter kept is) filters all)

pub group_in_form : (names : NamesValue) (patterns : List PatternTriple) (branches : List (List PatternTriple)) (filters : List Filter)
    → IsNames names → All (IsPatternOf names 0) patterns → All (All (IsPatternOf names 0)) branches → All (IsFilterOf names) filters
    → IsGroupInForm (group_read names patterns branches filters)
group_in_form names patterns branches filters kept all every each = record {
  differ = kept.differ;
  limit = kept.limit;
  patterns = triples_within names 0 patterns kept all;
  branches = branches_within names branches kept every;
  filters = filters_within names filters kept each;
}

pub plan_in_form : (names : NamesValue) (patterns deletes inserts : List PatternTriple) (branches : List (List PatternTriple)) (filters : List Filter)
    → IsNames names → All (IsPatternOf names 0) patterns → All (All (IsPatternOf names 0)) branches → All (IsFilterOf names) filters
    → All (IsPatternOf names 0) deletes → All (IsPatternOf names names.fresh) inserts
    → IsPlanInForm (plan_read names (group_read names patterns branches filters) deletes inserts)
plan_in_form names patterns deletes inserts branches filters kept all every each gone come = record {
  group = group_in_form names patterns branches filters kept all every each;
  deletes = triples_within names 0 deletes kept gone;
  inserts = triples_within names names.fresh inserts kept come;
}

pub asked_in_form : (names : NamesValue) (patterns : List PatternTriple) (branches : List (List PatternTriple)) (filters : List Filter) (what : What)
    → IsAskedOf names what → IsAskedInForm (group_read names patterns branches filters) what
asked_in_form names patterns branches filters (kinds.Select select) asked = asked
asked_in_form names patterns branches filters (kinds.Describe list) asked =
    targets_on (length names.named) (variables_met names) list (omega arith) asked

pub query_in_form : (names : NamesValue) (patterns : List PatternTriple) (branches : List (List PatternTriple)) (filters : List Filter) (what : What)
    → IsNames names → All (IsPatternOf names 0) patterns → All (All (IsPatternOf names 0)) branches → All (IsFilterOf names) filters
    → IsAskedOf names what → IsQueryInForm (record { group = group_read names patterns branches filters; what = what })
query_in_form names patterns branches filters what kept all every each asked = record {
  group = group_in_form names patterns branches filters kept all every each;
  what = asked_in_form names patterns branches filters what asked;
}
