-- What is marked as bound is bound in each row that comes so far; so a plan's stages are ready.
use Rattle.std.proofs.Common.{◌≡◌, ◌∙◌, ℕ, suc, List, [], ◌∷◌, ◌++◌, Bool, true, false, ◌&&◌, Option, None, Some, length, get_or, replicate, All, refl, sym, ap, subst, inl, inr, true≢false, length-set, append_assoc, append-nil, zero, arith}
use Rattle.std.proofs.lemmas.Bool.{cases_eq, and_parts}
use Rattle.rdf_terms.specs.declared.terms.Term.{Term}
use Rattle.rdf_terms.specs.declared.terms.Term.TheVariants as terms
use Rattle.rdf_terms.specs.declared.terms.Triple.{Triple}
use Rattle.jrql_ast.specs.declared.patterns.PatternTriple.{PatternTriple}
use Rattle.jrql_ast.specs.declared.patterns.Slot.{Slot}
use Rattle.jrql_ast.specs.declared.patterns.Slot.TheVariants as slots
use Rattle.jrql_ast.specs.FilterMeaning.{side_value}
use Rattle.jrql_ast.specs.InForm.{IsSlotWithin, IsPatternWithin}
use Rattle.jrql_ast.specs.Solutions.{value_of, agree}
use Rattle.jrql_ast.proofs.Bindings.{get_set_other}
use Rattle.jrql_plans.specs.declared.plans.PatternStage.{PatternStage}
use Rattle.jrql_plans.specs.PlannedGroups.{IsBoundIn, AreReady, checks_of, planned}
use Rattle.jrql_plans.specs.Planning.{is_bound_slot, bound_with, bound_behind, bound_behind_all, IsWholeWithin, AreStaged}
use Rattle.jrql_ast.proofs.BoundSlots.{agree_length, agree_later, agree_now}

-- the marks are of as many variables, and each that is marked is bound
pub record Backs (bound : List Bool) (row : List (Option Term)) : Type 0 where
  pub places : length bound ≡ length row
  pub each : (variable : ℕ) → get_or bound variable false ≡ true → (x : Term) × (value_of variable row ≡ Some x)

-- a row in which nothing is marked
pub none_backed : (n : ℕ) → Backs (replicate n false) (replicate n None)
none_backed n = record { places = same n; each = λ variable h. absurd (true≢false (sym h ∙ unmarked n variable)) }
  where
    same : (n : ℕ) → length (replicate {A = Bool} n false) ≡ length (replicate {A = Option Term} n None)
    same zero = refl
    same (suc n) = ap suc (same n)

    unmarked : (n v : ℕ) → get_or (replicate n false) v false ≡ false
    unmarked zero v = refl
    unmarked (suc n) zero = refl
    unmarked (suc n) (suc v) = unmarked n v

-- one slot more that is bound
slot_backed : (bound : List Bool) (row : List (Option Term)) (slot : Slot) (x : Term) → Backs bound row → side_value slot row ≡ Some x → Backs (bound_with slot bound) row
slot_backed bound row (slots.Term given) x b h = b
slot_backed bound row (slots.Fresh n) x b h = b
slot_backed bound row (slots.Var w) x b h = record {
  places = length-set bound w true ∙ b.places;
  each = λ v m. elim (cases_eq w v) [
    | inl e ↦ (x, subst (λ z. value_of z row ≡ Some x) e h)
    | inr apart ↦ b.each v (sym (get_set_other bound w v true false apart) ∙ m)
  ];
}

-- a pattern that became a triple
pub pattern_backed : (bound : List Bool) (pattern : PatternTriple) (triple : Triple) (row next : List (Option Term)) → IsPatternWithin (length row) 0 pattern
    → agree pattern triple row ≡ Some next → Backs bound row → Backs (bound_behind pattern bound) next
pattern_backed bound pattern triple row next w h b =
    let now = agree_now pattern triple row next h w in
    let kept : Backs bound next = record {
      places = b.places ∙ sym (agree_length pattern triple row next h);
      each = λ v m. let k = b.each v m in (k.0, agree_later pattern triple row next h (slots.Var v) k.0 k.1);
    } in
    slot_backed (bound_with pattern.p (bound_with pattern.s bound)) next pattern.o triple.o
    (slot_backed (bound_with pattern.s bound) next pattern.p (terms.Iri triple.p)
    (slot_backed bound next pattern.s (terms.Iri triple.s) kept now.0) now.1) now.2

-- a slot that is marked as bound is
marked_slot : (bound : List Bool) (row : List (Option Term)) (slot : Slot) → Backs bound row → IsSlotWithin (length bound) 0 slot → is_bound_slot bound slot ≡ true → (x : Term) × (side_value slot row ≡ Some x)
marked_slot bound row (slots.Term given) b w h = (given, refl)
marked_slot bound row (slots.Var v) b w h = b.each v h
marked_slot bound row (slots.Fresh n) b w h = absurd (omega (arith, w))

pub whole_backed : (bound : List Bool) (row : List (Option Term)) (pattern : PatternTriple) → Backs bound row → IsWholeWithin bound pattern → IsBoundIn row pattern
whole_backed bound row pattern b w =
    let first = and_parts (is_bound_slot bound pattern.s) (is_bound_slot bound pattern.p && is_bound_slot bound pattern.o) w.whole in
    let rest = and_parts (is_bound_slot bound pattern.p) (is_bound_slot bound pattern.o) first.1 in
    let s = marked_slot bound row pattern.s b w.within.subject first.0 in
    let p = marked_slot bound row pattern.p b w.within.predicate rest.0 in
    let o = marked_slot bound row pattern.o b w.within.object rest.1 in
    record { s = s.0; p = p.0; o = o.0; subject = s.1; predicate = p.1; object = o.1 }

-- so staged stages are ready, where what is at their end holds of each row in which what is marked by then is bound
pub ready_from_staged : (end : List (Option Term) → Type 0) (stages : List PatternStage) (bound : List Bool) (row : List (Option Term))
    → ((last : List (Option Term)) → Backs (bound_behind_all bound stages) last → end last) → Backs bound row → AreStaged bound stages → AreReady end stages row
ready_from_staged end [] bound row at_end b s = at_end row b
ready_from_staged end (stage ∷ stages) bound row at_end b s = λ triple next h.
    let within = subst (λ n. IsPatternWithin n 0 stage.pattern.now) b.places s.0 in
    let backed = pattern_backed bound stage.pattern.now triple row next within h b in (
      (λ k d l. whole_backed (bound_behind stage.pattern.now bound) next (get_or stage.checks.items k d).now backed (s.1 k d l)),
      ready_from_staged end stages (bound_behind stage.pattern.now bound) next at_end backed s.2,
    )

-- a stage more
pub one_staged : (stages : List PatternStage) (stage : PatternStage) (bound : List Bool) → AreStaged bound stages
    → IsPatternWithin (length (bound_behind_all bound stages)) 0 stage.pattern.now
    → All (λ pattern. IsWholeWithin (bound_behind stage.pattern.now (bound_behind_all bound stages)) pattern.now) stage.checks.items
    → AreStaged bound (stages ++ stage ∷ [])
one_staged [] stage bound s w c = (w, c, tt)
one_staged (first ∷ stages) stage bound s w c = (s.0, s.1, one_staged stages stage (bound_behind first.pattern.now bound) s.2 w c)

pub bound_behind_more : (stages : List PatternStage) (stage : PatternStage) (bound : List Bool)
    → bound_behind_all bound (stages ++ stage ∷ []) ≡ bound_behind stage.pattern.now (bound_behind_all bound stages)
bound_behind_more [] stage bound = refl
bound_behind_more (first ∷ stages) stage bound = bound_behind_more stages stage (bound_behind first.pattern.now bound)

pub planned_more : (stages : List PatternStage) (stage : PatternStage) → planned (stages ++ stage ∷ []) ≡ planned stages ++ (stage.pattern.now ∷ checks_of stage)
planned_more [] stage = ap (λ l. stage.pattern.now ∷ l) (append-nil (checks_of stage))
planned_more (first ∷ stages) stage =
    ap (λ l. first.pattern.now ∷ l) (ap (λ l. checks_of first ++ l) (planned_more stages stage) ∙ sym (append_assoc (checks_of first) (planned stages) (stage.pattern.now ∷ checks_of stage)))

-- marks are of as many variables
pub bound_length : (bound : List Bool) (pattern : PatternTriple) → length (bound_behind pattern bound) ≡ length bound
bound_length bound pattern =
    one (bound_with pattern.p (bound_with pattern.s bound)) pattern.o ∙ one (bound_with pattern.s bound) pattern.p ∙ one bound pattern.s
  where
    one : (bound : List Bool) (slot : Slot) → length (bound_with slot bound) ≡ length bound
    one bound (slots.Term given) = refl
    one bound (slots.Var w) = length-set bound w true
    one bound (slots.Fresh n) = refl
