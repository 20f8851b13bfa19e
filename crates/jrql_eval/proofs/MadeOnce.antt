-- What templates without variables make for all solutions.
use Rattle.std.proofs.Common.{◌≡◌, ◌∙◌, ℕ, ◌+◌, List, [], ◌∷◌, ◌++◌, ◌↔◌, ◌⊎◌, Option, None, Some, true, ◌&&◌, not, take, filter, filter_map, refl, sym, ap, subst, inl, inr}
use Rattle.std.specs.List.{cons_option}
use Rattle.std.proofs.lemmas.Bool.{and_parts, cases_Bool, true≢false}
use Rattle.jrql_rows.specs.rdf_terms.declared.terms.Term.{Term}
use Rattle.jrql_rows.specs.rdf_terms.declared.terms.Triple.{Triple}
use Rattle.jrql_rows.specs.tree_clock.Lists.{Has}
use Rattle.jrql_rows.proofs.of_mld_ops.AscendingLaws.{has_append, has_left, has_right, has_filter}
use Rattle.jrql_rows.specs.jrql_ast.declared.patterns.PatternTriple.{PatternTriple}
use Rattle.jrql_rows.specs.jrql_ast.declared.patterns.Slot.{Slot}
use Rattle.jrql_rows.specs.jrql_ast.declared.patterns.Slot.TheVariants as slots
use Rattle.jrql_rows.specs.jrql_ast.Templates.{slot_for, triple_from, made_for, made_from}
use Rattle.jrql_eval.specs.ConstantTemplates.{is_fixed, is_constant, AreMadeBy}

-- ---- what is made of the members of a list, where something is

from_front : {Y : Type 0} (o : Option Y) (rest : List Y) (y : Y) → Has (cons_option o rest) y → (o ≡ Some y) ⊎ Has rest y
from_front None rest y h = inr h
from_front (Some z) rest y (inl e) = inl (ap Some e)
from_front (Some z) rest y (inr h) = inr h

to_front : {Y : Type 0} (o : Option Y) (rest : List Y) (y : Y) → o ≡ Some y → Has (cons_option o rest) y
to_front None rest y e = cc
to_front (Some z) rest y e = let q : z ≡ y = cc in inl q

to_rest : {Y : Type 0} (o : Option Y) (rest : List Y) (y : Y) → Has rest y → Has (cons_option o rest) y
to_rest None rest y h = h
to_rest (Some z) rest y h = inr h

made_of_one : {X Y : Type 0} (f : X → Option Y) (xs : List X) (y : Y) → Has (filter_map f xs) y ↔ ((x : X) × Has xs x × (f x ≡ Some y))
made_of_one f [] y = (λ h. absurd h, λ h. absurd h.1)
made_of_one f (x ∷ xs) y = (
  λ h. elim (from_front (f x) (filter_map f xs) y h) [
    | inl e ↦ (x, inl refl, e)
    | inr k ↦ let r = (made_of_one f xs y).0 k in (r.0, inr r.1, r.2)
  ],
  λ h. elim h.1 [
    | inl e ↦ to_front (f x) (filter_map f xs) y (ap f e ∙ h.2)
    | inr k ↦ to_rest (f x) (filter_map f xs) y ((made_of_one f xs y).1 (h.0, k, h.2))
  ],
)

-- ---- templates without variables

same_slot : (name other : ℕ → List ℕ) (row second : List (Option Term)) (slot : Slot) → is_fixed slot ≡ true → slot_for name row slot ≡ slot_for other second slot
same_slot name other row second (slots.Term term) e = refl
same_slot name other row second (slots.Var variable) e = absurd (true≢false (sym e))
same_slot name other row second (slots.Fresh subject) e = absurd (true≢false (sym e))

-- such a template makes the same for each solution
same_made : (name other : ℕ → List ℕ) (row second : List (Option Term)) (template : PatternTriple) → is_constant template ≡ true
    → made_for name row template ≡ made_for other second template
same_made name other row second template e =
    let first = and_parts (is_fixed template.s) (is_fixed template.p && is_fixed template.o) e in
    let more = and_parts (is_fixed template.p) (is_fixed template.o) first.1 in
    let s = same_slot name other row second template.s first.0 in
    let p = same_slot name other row second template.p more.0 in
    let o = same_slot name other row second template.o more.1 in
    λ i. triple_from (s i) (p i) (o i)

-- ---- which template makes a triple

module _ (names : ℕ → ℕ → List ℕ) where
  -- a template makes a triple for one of these solutions
  abbrev Makes : ℕ → List (List (Option Term)) → PatternTriple → Triple → Type 0
  Makes number [] template triple = ⊥
  Makes number (row ∷ rows) template triple = (made_for (names number) row template ≡ Some triple) ⊎ Makes (number + 1) rows template triple

  has_made : (templates : List PatternTriple) (number : ℕ) (rows : List (List (Option Term))) (triple : Triple)
      → Has (made_from names templates number rows) triple ↔ ((template : PatternTriple) × Has templates template × Makes number rows template triple)
  has_made templates number [] triple = (λ h. absurd h, λ h. absurd h.2)
  has_made templates number (row ∷ rows) triple =
      let here = made_of_one (made_for (names number) row) templates triple in
      let later = has_made templates (number + 1) rows triple in
      let first = filter_map (made_for (names number) row) templates in
      let rest = made_from names templates (number + 1) rows in (
        λ h. elim (has_append first rest triple h) [
          | inl k ↦ let r = here.0 k in (r.0, r.1, inl r.2)
          | inr k ↦ let r = later.0 k in (r.0, r.1, inr r.2)
        ],
        λ h. elim h.2 [
          | inl e ↦ has_left first rest triple (here.1 (h.0, h.1, e))
          | inr k ↦ has_right first rest triple (later.1 (h.0, h.1, k))
        ],
      )

  -- what a template without variables makes for any solution it makes for each
  made_for_each : (template : PatternTriple) (triple : Triple) → is_constant template ≡ true → (number : ℕ) (rows : List (List (Option Term)))
      → Makes number rows template triple → (name : ℕ → List ℕ) (row : List (Option Term)) → made_for name row template ≡ Some triple
  made_for_each template triple constant number [] makes name row = absurd makes
  made_for_each template triple constant number (first ∷ rows) (inl e) name row = same_made name (names number) row first template constant ∙ e
  made_for_each template triple constant number (first ∷ rows) (inr k) name row = made_for_each template triple constant (number + 1) rows k name row

  -- so the first solution is enough
  to_first : (template : PatternTriple) (triple : Triple) → is_constant template ≡ true → (rows : List (List (Option Term)))
      → Makes 0 rows template triple → Makes 0 (take 1 rows) template triple
  to_first template triple constant [] makes = absurd makes
  to_first template triple constant (first ∷ rows) makes = inl (made_for_each template triple constant 0 (first ∷ rows) makes (names 0) first)

  from_first : (template : PatternTriple) (triple : Triple) (rows : List (List (Option Term))) → Makes 0 (take 1 rows) template triple → Makes 0 rows template triple
  from_first template triple [] makes = absurd makes
  from_first template triple (first ∷ rows) (inl e) = inl e
  from_first template triple (first ∷ rows) (inr k) = absurd k

  -- made in two parts are just the triples that are made
  pub made_in_parts : (templates constant others : List PatternTriple) (rows : List (List (Option Term))) (made once all : List Triple)
      → constant ≡ filter is_constant templates → others ≡ filter (λ template. not (is_constant template)) templates
      → made ≡ made_from names others 0 rows → once ≡ made_from names constant 0 (take 1 rows) → all ≡ made ++ once
      → AreMadeBy names templates rows all
  made_in_parts templates constant others rows made once all e f g h is =
      let c = filter is_constant templates in
      let v = filter (λ template. not (is_constant template)) templates in
      let a = made_from names v 0 rows in
      let b = made_from names c 0 (take 1 rows) in
      let whole : all ≡ a ++ b = is ∙ (λ i. (g ∙ ap (λ (l : List PatternTriple). made_from names l 0 rows) f) i ++ (h ∙ ap (λ (l : List PatternTriple). made_from names l 0 (take 1 rows)) e) i) in
      subst (AreMadeBy names templates rows) (sym whole) (λ triple. (
        λ k. elim (has_append a b triple k) [
          | inl m ↦ (
              let r = (has_made v 0 rows triple).0 m in
              (has_made templates 0 rows triple).1 (r.0, ((has_filter (λ template. not (is_constant template)) templates r.0).0 r.1).0, r.2))
          | inr m ↦ (
              let r = (has_made c 0 (take 1 rows) triple).0 m in
              (has_made templates 0 rows triple).1 (r.0, ((has_filter is_constant templates r.0).0 r.1).0, from_first r.0 triple rows r.2))
        ],
        λ k. let r = (has_made templates 0 rows triple).0 k in
            elim (cases_Bool (is_constant r.0)) [
              | inl same ↦ has_right a b triple
                  ((has_made c 0 (take 1 rows) triple).1 (r.0, (has_filter is_constant templates r.0).1 (r.1, same), to_first r.0 triple same rows r.2))
              | inr varied ↦ has_left a b triple
                  ((has_made v 0 rows triple).1 (r.0, (has_filter (λ template. not (is_constant template)) templates r.0).1 (r.1, ap not varied), r.2))
            ],
      ))
