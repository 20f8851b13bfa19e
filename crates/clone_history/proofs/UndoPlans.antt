-- The plans that take operations back: the loops that make them, that they are in form, and their effects.
use Rattle.std.proofs.Common.{◌≡◌, ◌∙◌, ℕ, ◌+◌, ◌<◌, ◌≤◌, List, [], ◌∷◌, ◌++◌, ◌↔◌, length, get_or, take, map, Option, inl, inr, refl, sym, ap, subst, arith, append-nil}
use Rattle.std.proofs.lemmas.List.Elements.{All-from_recursion}
use Rattle.std.proofs.lemmas.List.Sorted.{length_permutation}
use Rattle.std.specs.List.{All, AllByRecursion, filter_map}
use Rattle.rdf_terms.specs.declared.terms.Term.{Term}
use Rattle.rdf_terms.specs.declared.terms.Triple.{Triple}
use Rattle.tree_clock.specs.declared.dots.Dot.{Dot}
use Rattle.tree_clock.specs.Lists.{Has}
use Rattle.mld_ops.specs.declared.tagged.Tagged.{Tagged}
use Rattle.mld_ops.specs.Effects.{EffectValue}
use Rattle.mld_ops.specs.Entry.{EntryValue}
use Rattle.mld_ops.specs.Present.{present}
use Rattle.mld_ops.specs.Ready.{last_dot}
use Rattle.jrql_ast.specs.declared.patterns.PatternTriple.{PatternTriple}
use Rattle.jrql_ast.specs.declared.plans.UpdatePlan.{UpdatePlan}
use Rattle.jrql_ast.specs.InForm.{IsGroupInForm, IsPatternWithin, IsPlanInForm}
use Rattle.jrql_ast.specs.QueryAnswers.{IsSolutions}
use Rattle.jrql_ast.specs.Templates.{made_for, made_from, template_of, no_group}
use Rattle.jrql_eval.specs.PlanEffects.{IsPlanEffect}
use Rattle.clone_history.specs.KeptMembers.{KeepsThose}
use Rattle.clone_history.specs.UndoParts.{AreTemplates}
use Rattle.clone_history.specs.Undoing.{triples_plan, IsTakenOut, IsPutBack, TakesBack}
use Rattle.clone_history.proofs.KeptLists.{keeps_more, keeps_same, keeps_all}

-- ---- lists of images

module _ {X Y Z : Type 0} (f : X → Y) (g : Y → Z) where
  map_twice : (xs : List X) → map g (map f xs) ≡ map (λ x. g (f x)) xs
  map_twice [] = refl
  map_twice (x ∷ xs) = ap (λ (zs : List Z). g (f x) ∷ zs) (map_twice xs)

map_more : {X Y : Type 0} (f : X → Y) (xs : List X) (x : X) → map f (xs ++ x ∷ []) ≡ map f xs ++ f x ∷ []
map_more f [] x = refl
map_more {X} {Y} f (y ∷ xs) x = ap (λ (zs : List Y). f y ∷ zs) (map_more f xs x)

keeps_mapped : {X Y : Type 0} (f : X → Y) (P : Y → Type 0) (xs kept : List X) → KeepsThose (λ x. P (f x)) xs kept → KeepsThose P (map f xs) (map f kept)
keeps_mapped {X} {Y} f P [] kept k = ap (map f) k
keeps_mapped {X} {Y} f P (x ∷ xs) kept (inl k) = inl (k.0, map f k.1, keeps_mapped f P xs k.1 k.2, ap (map f) k.3)
keeps_mapped {X} {Y} f P (x ∷ xs) kept (inr k) = inr (k.0, keeps_mapped f P xs kept k.1)

-- ---- the loops

module _ {X : Type 0} (P : X → Type 0) (triple_of : X → Triple) (items : List X) where
  pub templates_none : (templates : List PatternTriple) → templates ≡ [] → AreTemplates P triple_of (take 0 items) templates
  templates_none templates e = record { kept = []; keeps = refl; are = e }

  pub templates_same : (i : ℕ) (x : X) (templates : List PatternTriple) → i < length items → x ≡ get_or items i x → AreTemplates P triple_of (take i items) templates
      → ¬ P x → AreTemplates P triple_of (take (i + 1) items) templates
  templates_same i x templates l e so n = record { kept = so.kept; keeps = keeps_same P items so.kept i x l e so.keeps n; are = so.are }

  pub templates_more : (i : ℕ) (x : X) (templates : List PatternTriple) (template : PatternTriple) → i < length items → x ≡ get_or items i x
      → AreTemplates P triple_of (take i items) templates → P x → template ≡ template_of (triple_of x)
      → AreTemplates P triple_of (take (i + 1) items) (templates ++ template ∷ [])
  templates_more i x templates template l e so p is = record {
    kept = so.kept ++ x ∷ [];
    keeps = keeps_more P items so.kept i x l e so.keeps p;
    are = (λ j. so.are j ++ is j ∷ []) ∙ sym (map_more (λ y. template_of (triple_of y)) so.kept x);
  }

  pub templates_all : (i : ℕ) (templates : List PatternTriple) → length items ≤ i → AreTemplates P triple_of (take i items) templates → AreTemplates P triple_of items templates
  templates_all i templates l so = record { kept = so.kept; keeps = keeps_all P items so.kept i l so.keeps; are = so.are }

-- the plan of such templates takes the operation back
pub plan_takes_back : (entry : EntryValue) (pairs : List Tagged) (plan : UpdatePlan) (gone back : List PatternTriple)
    → AreTemplates (λ (insert : Triple × ℕ). IsTakenOut (last_dot entry.range) entry.deletes pairs insert.0) (λ insert. insert.0) entry.inserts gone
    → AreTemplates (IsPutBack pairs) (λ (pair : Tagged). pair.triple) entry.deletes back
    → plan ≡ record { group = no_group; deletes = gone; inserts = back; fresh = 0 } → TakesBack entry pairs plan
plan_takes_back entry pairs plan gone back goes comes is =
    let left : gone ≡ map template_of (map (λ (insert : Triple × ℕ). insert.0) goes.kept) =
    goes.are ∙ sym (map_twice (λ (insert : Triple × ℕ). insert.0) template_of goes.kept) in
    let right : back ≡ map template_of (map (λ (pair : Tagged). pair.triple) comes.kept) =
    comes.are ∙ sym (map_twice (λ (pair : Tagged). pair.triple) template_of comes.kept) in
    record {
      gone = map (λ (insert : Triple × ℕ). insert.0) goes.kept;
      goes = keeps_mapped (λ (insert : Triple × ℕ). insert.0) (IsTakenOut (last_dot entry.range) entry.deletes pairs) entry.inserts goes.kept goes.keeps;
      back = comes.kept;
      comes = comes.keeps;
      is = is ∙ (λ i. record { group = no_group; deletes = left i; inserts = right i; fresh = 0 });
    }

-- ---- in form

all_of_none : {X : Type 0} (P : X → Type 0) → All P []
all_of_none P k d inside = absurd (omega (arith, inside))

no_group_in_form : IsGroupInForm no_group
no_group_in_form = record {
  differ = λ i j d before inside. absurd (omega (arith, inside));
  limit = omega arith;
  patterns = all_of_none _;
  branches = all_of_none _;
  filters = all_of_none _;
}

templates_within : (triples : List Triple) → AllByRecursion (IsPatternWithin 0 0) (map template_of triples)
templates_within [] = tt
templates_within (triple ∷ triples) = (record { subject = tt; predicate = tt; object = tt }, templates_within triples)

pub triples_plan_in_form : (deletes inserts : List Triple) → IsPlanInForm (triples_plan deletes inserts)
triples_plan_in_form deletes inserts = record {
  group = no_group_in_form;
  deletes = All-from_recursion (IsPatternWithin 0 0) (map template_of deletes) (templates_within deletes);
  inserts = All-from_recursion (IsPatternWithin 0 0) (map template_of inserts) (templates_within inserts);
}

pub takes_back_in_form : (entry : EntryValue) (pairs : List Tagged) (plan : UpdatePlan) → TakesBack entry pairs plan → IsPlanInForm plan
takes_back_in_form entry pairs plan takes =
    subst IsPlanInForm (sym takes.is) (triples_plan_in_form takes.gone (map (λ (pair : Tagged). pair.triple) takes.back))

-- ---- effects

-- templates of triples make just these, whatever the solution is
made_of : (names : ℕ → List ℕ) (row : List (Option Term)) (triples : List Triple) → filter_map (made_for names row) (map template_of triples) ≡ triples
made_of names row [] = refl
made_of names row (triple ∷ triples) = ap (λ (ts : List Triple). triple ∷ ts) (made_of names row triples)

made_once : (names : ℕ → ℕ → List ℕ) (triples : List Triple) (rows : List (List (Option Term))) → length rows ≡ 1 → made_from names (map template_of triples) 0 rows ≡ triples
made_once names triples [] one = absurd (omega (arith, one))
made_once names triples (row ∷ []) one = append-nil (filter_map (made_for (names 0) row) (map template_of triples)) ∙ made_of (names 0) row triples
made_once names triples (row ∷ other ∷ rows) one = absurd (omega (arith, one))

one_solution : (graph : List Triple) (rows : List (List (Option Term))) → IsSolutions graph no_group rows → length rows ≡ 1
one_solution graph rows s = omega (arith, length_permutation ([] ∷ []) rows s.sorted.same)

-- what the effect of such a plan deletes and inserts
pub record DoesJust (pairs : List Tagged) (deletes inserts : List Triple) (effect : EffectValue) : Type 0 where
  pub gone : (pair : Tagged) → Has effect.deletes pair ↔ (Has pairs pair × Has deletes pair.triple)
  pub come : (triple : Triple) → Has effect.inserts triple ↔ Has inserts triple

pub triples_effect : (domain : List ℕ) (dot : Dot) (pairs : List Tagged) (deletes inserts : List Triple) (effect : EffectValue)
    → IsPlanEffect domain dot pairs (triples_plan deletes inserts) effect → DoesJust pairs deletes inserts effect
triples_effect domain dot pairs deletes inserts effect has =
    let one : length has.rows ≡ 1 = one_solution (present pairs) has.rows has.solutions in
    record {
      gone = λ pair. (
        λ h. let m = (has.does.deletes.members pair).0 h in (m.0, subst (λ (ts : List Triple). Has ts pair.triple) (made_once _ deletes has.rows one) m.1),
        λ h. (has.does.deletes.members pair).1 (h.0, subst (λ (ts : List Triple). Has ts pair.triple) (sym (made_once _ deletes has.rows one)) h.1),
      );
      come = λ triple. (
        λ h. subst (λ (ts : List Triple). Has ts triple) (made_once _ inserts has.rows one) ((has.does.inserts.members triple).0 h),
        λ h. (has.does.inserts.members triple).1 (subst (λ (ts : List Triple). Has ts triple) (sym (made_once _ inserts has.rows one)) h),
      );
    }
