-- What a row has once a pattern is a triple, and what a pattern may be where its places are bound.
use Rattle.std.proofs.Common.{◌≡◌, ◌∙◌, ℕ, ◌<◌, List, Bool, true, false, ◌&&◌, Option, None, Some, if◌then◌else◌, length, get_or, set, option_and_then, unwrap_or, refl, sym, ap, subst, true≢false, length-set, get_or-set_same}
use Rattle.std.specs.Cmp.{eq_by_cmp_equiv}
use Rattle.std.proofs.lemmas.Map.Views.{tells_apart}
use Rattle.rdf_terms.specs.declared.terms.Term.{Term}
use Rattle.rdf_terms.specs.declared.terms.Term.TheVariants as terms
use Rattle.rdf_terms.specs.declared.terms.Triple.{Triple}
use Rattle.rdf_terms.specs.OrderLaws.{term_total, term_exact}
use Rattle.jrql_ast.specs.declared.patterns.PatternTriple.{PatternTriple}
use Rattle.jrql_ast.specs.declared.patterns.Slot.{Slot}
use Rattle.jrql_ast.specs.declared.patterns.Slot.TheVariants as slots
use Rattle.jrql_ast.specs.FilterMeaning.{side_value}
use Rattle.jrql_ast.specs.InForm.{IsSlotWithin, IsPatternWithin}
use Rattle.jrql_ast.specs.Solutions.{is_same_term, value_of, bind_from, bind, agree}
use Rattle.jrql_ast.proofs.Bindings.{bind_at, get_set_other}

-- a term is the same as itself
pub same_refl : (x : Term) → is_same_term x x ≡ true
same_refl x = (eq_by_cmp_equiv term_total).refl x

pub none_some : {X A : Type 0} {x : X} → None ≡ Some x → A
none_some {X} {A} {x} e = absurd (true≢false (sym (ap some_there e)))
  where
    some_there : Option X → Bool
    some_there None = false
    some_there (Some y) = true

pub some_is : {X : Type 0} (x y : X) → Some x ≡ Some y → x ≡ y
some_is x y e = ap (λ o. unwrap_or o x) e

-- a row that is kept by a test
kept_is : {X : Type 0} (b : Bool) (row next : X) → (if b then Some row else None) ≡ Some next → (b ≡ true) × (row ≡ next)
kept_is true row next e = (refl, some_is row next e)
kept_is false row next e = none_some e

-- a slot whose term is known
pub bound_slot : (slot : Slot) (x t : Term) (row : List (Option Term)) → side_value slot row ≡ Some x
    → bind slot t row ≡ (if is_same_term x t then Some row else None)
bound_slot (slots.Term given) x t row e = ap (λ z. if is_same_term z t then Some row else None) (some_is given x e)
bound_slot (slots.Var variable) x t row e = bind_at variable t row (Some x) e
bound_slot (slots.Fresh subject) x t row e = none_some e

pub bound_slot_is : (slot : Slot) (x t : Term) (row next : List (Option Term)) → side_value slot row ≡ Some x → bind slot t row ≡ Some next → (x ≡ t) × (row ≡ next)
bound_slot_is slot x t row next e h =
    let k = kept_is (is_same_term x t) row next (sym (bound_slot slot x t row e) ∙ h) in
    (tells_apart term_exact x t k.0, k.1)

-- a variable that is bound stays so
module _ (t : Term) (row next : List (Option Term)) where
  later_from : (o : Option Term) (w v : ℕ) (x : Term) → value_of w row ≡ o → bind_from o w t row ≡ Some next → value_of v row ≡ Some x → value_of v next ≡ Some x
  later_from (Some y) w v x e h g = subst (λ r. value_of v r ≡ Some x) (kept_is (is_same_term y t) row next h).1 g
  later_from None w v x e h g =
      subst (λ r. value_of v r ≡ Some x) (some_is (set row w (Some t)) next h)
      (get_set_other row w v (Some t) None (λ same. none_some (sym e ∙ ap (λ z. value_of z row) same ∙ g)) ∙ g)

  later : (slot : Slot) (v : ℕ) (x : Term) → bind slot t row ≡ Some next → value_of v row ≡ Some x → value_of v next ≡ Some x
  later (slots.Term given) v x h g = subst (λ r. value_of v r ≡ Some x) (kept_is (is_same_term given t) row next h).1 g
  later (slots.Var w) v x h g = later_from (value_of w row) w v x refl h g
  later (slots.Fresh n) v x h g = none_some h

  pub side_later : (slot other : Slot) (x : Term) → bind slot t row ≡ Some next → side_value other row ≡ Some x → side_value other next ≡ Some x
  side_later slot (slots.Term given) x h g = g
  side_later slot (slots.Var v) x h g = later slot v x h g
  side_later slot (slots.Fresh n) x h g = g

  -- and what was bound has its term
  now_from : (o : Option Term) (w : ℕ) → w < length row → value_of w row ≡ o → bind_from o w t row ≡ Some next → value_of w next ≡ Some t
  now_from (Some y) w l e h =
      let k = kept_is (is_same_term y t) row next h in
      subst (λ r. value_of w r ≡ Some t) k.1 (e ∙ ap Some (tells_apart term_exact y t k.0))
  now_from None w l e h = subst (λ r. value_of w r ≡ Some t) (some_is (set row w (Some t)) next h) (set_there row w (Some t) l)
    where
      set_there : {X : Type 0} (xs : List (Option X)) (i : ℕ) (o : Option X) → i < length xs → get_or (set xs i o) i None ≡ o
      set_there xs i o l = get_or-set_same xs i o None l

  pub side_now : (slot : Slot) → IsSlotWithin (length row) 0 slot → bind slot t row ≡ Some next → side_value slot next ≡ Some t
  side_now (slots.Term given) l h = ap Some (tells_apart term_exact given t (kept_is (is_same_term given t) row next h).0)
  side_now (slots.Var w) l h = now_from (value_of w row) w l refl h
  side_now (slots.Fresh n) l h = none_some h

  -- and the places stay
  length_from : (o : Option Term) (w : ℕ) → bind_from o w t row ≡ Some next → length next ≡ length row
  length_from (Some y) w h = ap length (sym (kept_is (is_same_term y t) row next h).1)
  length_from None w h = ap length (sym (some_is (set row w (Some t)) next h)) ∙ length-set row w (Some t)

  pub bind_length : (slot : Slot) → bind slot t row ≡ Some next → length next ≡ length row
  bind_length (slots.Term given) h = ap length (sym (kept_is (is_same_term given t) row next h).1)
  bind_length (slots.Var w) h = length_from (value_of w row) w h
  bind_length (slots.Fresh n) h = none_some h

-- the rows on the way from one to another, slot by slot
pub record Agreeing (pattern : PatternTriple) (triple : Triple) (row next : List (Option Term)) : Type 0 where
  pub first : List (Option Term)
  pub second : List (Option Term)
  pub subject : bind pattern.s (terms.Iri triple.s) row ≡ Some first
  pub predicate : bind pattern.p (terms.Iri triple.p) first ≡ Some second
  pub object : bind pattern.o triple.o second ≡ Some next

then_is : {X Y : Type 0} (f : X → Option Y) (o : Option X) (y : Y) → option_and_then f o ≡ Some y → (x : X) × (o ≡ Some x) × (f x ≡ Some y)
then_is f None y h = none_some h
then_is f (Some x) y h = (x, refl, h)

pub agreeing : (pattern : PatternTriple) (triple : Triple) (row next : List (Option Term)) → agree pattern triple row ≡ Some next → Agreeing pattern triple row next
agreeing pattern triple row next h =
    let o = then_is (bind pattern.o triple.o) (option_and_then (bind pattern.p (terms.Iri triple.p)) (bind pattern.s (terms.Iri triple.s) row)) next h in
    let p = then_is (bind pattern.p (terms.Iri triple.p)) (bind pattern.s (terms.Iri triple.s) row) o.0 o.1 in
    record { first = p.0; second = o.0; subject = p.1; predicate = p.2; object = o.2 }

-- what a pattern and a triple do to a row
module _ (pattern : PatternTriple) (triple : Triple) (row next : List (Option Term)) (h : agree pattern triple row ≡ Some next) where
  pub agree_length : length next ≡ length row
  agree_length =
      let a = agreeing pattern triple row next h in
      bind_length triple.o a.second next pattern.o a.object ∙ bind_length (terms.Iri triple.p) a.first a.second pattern.p a.predicate
      ∙ bind_length (terms.Iri triple.s) row a.first pattern.s a.subject

  pub agree_later : (slot : Slot) (x : Term) → side_value slot row ≡ Some x → side_value slot next ≡ Some x
  agree_later slot x g =
      let a = agreeing pattern triple row next h in
      side_later triple.o a.second next pattern.o slot x a.object
      (side_later (terms.Iri triple.p) a.first a.second pattern.p slot x a.predicate
      (side_later (terms.Iri triple.s) row a.first pattern.s slot x a.subject g))

  -- each of its places is the triple's
  pub agree_now : IsPatternWithin (length row) 0 pattern
      → (side_value pattern.s next ≡ Some (terms.Iri triple.s)) × (side_value pattern.p next ≡ Some (terms.Iri triple.p)) × (side_value pattern.o next ≡ Some triple.o)
  agree_now w =
      let a = agreeing pattern triple row next h in
      let first = bind_length (terms.Iri triple.s) row a.first pattern.s a.subject in
      let second = bind_length (terms.Iri triple.p) a.first a.second pattern.p a.predicate in (
        side_later triple.o a.second next pattern.o pattern.s (terms.Iri triple.s) a.object
            (side_later (terms.Iri triple.p) a.first a.second pattern.p pattern.s (terms.Iri triple.s) a.predicate
            (side_now (terms.Iri triple.s) row a.first pattern.s w.subject a.subject)),
        side_later triple.o a.second next pattern.o pattern.p (terms.Iri triple.p) a.object
            (side_now (terms.Iri triple.p) a.first a.second pattern.p (subst (λ n. IsSlotWithin n 0 pattern.p) (sym first) w.predicate) a.predicate),
        side_now triple.o a.second next pattern.o (subst (λ n. IsSlotWithin n 0 pattern.o) (sym (second ∙ first)) w.object) a.object,
      )

  -- each place that was a term before is that of the triple
  pub agree_before_s : (x : Term) → side_value pattern.s row ≡ Some x → x ≡ terms.Iri triple.s
  agree_before_s x g =
      let a = agreeing pattern triple row next h in
      (bound_slot_is pattern.s x (terms.Iri triple.s) row a.first g a.subject).0

  pub agree_before_p : (x : Term) → side_value pattern.p row ≡ Some x → x ≡ terms.Iri triple.p
  agree_before_p x g =
      let a = agreeing pattern triple row next h in
      (bound_slot_is pattern.p x (terms.Iri triple.p) a.first a.second (side_later (terms.Iri triple.s) row a.first pattern.s pattern.p x a.subject g) a.predicate).0

  pub agree_before_o : (x : Term) → side_value pattern.o row ≡ Some x → x ≡ triple.o
  agree_before_o x g =
      let a = agreeing pattern triple row next h in
      (bound_slot_is pattern.o x triple.o a.second next
      (side_later (terms.Iri triple.p) a.first a.second pattern.p pattern.o x a.predicate (side_later (terms.Iri triple.s) row a.first pattern.s pattern.o x a.subject g)) a.object).0

-- a pattern whose places are terms is one triple alone, and changes nothing
three_kept : {X : Type 0} (f g h : X → Option X) (b c d : Bool) (row : X)
    → f row ≡ (if b then Some row else None) → g row ≡ (if c then Some row else None) → h row ≡ (if d then Some row else None)
    → option_and_then h (option_and_then g (f row)) ≡ (if b && (c && d) then Some row else None)
three_kept f g h false c d row e k l = ap (λ o. option_and_then h (option_and_then g o)) e
three_kept f g h true false d row e k l = ap (λ o. option_and_then h (option_and_then g o)) e ∙ ap (option_and_then h) k
three_kept f g h true true d row e k l = ap (λ o. option_and_then h (option_and_then g o)) e ∙ ap (option_and_then h) k ∙ l

pub agree_if_bound : (pattern : PatternTriple) (s p o : Term) (triple : Triple) (row : List (Option Term))
    → side_value pattern.s row ≡ Some s → side_value pattern.p row ≡ Some p → side_value pattern.o row ≡ Some o
    → agree pattern triple row ≡ (if is_same_term s (terms.Iri triple.s) && (is_same_term p (terms.Iri triple.p) && is_same_term o triple.o) then Some row else None)
agree_if_bound pattern s p o triple row e k l =
    three_kept (bind pattern.s (terms.Iri triple.s)) (bind pattern.p (terms.Iri triple.p)) (bind pattern.o triple.o)
    (is_same_term s (terms.Iri triple.s)) (is_same_term p (terms.Iri triple.p)) (is_same_term o triple.o) row
    (bound_slot pattern.s s (terms.Iri triple.s) row e) (bound_slot pattern.p p (terms.Iri triple.p) row k) (bound_slot pattern.o o triple.o row l)
