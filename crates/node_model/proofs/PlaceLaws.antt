-- Where connections are in a list, and what is left of it.
use Rattle.std.proofs.Common.{◌≡◌, ℕ, zero, suc, ◌<◌, ◌≤◌, Bool, true, false, if◌then◌else◌, List, [], ◌∷◌, length, get_or, nat_eq, nat_le, inl, inr, Option, None, Some, unwrap_or, refl, sym, ◌∙◌, ap, subst, arith}
use Rattle.std.proofs.lemmas.Bool.{false≢true, eq-eqb}
use Rattle.std.proofs.lemmas.Bool.Decides.{eqb_tells, leb_tells}
use Rattle.std.specs.List.{AllWithin, HoldsAt, insert, remove}
use Rattle.node_model.specs.declared.connections.Connection.{Connection}
use Rattle.node_model.specs.Connections.{AreNumbered, IsRidOf, connection_of, connections_with, without}
use Rattle.node_model.specs.Sending.{IsPlaceOfFirst}

-- ---- a choice that is known

pub picked : {A : Type 0} (b : Bool) (x y : A) → b ≡ true → (if b then x else y) ≡ x
picked true x y e = refl
picked false x y e = absurd (false≢true e)

pub passed : {A : Type 0} (b : Bool) (x y : A) → b ≡ false → (if b then x else y) ≡ y
passed true x y e = absurd (false≢true (sym e))
passed false x y e = refl

other_number : (a b : ℕ) → ¬ (a ≡ b) → nat_eq a b ≡ false
other_number a b n = elim (eqb_tells a b) [ inl h ↦ absurd (n h.1) | inr h ↦ h.0 ]

not_behind : (a b : ℕ) → ¬ (a < b) → nat_le b a ≡ true
not_behind a b n = elim (leb_tells b a) [ inl h ↦ h.0 | inr h ↦ absurd (n h.1) ]

behind : (a b : ℕ) → a < b → nat_le b a ≡ false
behind a b l = elim (leb_tells b a) [ inl h ↦ absurd (omega (arith, l, h.1)) | inr h ↦ h.0 ]

-- ---- the connection of a number

-- it is at its place, and the others are left
pub taken_at : (number : ℕ) (list : List Connection) (i : ℕ) (x : Connection) → i < length list → x ≡ get_or list i x
    → HoldsAt (λ (one : Connection). one.number ≡ number) list i → AllWithin (λ (one : Connection). ¬ (one.number ≡ number)) list 0 i
    → (connection_of number list ≡ Some x) × (without number list ≡ remove list i)
taken_at number [] i x l e h a = absurd (omega arith)
taken_at number (one ∷ more) zero x l e h a =
    let is : nat_eq one.number number ≡ true = eq-eqb one.number number (h one) in (
      picked (nat_eq one.number number) (Some one) (connection_of number more) is ∙ ap (λ (c : Connection). Some c) (sym e),
      picked (nat_eq one.number number) more (one ∷ without number more) is,
    )
taken_at number (one ∷ more) (suc i) x l e h a =
    let other : nat_eq one.number number ≡ false = other_number one.number number (a 0 one (omega arith) (omega arith)) in
    let rest = taken_at number more i x (omega arith) e (λ d. h d) (λ k d low high. a (suc k) d (omega arith) (omega arith)) in (
      passed (nat_eq one.number number) (Some one) (connection_of number more) other ∙ rest.0,
      passed (nat_eq one.number number) more (one ∷ without number more) other ∙ ap (λ (l : List Connection). one ∷ l) rest.1,
    )

-- it is nowhere, and all are left
pub none_taken : (number : ℕ) (list : List Connection) → AllWithin (λ (one : Connection). ¬ (one.number ≡ number)) list 0 (length list)
    → (connection_of number list ≡ None) × (without number list ≡ list)
none_taken number [] a = (refl, refl)
none_taken number (one ∷ more) a =
    let other : nat_eq one.number number ≡ false = other_number one.number number (a 0 one (omega arith) (omega arith)) in
    let rest = none_taken number more (λ k d low high. a (suc k) d (omega arith) (omega arith)) in (
      passed (nat_eq one.number number) (Some one) (connection_of number more) other ∙ rest.0,
      passed (nat_eq one.number number) more (one ∷ without number more) other ∙ ap (λ (l : List Connection). one ∷ l) rest.1,
    )

-- ---- one more in its place

pub placed_at : (one : Connection) (list : List Connection) (i : ℕ) → i ≤ length list
    → (i < length list → HoldsAt (λ (next : Connection). one.number < next.number) list i) → AllWithin (λ (next : Connection). ¬ (one.number < next.number)) list 0 i
    → connections_with one list ≡ insert list i one
placed_at one [] zero l h a = refl
placed_at one [] (suc i) l h a = absurd (omega arith)
placed_at one (next ∷ more) zero l h a =
    passed (nat_le next.number one.number) (next ∷ connections_with one more) (one ∷ next ∷ more) (behind one.number next.number (h (omega arith) next))
placed_at one (next ∷ more) (suc i) l h a =
    picked (nat_le next.number one.number) (next ∷ connections_with one more) (one ∷ next ∷ more) (not_behind one.number next.number (a 0 next (omega arith) (omega arith)))
    ∙ ap (λ (l : List Connection). next ∷ l)
    (placed_at one more i (omega arith) (λ k d. h (omega arith) d) (λ k d low high. a (suc k) d (omega arith) (omega arith)))

pub placed_first : (one : Connection) (list : List Connection) (found : Option ℕ) (place : ℕ)
    → IsPlaceOfFirst (λ (next : Connection). one.number < next.number) list found → place ≡ unwrap_or found (length list) → connections_with one list ≡ insert list place one
placed_first one list None place h e =
    placed_at one list place (omega (arith, e)) (λ l. absurd (omega (arith, e, l))) (subst (λ k. AllWithin (λ (next : Connection). ¬ (one.number < next.number)) list 0 k) (sym e) h)
placed_first one list (Some i) place h e =
    subst (λ k. connections_with one list ≡ insert list k one) (sym e) (placed_at one list i (omega (arith, h.0)) (λ l. h.1) h.2)

-- ---- numbers that ascend

-- each number of the list is greater
abbrev pub AreBehind : ℕ → List Connection → Type 0
AreBehind number [] = Unit {0}
AreBehind number (one ∷ more) = number < one.number

-- the list behind its first one
rest_numbered : (one : Connection) (more : List Connection) → AreNumbered (one ∷ more) → AreBehind one.number more × AreNumbered more
rest_numbered one [] h = (tt, tt)
rest_numbered one (next ∷ more) h = h

put_first : (one : Connection) (more : List Connection) → AreBehind one.number more → AreNumbered more → AreNumbered (one ∷ more)
put_first one [] b h = tt
put_first one (next ∷ more) b h = (b, h)

-- what is behind a number is behind a lesser one
behind_less : (number : ℕ) (one : Connection) (more : List Connection) → number < one.number → AreBehind one.number more → AreBehind number more
behind_less number one [] l b = tt
behind_less number one (next ∷ more) l b = omega (arith, l, b)

-- what was taken out leaves ascending numbers
without_behind : (before number : ℕ) (list : List Connection) → AreBehind before list → AreNumbered list → AreBehind before (without number list)
without_behind before number [] b h = tt
without_behind before number (one ∷ more) b h =
    elim (nat_eq one.number number) as (λ (q : Bool). AreBehind before (if q then more else one ∷ without number more)) [
      | true ↦ behind_less before one more b (rest_numbered one more h).0
      | false ↦ b
    ]

without_numbered : (number : ℕ) (list : List Connection) → AreNumbered list → AreNumbered (without number list)
without_numbered number [] h = tt
without_numbered number (one ∷ more) h =
    let parts = rest_numbered one more h in
    let later : AreNumbered (without number more) = without_numbered number more parts.1 in
    let after : AreBehind one.number (without number more) = without_behind one.number number more parts.0 parts.1 in
    elim (nat_eq one.number number) as (λ (q : Bool). AreNumbered (if q then more else one ∷ without number more)) [
      | true ↦ parts.1
      | false ↦ put_first one (without number more) after later
    ]

-- and none of them is the number of what was taken out
none_behind : (number : ℕ) (list : List Connection) → AreBehind number list → AreNumbered list → connection_of number list ≡ None
none_behind number [] b h = refl
none_behind number (next ∷ more) b h =
    let parts = rest_numbered next more h in
    let other : nat_eq next.number number ≡ false = other_number next.number number (λ e. omega (arith, b, e)) in
    passed (nat_eq next.number number) (Some next) (connection_of number more) other
    ∙ none_behind number more (behind_less number next more b parts.0) parts.1

without_none : (number : ℕ) (list : List Connection) → AreNumbered list → connection_of number (without number list) ≡ None
without_none number [] h = refl
without_none number (one ∷ more) h =
    let parts = rest_numbered one more h in
    elim (eqb_tells one.number number) [
      | inl t ↦ subst (λ (l : List Connection). connection_of number l ≡ None)
          (sym (picked (nat_eq one.number number) more (one ∷ without number more) t.0))
          (none_behind number more (subst (λ (n : ℕ). AreBehind n more) t.1 parts.0) parts.1)
      | inr t ↦ subst (λ (l : List Connection). connection_of number l ≡ None)
          (sym (passed (nat_eq one.number number) more (one ∷ without number more) t.0))
          (passed (nat_eq one.number number) (Some one) (connection_of number (without number more)) t.0 ∙ without_none number more parts.1)
    ]

pub rid_of : (number : ℕ) (list : List Connection) → AreNumbered list → IsRidOf number (without number list)
rid_of number list h = record { numbered = without_numbered number list h; gone = without_none number list h }

-- so does what was put in, where no other has its number
placed_behind : (before : ℕ) (one : Connection) (list : List Connection) → before < one.number → AreBehind before list → AreBehind before (connections_with one list)
placed_behind before one [] l b = l
placed_behind before one (next ∷ more) l b =
    elim (nat_le next.number one.number) as (λ (q : Bool). AreBehind before (if q then next ∷ connections_with one more else one ∷ next ∷ more)) [
      | true ↦ b
      | false ↦ l
    ]

not_number : (number : ℕ) (next : Connection) (more : List Connection) → connection_of number (next ∷ more) ≡ None
    → ¬ (next.number ≡ number) × (connection_of number more ≡ None)
not_number number next more n =
    elim (eqb_tells next.number number) [
      | inl h ↦ absurd (some_is_none next (sym (picked (nat_eq next.number number) (Some next) (connection_of number more) h.0) ∙ n))
      | inr h ↦ (h.1, sym (passed (nat_eq next.number number) (Some next) (connection_of number more) h.0) ∙ n)
    ]
  where
    some_is_none : (one : Connection) → ¬ (◌≡◌ {A = Option Connection} (Some one) None)
    some_is_none one e = cc (e)

pub placed_numbered : (one : Connection) (list : List Connection) → AreNumbered list → connection_of one.number list ≡ None → AreNumbered (connections_with one list)
placed_numbered one [] h n = tt
placed_numbered one (next ∷ more) h n =
    let parts = rest_numbered next more h in
    let apart = not_number one.number next more n in
    let later : AreNumbered (connections_with one more) = placed_numbered one more parts.1 apart.1 in
    elim (leb_tells next.number one.number) [
      | inl t ↦ subst (λ (l : List Connection). AreNumbered l)
          (sym (picked (nat_le next.number one.number) (next ∷ connections_with one more) (one ∷ next ∷ more) t.0))
          (put_first next (connections_with one more) (placed_behind next.number one more (omega (arith, t.1, apart.0)) parts.0) later)
      | inr t ↦ subst (λ (l : List Connection). AreNumbered l)
          (sym (passed (nat_le next.number one.number) (next ∷ connections_with one more) (one ∷ next ∷ more) t.0)) (t.1, h)
    ]
