-- Operations of one path in a lawful history: an earlier one is a cause of each later one.
use Rattle.std.proofs.Common.{◌≡◌, ◌<◌, ◌≤◌, List, inl, inr, sym, ◌∙◌, ap, subst, arith, refl}
use Rattle.std.proofs.lemmas.Bool.{cases_lt}
use Rattle.tree_clock.specs.declared.dots.Dot.{Dot}
use Rattle.tree_clock.specs.declared.dots.Range.{Range}
use Rattle.tree_clock.specs.Lists.{Has}
use Rattle.tree_clock.specs.Dot.{IsIn, Knows}
use Rattle.mld_ops.specs.declared.tagged.Tagged.{Tagged}
use Rattle.mld_ops.specs.History.{Operation, dot_at, IsDone, IsLawful}
use Rattle.mld_ops.proofs.OperationLaws.{same_dot, one_operation, StandsBefore, before, not_own_cause, causes_done}
use Rattle.mld_ops.specs.Net.{IsTime}
use Rattle.mld_ops.specs.Ready.{last_dot}

-- the tick of an operation is at least 1
pub tick_positive : (history : List Operation) (operation : Operation) → IsLawful history → Has history operation → 1 ≤ operation.dot.tick
tick_positive history operation l h = (before history operation l h).next.tick

-- each earlier dot of its path is a cause of an operation
pub earlier_is_cause : (history : List Operation) (operation : Operation) (dot : Dot) → IsLawful history → Has history operation
    → dot.path ≡ operation.dot.path → 1 ≤ dot.tick → dot.tick < operation.dot.tick → Knows operation.causes dot
earlier_is_cause history operation dot l h path positive below =
    subst (λ (d : Dot). Knows operation.causes d) (same_dot (dot_at operation.dot.path dot.tick) dot (sym path) refl)
    ((before history operation l h).next.ticks dot.tick positive below)

-- the causes of a cause are causes
pub causes_grow : (history : List Operation) (operation other : Operation) (dot : Dot) → IsLawful history → Has history operation → Has history other
    → Knows operation.causes other.dot → Knows other.causes dot → Knows operation.causes dot
causes_grow history operation other dot l h k cause knows =
    let b : StandsBefore history operation = before history operation l h in
    let d : IsDone b.earlier other.dot = b.next.causes.done other.dot cause in
    let same : other ≡ d.operation = one_operation history other d.operation l k (b.stand d.operation d.stands) (sym d.is) in
    b.next.causes.causes d.operation d.stands (subst (λ (e : Dot). Knows operation.causes e) (sym d.is) cause) dot
    (subst (λ (w : Operation). Knows w.causes dot) same knows)

-- a pair of its own path that an operation deletes has an earlier tick
pub deletes_earlier : (history : List Operation) (operation : Operation) (pair : Tagged) → IsLawful history → Has history operation → Has operation.deletes pair
    → pair.dot.path ≡ operation.dot.path → pair.dot.tick < operation.dot.tick
deletes_earlier history operation pair l h deletes path =
    elim (cases_lt pair.dot.tick operation.dot.tick) [
      | inl below ↦ below
      | inr above ↦ absurd (not_own_cause history operation l h (own above))
    ]
  where
    cause : Knows operation.causes pair.dot
    cause = (before history operation l h).next.deletes pair deletes

    done : IsDone history pair.dot
    done = causes_done history operation pair.dot l h cause

    own : operation.dot.tick ≤ pair.dot.tick → Knows operation.causes operation.dot
    own above =
        elim (cases_lt operation.dot.tick pair.dot.tick) [
          | inl later ↦
              causes_grow history operation done.operation operation.dot l h done.stands (subst (λ (e : Dot). Knows operation.causes e) (sym done.is) cause)
              (earlier_is_cause history done.operation operation.dot l done.stands (sym path ∙ ap (λ (e : Dot). e.path) (sym done.is))
              (tick_positive history operation l h) (omega (arith, later, ap (λ (e : Dot). e.tick) done.is)))
          | inr same ↦ subst (λ (e : Dot). Knows operation.causes e) (same_dot pair.dot operation.dot path (omega arith)) cause
        ]

-- each dot of a range is done whose last is done
pub range_done : (history : List Operation) (range : Range) (dot : Dot) → IsLawful history → 1 ≤ range.first → IsDone history (last_dot range) → IsIn range dot → IsDone history dot
range_done history range dot l first done inside =
    elim (cases_lt dot.tick range.last) [
      | inl below ↦
          causes_done history done.operation dot l done.stands
          (earlier_is_cause history done.operation dot l done.stands (inside.path ∙ sym (ap (λ (e : Dot). e.path) done.is)) (omega (arith, first, inside.above))
          (omega (arith, below, ap (λ (e : Dot). e.tick) done.is)))
      | inr last ↦ subst (λ (e : Dot). IsDone history e) (sym (same_dot dot (last_dot range) inside.path (omega (arith, last, inside.below)))) done
    ]

-- the causes of each operation of a range are of its time
pub causes_in_time : (history : List Operation) (range : Range) (operation : Operation) (dot : Dot) → IsLawful history → IsDone history (last_dot range)
    → Has history operation → IsIn range operation.dot → Knows operation.causes dot → IsTime history range dot
causes_in_time history range operation dot l done h inside knows = record {
  last = done.operation;
  stands = done.stands;
  is = done.is;
  cause = inl (elim (cases_lt operation.dot.tick range.last) [
    | inl below ↦
        causes_grow history done.operation operation dot l done.stands h
        (earlier_is_cause history done.operation operation.dot l done.stands (inside.path ∙ sym (ap (λ (e : Dot). e.path) done.is)) (tick_positive history operation l h)
        (omega (arith, below, ap (λ (e : Dot). e.tick) done.is)))
        knows
    | inr last ↦
        subst (λ (w : Operation). Knows w.causes dot)
        (one_operation history operation done.operation l h done.stands
        (same_dot operation.dot (last_dot range) inside.path (omega (arith, last, inside.below)) ∙ sym done.is))
        knows
  ]);
}
