-- Laws of lawful histories and of sets of known dots.
use Rattle.std.specs.Prelude.{◌≡◌, ◌≢◌, List, [], ◌∷◌, ◌++◌, ◌⊎◌, ◌↔◌}
use Rattle.std.proofs.Common.{sym, ap, subst, inl, inr, ◌∙◌, arith}
use Rattle.tree_clock.specs.declared.dots.Dot.{Dot}
use Rattle.tree_clock.specs.declared.dots.Range.{Range}
use Rattle.tree_clock.specs.Lists.{Has}
use Rattle.tree_clock.specs.Dot.{IsIn, Knows}
use Rattle.mld_ops.specs.declared.tagged.Tagged.{Tagged}
use Rattle.mld_ops.specs.History.{Operation, IsDone, IsClosed, IsNext, IsLawful}
use Rattle.mld_ops.specs.Effect.{range_of}

-- dots with the same path and tick are one
pub same_dot : (a b : Dot) → a.path ≡ b.path → a.tick ≡ b.tick → a ≡ b
same_dot a b p t = λ i. record { path = p i; tick = t i }

-- the dots of a list of ranges and one more range
pub knows_more : (known : List Range) (range : Range) (dot : Dot) → Knows (known ++ range ∷ []) dot → Knows known dot ⊎ IsIn range dot
knows_more [] range dot (inl h) = inr h
knows_more [] range dot (inr h) = absurd h
knows_more (r ∷ known) range dot (inl h) = inl (inl h)
knows_more (r ∷ known) range dot (inr h) = elim (knows_more known range dot h) [ inl k ↦ inl (inr k) | inr k ↦ inr k ]

pub knows_still : (known : List Range) (range : Range) (dot : Dot) → Knows known dot → Knows (known ++ range ∷ []) dot
knows_still [] range dot h = absurd h
knows_still (r ∷ known) range dot (inl h) = inl h
knows_still (r ∷ known) range dot (inr h) = inr (knows_still known range dot h)

pub knows_last : (known : List Range) (range : Range) (dot : Dot) → IsIn range dot → Knows (known ++ range ∷ []) dot
knows_last [] range dot h = inl h
knows_last (r ∷ known) range dot h = inr (knows_last known range dot h)

-- the range of one dot has that dot alone
pub in_range_of : (own dot : Dot) → IsIn (range_of own) dot → dot ≡ own
in_range_of own dot h = same_dot dot own h.path (omega arith)

pub range_of_has : (own dot : Dot) → dot ≡ own → IsIn (range_of own) dot
range_of_has own dot e = record { path = ap (λ (d : Dot). d.path) e; above = omega (arith, ap (λ (d : Dot). d.tick) e); below = omega (arith, ap (λ (d : Dot). d.tick) e) }

-- one more dot is known
pub knows_taken : (known : List Range) (own dot : Dot) → Knows (known ++ range_of own ∷ []) dot ↔ (Knows known dot ⊎ (dot ≡ own))
knows_taken known own dot = (
  λ h. elim (knows_more known (range_of own) dot h) [ inl k ↦ inl k | inr k ↦ inr (in_range_of own dot k) ],
  λ h. elim h [ inl k ↦ knows_still known (range_of own) dot k | inr e ↦ knows_last known (range_of own) dot (range_of_has own dot e) ],
)

-- two operations of a lawful history with one dot are one
pub one_operation : (history : List Operation) (a b : Operation) → IsLawful history → Has history a → Has history b → a.dot ≡ b.dot → a ≡ b
one_operation [] a b l h k e = absurd h
one_operation (o ∷ history) a b l (inl x) (inl y) e = sym x ∙ y
one_operation (o ∷ history) a b l (inl x) (inr k) e = absurd (l.0.fresh b k (sym e ∙ sym (ap (λ (w : Operation). w.dot) x)))
one_operation (o ∷ history) a b l (inr h) (inl y) e = absurd (l.0.fresh a h (e ∙ sym (ap (λ (w : Operation). w.dot) y)))
one_operation (o ∷ history) a b l (inr h) (inr k) e = one_operation history a b l.1 h k e

-- what stands before an operation of a lawful history
pub record StandsBefore (history : List Operation) (operation : Operation) : Type 0 where
  pub earlier : List Operation
  pub next : IsNext earlier operation
  pub lawful : IsLawful earlier
  pub stand : (other : Operation) → Has earlier other → Has history other

-- each operation of a lawful history came next once
pub before : (history : List Operation) (operation : Operation) → IsLawful history → Has history operation → StandsBefore history operation
before [] operation l h = absurd h
before (o ∷ history) operation l (inl e) = record { earlier = history; next = subst (λ w. IsNext history w) e l.0; lawful = l.1; stand = λ other k. inr k }
before (o ∷ history) operation l (inr h) =
    let b = before history operation l.1 h in
    record { earlier = b.earlier; next = b.next; lawful = b.lawful; stand = λ other k. inr (b.stand other k) }

-- what an operation of a lawful history deletes was inserted by a cause of it
pub deletes_causes : (history : List Operation) (operation : Operation) (pair : Tagged) → IsLawful history → Has history operation → Has operation.deletes pair → Knows operation.causes pair.dot
deletes_causes history operation pair l h d = (before history operation l h).next.deletes pair d

-- no operation of a lawful history is a cause of itself
pub not_own_cause : (history : List Operation) (operation : Operation) → IsLawful history → Has history operation → ¬ Knows operation.causes operation.dot
not_own_cause history operation l h k =
    let b = before history operation l h in
    let d = b.next.causes.done operation.dot k in
    b.next.fresh d.operation d.stands d.is

-- no operation of a lawful history deletes a pair of its own dot
pub deletes_none_own : (history : List Operation) (operation : Operation) (pair : Tagged) → IsLawful history → Has history operation → Has operation.deletes pair → pair.dot ≢ operation.dot
deletes_none_own history operation pair l h d e =
    not_own_cause history operation l h (subst (λ w. Knows operation.causes w) e (deletes_causes history operation pair l h d))

-- the causes of an operation stand in the history
pub causes_done : (history : List Operation) (operation : Operation) (dot : Dot) → IsLawful history → Has history operation → Knows operation.causes dot → IsDone history dot
causes_done history operation dot l h k =
    let b = before history operation l h in
    let d = b.next.causes.done dot k in
    record { operation = d.operation; stands = b.stand d.operation d.stands; is = d.is }

-- a closed set stays so where the history grows by an operation that it doesn't know
pub closed_with_unknown : (history : List Operation) (known : List Range) (operation : Operation) → IsClosed history known → ¬ Knows known operation.dot → IsClosed (operation ∷ history) known
closed_with_unknown history known operation c u = record {
  done = λ dot k. let d = c.done dot k in record { operation = d.operation; stands = inr d.stands; is = d.is };
  causes = λ other h k dot m. elim h [
    | inl e ↦ absurd (u (subst (λ (w : Operation). Knows known w.dot) (sym e) k))
    | inr s ↦ c.causes other s k dot m
  ];
}

-- a closed set stays so with one more dot whose causes it has
pub closed_with_taken : (history : List Operation) (known : List Range) (operation : Operation) → IsLawful history → IsClosed history known → Has history operation
    → ((dot : Dot) → Knows operation.causes dot → Knows known dot) → IsClosed history (known ++ range_of operation.dot ∷ [])
closed_with_taken history known operation l c h ready = record {
  done = λ dot k. elim ((knows_taken known operation.dot dot).0 k) [
    | inl m ↦ c.done dot m
    | inr e ↦ record { operation = operation; stands = h; is = sym e }
  ];
  causes = λ other s k dot m. (knows_taken known operation.dot dot).1 (inl (elim ((knows_taken known operation.dot other.dot).0 k) [
    | inl n ↦ c.causes other s n dot m
    | inr e ↦ ready dot (subst (λ (w : Operation). Knows w.causes dot) (one_operation history other operation l s h e) m)
  ]));
}
