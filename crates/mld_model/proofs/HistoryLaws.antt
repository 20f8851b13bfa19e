-- Laws of lawful histories and of what comes next.
use Rattle.std.specs.Prelude.{◌≡◌, ◌≢◌, List, ◌∷◌}
use Rattle.std.proofs.Common.{inr, refl, sym, ◌∙◌, subst}
use Rattle.tree_clock.specs.declared.dots.Dot.{Dot}
use Rattle.tree_clock.specs.declared.dots.Range.{Range}
use Rattle.tree_clock.specs.Lists.{Has}
use Rattle.tree_clock.specs.Dot.{Knows}
use Rattle.mld_ops.specs.History.{Operation, IsDone, IsClosed, IsNext, IsLawful}
use Rattle.mld_ops.proofs.OperationLaws.{one_operation, before, causes_done, closed_with_unknown}

-- a history, and an operation that comes next
module _ (history : List Operation) (next : Operation) where
  -- what is done stays done
  pub IsDone-more : (dot : Dot) → IsDone history dot → IsDone (next ∷ history) dot
  IsDone-more dot done = record { operation = done.operation; stands = inr done.stands; is = done.is }

  -- a dot that is done isn't that of an operation which comes next
  pub done_not_fresh : (dot : Dot) → IsNext history next → IsDone history dot → dot ≢ next.dot
  done_not_fresh dot is_next done same = is_next.fresh done.operation done.stands (done.is ∙ same)

  -- a closed set stays closed when an operation is made
  pub IsClosed-more : (known : List Range) → IsNext history next → IsClosed history known → IsClosed (next ∷ history) known
  IsClosed-more known is_next closed =
      closed_with_unknown history known next closed (λ k. done_not_fresh next.dot is_next (closed.done next.dot k) refl)

-- the causes of an operation are closed in the whole history
pub causes_closed : (history : List Operation) (operation : Operation) → IsLawful history → Has history operation → IsClosed history operation.causes
causes_closed history operation lawful stands =
    let earlier = (before history operation lawful stands) in
    record {
      done = λ dot k. causes_done history operation dot lawful stands k;
      causes = λ other s k dot cause.
          let d = earlier.next.causes.done other.dot k in
          let same : d.operation ≡ other = one_operation history d.operation other lawful (earlier.stand d.operation d.stands) s d.is in
          earlier.next.causes.causes d.operation d.stands (subst (Knows operation.causes) (sym d.is) k) dot
          (subst (λ (o : Operation). Knows o.causes dot) (sym same) cause);
    }
