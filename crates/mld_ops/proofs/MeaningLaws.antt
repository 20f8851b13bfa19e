-- Laws of the meaning of a history.
use Rattle.std.specs.Prelude.{◌≡◌, List, [], ◌∷◌, ◌++◌, refl}
use Rattle.std.proofs.Common.{sym, ap, subst, inl, inr, ◌∙◌}
use Rattle.tree_clock.specs.declared.dots.Dot.{Dot}
use Rattle.tree_clock.specs.declared.dots.Range.{Range}
use Rattle.tree_clock.specs.Lists.{Has, IsAscending}
use Rattle.tree_clock.specs.Dot.{Knows}
use Rattle.mld_ops.specs.declared.tagged.Tagged.{Tagged}
use Rattle.mld_ops.specs.Tagged.{tagged_cmp}
use Rattle.mld_ops.proofs.TaggedLaws.{tagged_total, tagged_exact}
use Rattle.mld_ops.proofs.AscendingLaws.{same_ascending}
use Rattle.mld_ops.specs.History.{Operation, IsInserted, IsClosed, IsLawful}
use Rattle.mld_ops.specs.Effect.{range_of, IsAfter}
use Rattle.mld_ops.proofs.OperationLaws.{knows_taken, one_operation, deletes_causes, deletes_none_own}
use Rattle.mld_ops.specs.Meaning.{IsKept, IsMeaning}

-- a history has one meaning for one set of known dots
pub one_meaning : (history : List Operation) (known : List Range) (p q : List Tagged) → IsMeaning history known p → IsMeaning history known q → p ≡ q
one_meaning history known p q m n =
    same_ascending tagged_cmp tagged_total tagged_exact p q m.ascending n.ascending
    (λ x h. n.complete x (m.sound x h)) (λ x h. m.complete x (n.sound x h))

kept_alike : (history : List Operation) (known other : List Range) (pair : Tagged) → ((dot : Dot) → Knows known dot → Knows other dot) → ((dot : Dot) → Knows other dot → Knows known dot) → IsKept history known pair → IsKept history other pair
kept_alike history known other pair f g k = record {
  covered = f pair.dot k.covered;
  inserted = k.inserted;
  kept = λ o s n. k.kept o s (g o.dot n);
}

-- the meaning depends on which dots are known, and not on the ranges that give them
pub same_known : (history : List Operation) (known other : List Range) (pairs : List Tagged) → ((dot : Dot) → Knows known dot → Knows other dot) → ((dot : Dot) → Knows other dot → Knows known dot) → IsMeaning history known pairs → IsMeaning history other pairs
same_known history known other pairs f g m = record {
  ascending = m.ascending;
  sound = λ x h. kept_alike history known other x f g (m.sound x h);
  complete = λ x k. m.complete x (kept_alike history other known x g f k);
}

-- an operation that isn't known changes nothing
pub meaning_with_unknown : (history : List Operation) (known : List Range) (operation : Operation) (pairs : List Tagged) → IsMeaning history known pairs → ¬ Knows known operation.dot → IsMeaning (operation ∷ history) known pairs
meaning_with_unknown history known operation pairs m unknown = record {
  ascending = m.ascending;
  sound = λ x h. let k = m.sound x h in record {
    covered = k.covered;
    inserted = record { operation = k.inserted.operation; stands = inr k.inserted.stands; is = k.inserted.is; inserts = k.inserted.inserts };
    kept = λ o s n. elim s [
      | inl e ↦ absurd (unknown (subst (λ (w : Operation). Knows known w.dot) (sym e) n))
      | inr t ↦ k.kept o t n
    ];
  };
  complete = λ x k. m.complete x (record {
    covered = k.covered;
    inserted = earlier x k.covered k.inserted;
    kept = λ o s n. k.kept o (inr s) n;
  });
}
  where
    earlier : (x : Tagged) → Knows known x.dot → IsInserted (operation ∷ history) x → IsInserted history x
    earlier x c i = record {
      operation = i.operation;
      stands = elim i.stands [
        | inl e ↦ absurd (unknown (subst (λ d. Knows known d) (sym (ap (λ (w : Operation). w.dot) e ∙ i.is)) c))
        | inr s ↦ s
      ];
      is = i.is;
      inserts = i.inserts;
    }

-- the pairs of the meaning once one more operation is known: those before that it doesn't delete, and those that it inserts
pub meaning_of_taken : (history : List Operation) (known : List Range) (operation : Operation) (p q : List Tagged)
    → IsLawful history → IsClosed history known → Has history operation → ¬ Knows known operation.dot
    → IsMeaning history known p → IsAscending tagged_cmp q → IsAfter operation p q
    → IsMeaning history (known ++ range_of operation.dot ∷ []) q
meaning_of_taken history known operation p q l c h unknown m a iff = record {
  ascending = a;
  sound = λ x k. elim ((iff x).0 k) [
    | inl w ↦ old_stays x w.0 w.1
    | inr w ↦ own_stays x w.0 w.1
  ];
  complete = λ x k. (iff x).1 (elim ((knows_taken known operation.dot x.dot).0 k.covered) [
    | inl n ↦ inl (
      m.complete x (record { covered = n; inserted = k.inserted; kept = λ o s i. k.kept o s ((knows_taken known operation.dot o.dot).1 (inl i)) }),
      k.kept operation h ((knows_taken known operation.dot operation.dot).1 (inr refl)),
    )
    | inr e ↦ inr (
      e,
      subst (λ (w : Operation). Has w.inserts x.triple) (one_operation history k.inserted.operation operation l k.inserted.stands h (k.inserted.is ∙ e)) k.inserted.inserts,
    )
  ]);
}
  where
    old_stays : (x : Tagged) → Has p x → ¬ Has operation.deletes x → IsKept history (known ++ range_of operation.dot ∷ []) x
    old_stays x i d =
        let k = m.sound x i in
        record {
          covered = (knows_taken known operation.dot x.dot).1 (inl k.covered);
          inserted = k.inserted;
          kept = λ o s n. elim ((knows_taken known operation.dot o.dot).0 n) [
            | inl y ↦ k.kept o s y
            | inr e ↦ λ z. d (subst (λ (w : Operation). Has w.deletes x) (one_operation history o operation l s h e) z)
          ];
        }

    own_stays : (x : Tagged) → x.dot ≡ operation.dot → Has operation.inserts x.triple → IsKept history (known ++ range_of operation.dot ∷ []) x
    own_stays x e i = record {
      covered = (knows_taken known operation.dot x.dot).1 (inr e);
      inserted = record { operation = operation; stands = h; is = sym e; inserts = i };
      kept = λ o s n. elim ((knows_taken known operation.dot o.dot).0 n) [
        | inl y ↦ λ z. unknown (subst (λ d. Knows known d) e (c.causes o s y x.dot (deletes_causes history o x l s z)))
        | inr f ↦ λ z. deletes_none_own history o x l s z (e ∙ sym f)
      ];
    }
