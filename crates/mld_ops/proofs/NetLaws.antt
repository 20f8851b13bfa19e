-- Laws of net effects.
use Rattle.std.specs.Prelude.{◌≡◌, ℕ, ◌≤◌, List, ◌∷◌, ◌⊎◌, ◌↔◌, refl}
use Rattle.std.proofs.Common.{sym, ap, subst, inl, inr, ◌∙◌, arith}
use Rattle.rdf_terms.specs.declared.terms.Triple.{Triple}
use Rattle.tree_clock.specs.declared.dots.Dot.{Dot}
use Rattle.tree_clock.specs.declared.dots.Range.{Range}
use Rattle.tree_clock.specs.Lists.{Has, IsAscending}
use Rattle.tree_clock.specs.Dot.{IsIn, Knows}
use Rattle.tree_clock.specs.Clock.{ticks_of, IsClock}
use Rattle.tree_clock.proofs.ClockLaws.{Covers-within, clock_from_ticks}
use Rattle.mld_ops.specs.declared.tagged.Tagged.{Tagged}
use Rattle.mld_ops.specs.Tagged.{tagged_cmp, insert_cmp}
use Rattle.mld_ops.specs.Entry.{EntryValue}
use Rattle.mld_ops.specs.History.{Operation, dot_at, IsLawful}
use Rattle.mld_ops.specs.Effect.{range_of, IsEffect}
use Rattle.mld_ops.proofs.AscendingLaws.{same_ascending}
use Rattle.mld_ops.proofs.TaggedLaws.{tagged_total, tagged_exact, insert_total, insert_exact}
use Rattle.mld_ops.proofs.OperationLaws.{same_dot, in_range_of, range_of_has, one_operation, deletes_none_own}
use Rattle.mld_ops.specs.Net.{IsNetInsert, IsNetDelete, IsTime, IsNet}

module _ (history : List Operation) (range : Range) (operation : Operation) (outside : ¬ IsIn range operation.dot) where
  not_it : (other : Operation) → operation ≡ other → IsIn range other.dot → ⊥
  not_it other e i = outside (subst (λ (w : Operation). IsIn range w.dot) (sym e) i)

  earlier : (other : Operation) → Has (operation ∷ history) other → IsIn range other.dot → Has history other
  earlier other (inl e) i = absurd (not_it other e i)
  earlier other (inr h) i = h

  same_inserts : (triple : Triple) (tick : ℕ) → IsNetInsert history range triple tick ↔ IsNetInsert (operation ∷ history) range triple tick
  same_inserts triple tick = (
    λ n. record {
      inside = n.inside;
      inserted = record { operation = n.inserted.operation; stands = inr n.inserted.stands; is = n.inserted.is; inserts = n.inserted.inserts };
      kept = λ o s i b. n.kept o (earlier o s i) i b;
    },
    λ n. record {
      inside = n.inside;
      inserted = record {
        operation = n.inserted.operation;
        stands = earlier n.inserted.operation n.inserted.stands (subst (λ d. IsIn range d) (sym n.inserted.is) n.inside);
        is = n.inserted.is;
        inserts = n.inserted.inserts;
      };
      kept = λ o s i b. n.kept o (inr s) i b;
    },
  )

  same_deletes : (pair : Tagged) → IsNetDelete history range pair ↔ IsNetDelete (operation ∷ history) range pair
  same_deletes pair = (
    λ n. record { operation = n.operation; stands = inr n.stands; inside = n.inside; deletes = n.deletes; outside = n.outside },
    λ n. record { operation = n.operation; stands = earlier n.operation n.stands n.inside; inside = n.inside; deletes = n.deletes; outside = n.outside },
  )

  same_time : range.first ≤ range.last → (dot : Dot) → IsTime history range dot ↔ IsTime (operation ∷ history) range dot
  same_time some dot = (
    λ t. record { last = t.last; stands = inr t.stands; is = t.is; cause = t.cause },
    λ t. record {
      last = t.last;
      stands = earlier t.last t.stands (subst (λ d. IsIn range d) (sym t.is) (record { path = refl; above = some; below = omega arith }));
      is = t.is;
      cause = t.cause;
    },
  )

both_iff : {A B C : Type 0} → A ↔ B → B ↔ C → A ↔ C
both_iff f g = (λ a. g.0 (f.0 a), λ c. f.1 (g.1 c))

-- an operation outside the range changes no net effect of it
pub net_with_unknown : (history : List Operation) (range : Range) (entry : EntryValue) (operation : Operation)
    → IsNet history range entry → ¬ IsIn range operation.dot → range.first ≤ range.last → IsNet (operation ∷ history) range entry
net_with_unknown history range entry operation n outside some = record {
  same = n.same;
  inserts_ascend = n.inserts_ascend;
  inserts = λ triple tick. both_iff (n.inserts triple tick) (same_inserts history range operation outside triple tick);
  deletes_ascend = n.deletes_ascend;
  deletes = λ pair. both_iff (n.deletes pair) (same_deletes history range operation outside pair);
  time = λ dot. both_iff (n.time dot) (same_time history range operation outside some dot);
}

module _ (history : List Operation) (operation : Operation) (lawful : IsLawful history) (stands : Has history operation) where
  it : (other : Operation) → Has history other → other.dot ≡ operation.dot → other ≡ operation
  it other h e = one_operation history other operation lawful h stands e

  one_insert : (triple : Triple) (tick : ℕ) → ((tick ≡ operation.dot.tick) × Has operation.inserts triple) ↔ IsNetInsert history (range_of operation.dot) triple tick
  one_insert triple tick = (
    λ h. record {
      inside = record { path = refl; above = omega (arith, h.0); below = omega (arith, h.0) };
      inserted = record { operation = operation; stands = stands; is = same_dot operation.dot (dot_at operation.dot.path tick) refl (sym h.0); inserts = h.1 };
      kept = λ o s i b. absurd (omega (arith, h.0, i.below));
    },
    λ n. let e = in_range_of operation.dot (dot_at operation.dot.path tick) n.inside in (
      ap (λ (d : Dot). d.tick) e,
      subst (λ (w : Operation). Has w.inserts triple) (it n.inserted.operation n.inserted.stands (n.inserted.is ∙ e)) n.inserted.inserts,
    ),
  )

  one_delete : (pair : Tagged) → Has operation.deletes pair ↔ IsNetDelete history (range_of operation.dot) pair
  one_delete pair = (
    λ h. record {
      operation = operation;
      stands = stands;
      inside = range_of_has operation.dot operation.dot refl;
      deletes = h;
      outside = λ i. deletes_none_own history operation pair lawful stands h (in_range_of operation.dot pair.dot i);
    },
    λ n. subst (λ (w : Operation). Has w.deletes pair) (it n.operation n.stands (in_range_of operation.dot n.operation.dot n.inside)) n.deletes,
  )

  one_time : (dot : Dot) → (Knows operation.causes dot ⊎ (dot ≡ operation.dot)) ↔ IsTime history (range_of operation.dot) dot
  one_time dot = (
    λ c. record { last = operation; stands = stands; is = refl; cause = c },
    λ t. subst (λ (w : Operation). Knows w.causes dot ⊎ (dot ≡ operation.dot)) (it t.last t.stands t.is) t.cause,
  )

  -- an entry with the effect of one operation is the net effect of its range
  pub net_of_one : (entry : EntryValue) → entry.range ≡ range_of operation.dot → IsAscending tagged_cmp entry.deletes → IsAscending insert_cmp entry.inserts → IsEffect operation entry
      → IsNet history (range_of operation.dot) entry
  net_of_one entry same d i f = record {
    same = same;
    inserts_ascend = i;
    inserts = λ triple tick. both_iff (f.inserts triple tick) (one_insert triple tick);
    deletes_ascend = d;
    deletes = λ pair. both_iff (f.deletes pair) (one_delete pair);
    time = λ dot. both_iff (f.time dot) (one_time dot);
  }

  effect_of_range : (entry : EntryValue) → IsNet history (range_of operation.dot) entry → IsEffect operation entry
  effect_of_range entry n = record {
    deletes = λ pair. both_iff (n.deletes pair) (back (one_delete pair));
    inserts = λ triple tick. both_iff (n.inserts triple tick) (back (one_insert triple tick));
    time = λ dot. both_iff (n.time dot) (back (one_time dot));
  }
    where
      back : {A B : Type 0} → A ↔ B → B ↔ A
      back f = (f.1, f.0)

  -- the net effect of a range of one dot is the effect of the operation of that dot
  pub net_of_one_back : (range : Range) (entry : EntryValue) → IsNet history range entry → range.first ≡ range.last → operation.dot ≡ dot_at range.path range.last → IsEffect operation entry
  net_of_one_back range entry n one e =
      effect_of_range entry (subst (λ r. IsNet history r entry) (same_range range one e) n)
    where
      same_range : (range : Range) → range.first ≡ range.last → operation.dot ≡ dot_at range.path range.last → range ≡ range_of operation.dot
      same_range range one e = λ i. record {
        path = sym (ap (λ (d : Dot). d.path) e) i;
        first = (one ∙ sym (ap (λ (d : Dot). d.tick) e)) i;
        last = sym (ap (λ (d : Dot). d.tick) e) i;
      }

-- an entry of the range of one dot is its net effect just where it has the effect of the operation of that dot
pub net_iff_effect : (history : List Operation) (operation : Operation) (entry : EntryValue)
    → IsLawful history → Has history operation → entry.range ≡ range_of operation.dot → IsAscending tagged_cmp entry.deletes → IsAscending insert_cmp entry.inserts
    → IsNet history (range_of operation.dot) entry ↔ IsEffect operation entry
net_iff_effect history operation entry lawful stands same deletes inserts = (
  λ n. net_of_one_back history operation lawful stands (range_of operation.dot) entry n refl refl,
  λ f. net_of_one history operation lawful stands entry same deletes inserts f,
)

-- entries of the same parts are one
pub same_parts : (entry other : EntryValue) → entry.range ≡ other.range → entry.time ≡ other.time → entry.deletes ≡ other.deletes
    → entry.inserts ≡ other.inserts → entry ≡ other
same_parts entry other range time deletes inserts = λ i. record { range = range i; time = time i; deletes = deletes i; inserts = inserts i }

-- a range has one entry
pub one_net : (history : List Operation) (range : Range) (entry other : EntryValue)
    → IsNet history range entry → IsNet history range other → IsClock entry.time → IsClock other.time → entry ≡ other
one_net history range entry other n m clock other_clock =
    same_parts entry other (n.same ∙ sym m.same) (clock_from_ticks entry.time other.time clock other_clock same_ticks)
    (same_ascending tagged_cmp tagged_total tagged_exact entry.deletes other.deletes n.deletes_ascend m.deletes_ascend
    (λ pair h. (m.deletes pair).1 ((n.deletes pair).0 h))
    (λ pair h. (n.deletes pair).1 ((m.deletes pair).0 h)))
    (same_ascending insert_cmp insert_total insert_exact entry.inserts other.inserts n.inserts_ascend m.inserts_ascend
    (λ insert h. (m.inserts insert.0 insert.1).1 ((n.inserts insert.0 insert.1).0 h))
    (λ insert h. (n.inserts insert.0 insert.1).1 ((m.inserts insert.0 insert.1).0 h)))
  where
    same_ticks : (path : List ℕ) → ticks_of entry.time path ≡ ticks_of other.time path
    same_ticks path =
        let within : ticks_of entry.time path ≤ ticks_of other.time path =
        (Covers-within entry.time other.time).1 (λ dot c. (m.time dot).1 ((n.time dot).0 c)) path in
        let without : ticks_of other.time path ≤ ticks_of entry.time path =
        (Covers-within other.time entry.time).1 (λ dot c. (n.time dot).1 ((m.time dot).0 c)) path in
        omega (arith, within, without)
