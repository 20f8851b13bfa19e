-- What a ready range leaves of the meaning of a closed set of dots is the meaning of the set with the range.
use Rattle.std.proofs.Common.{◌≡◌, ℕ, ◌+◌, ◌<◌, ◌≤◌, List, [], ◌∷◌, ◌++◌, ◌⊎◌, inl, inr, refl, sym, ◌∙◌, ap, subst, arith}
use Rattle.std.proofs.lemmas.Bool.{cases_lt}
use Rattle.tree_clock.specs.declared.dots.Dot.{Dot}
use Rattle.tree_clock.specs.declared.dots.Range.{Range}
use Rattle.tree_clock.specs.Lists.{Has}
use Rattle.tree_clock.specs.Dot.{IsIn, Knows}
use Rattle.tree_clock.specs.DotLaws.{IsIn_or_not, Knows_or_not}
use Rattle.tree_clock.specs.Clock.{ticks_of, Covers}
use Rattle.mld_ops.specs.declared.tagged.Tagged.{Tagged}
use Rattle.mld_ops.specs.Entry.{EntryValue}
use Rattle.mld_ops.specs.History.{Operation, dot_at, IsInserted, IsClosed}
use Rattle.mld_ops.proofs.OperationLaws.{same_dot, knows_more, knows_still, knows_last, deletes_causes}
use Rattle.mld_ops.specs.Meaning.{IsKept, IsMeaning}
use Rattle.mld_ops.specs.Net.{IsNetInsert, IsNetDelete}
use Rattle.mld_ops.specs.Cut.{IsSuperseded, IsAdded, IsCutOf}
use Rattle.mld_ops.specs.Ready.{last_dot}
use Rattle.op_fusion.specs.FusionLaws.{MayTake, TakenIsClosed, TakenIsMeaning}
use Rattle.op_fusion.proofs.Ticks.{deletes_earlier, range_done, causes_in_time}

module _ (history : List Operation) (known : List Range) (ticks : List (List ℕ × ℕ)) (range : Range) (entry : EntryValue) (take : MayTake history known ticks range entry) where
  -- the range begins no later than behind the last known tick of its path, and ends above it
  begins : range.first ≤ ticks_of ticks range.path + 1
  begins = let P : Range → Type 0 = λ r. r.first ≤ ticks_of ticks r.path + 1 in subst P take.net.same take.ready.before

  unknown : ¬ Covers ticks (last_dot range)
  unknown = let P : Range → Type 0 = λ r. ¬ Covers ticks (last_dot r) in subst P take.net.same take.ready.unknown

  ends : ticks_of ticks range.path < range.last
  ends = elim (cases_lt (ticks_of ticks range.path) range.last) [
    | inl below ↦ below
    | inr above ↦ absurd (unknown (record { positive = omega (arith, take.first, take.last); within = above }))
  ]

  -- the known ticks of the path are those up to the last
  known_tick : (dot : Dot) → dot.path ≡ range.path → Knows known dot → dot.tick ≤ ticks_of ticks range.path
  known_tick dot path k = omega (arith, ((take.alike dot).1 k).within, ap (λ p. ticks_of ticks p) path)

  is_known : (dot : Dot) → dot.path ≡ range.path → 1 ≤ dot.tick → dot.tick ≤ ticks_of ticks range.path → Knows known dot
  is_known dot path positive upto = (take.alike dot).0 (record { positive = positive; within = omega (arith, upto, ap (λ p. ticks_of ticks p) path) })

  -- the known dots with those of the range are closed
  closed : IsClosed history (known ++ range ∷ [])
  closed = record {
    done = λ dot k. elim (knows_more known range dot k) [
      | inl h ↦ take.closed.done dot h
      | inr i ↦ range_done history range dot take.lawful take.first take.done i
    ];
    causes = λ o h k dot c. elim (knows_more known range o.dot k) [
      | inl j ↦ knows_still known range dot (take.closed.causes o h j dot c)
      | inr i ↦ elim (IsIn_or_not range dot) [
        | inl inside ↦ knows_last known range dot inside
        | inr outside ↦ knows_still known range dot (rested dot ((take.net.time dot).1 (causes_in_time history range o dot take.lawful take.done h i c)) outside)
      ]
    ];
  }
    where
      rested : (dot : Dot) → Covers entry.time dot → ¬ IsIn range dot → Knows known dot
      rested dot covers outside =
          let P : Range → Type 0 = λ r. ¬ IsIn r dot in
          (take.alike dot).0 (take.ready.time dot covers (subst P (sym take.net.same) outside))

  -- an insert of the entry, as the pair that it is
  net_pair : (pair : Tagged) → pair.dot.path ≡ range.path → IsInserted history pair → range.first ≤ pair.dot.tick → pair.dot.tick ≤ range.last
      → ((o : Operation) → Has history o → IsIn range o.dot → ¬ Has o.deletes pair) → Has entry.inserts (pair.triple, pair.dot.tick)
  net_pair pair path inserted from upto kept =
      let same : pair ≡ record { triple = pair.triple; dot = dot_at range.path pair.dot.tick } = λ i. record { triple = pair.triple; dot = same_dot pair.dot (dot_at range.path pair.dot.tick) path refl i } in
      let Q : Tagged → Type 0 = λ p. (o : Operation) → Has history o → IsIn range o.dot → ¬ Has o.deletes p in
      let kept_at : Q (record { triple = pair.triple; dot = dot_at range.path pair.dot.tick }) = subst Q same kept in
      (take.net.inserts pair.triple pair.dot.tick).1 (record {
        inside = record { path = refl; above = from; below = upto };
        inserted = subst (IsInserted history) same inserted;
        kept = λ o h inside later. kept_at o h inside;
      })

  pair_net : (pair : Tagged) → pair.dot.path ≡ range.path → Has entry.inserts (pair.triple, pair.dot.tick)
      → IsInserted history pair × ((o : Operation) → Has history o → IsIn range o.dot → ¬ Has o.deletes pair)
  pair_net pair path h =
      let same : record { triple = pair.triple; dot = dot_at range.path pair.dot.tick } ≡ pair = λ i. record { triple = pair.triple; dot = same_dot (dot_at range.path pair.dot.tick) pair.dot (sym path) refl i } in
      let n : IsNetInsert history range pair.triple pair.dot.tick = (take.net.inserts pair.triple pair.dot.tick).0 h in (
        subst (IsInserted history) same n.inserted,
        λ o k inside d.
            let later : pair.dot.tick < o.dot.tick = deletes_earlier history o pair take.lawful k d (path ∙ sym inside.path) in
            n.kept o k inside later (subst (λ (p : Tagged). Has o.deletes p) (sym same) d),
      )

  module _ (old new : List Tagged) (meaning : IsMeaning history known old) (cut : IsCutOf entry (ticks_of ticks range.path) old new) where
    -- a pair of before that the cut leaves is kept
    old_stays : (pair : Tagged) → Has old pair → ¬ Has entry.deletes pair → ¬ IsSuperseded entry (ticks_of ticks range.path) pair → IsKept history (known ++ range ∷ []) pair
    old_stays pair h free lasting =
        let k : IsKept history known pair = meaning.sound pair h in
        record {
          covered = knows_still known range pair.dot k.covered;
          inserted = k.inserted;
          kept = λ o s j d. elim (knows_more known range o.dot j) [
            | inl before ↦ k.kept o s before d
            | inr inside ↦ elim (IsIn_or_not range pair.dot) [
              | inl own ↦ lasting (superseded o s inside d own (known_tick pair.dot own.path k.covered))
              | inr outside ↦ free ((take.net.deletes pair).1 (record { operation = o; stands = s; inside = inside; deletes = d; outside = outside }))
            ]
          ];
        }
      where
        superseded : (o : Operation) → Has history o → IsIn range o.dot → Has o.deletes pair → IsIn range pair.dot → pair.dot.tick ≤ ticks_of ticks range.path
            → IsSuperseded entry (ticks_of ticks range.path) pair
        superseded o s inside d own upto = record {
          path = own.path ∙ sym (ap (λ (r : Range). r.path) take.net.same);
          above = omega (arith, own.above, ap (λ (r : Range). r.first) take.net.same);
          below = upto;
          lacks = λ insert. (pair_net pair own.path insert).1 o s inside d;
        }

    -- a pair that the entry adds is kept
    added_stays : (pair : Tagged) → IsAdded entry (ticks_of ticks range.path) pair → IsKept history (known ++ range ∷ []) pair
    added_stays pair a =
        let path : pair.dot.path ≡ range.path = a.path ∙ ap (λ (r : Range). r.path) take.net.same in
        let n : IsInserted history pair × ((o : Operation) → Has history o → IsIn range o.dot → ¬ Has o.deletes pair) = pair_net pair path a.inserts in
        let inside : IsIn range (dot_at range.path pair.dot.tick) = ((take.net.inserts pair.triple pair.dot.tick).0 a.inserts).inside in
        record {
          covered = knows_last known range pair.dot (record { path = path; above = inside.above; below = inside.below });
          inserted = n.0;
          kept = λ o s j d. elim (knows_more known range o.dot j) [
            | inl before ↦
                let upto : pair.dot.tick ≤ ticks_of ticks range.path = known_tick pair.dot path (take.closed.causes o s before pair.dot (deletes_causes history o pair take.lawful s d)) in
                let above = a.above in
                omega arith
            | inr own ↦ n.1 o s own d
          ];
        }

    -- a pair that is kept stands behind the cut
    kept_stands : (pair : Tagged) → IsKept history (known ++ range ∷ []) pair
        → (Has old pair × ¬ Has entry.deletes pair × ¬ IsSuperseded entry (ticks_of ticks range.path) pair) ⊎ IsAdded entry (ticks_of ticks range.path) pair
    kept_stands pair k = elim (Knows_or_not known pair.dot) [
      | inl before ↦ inl (
        meaning.complete pair (record { covered = before; inserted = k.inserted; kept = λ o s j. k.kept o s (knows_still known range o.dot j) }),
        λ d. let e : IsNetDelete history range pair = (take.net.deletes pair).0 d in k.kept e.operation e.stands (knows_last known range e.operation.dot e.inside) e.deletes,
        λ s.
            let path : pair.dot.path ≡ range.path = s.path ∙ ap (λ (r : Range). r.path) take.net.same in
            s.lacks (net_pair pair path k.inserted (omega (arith, s.above, ap (λ (r : Range). r.first) take.net.same)) (omega (arith, s.below, ends)) free),
      )
      | inr new_dot ↦ inr (added new_dot (elim (knows_more known range pair.dot k.covered) [ inl j ↦ absurd (new_dot j) | inr i ↦ i ]))
    ]
      where
        free : (o : Operation) → Has history o → IsIn range o.dot → ¬ Has o.deletes pair
        free o s inside = k.kept o s (knows_last known range o.dot inside)

        above_known : ¬ Knows known pair.dot → IsIn range pair.dot → ticks_of ticks range.path < pair.dot.tick
        above_known n inside = elim (cases_lt (ticks_of ticks range.path) pair.dot.tick) [
          | inl above ↦ above
          | inr upto ↦ absurd (n (is_known pair.dot inside.path (omega (arith, take.first, inside.above)) upto))
        ]

        added : ¬ Knows known pair.dot → IsIn range pair.dot → IsAdded entry (ticks_of ticks range.path) pair
        added n inside = record {
          path = inside.path ∙ sym (ap (λ (r : Range). r.path) take.net.same);
          above = above_known n inside;
          inserts = net_pair pair inside.path k.inserted inside.above inside.below free;
        }

    taken_meaning : IsMeaning history (known ++ range ∷ []) new
    taken_meaning = record {
      ascending = cut.ascending;
      sound = λ pair h. elim ((cut.members pair).0 h) [ inl old_one ↦ old_stays pair old_one.0 old_one.1 old_one.2 | inr a ↦ added_stays pair a ];
      complete = λ pair k. (cut.members pair).1 (kept_stands pair k);
    }

pub taken_is_closed : TakenIsClosed
taken_is_closed history known ticks range entry take = closed history known ticks range entry take

pub taken_is_meaning : TakenIsMeaning
taken_is_meaning history known ticks range entry old new take meaning cut = taken_meaning history known ticks range entry take old new meaning cut
