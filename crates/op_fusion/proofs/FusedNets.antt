-- The fused entry of two net effects is the net effect of the range of both.
use Rattle.std.proofs.Common.{◌≡◌, ℕ, ◌<◌, ◌≤◌, List, ◌⊎◌, ◌↔◌, inl, inr, refl, sym, ◌∙◌, ap, subst, arith}
use Rattle.std.proofs.lemmas.Bool.{cases_lt}
use Rattle.rdf_terms.specs.declared.terms.Triple.{Triple}
use Rattle.tree_clock.specs.declared.dots.Dot.{Dot}
use Rattle.tree_clock.specs.declared.dots.Range.{Range}
use Rattle.tree_clock.specs.Lists.{Has}
use Rattle.tree_clock.specs.Dot.{IsIn, Knows}
use Rattle.tree_clock.specs.Clock.{ticks_of, Covers}
use Rattle.tree_clock.proofs.ClockLaws.{Covers-max, Covers-within, clock_from_ticks}
use Rattle.mld_ops.specs.declared.tagged.Tagged.{Tagged}
use Rattle.mld_ops.specs.Tagged.{tagged_cmp, insert_cmp}
use Rattle.mld_ops.proofs.TaggedLaws.{tagged_total, tagged_exact, insert_total, insert_exact}
use Rattle.mld_ops.proofs.AscendingLaws.{same_ascending}
use Rattle.mld_ops.proofs.NetLaws.{same_parts}
use Rattle.mld_ops.specs.Entry.{EntryValue}
use Rattle.mld_ops.specs.History.{Operation, dot_at, IsDone, IsInserted, IsLawful}
use Rattle.mld_ops.specs.Net.{IsNetInsert, IsNetDelete, IsTime, IsNet}
use Rattle.mld_ops.specs.Ready.{last_dot}
use Rattle.op_fusion.specs.Fusion.{AreNeighbours, joined, pair_at, StaysOfSecond, StaysOfFirst, StaysDeleted, Fused}
use Rattle.op_fusion.specs.FusionLaws.{OneFused, FusedNetsAreNet, FusedTimeIsSecond}
use Rattle.op_fusion.proofs.Ticks.{tick_positive, earlier_is_cause, causes_grow}

-- two fused entries of the same two have the same parts
pub one_fused : OneFused
one_fused first second one other f g =
    same_parts one other (f.range ∙ sym g.range)
    (clock_from_ticks one.time other.time f.clock g.clock (λ path. f.time path ∙ sym (g.time path)))
    (same_ascending tagged_cmp tagged_total tagged_exact one.deletes other.deletes f.deletes_ascend g.deletes_ascend
    (λ pair h. (g.deletes pair).1 ((f.deletes pair).0 h))
    (λ pair h. (f.deletes pair).1 ((g.deletes pair).0 h)))
    (same_ascending insert_cmp insert_total insert_exact one.inserts other.inserts f.inserts_ascend g.inserts_ascend
    (λ insert h. (g.inserts insert.0 insert.1).1 ((f.inserts insert.0 insert.1).0 h))
    (λ insert h. (f.inserts insert.0 insert.1).1 ((g.inserts insert.0 insert.1).0 h)))

both_iff : {A B C : Type 0} → A ↔ B → B ↔ C → A ↔ C
both_iff f g = (λ a. g.0 (f.0 a), λ c. f.1 (g.1 c))

-- ---- the dots of two ranges and of the range of both

module _ (left right : Range) (near : AreNeighbours left right) where
  pub in_left : (dot : Dot) → IsIn left dot → IsIn (joined left right) dot
  in_left dot i = record { path = i.path; above = omega (arith, i.above); below = omega (arith, i.below, near.beyond) }

  pub in_right : (dot : Dot) → IsIn right dot → IsIn (joined left right) dot
  in_right dot i = record { path = i.path ∙ sym near.path; above = omega (arith, i.above); below = i.below }

  pub from_right : (dot : Dot) → IsIn (joined left right) dot → right.first ≤ dot.tick → IsIn right dot
  from_right dot i from = record { path = i.path ∙ near.path; above = from; below = i.below }

  pub before_right : (dot : Dot) → IsIn (joined left right) dot → dot.tick < right.first → IsIn left dot
  before_right dot i early = record { path = i.path; above = omega (arith, i.above, early); below = omega (arith, early, near.joins) }

  pub in_either : (dot : Dot) → IsIn (joined left right) dot → IsIn left dot ⊎ IsIn right dot
  in_either dot i =
      elim (cases_lt dot.tick right.first) [
        | inl early ↦ inl (before_right dot i early)
        | inr from ↦ inr (from_right dot i from)
      ]

-- ---- the parts of the fused entry

module _ (history : List Operation) (first second fused : EntryValue) (near : AreNeighbours first.range second.range)
    (n : IsNet history first.range first) (m : IsNet history second.range second) (f : Fused first second fused) where
  -- a pair at the path of either
  to_second : (P : Tagged → Type 0) (triple : Triple) (tick : ℕ) → P (pair_at first.range.path triple tick) → P (pair_at second.range.path triple tick)
  to_second P triple tick h = subst (λ (path : List ℕ). P (pair_at path triple tick)) near.path h

  to_first : (P : Tagged → Type 0) (triple : Triple) (tick : ℕ) → P (pair_at second.range.path triple tick) → P (pair_at first.range.path triple tick)
  to_first P triple tick h = subst (λ (path : List ℕ). P (pair_at path triple tick)) (sym near.path) h

  second_inserts : (triple : Triple) (tick : ℕ) → StaysOfSecond first second triple tick → IsNetInsert history (joined first.range second.range) triple tick
  second_inserts triple tick s =
      let i : IsNetInsert history second.range triple tick = (m.inserts triple tick).0 s.stands in
      record {
        inside = in_right first.range second.range near (dot_at first.range.path tick)
            (subst (λ (path : List ℕ). IsIn second.range (dot_at path tick)) (sym near.path) i.inside);
        inserted = to_first (IsInserted history) triple tick i.inserted;
        kept = λ o h inside later d.
            i.kept o h (from_right first.range second.range near o.dot inside (omega (arith, i.inside.above, later))) later
            (to_second (Has o.deletes) triple tick d);
      }

  first_inserts : (triple : Triple) (tick : ℕ) → StaysOfFirst first second triple tick → IsNetInsert history (joined first.range second.range) triple tick
  first_inserts triple tick s =
      let i : IsNetInsert history first.range triple tick = (n.inserts triple tick).0 s.stands in
      record {
        inside = in_left first.range second.range near (dot_at first.range.path tick) i.inside;
        inserted = i.inserted;
        kept = λ o h inside later d. elim (in_either first.range second.range near o.dot inside) [
          | inl l ↦ i.kept o h l later d
          | inr r ↦ s.kept ((m.deletes (pair_at first.range.path triple tick)).1 (record {
            operation = o;
            stands = h;
            inside = r;
            deletes = d;
            outside = λ j. let above = j.above in let before = s.before in omega arith;
          }))
        ];
      }

  module _ (triple : Triple) (tick : ℕ) (i : IsNetInsert history (joined first.range second.range) triple tick) where
    second_has : second.range.first ≤ tick → Has second.inserts (triple, tick)
    second_has from = (m.inserts triple tick).1 (record {
      inside = record { path = refl; above = from; below = i.inside.below };
      inserted = to_second (IsInserted history) triple tick i.inserted;
      kept = λ o h inside later d. i.kept o h (in_right first.range second.range near o.dot inside) later (to_first (Has o.deletes) triple tick d);
    })

    first_has : first.range.first ≤ tick → tick ≤ first.range.last → Has first.inserts (triple, tick)
    first_has from upto = (n.inserts triple tick).1 (record {
      inside = record { path = refl; above = from; below = upto };
      inserted = i.inserted;
      kept = λ o h inside later d. i.kept o h (in_left first.range second.range near o.dot inside) later d;
    })

    first_deletes : tick < first.range.first → ¬ Has first.deletes (pair_at first.range.path triple tick)
    first_deletes early d =
        let e : IsNetDelete history first.range (pair_at first.range.path triple tick) = (n.deletes (pair_at first.range.path triple tick)).0 d in
        i.kept e.operation e.stands (in_left first.range second.range near e.operation.dot e.inside) (omega (arith, early, e.inside.above)) e.deletes

    second_deletes : tick < second.range.first → ¬ Has second.deletes (pair_at first.range.path triple tick)
    second_deletes early d =
        let e : IsNetDelete history second.range (pair_at first.range.path triple tick) = (m.deletes (pair_at first.range.path triple tick)).0 d in
        i.kept e.operation e.stands (in_right first.range second.range near e.operation.dot e.inside) (omega (arith, early, e.inside.above)) e.deletes

    stays : StaysOfSecond first second triple tick ⊎ StaysOfFirst first second triple tick
    stays =
        elim (cases_lt tick second.range.first) [
          | inl early ↦
              let l : IsIn first.range (dot_at first.range.path tick) = before_right first.range second.range near (dot_at first.range.path tick) i.inside early in
              inr (record { stands = first_has l.above l.below; before = early; kept = second_deletes early })
          | inr from ↦ inl (record {
            stands = second_has from;
            kept = elim (cases_lt first.range.last tick) [
              | inl later ↦ inl later
              | inr upto ↦ elim (cases_lt tick first.range.first) [
                | inl early ↦ inr (inr (early, first_deletes early))
                | inr above ↦ inr (inl (first_has above upto))
              ]
            ];
          })
        ]

  net_inserts : (triple : Triple) (tick : ℕ) → Has fused.inserts (triple, tick) ↔ IsNetInsert history (joined first.range second.range) triple tick
  net_inserts triple tick = (
    λ h. elim ((f.inserts triple tick).0 h) [ inl s ↦ second_inserts triple tick s | inr s ↦ first_inserts triple tick s ],
    λ i. (f.inserts triple tick).1 (stays triple tick i),
  )

  net_deletes : (pair : Tagged) → Has fused.deletes pair ↔ IsNetDelete history (joined first.range second.range) pair
  net_deletes pair = (
    λ h.
        let s : StaysDeleted first second pair = (f.deletes pair).0 h in
        elim s.stands [
          | inl k ↦
              let e : IsNetDelete history first.range pair = (n.deletes pair).0 k in
              record { operation = e.operation; stands = e.stands; inside = in_left first.range second.range near e.operation.dot e.inside; deletes = e.deletes; outside = s.outside }
          | inr k ↦
              let e : IsNetDelete history second.range pair = (m.deletes pair).0 k in
              record { operation = e.operation; stands = e.stands; inside = in_right first.range second.range near e.operation.dot e.inside; deletes = e.deletes; outside = s.outside }
        ],
    λ e. (f.deletes pair).1 (record {
      stands = elim (in_either first.range second.range near e.operation.dot e.inside) [
        | inl l ↦ inl ((n.deletes pair).1 (record {
          operation = e.operation;
          stands = e.stands;
          inside = l;
          deletes = e.deletes;
          outside = λ j. e.outside (in_left first.range second.range near pair.dot j);
        }))
        | inr r ↦ inr ((m.deletes pair).1 (record {
          operation = e.operation;
          stands = e.stands;
          inside = r;
          deletes = e.deletes;
          outside = λ j. e.outside (in_right first.range second.range near pair.dot j);
        }))
      ];
      outside = e.outside;
    }),
  )

  module _ (lawful : IsLawful history) (done : IsDone history (last_dot second.range)) where
    last_cause : (operation : Operation) → Has history operation → operation.dot ≡ last_dot first.range → Knows done.operation.causes operation.dot
    last_cause operation h is =
        earlier_is_cause history done.operation operation.dot lawful done.stands
        (ap (λ (d : Dot). d.path) is ∙ near.path ∙ sym (ap (λ (d : Dot). d.path) done.is)) (tick_positive history operation lawful h)
        (omega (arith, ap (λ (d : Dot). d.tick) is, ap (λ (d : Dot). d.tick) done.is, near.beyond))

    -- the second's time has the first's
    time_grows : (dot : Dot) → Covers first.time dot → Covers second.time dot
    time_grows dot c =
        let t : IsTime history first.range dot = (n.time dot).0 c in
        (m.time dot).1 (record {
          last = done.operation;
          stands = done.stands;
          is = done.is;
          cause = inl (elim t.cause [
            | inl k ↦ causes_grow history done.operation t.last dot lawful done.stands t.stands (last_cause t.last t.stands t.is) k
            | inr e ↦ subst (λ (d : Dot). Knows done.operation.causes d) (t.is ∙ sym e) (last_cause t.last t.stands t.is)
          ]);
        })

    second_time : (path : List ℕ) → ticks_of fused.time path ≡ ticks_of second.time path
    second_time path = omega (arith, f.time path, (Covers-within first.time second.time).1 time_grows path)

    joined_time : (dot : Dot) → IsTime history second.range dot ↔ IsTime history (joined first.range second.range) dot
    joined_time dot =
        let P : List ℕ → Type 0 = λ path. IsTime history (record { path = path; first = 1; last = second.range.last }) dot in (
          λ t.
              let p : P first.range.path = subst P (sym near.path) (record { last = t.last; stands = t.stands; is = t.is; cause = t.cause }) in
              record { last = p.last; stands = p.stands; is = p.is; cause = p.cause },
          λ t.
              let p : P second.range.path = subst P near.path (record { last = t.last; stands = t.stands; is = t.is; cause = t.cause }) in
              record { last = p.last; stands = p.stands; is = p.is; cause = p.cause },
        )

    net_time : (dot : Dot) → Covers fused.time dot ↔ IsTime history (joined first.range second.range) dot
    net_time dot =
        let all : Covers fused.time dot ↔ (Covers first.time dot ⊎ Covers second.time dot) = Covers-max first.time second.time fused.time f.time dot in
        both_iff (
          λ c. (m.time dot).0 (elim (all.0 c) [ inl a ↦ time_grows dot a | inr b ↦ b ]),
          λ t. all.1 (inr ((m.time dot).1 t)),
        ) (joined_time dot)

    net_of_both : IsNet history (joined first.range second.range) fused
    net_of_both = record {
      same = f.range;
      inserts_ascend = f.inserts_ascend;
      inserts = net_inserts;
      deletes_ascend = f.deletes_ascend;
      deletes = net_deletes;
      time = net_time;
    }

-- the ranges are those of the entries
module _ (history : List Operation) (left right : Range) (first second fused : EntryValue) (near : AreNeighbours left right) (done : IsDone history (last_dot right))
    (n : IsNet history left first) (m : IsNet history right second) where
  near_entries : AreNeighbours first.range second.range
  near_entries =
      let P : Range → Type 0 = λ r. AreNeighbours r second.range in
      let Q : Range → Type 0 = λ r. AreNeighbours left r in
      subst P (sym n.same) (subst Q (sym m.same) near)

  done_entry : IsDone history (last_dot second.range)
  done_entry = let P : Range → Type 0 = λ r. IsDone history (last_dot r) in subst P (sym m.same) done

  net_first : IsNet history first.range first
  net_first = let P : Range → Type 0 = λ r. IsNet history r first in subst P (sym n.same) n

  net_second : IsNet history second.range second
  net_second = let P : Range → Type 0 = λ r. IsNet history r second in subst P (sym m.same) m

pub fused_nets_are_net : FusedNetsAreNet
fused_nets_are_net history left right first second fused lawful near done n m f =
    let P : Range → Type 0 = λ r. IsNet history (joined r second.range) fused in
    let Q : Range → Type 0 = λ r. IsNet history (joined left r) fused in
    subst Q m.same (subst P n.same
    (net_of_both history first second fused (near_entries history left right first second fused near done n m) (net_first history left right first second fused near done n m)
    (net_second history left right first second fused near done n m) f lawful (done_entry history left right first second fused near done n m)))

pub fused_time_is_second : FusedTimeIsSecond
fused_time_is_second history left right first second fused lawful near done n m f clock =
    clock_from_ticks fused.time second.time f.clock clock (second_time history first second fused (near_entries history left right first second fused near done n m) (net_first history left right first second fused near done n m)
    (net_second history left right first second fused near done n m) f lawful (done_entry history left right first second fused near done n m))
