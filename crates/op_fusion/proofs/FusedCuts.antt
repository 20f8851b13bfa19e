-- The cut of a fused entry is the cut of both, one after the other.
use Rattle.std.proofs.Common.{◌≡◌, ℕ, ◌+◌, ◌<◌, ◌≤◌, min, max, List, [], ◌∷◌, ◌⊎◌, inl, inr, refl, sym, ◌∙◌, ap, subst, arith}
use Rattle.std.proofs.lemmas.Bool.{cases_lt}
use Rattle.std.proofs.lemmas.Cmp.{tied_itself}
use Rattle.std.proofs.lemmas.Map.Lookups.{CmpEqualImpliesEq}
use Rattle.std.specs.Cmp.{IsTotalOrder}
use Rattle.std.specs.declared.cmp.Ordering.{Ordering}
use Rattle.std.specs.declared.cmp.Ordering.TheVariants.{Less, Equal, Greater}
use Rattle.tree_clock.specs.declared.dots.Dot.{Dot}
use Rattle.tree_clock.specs.declared.dots.Range.{Range}
use Rattle.tree_clock.specs.Lists.{Has}
use Rattle.tree_clock.specs.Dot.{IsIn}
use Rattle.tree_clock.specs.DotLaws.{IsIn_or_not}
use Rattle.tree_clock.specs.Clock.{ticks_of, Covers, RaisesTo}
use Rattle.tree_clock.proofs.ClockLaws.{Covers-max, Covers-raised}
use Rattle.mld_ops.specs.declared.tagged.Tagged.{Tagged}
use Rattle.mld_ops.specs.Tagged.{insert_cmp}
use Rattle.mld_ops.proofs.TaggedLaws.{insert_total, insert_exact}
use Rattle.mld_ops.specs.Entry.{EntryValue, IsEntry}
use Rattle.mld_ops.specs.Cut.{IsSuperseded, IsAdded, IsCutOf}
use Rattle.mld_ops.specs.Ready.{last_dot, IsReadyEntry}
use Rattle.op_fusion.specs.Fusion.{AreNeighbours, joined, Fused}
use Rattle.op_fusion.specs.CompactingLaws.{AreReadyInTurn, FusedIsReady, FusedRaisesBoth, FusedCutsBoth}
use Rattle.op_fusion.proofs.FusedNets.{in_left, in_right}
use Rattle.op_fusion.proofs.Lists.{of_member}
use Rattle.op_fusion.proofs.Orders.{pair_is}
use Rattle.op_fusion.proofs.Staying.{insert_inside}

-- ---- a value is a member or it isn't

decide_more : {X : Type 0} (R : X → X → Ordering) → IsTotalOrder R → CmpEqualImpliesEq R → (y x : X) (xs : List X) (o : Ordering) → R y x ≡ o
    → (Has xs x ⊎ (¬ Has xs x)) → Has (y ∷ xs) x ⊎ (¬ Has (y ∷ xs) x)
decide_more R total exact y x xs Equal is rest = inl (inl (exact y x is))
decide_more R total exact y x xs Less is (inl h) = inl (inr h)
decide_more R total exact y x xs Greater is (inl h) = inl (inr h)
decide_more R total exact y x xs Less is (inr n) = inr (λ h. elim h [ inl same ↦ differs same | inr k ↦ n k ])
  where
    differs : y ≡ x → ⊥
    differs same = let tied : R y x ≡ Equal = ap (λ z. R z x) same ∙ tied_itself total x in cc
decide_more R total exact y x xs Greater is (inr n) = inr (λ h. elim h [ inl same ↦ differs same | inr k ↦ n k ])
  where
    differs : y ≡ x → ⊥
    differs same = let tied : R y x ≡ Equal = ap (λ z. R z x) same ∙ tied_itself total x in cc

pub has_or_not : {X : Type 0} (R : X → X → Ordering) → IsTotalOrder R → CmpEqualImpliesEq R → (xs : List X) (x : X) → Has xs x ⊎ (¬ Has xs x)
has_or_not R total exact [] x = inr (λ h. h)
has_or_not R total exact (y ∷ xs) x = decide_more R total exact y x xs (R y x) refl (has_or_not R total exact xs x)

-- ---- the parts of entries

-- a delete at the entry's own path has a tick before its range
pub deletes_before : (entry : EntryValue) (pair : Tagged) → IsEntry entry → Has entry.deletes pair → pair.dot.path ≡ entry.range.path → pair.dot.tick < entry.range.first
deletes_before entry pair is d path =
    let covered : Covers entry.time pair.dot = of_member (λ (other : Tagged). Covers entry.time other.dot) entry.deletes pair is.deletes_covered d in
    let outside : ¬ IsIn entry.range pair.dot = of_member (λ (other : Tagged). ¬ IsIn entry.range other.dot) entry.deletes pair is.deletes_outside d in
    let upto : pair.dot.tick ≤ entry.range.last = omega (arith, covered.within, ap (λ p. ticks_of entry.time p) path, is.own) in
    elim (cases_lt pair.dot.tick entry.range.first) [
      | inl below ↦ below
      | inr above ↦ absurd (outside (record { path = path; above = above; below = upto }))
    ]

-- ---- the cuts of both

-- the number is the last tick that was known of their path
module _ (first second fused : EntryValue) (one : IsEntry first) (two : IsEntry second) (near : AreNeighbours first.range second.range)
    (f : Fused first second fused) (known : ℕ) (behind : known < first.range.last) (begins : first.range.first ≤ known + 1)
    (old middle new : List Tagged) (upto : (pair : Tagged) → Has old pair → pair.dot.path ≡ first.range.path → pair.dot.tick ≤ known)
    (left : IsCutOf first known old middle) (right : IsCutOf second first.range.last middle new) where
  path : fused.range.path ≡ first.range.path
  path = ap (λ (range : Range). range.path) f.range

  same_first : fused.range.first ≡ min first.range.first second.range.first
  same_first = ap (λ (range : Range). range.first) f.range

  module _ (pair : Tagged) (at : pair.dot.path ≡ first.range.path) where
    first_kept : Has first.inserts (pair.triple, pair.dot.tick) → pair.dot.tick < second.range.first → ¬ Has second.deletes pair
        → Has fused.inserts (pair.triple, pair.dot.tick)
    first_kept h early free = (f.inserts pair.triple pair.dot.tick).1 (inr (record {
      stands = h;
      before = early;
      kept = λ d. free (subst (λ (w : Tagged). Has second.deletes w) (sym (pair_is first.range.path pair at)) d);
    }))

    second_kept : Has second.inserts (pair.triple, pair.dot.tick)
        → (first.range.last < pair.dot.tick) ⊎ Has first.inserts (pair.triple, pair.dot.tick) ⊎ ((pair.dot.tick < first.range.first) × ¬ Has first.deletes pair)
        → Has fused.inserts (pair.triple, pair.dot.tick)
    second_kept h kept = (f.inserts pair.triple pair.dot.tick).1 (inl (record {
      stands = h;
      kept = elim kept [
        | inl later ↦ inl later
        | inr more ↦ elim more [
          | inl e ↦ inr (inl e)
          | inr out ↦ inr (inr (out.0, λ d. out.1 (subst (λ (w : Tagged). Has first.deletes w) (sym (pair_is first.range.path pair at)) d)))
        ]
      ];
    }))

  -- what neither supersedes, the fused entry doesn't
  lasts : (pair : Tagged) → ¬ Has first.deletes pair → ¬ IsSuperseded first known pair → ¬ Has second.deletes pair
      → ¬ IsSuperseded second first.range.last pair → ¬ IsSuperseded fused known pair
  lasts pair first_free first_lasts second_free second_lasts sup =
      let at : pair.dot.path ≡ first.range.path = sup.path ∙ path in
      elim (cases_lt pair.dot.tick second.range.first) [
        | inl early ↦ first_lasts (record {
          path = at;
          above = omega (arith, sup.above, same_first, early);
          below = sup.below;
          lacks = λ i. sup.lacks (first_kept pair at i early second_free);
        })
        | inr from ↦ second_lasts (record {
          path = at ∙ near.path;
          above = from;
          below = omega (arith, sup.below, behind);
          lacks = λ j. elim (cases_lt pair.dot.tick first.range.first) [
            | inl before ↦ sup.lacks (second_kept pair at j (inr (inr (before, first_free))))
            | inr above ↦ first_lasts (record { path = at; above = above; below = sup.below; lacks = λ i. sup.lacks (second_kept pair at j (inr (inl i))) })
          ];
        })
      ]

  -- what the first adds and the second leaves, the fused entry adds
  first_adds : (pair : Tagged) → IsAdded first known pair → ¬ Has second.deletes pair → ¬ IsSuperseded second first.range.last pair → IsAdded fused known pair
  first_adds pair a free stays = record {
    path = a.path ∙ sym path;
    above = a.above;
    inserts = elim (cases_lt pair.dot.tick second.range.first) [
      | inl early ↦ first_kept pair a.path a.inserts early free
      | inr from ↦ elim (has_or_not insert_cmp insert_total insert_exact second.inserts (pair.triple, pair.dot.tick)) [
        | inl j ↦ second_kept pair a.path j (inr (inl a.inserts))
        | inr lacks ↦ absurd (stays (record {
          path = a.path ∙ near.path;
          above = from;
          below = (insert_inside first pair.triple pair.dot.tick one a.inserts).1;
          lacks = lacks;
        }))
      ]
    ];
  }

  -- what both leave, one after the other, the fused entry leaves
  both_leave : (pair : Tagged) → Has new pair → (Has old pair × ¬ Has fused.deletes pair × ¬ IsSuperseded fused known pair) ⊎ IsAdded fused known pair
  both_leave pair h = elim ((right.members pair).0 h) [
    | inl k ↦ elim ((left.members pair).0 k.0) [
      | inl o ↦ inl (
        o.0,
        λ d. elim ((f.deletes pair).0 d).stands [ inl e ↦ o.1 e | inr e ↦ k.1 e ],
        lasts pair o.1 o.2 k.1 k.2,
      )
      | inr a ↦ inr (first_adds pair a k.1 k.2)
    ]
    | inr a ↦
        let at : pair.dot.path ≡ first.range.path = a.path ∙ sym near.path in
        inr (record { path = at ∙ sym path; above = omega (arith, behind, a.above); inserts = second_kept pair at a.inserts (inl a.above) })
  ]

  -- a pair of before that the fused entry leaves
  module _ (pair : Tagged) (had : Has old pair) (free : ¬ Has fused.deletes pair) (stays : ¬ IsSuperseded fused known pair) where
    -- within the range of both it is inserted
    still : IsIn (joined first.range second.range) pair.dot → ¬ Has fused.inserts (pair.triple, pair.dot.tick) → ⊥
    still i none = stays (record { path = i.path ∙ sym path; above = omega (arith, i.above, same_first); below = upto pair had i.path; lacks = none })

    first_free : ¬ Has first.deletes pair
    first_free d = elim (IsIn_or_not (joined first.range second.range) pair.dot) [
      | inl i ↦
          let early : pair.dot.tick < first.range.first = deletes_before first pair one d i.path in
          still i (λ k. elim ((f.inserts pair.triple pair.dot.tick).0 k) [
            | inl s ↦ elim s.kept [
              | inl later ↦ omega (arith, later, early, one.last)
              | inr more ↦ elim more [
                | inl e ↦ omega (arith, early, (insert_inside first pair.triple pair.dot.tick one e).0)
                | inr out ↦ out.1 (subst (λ (w : Tagged). Has first.deletes w) (pair_is first.range.path pair i.path) d)
              ]
            ]
            | inr s ↦ omega (arith, early, (insert_inside first pair.triple pair.dot.tick one s.stands).0)
          ])
      | inr outside ↦ free ((f.deletes pair).1 (record { stands = inl d; outside = outside }))
    ]

    first_lasts : ¬ IsSuperseded first known pair
    first_lasts sup = stays (record {
      path = sup.path ∙ sym path;
      above = omega (arith, sup.above, same_first);
      below = sup.below;
      lacks = λ k. elim ((f.inserts pair.triple pair.dot.tick).0 k) [
        | inl s ↦ elim s.kept [
          | inl later ↦ omega (arith, later, sup.below, behind)
          | inr more ↦ elim more [ inl e ↦ sup.lacks e | inr out ↦ omega (arith, out.0, sup.above) ]
        ]
        | inr s ↦ sup.lacks s.stands
      ];
    })

    second_free : ¬ Has second.deletes pair
    second_free d = elim (IsIn_or_not (joined first.range second.range) pair.dot) [
      | inl i ↦
          let early : pair.dot.tick < second.range.first = deletes_before second pair two d (i.path ∙ near.path) in
          still i (λ k. elim ((f.inserts pair.triple pair.dot.tick).0 k) [
            | inl s ↦ omega (arith, early, (insert_inside second pair.triple pair.dot.tick two s.stands).0)
            | inr s ↦ s.kept (subst (λ (w : Tagged). Has second.deletes w) (pair_is first.range.path pair i.path) d)
          ])
      | inr outside ↦ free ((f.deletes pair).1 (record { stands = inr d; outside = outside }))
    ]

    second_lasts : ¬ IsSuperseded second first.range.last pair
    second_lasts sup =
        let at : pair.dot.path ≡ first.range.path = sup.path ∙ sym near.path in
        stays (record {
          path = at ∙ sym path;
          above = omega (arith, sup.above, same_first);
          below = upto pair had at;
          lacks = λ k. elim ((f.inserts pair.triple pair.dot.tick).0 k) [
            | inl s ↦ sup.lacks s.stands
            | inr s ↦ omega (arith, s.before, sup.above)
          ];
        })

    both_keep : Has new pair
    both_keep = (right.members pair).1 (inl ((left.members pair).1 (inl (had, first_free, first_lasts)), second_free, second_lasts))

  -- a pair that the fused entry adds
  both_add : (pair : Tagged) → IsAdded fused known pair → Has new pair
  both_add pair a =
      let at : pair.dot.path ≡ first.range.path = a.path ∙ path in
      elim ((f.inserts pair.triple pair.dot.tick).0 a.inserts) [
        | inl s ↦ elim s.kept [
          | inl later ↦ (right.members pair).1 (inr (record { path = at ∙ near.path; above = later; inserts = s.stands }))
          | inr more ↦ elim more [
            | inl e ↦ (right.members pair).1 (inl (
              (left.members pair).1 (inr (record { path = at; above = a.above; inserts = e })),
              λ d. omega (arith, deletes_before second pair two d (at ∙ near.path), (insert_inside second pair.triple pair.dot.tick two s.stands).0),
              λ sup. sup.lacks s.stands,
            ))
            | inr out ↦ absurd (omega (arith, out.0, a.above, begins))
          ]
        ]
        | inr s ↦ (right.members pair).1 (inl (
          (left.members pair).1 (inr (record { path = at; above = a.above; inserts = s.stands })),
          λ d. s.kept (subst (λ (w : Tagged). Has second.deletes w) (pair_is first.range.path pair at) d),
          λ sup. omega (arith, s.before, sup.above),
        ))
      ]

  cuts_both : IsCutOf fused known old new
  cuts_both = record {
    ascending = right.ascending;
    members = λ pair. (
      both_leave pair,
      λ h. elim h [ inl k ↦ both_keep pair k.0 k.1 k.2 | inr a ↦ both_add pair a ],
    );
  }

-- ---- the clocks

module _ (ticks next : List (List ℕ × ℕ)) (first second fused : EntryValue) (turn : AreReadyInTurn ticks next first second) (f : Fused first second fused) where
  fused_path : fused.range.path ≡ first.range.path
  fused_path = ap (λ (range : Range). range.path) f.range

  fused_last : fused.range.last ≡ second.range.last
  fused_last = ap (λ (range : Range). range.last) f.range

  -- the first goes beyond what is known of its path
  goes_beyond : ticks_of ticks first.range.path < first.range.last
  goes_beyond = elim (cases_lt (ticks_of ticks first.range.path) first.range.last) [
    | inl below ↦ below
    | inr above ↦ absurd (turn.ready.unknown (record { positive = omega (arith, turn.one.first, turn.one.last); within = above }))
  ]

  -- so the second meets a clock that has the first
  known_then : ticks_of next second.range.path ≡ first.range.last
  known_then =
      let raised : ticks_of next first.range.path ≡ max (ticks_of ticks first.range.path) first.range.last = turn.raises.at in
      omega (arith, ap (λ p. ticks_of next p) turn.near.path, raised, goes_beyond)

  in_fused_first : (dot : Dot) → IsIn first.range dot → IsIn fused.range dot
  in_fused_first dot i = subst (λ (range : Range). IsIn range dot) (sym f.range) (in_left first.range second.range turn.near dot i)

  in_fused_second : (dot : Dot) → IsIn second.range dot → IsIn fused.range dot
  in_fused_second dot i = subst (λ (range : Range). IsIn range dot) (sym f.range) (in_right first.range second.range turn.near dot i)

  -- what the raised clock has besides the range was known
  had_before : (dot : Dot) → ¬ IsIn fused.range dot → Covers next dot → Covers ticks dot
  had_before dot outside c = elim ((Covers-raised ticks next (last_dot first.range) dot turn.raises).0 c) [
    | inl had ↦ had
    | inr at ↦ elim (cases_lt dot.tick first.range.first) [
      | inl early ↦ record { positive = at.1; within = omega (arith, early, turn.ready.before, ap (λ p. ticks_of ticks p) at.0) }
      | inr from ↦ absurd (outside (in_fused_first dot (record { path = at.0; above = from; below = at.2 })))
    ]
  ]

  fused_ready : IsReadyEntry ticks fused
  fused_ready = record {
    unknown = λ c.
        let within : fused.range.last ≤ ticks_of ticks fused.range.path = c.within in
        omega (arith, within, ap (λ p. ticks_of ticks p) fused_path, fused_last, turn.near.beyond, goes_beyond);
    before = omega (arith, turn.ready.before, ap (λ (range : Range). range.first) f.range, ap (λ p. ticks_of ticks p) fused_path);
    time = λ dot c outside. elim ((Covers-max first.time second.time fused.time f.time dot).0 c) [
      | inl t ↦ turn.ready.time dot t (λ i. outside (in_fused_first dot i))
      | inr t ↦ had_before dot outside (turn.ready_then.time dot t (λ i. outside (in_fused_second dot i)))
    ];
  }

  fused_raises : (after : List (List ℕ × ℕ)) → RaisesTo next after (last_dot second.range) → RaisesTo ticks after (last_dot fused.range)
  fused_raises after raises =
      let at : ticks_of after second.range.path ≡ max (ticks_of next second.range.path) second.range.last = raises.at in
      record {
        at = omega (arith, ap (λ p. ticks_of after p) (fused_path ∙ turn.near.path), at, known_then, ap (λ p. ticks_of ticks p) fused_path, goes_beyond, turn.near.beyond, fused_last);
        others = λ other differs.
            raises.others other (λ same. differs (same ∙ sym turn.near.path ∙ sym fused_path))
            ∙ turn.raises.others other (λ same. differs (same ∙ sym fused_path));
      }

  fused_cuts : (old middle new : List Tagged) → ((pair : Tagged) → Has old pair → Covers ticks pair.dot)
      → IsCutOf first (ticks_of ticks first.range.path) old middle → IsCutOf second (ticks_of next second.range.path) middle new
      → IsCutOf fused (ticks_of ticks fused.range.path) old new
  fused_cuts old middle new covered left right =
      subst (λ (p : List ℕ). IsCutOf fused (ticks_of ticks p) old new) (sym fused_path)
      (cuts_both first second fused turn.one turn.two turn.near f (ticks_of ticks first.range.path) goes_beyond turn.ready.before old middle new
      (λ pair h at. omega (arith, (covered pair h).within, ap (λ p. ticks_of ticks p) at))
      left (subst (λ (n : ℕ). IsCutOf second n middle new) known_then right))

pub fused_is_ready : FusedIsReady
fused_is_ready ticks next first second fused turn f = fused_ready ticks next first second fused turn f

pub fused_raises_both : FusedRaisesBoth
fused_raises_both ticks next after first second fused turn f raises = fused_raises ticks next first second fused turn f after raises

pub fused_cuts_both : FusedCutsBoth
fused_cuts_both ticks next first second fused old middle new turn f covered left right = fused_cuts ticks next first second fused turn f old middle new covered left right
