-- Entries are fused to one entry, whatever the grouping: what it is follows from what each of them keeps.
use Rattle.std.proofs.Common.{◌≡◌, ℕ, max, List, [], ◌∷◌, ◌++◌, ◌↔◌, inl, inr, refl, sym, ◌∙◌, subst, arith}
use Rattle.std.proofs.lemmas.Bool.{cases_lt}
use Rattle.rdf_terms.specs.declared.terms.Triple.{Triple}
use Rattle.tree_clock.specs.declared.dots.Range.{Range}
use Rattle.tree_clock.specs.Lists.{Has}
use Rattle.tree_clock.specs.Dot.{IsIn}
use Rattle.tree_clock.specs.DotLaws.{IsIn_or_not}
use Rattle.tree_clock.specs.Clock.{ticks_of}
use Rattle.tree_clock.proofs.ClockLaws.{clock_from_ticks}
use Rattle.mld_ops.specs.declared.tagged.Tagged.{Tagged}
use Rattle.mld_ops.specs.Tagged.{tagged_cmp, insert_cmp}
use Rattle.mld_ops.proofs.TaggedLaws.{tagged_total, tagged_exact, insert_total, insert_exact}
use Rattle.mld_ops.specs.Entry.{EntryValue, IsEntry}
use Rattle.mld_ops.specs.Held.{ranges_of}
use Rattle.mld_ops.proofs.AscendingLaws.{same_ascending, has_append, has_left, has_right}
use Rattle.mld_ops.proofs.NetLaws.{same_parts}
use Rattle.op_fusion.specs.Fusion.{AreNeighbours, joined, pair_at, Fused}
use Rattle.op_fusion.specs.Compacting.{IsRun, IsFusedRun, alone, both}
use Rattle.op_fusion.specs.CompactingLaws.{OneFusedRun}
use Rattle.op_fusion.proofs.Runs.{AreRunOf, fused_run_ranges, near_all, fused_is_entry}
use Rattle.op_fusion.proofs.FusedCuts.{has_or_not, deletes_before}
use Rattle.op_fusion.proofs.FusedNets.{in_left, in_right, from_right, before_right}
use Rattle.op_fusion.proofs.Lists.{of_member}
use Rattle.op_fusion.proofs.Orders.{as_insert, pair_is}
use Rattle.op_fusion.proofs.Staying.{insert_inside}

-- ---- what an entry keeps

-- the entry doesn't delete the pair, and inserts it if its dot is one of the range
record Keeps (entry : EntryValue) (pair : Tagged) : Type 0 where
  free : ¬ Has entry.deletes pair
  inserts : IsIn entry.range pair.dot → Has entry.inserts (as_insert pair)

not_inside : (entry : EntryValue) (pair : Tagged) → IsEntry entry → Has entry.deletes pair → ¬ IsIn entry.range pair.dot
not_inside entry pair is d = of_member (λ (other : Tagged). ¬ IsIn entry.range other.dot) entry.deletes pair is.deletes_outside d

has_inside : (entry : EntryValue) (pair : Tagged) → IsEntry entry → pair.dot.path ≡ entry.range.path → Has entry.inserts (as_insert pair) → IsIn entry.range pair.dot
has_inside entry pair is path h =
    let within = insert_inside entry pair.triple pair.dot.tick is h in
    record { path = path; above = within.0; below = within.1 }

inserted_kept : (entry : EntryValue) (pair : Tagged) → IsEntry entry → pair.dot.path ≡ entry.range.path → Has entry.inserts (as_insert pair) → Keeps entry pair
inserted_kept entry pair is path h = record { free = λ d. not_inside entry pair is d (has_inside entry pair is path h); inserts = λ i. h }

-- an entry inserts what it keeps within its range, and deletes what it doesn't keep outside of it: so what it keeps tells its lists
module _ (one other : EntryValue) (is : IsEntry one) (range : one.range ≡ other.range) (keeps : (pair : Tagged) → Keeps one pair ↔ Keeps other pair) where
  inside_other : (pair : Tagged) → IsIn one.range pair.dot → IsIn other.range pair.dot
  inside_other pair i = subst (λ (r : Range). IsIn r pair.dot) range i

  inside_one : (pair : Tagged) → IsIn other.range pair.dot → IsIn one.range pair.dot
  inside_one pair i = subst (λ (r : Range). IsIn r pair.dot) (sym range) i

  inserts_too : (insert : Triple × ℕ) → Has one.inserts insert → Has other.inserts insert
  inserts_too insert h =
      let pair : Tagged = pair_at one.range.path insert.0 insert.1 in
      ((keeps pair).0 (inserted_kept one pair is refl h)).inserts (inside_other pair (has_inside one pair is refl h))

  deletes_too : (pair : Tagged) → Has one.deletes pair → Has other.deletes pair
  deletes_too pair d = elim (has_or_not tagged_cmp tagged_total tagged_exact other.deletes pair) [
    | inl h ↦ h
    | inr free ↦
        let kept : Keeps other pair = record { free = free; inserts = λ i. absurd (not_inside one pair is d (inside_one pair i)) } in
        absurd (((keeps pair).1 kept).free d)
  ]

same_entry : (one other : EntryValue) → IsEntry one → IsEntry other → one.range ≡ other.range → ((pair : Tagged) → Keeps one pair ↔ Keeps other pair)
    → ((path : List ℕ) → ticks_of one.time path ≡ ticks_of other.time path) → one ≡ other
same_entry one other is are range keeps time =
    let back : (pair : Tagged) → Keeps other pair ↔ Keeps one pair = λ pair. ((keeps pair).1, (keeps pair).0) in
    same_parts one other range (clock_from_ticks one.time other.time is.clock are.clock time)
    (same_ascending tagged_cmp tagged_total tagged_exact one.deletes other.deletes is.deletes_ascend are.deletes_ascend
    (deletes_too one other is range keeps) (deletes_too other one are (sym range) back))
    (same_ascending insert_cmp insert_total insert_exact one.inserts other.inserts is.inserts_ascend are.inserts_ascend
    (inserts_too one other is range keeps) (inserts_too other one are (sym range) back))

-- ---- a fused entry keeps what both keep

module _ (first second fused : EntryValue) (one : IsEntry first) (two : IsEntry second) (near : AreNeighbours first.range second.range)
    (f : Fused first second fused) (pair : Tagged) where
  -- the pair of a triple and a tick of the path
  as_pair_at : (deletes : List Tagged) → pair.dot.path ≡ first.range.path → Has deletes pair → Has deletes (pair_at first.range.path pair.triple pair.dot.tick)
  as_pair_at deletes at d = subst (λ (w : Tagged). Has deletes w) (pair_is first.range.path pair at) d

  from_pair_at : (deletes : List Tagged) → pair.dot.path ≡ first.range.path → Has deletes (pair_at first.range.path pair.triple pair.dot.tick) → Has deletes pair
  from_pair_at deletes at d = subst (λ (w : Tagged). Has deletes w) (sym (pair_is first.range.path pair at)) d

  -- what it keeps within the range of both
  kept_within : IsIn (joined first.range second.range) pair.dot → Has fused.inserts (as_insert pair) → Keeps first pair × Keeps second pair
  kept_within i h = elim ((f.inserts pair.triple pair.dot.tick).0 h) [
    | inl s ↦ (
      elim s.kept [
        | inl later ↦ record {
          free = λ d. omega (arith, later, deletes_before first pair one d i.path, one.last);
          inserts = λ j. absurd (omega (arith, later, j.below));
        }
        | inr more ↦ elim more [
          | inl had ↦ inserted_kept first pair one i.path had
          | inr out ↦ record { free = λ d. out.1 (as_pair_at first.deletes i.path d); inserts = λ j. absurd (omega (arith, out.0, j.above)) }
        ]
      ],
      inserted_kept second pair two (i.path ∙ near.path) s.stands,
    )
    | inr s ↦ (
      inserted_kept first pair one i.path s.stands,
      record { free = λ d. s.kept (as_pair_at second.deletes i.path d); inserts = λ j. absurd (omega (arith, s.before, j.above)) },
    )
  ]

  -- and outside of it
  kept_outside : ¬ IsIn (joined first.range second.range) pair.dot → Keeps fused pair → Keeps first pair × Keeps second pair
  kept_outside outside k = (
    record {
      free = λ d. k.free ((f.deletes pair).1 (record { stands = inl d; outside = outside }));
      inserts = λ j. absurd (outside (in_left first.range second.range near pair.dot j));
    },
    record {
      free = λ d. k.free ((f.deletes pair).1 (record { stands = inr d; outside = outside }));
      inserts = λ j. absurd (outside (in_right first.range second.range near pair.dot j));
    },
  )

  -- what both keep within the range of both
  both_insert : Keeps first pair → Keeps second pair → IsIn (joined first.range second.range) pair.dot → Has fused.inserts (as_insert pair)
  both_insert a b i = (f.inserts pair.triple pair.dot.tick).1 (elim (cases_lt pair.dot.tick second.range.first) [
    | inl early ↦ inr (record {
      stands = a.inserts (before_right first.range second.range near pair.dot i early);
      before = early;
      kept = λ d. b.free (from_pair_at second.deletes i.path d);
    })
    | inr from ↦ inl (record {
      stands = b.inserts (from_right first.range second.range near pair.dot i from);
      kept = elim (cases_lt first.range.last pair.dot.tick) [
        | inl later ↦ inl later
        | inr upto ↦ elim (cases_lt pair.dot.tick first.range.first) [
          | inl before ↦ inr (inr (before, λ d. a.free (from_pair_at first.deletes i.path d)))
          | inr above ↦ inr (inl (a.inserts (record { path = i.path; above = above; below = upto })))
        ]
      ];
    })
  ])

  keeps_both : Keeps fused pair ↔ (Keeps first pair × Keeps second pair)
  keeps_both = (
    λ k. elim (IsIn_or_not (joined first.range second.range) pair.dot) [
      | inl i ↦ kept_within i (k.inserts (subst (λ (r : Range). IsIn r pair.dot) (sym f.range) i))
      | inr outside ↦ kept_outside outside k
    ],
    λ k. record {
      free = λ d. elim ((f.deletes pair).0 d).stands [ inl e ↦ k.0.free e | inr e ↦ k.1.free e ];
      inserts = λ i. both_insert k.0 k.1 (subst (λ (r : Range). IsIn r pair.dot) f.range i);
    },
  )

-- ---- what entries are fused to

-- the most ticks that a time of the entries has
abbrev most_ticks : List EntryValue → List ℕ → ℕ
most_ticks [] path = 0
most_ticks (entry ∷ entries) path = max (ticks_of entry.time path) (most_ticks entries path)

most_of_both : (left right : List EntryValue) (path : List ℕ) → most_ticks (left ++ right) path ≡ max (most_ticks left path) (most_ticks right path)
most_of_both [] right path = omega arith
most_of_both (entry ∷ left) right path = let more = most_of_both left right path in omega (arith, more)

-- the entry keeps what all entries keep, and its time is the join of all times
record IsOfAll (entries : List EntryValue) (whole : EntryValue) : Type 0 where
  entry : IsEntry whole
  keeps : (pair : Tagged) → Keeps whole pair ↔ ((each : EntryValue) → Has entries each → Keeps each pair)
  time : (path : List ℕ) → ticks_of whole.time path ≡ most_ticks entries path

of_one : (entry : EntryValue) → IsEntry entry → IsOfAll (entry ∷ []) entry
of_one entry is = record {
  entry = is;
  keeps = λ pair. (
    λ k each h. elim h [ inl same ↦ subst (λ (e : EntryValue). Keeps e pair) same k | inr none ↦ absurd none ],
    λ all. all entry (inl refl),
  );
  time = λ path. omega arith;
}

of_two : (left right : List EntryValue) (first second fused : EntryValue) → IsOfAll left first → IsOfAll right second
    → AreNeighbours first.range second.range → Fused first second fused → IsOfAll (left ++ right) fused
of_two left right first second fused l r near f = record {
  entry = fused_is_entry first second fused l.entry r.entry near f;
  keeps = λ pair.
      let two = keeps_both first second fused l.entry r.entry near f pair in (
        λ k each h. elim (has_append left right each h) [
          | inl m ↦ (l.keeps pair).0 (two.0 k).0 each m
          | inr m ↦ (r.keeps pair).0 (two.0 k).1 each m
        ],
        λ all. two.1 (
          (l.keeps pair).1 (λ each m. all each (has_left left right each m)),
          (r.keeps pair).1 (λ each m. all each (has_right left right each m)),
        ),
      );
  time = λ path. omega (arith, f.time path, l.time path, r.time path, most_of_both left right path);
}

fused_of_all : (entries : List EntryValue) (whole : EntryValue) → IsFusedRun entries whole → ((entry : EntryValue) → Has entries entry → IsEntry entry)
    → IsOfAll entries whole
fused_of_all entries whole (alone entry) all = of_one entry (all entry (inl refl))
fused_of_all entries whole (both left first next right second fused l r near f) all =
    of_two left (next ∷ right) first second fused
    (fused_of_all left first l (λ entry h. all entry (has_left left (next ∷ right) entry h)))
    (fused_of_all (next ∷ right) second r (λ entry h. all entry (has_right left (next ∷ right) entry h)))
    (near_all first.range next right second near r) f

-- a run has one range
one_run : (first : Range) (run : List Range) (one other : Range) → IsRun first run one → IsRun first run other → one ≡ other
one_run first [] one other is are = is ∙ sym are
one_run first (next ∷ run) one other is are = one_run (joined first next) run one other is.1 are.1

one_range : (ranges : List Range) (one other : Range) → AreRunOf ranges one → AreRunOf ranges other → one ≡ other
one_range [] one other is are = absurd is
one_range (first ∷ run) one other is are = one_run first run one other is are

pub one_fused_run : OneFusedRun
one_fused_run entries one other all is are =
    let a : IsOfAll entries one = fused_of_all entries one is all in
    let b : IsOfAll entries other = fused_of_all entries other are all in
    same_entry one other a.entry b.entry (one_range (ranges_of entries) one.range other.range (fused_run_ranges entries one is) (fused_run_ranges entries other are))
    (λ pair. (λ k. (b.keeps pair).1 ((a.keeps pair).0 k), λ k. (a.keeps pair).1 ((b.keeps pair).0 k)))
    (λ path. a.time path ∙ sym (b.time path))
