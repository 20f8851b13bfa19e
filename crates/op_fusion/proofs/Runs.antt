-- Entries that are compacted have compacted ranges, and what is fused of two entries is an entry.
use Rattle.std.proofs.Common.{◌≡◌, ℕ, ◌≤◌, min, List, [], ◌∷◌, ◌++◌, inl, inr, refl, sym, ◌∙◌, ap, subst, arith}
use Rattle.std.proofs.lemmas.List.{map-append}
use Rattle.rdf_terms.specs.declared.terms.Triple.{Triple}
use Rattle.tree_clock.specs.declared.dots.Range.{Range}
use Rattle.tree_clock.specs.Lists.{Has}
use Rattle.tree_clock.specs.Dot.{IsIn}
use Rattle.tree_clock.specs.Clock.{ticks_of, Covers}
use Rattle.tree_clock.proofs.ClockLaws.{Covers-max}
use Rattle.mld_ops.specs.declared.tagged.Tagged.{Tagged}
use Rattle.mld_ops.specs.Entry.{EntryValue, IsEntry}
use Rattle.mld_ops.specs.Held.{ranges_of}
use Rattle.mld_ops.proofs.AscendingLaws.{has_left, has_right}
use Rattle.op_fusion.specs.Fusion.{AreNeighbours, joined, Fused}
use Rattle.op_fusion.specs.Compacting.{IsRun, EndsRun, AreCompacted, IsFusedRun, alone, both}
use Rattle.op_fusion.specs.CompactingLaws.{FusedRunsAreCompacted, FusedIsEntry}
use Rattle.op_fusion.proofs.Lists.{of_member, from_members}
use Rattle.op_fusion.proofs.Staying.{insert_inside}

-- ---- ranges

-- the ranges are a first one and a run from it
abbrev pub AreRunOf : List Range → Range → Type 0
AreRunOf [] whole = ⊥
AreRunOf (first ∷ run) whole = IsRun first run whole

joined_in_any_order : (one two three : Range) → joined (joined one two) three ≡ joined one (joined two three)
joined_in_any_order one two three =
    let least : min (min one.first two.first) three.first ≡ min one.first (min two.first three.first) = omega arith in
    λ i. record { path = one.path; first = least i; last = three.last }

-- a run that begins with a range before it too
run_from_before : (first next : Range) (run : List Range) (whole : Range) → first.path ≡ next.path → IsRun next run whole
    → IsRun (joined first next) run (joined first whole)
run_from_before first next [] whole path is = ap (joined first) is
run_from_before first next (other ∷ run) whole path is = (
  record { path = path ∙ is.0.path; joins = is.0.joins; beyond = is.0.beyond },
  subst (λ (range : Range). IsRun range run (joined first whole)) (sym (joined_in_any_order first next other))
      (run_from_before first (joined next other) run whole path is.1),
)

-- two runs, one behind the other
runs_meet : (first : Range) (run : List Range) (middle next : Range) (rest : List Range) (whole : Range) → IsRun first run middle → AreNeighbours middle next
    → IsRun next rest whole → IsRun first (run ++ next ∷ rest) (joined middle whole)
runs_meet first [] middle next rest whole is near behind = (
  subst (λ (range : Range). AreNeighbours range next) is near,
  subst (λ (range : Range). IsRun (joined range next) rest (joined middle whole)) is (run_from_before middle next rest whole near.path behind),
)
runs_meet first (other ∷ run) middle next rest whole is near behind = (is.0, runs_meet (joined first other) run middle next rest whole is.1 near behind)

ranges_meet : (ranges : List Range) (middle next : Range) (rest : List Range) (whole : Range) → AreRunOf ranges middle → AreNeighbours middle next
    → IsRun next rest whole → AreRunOf (ranges ++ next ∷ rest) (joined middle whole)
ranges_meet [] middle next rest whole is near behind = absurd is
ranges_meet (first ∷ run) middle next rest whole is near behind = runs_meet first run middle next rest whole is near behind

-- the ranges of entries that are fused to one are a run, and the range of it is that of the fused entry
pub fused_run_ranges : (entries : List EntryValue) (whole : EntryValue) → IsFusedRun entries whole → AreRunOf (ranges_of entries) whole.range
fused_run_ranges entries whole (alone entry) = refl
fused_run_ranges entries whole (both left first next right second fused l r near f) =
    subst (λ (ranges : List Range). AreRunOf ranges fused.range) (sym (map-append (λ (entry : EntryValue). entry.range) left (next ∷ right)))
    (subst (λ (range : Range). AreRunOf (ranges_of left ++ next.range ∷ ranges_of right) range) (sym f.range)
    (ranges_meet (ranges_of left) first.range next.range (ranges_of right) second.range (fused_run_ranges left first l) near (fused_run_ranges (next ∷ right) second r)))

first_run : (entries run rest : List EntryValue) (whole : EntryValue) (others : List Range) → entries ≡ run ++ rest → IsFusedRun run whole
    → EndsRun whole.range (ranges_of rest) → AreCompacted (ranges_of rest) others → AreCompacted (ranges_of entries) (whole.range ∷ others)
first_run entries [] rest whole others are is ends more = absurd (fused_run_ranges [] whole is)
first_run entries (first ∷ run) rest whole others are is ends more = (
  first.range,
  ranges_of run,
  ranges_of rest,
  ap ranges_of are ∙ ap (λ (ranges : List Range). first.range ∷ ranges) (map-append (λ (entry : EntryValue). entry.range) run rest),
  fused_run_ranges (first ∷ run) whole is,
  ends,
  more,
)

pub fused_runs_are_compacted : FusedRunsAreCompacted
fused_runs_are_compacted entries [] runs = ap ranges_of runs
fused_runs_are_compacted entries (whole ∷ others) runs =
    first_run entries runs.0 runs.1 whole (ranges_of others) runs.2 runs.3 runs.4 (fused_runs_are_compacted runs.1 others runs.5)

-- a run spans its first range, and a range before it that is a neighbour of the first is one of the whole
run_spans : (first : Range) (run : List Range) (whole : Range) → IsRun first run whole
    → (whole.path ≡ first.path) × (whole.first ≤ first.first) × (first.last ≤ whole.last)
run_spans first [] whole is = (
  ap (λ (range : Range). range.path) is,
  omega (arith, ap (λ (range : Range). range.first) is),
  omega (arith, ap (λ (range : Range). range.last) is),
)
run_spans first (next ∷ run) whole is =
    let more = run_spans (joined first next) run whole is.1 in
    (more.0, omega (arith, more.1), omega (arith, more.2, is.0.beyond))

pub near_all : (before : Range) (next : EntryValue) (right : List EntryValue) (second : EntryValue) → AreNeighbours before next.range
    → IsFusedRun (next ∷ right) second → AreNeighbours before second.range
near_all before next right second near is =
    let spans = run_spans next.range (ranges_of right) second.range (fused_run_ranges (next ∷ right) second is) in record {
      path = near.path ∙ sym spans.0;
      joins = omega (arith, near.joins, spans.1);
      beyond = omega (arith, near.beyond, spans.2);
    }

-- ---- entries

module _ (first second fused : EntryValue) (one : IsEntry first) (two : IsEntry second) (near : AreNeighbours first.range second.range)
    (f : Fused first second fused) where
  -- the first and the last tick, and the path
  fused_first : (fused.range.first ≤ first.range.first) × (fused.range.first ≤ second.range.first) × (1 ≤ fused.range.first)
  fused_first =
      let same = ap (λ (range : Range). range.first) f.range in
      (omega (arith, same), omega (arith, same), omega (arith, same, one.first, two.first))

  fused_last : fused.range.last ≡ second.range.last
  fused_last = ap (λ (range : Range). range.last) f.range

  fused_path : fused.range.path ≡ first.range.path
  fused_path = ap (λ (range : Range). range.path) f.range

  own_tick : ticks_of fused.time fused.range.path ≡ fused.range.last
  own_tick =
      let left : ticks_of first.time fused.range.path ≡ first.range.last = ap (λ path. ticks_of first.time path) fused_path ∙ one.own in
      let right : ticks_of second.time fused.range.path ≡ second.range.last = ap (λ path. ticks_of second.time path) (fused_path ∙ near.path) ∙ two.own in
      omega (arith, f.time fused.range.path, left, right, near.beyond, fused_last)

  -- each delete of either is covered by the joined time
  covered : (pair : Tagged) → Has fused.deletes pair → Covers fused.time pair.dot
  covered pair h =
      (Covers-max first.time second.time fused.time f.time pair.dot).1 (elim ((f.deletes pair).0 h).stands [
        | inl d ↦ inl (of_member (λ (other : Tagged). Covers first.time other.dot) first.deletes pair one.deletes_covered d)
        | inr d ↦ inr (of_member (λ (other : Tagged). Covers second.time other.dot) second.deletes pair two.deletes_covered d)
      ])

  inside : (triple : Triple) (tick : ℕ) → Has fused.inserts (triple, tick) → (fused.range.first ≤ tick) × (tick ≤ fused.range.last)
  inside triple tick h = elim ((f.inserts triple tick).0 h) [
    | inl s ↦
        let within = insert_inside second triple tick two s.stands in
        (omega (arith, within.0, fused_first.1), omega (arith, within.1, fused_last))
    | inr s ↦
        let within = insert_inside first triple tick one s.stands in
        (omega (arith, within.0, fused_first.0), omega (arith, within.1, fused_last, near.beyond))
  ]

  is_entry : IsEntry fused
  is_entry = record {
    first = fused_first.2;
    last = omega (arith, fused_first.1, two.last, fused_last);
    clock = f.clock;
    own = own_tick;
    deletes_ascend = f.deletes_ascend;
    deletes_covered = from_members (λ (pair : Tagged). Covers fused.time pair.dot) fused.deletes covered;
    deletes_outside = from_members (λ (pair : Tagged). ¬ IsIn fused.range pair.dot) fused.deletes (λ pair h.
        subst (λ (range : Range). ¬ IsIn range pair.dot) (sym f.range) ((f.deletes pair).0 h).outside);
    inserts_ascend = f.inserts_ascend;
    inserts_inside = from_members (λ (insert : Triple × ℕ). (fused.range.first ≤ insert.1) × (insert.1 ≤ fused.range.last)) fused.inserts
        (λ insert h. inside insert.0 insert.1 h);
  }

pub fused_is_entry : FusedIsEntry
fused_is_entry first second fused one two near f = is_entry first second fused one two near f

-- ---- runs

-- what entries are fused to is an entry
pub fused_run_is_entry : (entries : List EntryValue) (whole : EntryValue) → IsFusedRun entries whole
    → ((entry : EntryValue) → Has entries entry → IsEntry entry) → IsEntry whole
fused_run_is_entry entries whole (alone entry) all = all entry (inl refl)
fused_run_is_entry entries whole (both left first next right second fused l r near f) all =
    fused_is_entry first second fused
    (fused_run_is_entry left first l (λ entry h. all entry (has_left left (next ∷ right) entry h)))
    (fused_run_is_entry (next ∷ right) second r (λ entry h. all entry (has_right left (next ∷ right) entry h)))
    (near_all first.range next right second near r) f
