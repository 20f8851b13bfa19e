-- The inserts of two entries that stay, as the lists that the program makes.
use Rattle.std.proofs.Common.{◌≡◌, ℕ, ◌-◌, ◌<◌, ◌≤◌, min, List, map, ◌⊎◌, ◌↔◌, false, true, inl, inr, refl, sym, ◌∙◌, ap, subst, arith}
use Rattle.rdf_terms.specs.declared.terms.Triple.{Triple}
use Rattle.tree_clock.specs.declared.dots.Range.{Range}
use Rattle.tree_clock.specs.Clock.{ticks_of, Covers}
use Rattle.tree_clock.proofs.ClockLaws.{Covers-max}
use Rattle.tree_clock.specs.Dot.{IsIn}
use Rattle.tree_clock.specs.Lists.{Has, IsAscending}
use Rattle.mld_ops.specs.declared.tagged.Tagged.{Tagged}
use Rattle.mld_ops.specs.Tagged.{tagged_cmp, insert_cmp}
use Rattle.mld_ops.specs.Entry.{EntryValue, IsEntry}
use Rattle.op_fusion.specs.Fusion.{AreNeighbours, pair_at, StaysOfSecond, StaysOfFirst, Fused}
use Rattle.op_fusion.specs.FusionPairs.{InsertsWithin, IsAsWanted}
use Rattle.op_fusion.proofs.Lists.{of_member, from_members}
use Rattle.op_fusion.proofs.Orders.{as_insert, pair_is, inserts_ascend, has_inserts}

-- an insert's tick is one of the range
pub insert_inside : (entry : EntryValue) (triple : Triple) (tick : ℕ) → IsEntry entry → Has entry.inserts (triple, tick) → (entry.range.first ≤ tick) × (tick ≤ entry.range.last)
insert_inside entry triple tick e h =
    of_member (λ (insert : Triple × ℕ). (entry.range.first ≤ insert.1) × (insert.1 ≤ entry.range.last)) entry.inserts (triple, tick) e.inserts_inside h

-- the pairs that an entry inserts at all its ticks from behind one on
pub inserted_behind : (entry : EntryValue) (low : ℕ) (pair : Tagged) → IsEntry entry → pair.dot.path ≡ entry.range.path → low < pair.dot.tick
    → Has entry.inserts (as_insert pair) → InsertsWithin entry low entry.range.last pair
inserted_behind entry low pair e path above h = record { at = path; above = above; within = (insert_inside entry pair.triple pair.dot.tick e h).1; stands = h }

-- the pairs of an entry up to a tick
pub inserted_upto : (entry : EntryValue) (high : ℕ) (pair : Tagged) → IsEntry entry → pair.dot.path ≡ entry.range.path → pair.dot.tick ≤ high
    → Has entry.inserts (as_insert pair) → InsertsWithin entry 0 high pair
inserted_upto entry high pair e path upto h =
    record { at = path; above = omega (arith, e.first, (insert_inside entry pair.triple pair.dot.tick e h).0); within = upto; stands = h }

module _ (first second : EntryValue) where
  -- they have the first's path
  own_path : (early late merged : List Tagged)
      → ((pair : Tagged) → Has early pair ↔ ((pair.dot.path ≡ first.range.path) × StaysOfFirst first second pair.triple pair.dot.tick))
      → ((pair : Tagged) → Has late pair ↔ ((pair.dot.path ≡ first.range.path) × StaysOfSecond first second pair.triple pair.dot.tick))
      → ((pair : Tagged) → Has merged pair ↔ (Has early pair ⊎ Has late pair)) → (pair : Tagged) → Has merged pair → pair.dot.path ≡ first.range.path
  own_path early late merged e l m pair h = elim ((m pair).0 h) [ inl k ↦ ((e pair).0 k).0 | inr k ↦ ((l pair).0 k).0 ]

  -- all of them as inserts
  pub all_stay : (early late merged : List Tagged) (inserts : List (Triple × ℕ))
      → ((pair : Tagged) → Has early pair ↔ ((pair.dot.path ≡ first.range.path) × StaysOfFirst first second pair.triple pair.dot.tick))
      → ((pair : Tagged) → Has late pair ↔ ((pair.dot.path ≡ first.range.path) × StaysOfSecond first second pair.triple pair.dot.tick))
      → ((pair : Tagged) → Has merged pair ↔ (Has early pair ⊎ Has late pair)) → inserts ≡ map as_insert merged
      → (triple : Triple) (tick : ℕ) → Has inserts (triple, tick) ↔ (StaysOfSecond first second triple tick ⊎ StaysOfFirst first second triple tick)
  all_stay early late merged inserts e l m is triple tick =
      let has : Has (map as_insert merged) (triple, tick) ↔ Has merged (pair_at first.range.path triple tick) =
      has_inserts first.range.path merged (own_path early late merged e l m) triple tick in
      rw is (
        λ h. elim ((m (pair_at first.range.path triple tick)).0 (has.0 h)) [
          | inl k ↦ inr ((e (pair_at first.range.path triple tick)).0 k).1
          | inr k ↦ inl ((l (pair_at first.range.path triple tick)).0 k).1
        ],
        λ h. has.1 ((m (pair_at first.range.path triple tick)).1 (elim h [
          | inl k ↦ inr ((l (pair_at first.range.path triple tick)).1 (refl, k))
          | inr k ↦ inl ((e (pair_at first.range.path triple tick)).1 (refl, k))
        ])),
      )

  pub all_ascend : (early late merged : List Tagged) (inserts : List (Triple × ℕ)) → IsAscending tagged_cmp merged
      → ((pair : Tagged) → Has early pair ↔ ((pair.dot.path ≡ first.range.path) × StaysOfFirst first second pair.triple pair.dot.tick))
      → ((pair : Tagged) → Has late pair ↔ ((pair.dot.path ≡ first.range.path) × StaysOfSecond first second pair.triple pair.dot.tick))
      → ((pair : Tagged) → Has merged pair ↔ (Has early pair ⊎ Has late pair)) → inserts ≡ map as_insert merged → IsAscending insert_cmp inserts
  all_ascend early late merged inserts a e l m is = rw is (inserts_ascend first.range.path merged a (own_path early late merged e l m))

module _ (first second : EntryValue) (one : IsEntry first) (two : IsEntry second) (near : AreNeighbours first.range second.range) where
  -- those of the first
  pub first_stays : (before sifted : List Tagged)
      → ((pair : Tagged) → Has before pair ↔ InsertsWithin first 0 (second.range.first - 1) pair)
      → ((pair : Tagged) → Has sifted pair ↔ (Has before pair × IsAsWanted false second.deletes pair))
      → (pair : Tagged) → Has sifted pair ↔ ((pair.dot.path ≡ first.range.path) × StaysOfFirst first second pair.triple pair.dot.tick)
  first_stays before sifted b s pair = (
    λ h.
        let k = (s pair).0 h in
        let i : InsertsWithin first 0 (second.range.first - 1) pair = (b pair).0 k.0 in (
          i.at,
          record {
            stands = i.stands;
            before = omega (arith, i.within, two.first);
            kept = λ d. k.1 (subst (λ (w : Tagged). Has second.deletes w) (sym (pair_is first.range.path pair i.at)) d);
          },
        ),
    λ h. (s pair).1 (
      (b pair).1 (inserted_upto first (second.range.first - 1) pair one h.0 (omega (arith, h.1.before)) h.1.stands),
      λ d. h.1.kept (subst (λ (w : Tagged). Has second.deletes w) (pair_is first.range.path pair h.0) d),
    ),
  )

  -- those of both
  pub both_stay : (left right sifted : List Tagged)
      → ((pair : Tagged) → Has left pair ↔ InsertsWithin first (second.range.first - 1) first.range.last pair)
      → ((pair : Tagged) → Has right pair ↔ InsertsWithin second (second.range.first - 1) first.range.last pair)
      → ((pair : Tagged) → Has sifted pair ↔ (Has left pair × IsAsWanted true right pair))
      → (pair : Tagged) → Has sifted pair
      ↔ ((pair.dot.path ≡ first.range.path) × Has first.inserts (pair.triple, pair.dot.tick) × Has second.inserts (pair.triple, pair.dot.tick))
  both_stay left right sifted l r s pair = (
    λ h.
        let k = (s pair).0 h in
        let i : InsertsWithin first (second.range.first - 1) first.range.last pair = (l pair).0 k.0 in
        (i.at, i.stands, ((r pair).0 k.1).stands),
    λ h.
        let low : second.range.first ≤ pair.dot.tick = (insert_inside second pair.triple pair.dot.tick two h.2).0 in
        let high : pair.dot.tick ≤ first.range.last = (insert_inside first pair.triple pair.dot.tick one h.1).1 in
        let above : second.range.first - 1 < pair.dot.tick = omega (arith, low, two.first) in
        (s pair).1 (
          (l pair).1 (record { at = h.0; above = above; within = high; stands = h.1 }),
          (r pair).1 (record { at = h.0 ∙ near.path; above = above; within = high; stands = h.2 }),
        ),
  )

  -- those of the second
  pub second_stays : (behind both before kept some all : List Tagged)
      → ((pair : Tagged) → Has behind pair ↔ InsertsWithin second first.range.last second.range.last pair)
      → ((pair : Tagged) → Has both pair
      ↔ ((pair.dot.path ≡ first.range.path) × Has first.inserts (pair.triple, pair.dot.tick) × Has second.inserts (pair.triple, pair.dot.tick)))
      → ((pair : Tagged) → Has before pair ↔ InsertsWithin second 0 (first.range.first - 1) pair)
      → ((pair : Tagged) → Has kept pair ↔ (Has before pair × IsAsWanted false first.deletes pair))
      → ((pair : Tagged) → Has some pair ↔ (Has behind pair ⊎ Has both pair))
      → ((pair : Tagged) → Has all pair ↔ (Has some pair ⊎ Has kept pair))
      → (pair : Tagged) → Has all pair ↔ ((pair.dot.path ≡ first.range.path) × StaysOfSecond first second pair.triple pair.dot.tick)
  second_stays behind both before kept some all be bo bf k s a pair = (
    λ h. elim ((a pair).0 h) [
      | inl m ↦ elim ((s pair).0 m) [
        | inl n ↦
            let i : InsertsWithin second first.range.last second.range.last pair = (be pair).0 n in
            (i.at ∙ sym near.path, record { stands = i.stands; kept = inl i.above })
        | inr n ↦
            let i = (bo pair).0 n in
            (i.0, record { stands = i.2; kept = inr (inl i.1) })
      ]
      | inr m ↦
          let n = (k pair).0 m in
          let i : InsertsWithin second 0 (first.range.first - 1) pair = (bf pair).0 n.0 in
          let path : pair.dot.path ≡ first.range.path = i.at ∙ sym near.path in (
            path,
            record {
              stands = i.stands;
              kept = inr (inr (omega (arith, i.within, one.first), λ d. n.1 (subst (λ (w : Tagged). Has first.deletes w) (sym (pair_is first.range.path pair path)) d)));
            },
          )
    ],
    λ h. elim h.1.kept [
      | inl later ↦ (a pair).1 (inl ((s pair).1 (inl ((be pair).1 (inserted_behind second first.range.last pair two (h.0 ∙ near.path) later h.1.stands)))))
      | inr m ↦ elim m [
        | inl had ↦ (a pair).1 (inl ((s pair).1 (inr ((bo pair).1 (h.0, had, h.1.stands)))))
        | inr n ↦ (a pair).1 (inr ((k pair).1 (
          (bf pair).1 (inserted_upto second (first.range.first - 1) pair two (h.0 ∙ near.path) (omega (arith, n.0)) h.1.stands),
          λ d. n.1 (subst (λ (w : Tagged). Has first.deletes w) (pair_is first.range.path pair h.0) d),
        )))
      ]
    ],
  )

  -- a fused entry keeps what every entry keeps
  pub fused_is_entry : (fused : EntryValue) → Fused first second fused → IsEntry fused
  fused_is_entry fused f =
      let first_is : fused.range.first ≡ min first.range.first second.range.first = ap (λ (r : Range). r.first) f.range in
      let last_is : fused.range.last ≡ second.range.last = ap (λ (r : Range). r.last) f.range in
      let path_is : fused.range.path ≡ first.range.path = ap (λ (r : Range). r.path) f.range in
      record {
        first = omega (arith, first_is, one.first, two.first);
        last = omega (arith, first_is, last_is, two.last);
        clock = f.clock;
        own = omega (arith, ap (λ (p : List ℕ). ticks_of fused.time p) path_is, f.time first.range.path, one.own, ap (λ (p : List ℕ). ticks_of second.time p) near.path, two.own, near.beyond, last_is);
        deletes_ascend = f.deletes_ascend;
        deletes_covered = from_members (λ (pair : Tagged). Covers fused.time pair.dot) fused.deletes covered;
        deletes_outside = from_members (λ (pair : Tagged). ¬ IsIn fused.range pair.dot) fused.deletes (λ pair h.
            let P : Range → Type 0 = λ r. ¬ IsIn r pair.dot in
            subst P (sym f.range) ((f.deletes pair).0 h).outside);
        inserts_ascend = f.inserts_ascend;
        inserts_inside = from_members (λ (insert : Triple × ℕ). (fused.range.first ≤ insert.1) × (insert.1 ≤ fused.range.last)) fused.inserts (λ insert h.
            elim ((f.inserts insert.0 insert.1).0 h) [
              | inl s ↦ let i = insert_inside second insert.0 insert.1 two s.stands in (omega (arith, first_is, i.0), omega (arith, last_is, i.1))
              | inr s ↦ let i = insert_inside first insert.0 insert.1 one s.stands in (omega (arith, first_is, i.0), omega (arith, last_is, i.1, near.beyond))
            ]);
      }
    where
      covered : (pair : Tagged) → Has fused.deletes pair → Covers fused.time pair.dot
      covered pair h = (Covers-max first.time second.time fused.time f.time pair.dot).1 (elim ((f.deletes pair).0 h).stands [
        | inl k ↦ inl (of_member (λ (p : Tagged). Covers first.time p.dot) first.deletes pair one.deletes_covered k)
        | inr k ↦ inr (of_member (λ (p : Tagged). Covers second.time p.dot) second.deletes pair two.deletes_covered k)
      ])
