-- What applied changes leave, and what is shown after them.
use Rattle.std.proofs.Common.{◌≡◌, ◌∙◌, ◌⊎◌, ◌↔◌, Bool, true, false, not, List, [], ◌∷◌, ◌++◌, fold, refl, sym, ap, subst, inl, inr, true≢false}
use Rattle.std.proofs.lemmas.Bool.{cases_Bool}
use Rattle.std.proofs.lemmas.List.Sums.{fold-append}
use Rattle.std.specs.List.{filter, list_any}
use Rattle.tree_clock.specs.Lists.{Has, IsAscending}
use Rattle.logbook.specs.Pages.{Book}
use Rattle.mld_ops.specs.Applies.{Applies}
use Rattle.mld_ops.specs.EffectEquality.{same_pair}
use Rattle.mld_ops.specs.Tagged.{tagged_cmp}
use Rattle.mld_ops.specs.declared.tagged.Tagged.{Tagged}
use Rattle.mld_ops.proofs.AscendingLaws.{has_append, has_left, has_right, has_filter}
use Rattle.mld_ops.proofs.Equality.{has_from_any}
use Rattle.graph_index.specs.Graphs.{in_order_of}
use Rattle.graph_index.proofs.Putting.{order_members, order_ascends, order_is}
use Rattle.shared_reads.specs.declared.marks.Change.{Change}
use Rattle.shared_reads.specs.declared.marks.Front.{Front}
use Rattle.shared_reads.specs.declared.marks.Mark.{Mark}
use Rattle.shared_reads.specs.declared.marks.Mark.TheVariants.{Changed, Ended}
use Rattle.shared_reads.specs.declared.copies.Published.{Published}
use Rattle.shared_reads.specs.Copies.{ShownValue, IsShown, WaitsNext, applied}
use Rattle.shared_reads.specs.Fronts.{Reach, onwards}
use Rattle.shared_reads.specs.HistoryRule.{mark_of}
use Rattle.shared_reads.specs.PairChanges.{is_among_pairs, after, after_mark, pairs_after}

-- ---- one change

-- a pair that isn't among some
not_among : (drops : List Tagged) (pair : Tagged) → (not (is_among_pairs drops pair) ≡ true) ↔ (¬ Has drops pair)
not_among drops pair = elim (cases_Bool (is_among_pairs drops pair)) [
  | inl is ↦ rw is (λ h. absurd (true≢false (sym h)), λ lacks. absurd (lacks ((has_from_any drops pair).0 is)))
  | inr is ↦ rw is (λ h. λ has. true≢false (sym ((has_from_any drops pair).1 has) ∙ is), λ lacks. refl)
]

-- what is left of pairs, and what comes to them
left_and_more : (drops adds pairs : List Tagged) (pair : Tagged)
    → Has (filter (λ other. not (is_among_pairs drops other)) pairs ++ adds) pair ↔ ((Has pairs pair × ¬ Has drops pair) ⊎ Has adds pair)
left_and_more drops adds pairs pair =
    let stays = has_filter (λ other. not (is_among_pairs drops other)) pairs pair in
    let lacks = not_among drops pair in (
      λ h. elim (has_append (filter (λ other. not (is_among_pairs drops other)) pairs) adds pair h) [
        | inl k ↦ let f = stays.0 k in inl (f.0, lacks.0 f.1)
        | inr k ↦ inr k
      ],
      λ h. elim h [
        | inl k ↦ has_left (filter (λ other. not (is_among_pairs drops other)) pairs) adds pair (stays.1 (k.0, lacks.1 k.1))
        | inr k ↦ has_right (filter (λ other. not (is_among_pairs drops other)) pairs) adds pair k
      ],
    )

module _ (pairs : List Tagged) (change : Change) where
  -- what a change leaves of pairs is what it is applied to
  pub after_applies : Applies change.drops change.adds pairs (after pairs change)
  after_applies = record {
    ascending = order_ascends (filter (λ other. not (is_among_pairs change.drops other)) pairs ++ change.adds);
    members = λ pair. let in_order = order_members (filter (λ other. not (is_among_pairs change.drops other)) pairs ++ change.adds) pair in
        let left = left_and_more change.drops change.adds pairs pair in (λ h. left.0 (in_order.0 h), λ h. in_order.1 (left.1 h));
  }

  -- and nothing else is
  pub applies_after : (new : List Tagged) → Applies change.drops change.adds pairs new → new ≡ after pairs change
  applies_after new applies = order_is (filter (λ other. not (is_among_pairs change.drops other)) pairs ++ change.adds) new applies.ascending
      (λ pair. let left = left_and_more change.drops change.adds pairs pair in (λ h. left.1 ((applies.members pair).0 h), λ h. (applies.members pair).1 (left.0 h)))

-- ---- lists of changes

pub after_onwards : (opening : List Tagged) (front : Front) (mark : Mark) → pairs_after opening (onwards front mark).changes ≡ after_mark (pairs_after opening front.changes) mark
after_onwards opening front (Changed change) = fold-append after opening front.changes (change ∷ [])
after_onwards opening front Ended = refl

-- what is published next under the rule is under it
pub next_shown : (history : Book) (opening : List Tagged) (shown new : ShownValue) (pending : List Published) (next : Published) → IsShown history opening shown → WaitsNext shown pending next
    → new ≡ fold applied shown pending → IsShown history opening new
next_shown history opening shown new pending next so goes is =
    let done : new ≡ applied shown next = is ∙ ap (fold applied shown) goes.one in
    let reach : new.reach ≡ record { book = shown.reach.book; list = onwards shown.reach.list (mark_of next.deed) } = ap (λ (s : ShownValue). s.reach) done ∙ goes.is in
    record {
      book = ap (λ (r : Reach). r.book) reach ∙ so.book;
      pairs = ap (λ (s : ShownValue). s.pairs) done ∙ (ap (λ (ps : List Tagged). after_mark ps (mark_of next.deed)) so.pairs
          ∙ (sym (after_onwards opening shown.reach.list (mark_of next.deed)) ∙ ap (λ (r : Reach). pairs_after opening r.list.changes) (sym reach)));
    }
