-- A clone's own steps are those of the model: what it makes and takes means what the history says.
use Rattle.std.proofs.Common.{◌≡◌, ℕ, ◌+◌, ◌-◌, ◌≤◌, List, [], ◌∷◌, ◌++◌, ◌⊎◌, ◌↔◌, inl, inr, refl, sym, ap, arith, subst}
use Rattle.std.proofs.lemmas.Bool.{cases_lt}
use Rattle.rdf_terms.specs.declared.terms.Triple.{Triple}
use Rattle.tree_clock.specs.declared.dots.Dot.{Dot}
use Rattle.tree_clock.specs.declared.dots.Range.{Range}
use Rattle.tree_clock.specs.Lists.{Has, IsAscending}
use Rattle.tree_clock.specs.Dot.{IsIn, Knows}
use Rattle.tree_clock.specs.DotLaws.{Knows-append}
use Rattle.tree_clock.specs.Clock.{ticks_of, Covers, RaisesTo}
use Rattle.tree_clock.proofs.ClockLaws.{Covers-raised}
use Rattle.mld_ops.specs.declared.tagged.Tagged.{Tagged}
use Rattle.mld_ops.specs.Entry.{EntryValue}
use Rattle.mld_ops.specs.History.{Operation, IsClosed, IsNext, IsLawful, dot_at}
use Rattle.mld_ops.specs.Effect.{range_of, IsEffect}
use Rattle.mld_ops.specs.Effects.{EffectValue, operation_of}
use Rattle.mld_ops.specs.Tagged.{tagged_cmp, insert_cmp}
use Rattle.mld_ops.proofs.EffectLaws.{effect_carried, ticks_ascend}
use Rattle.mld_ops.proofs.OperationLaws.{same_dot, closed_with_unknown}
use Rattle.mld_ops.specs.Meaning.{IsMeaning}
use Rattle.mld_ops.proofs.MeaningLaws.{meaning_with_unknown, meaning_of_taken}
use Rattle.mld_ops.specs.Net.{IsNet}
use Rattle.mld_ops.proofs.NetLaws.{net_of_one, net_with_unknown}
use Rattle.std.specs.List.{AllZip}
use Rattle.mld_ops.proofs.PickingLaws.{pairs_as, pairs_more}
use Rattle.mld_ops.specs.Ready.{last_dot, IsKnownEntry, IsReadyEntry}
use Rattle.mld_ops.specs.Cut.{IsCutOf}
use Rattle.op_fusion.specs.FusionLaws.{MayTake}
use Rattle.op_fusion.proofs.TakenRanges.{taken_is_meaning}
use Rattle.mld_model.specs.Clone.{Stored, known_of, with_range, IsKnown, IsReady}
use Rattle.mld_model.specs.CloneStep.{IsNextTick}
use Rattle.mld_model.specs.Sound.{IsDoneRange}
use Rattle.mld_model.specs.Local.{LocalClone, LocalStored, stored_of, next_dot, LocallyMakes}
pub use Rattle.mld_model.specs.StandsFor.{kept_by}
use Rattle.mld_model.specs.StandsFor.{EntryStandsFor, StoredStandsFor, LocalStandsFor, SnapshotStandsFor}
use Rattle.mld_model.proofs.KnownLaws.{known_with, known_with-old, known_with-new, known_with-split}
use Rattle.mld_model.proofs.HistoryLaws.{done_not_fresh}

-- the tick after the clock's is the next that the model allows
pub next_tick_of : (running : LocalClone) (known : List Range) → ((dot : Dot) → Covers running.ticks dot ↔ Knows known dot)
    → IsNextTick known running.path (next_dot running).tick
next_tick_of running known alike = record {
  positive = omega arith;
  after = λ other. (
    λ knows. let c = (alike (dot_at running.path other)).1 knows in (c.positive, omega (arith, c.within)),
    λ range. (alike (dot_at running.path other)).0 (record { positive = range.0; within = omega (arith, range.1) }),
  );
}

-- the dots of the clock once it made its next operation
covers_next : (old new : List (List ℕ × ℕ)) (path : List ℕ) (dot : Dot) → RaisesTo old new (dot_at path (ticks_of old path + 1))
    → Covers new dot ↔ (Covers old dot ⊎ (dot ≡ dot_at path (ticks_of old path + 1)))
covers_next old new path dot raised = (
  λ c. elim ((Covers-raised old new (dot_at path (ticks_of old path + 1)) dot raised).0 c) [
    | inl before ↦ inl before
    | inr at ↦ elim (cases_lt (ticks_of old path) dot.tick) [
      | inl after ↦ inr (same_dot dot (dot_at path (ticks_of old path + 1)) at.0 (omega (arith, after, at.2)))
      | inr upto ↦ inl (record { positive = at.1; within = omega (arith, upto, ap (λ p. ticks_of old p) at.0) })
    ]
  ],
  λ e. (Covers-raised old new (dot_at path (ticks_of old path + 1)) dot raised).1 (elim e [
    | inl before ↦ inl before
    | inr is ↦ inr (ap (λ (d : Dot). d.path) is, omega (arith, ap (λ (d : Dot). d.tick) is), omega (arith, ap (λ (d : Dot). d.tick) is))
  ]),
)

-- ---- entries in a longer history

-- an entry of a range that is done stands for it in the longer history too
pub entry_still_stands : (history : List Operation) (next : Operation) (entry : EntryValue) (range : Range) → IsNext history next
    → IsDoneRange history range → EntryStandsFor history entry range → EntryStandsFor (next ∷ history) entry range
entry_still_stands history next entry range is_next done stands =
    net_with_unknown history range entry next stands (λ inside. done_not_fresh history next next.dot is_next (done.done next.dot inside) refl) done.some

-- and so do entries, one by one
pub entries_still_stand : (history : List Operation) (next : Operation) (entries : List EntryValue) (ranges : List Range) → IsNext history next
    → ((range : Range) → Has ranges range → IsDoneRange history range) → AllZip (EntryStandsFor history) entries ranges
    → AllZip (EntryStandsFor (next ∷ history)) entries ranges
entries_still_stand history next entries ranges is_next done all =
    pairs_as (EntryStandsFor history) (EntryStandsFor (next ∷ history)) entries ranges all (λ entry range h stands. entry_still_stands history next entry range is_next (done range h) stands)

-- the base is known
base_known : (base journal : List Range) (dot : Dot) → Knows base dot → Knows (base ++ journal) dot
base_known base journal dot h = (Knows-append base journal dot).1 (inl h)

-- what a device has of a clone stands for the same in the longer history, if the base lacks the dot of the new operation
pub stored_stands_longer : (history : List Operation) (next : Operation) (running : LocalStored) (stored : Stored) → IsNext history next
    → ¬ Knows stored.base next.dot → ((range : Range) → Has stored.journal range → IsDoneRange history range)
    → StoredStandsFor history running stored → StoredStandsFor (next ∷ history) running stored
stored_stands_longer history next running stored is_next unknown journal_done stands = record {
  path = stands.path;
  base = stands.base;
  base_pairs = meaning_with_unknown history stored.base next running.base_pairs stands.base_pairs unknown;
  entries = entries_still_stand history next running.entries stored.journal is_next journal_done stands.entries;
}

-- a clone that doesn't know the dot of a new operation stands for the same clone in the longer history
pub local_still_stands : (history : List Operation) (next : Operation) (running : LocalClone) (stored : Stored) (held : List Range) → IsNext history next
    → ¬ Knows (known_of stored) next.dot
    → ((range : Range) → Has stored.journal range → IsDoneRange history range) → ((range : Range) → Has held range → IsDoneRange history range)
    → LocalStandsFor history running stored held → LocalStandsFor (next ∷ history) running stored held
local_still_stands history next running stored held is_next unknown journal_done held_done stands = record {
  kept = stored_stands_longer history next (stored_of running) stored is_next (λ k. unknown (base_known stored.base stored.journal next.dot k)) journal_done stands.kept;
  held = entries_still_stand history next running.held held is_next held_done stands.held;
  known = stands.known;
  pairs = meaning_with_unknown history (known_of stored) next running.pairs stands.pairs unknown;
}

-- ---- making an operation

-- the operation that a clone makes
abbrev pub made_by : LocalClone → List Range → List Range → EffectValue → Operation
made_by running base journal effect = operation_of (next_dot running) (known_of (kept_by running base journal)) effect

module _ (history : List Operation) (old : LocalClone) (base journal held : List Range) (effect : EffectValue) (new : LocalClone) (entry : EntryValue)
    (stands : LocalStandsFor history old (kept_by old base journal) held) (makes : LocallyMakes old effect new entry)
    (lawful : IsLawful history) (closed : IsClosed history (known_of (kept_by old base journal)))
    (is_next : IsNext history (made_by old base journal effect)) where
  unknown_yet : ¬ Knows (known_of (kept_by old base journal)) (next_dot old)
  unknown_yet known = done_not_fresh history (made_by old base journal effect) (next_dot old) is_next (closed.done (next_dot old) known) refl

  -- the entry that it made stands for the operation's range
  pub made_entry : EntryStandsFor (made_by old base journal effect ∷ history) entry (range_of (next_dot old))
  made_entry =
      let operation : Operation = made_by old base journal effect in
      let ends : IsEffect operation entry = subst (IsEffect operation) (sym makes.carries)
      (effect_carried (next_dot old) (known_of (kept_by old base journal)) entry.time effect (λ dot. (
        λ c. elim ((covers_next old.ticks entry.time old.path dot makes.time).0 c) [ inl before ↦ inl ((stands.known dot).0 before) | inr is ↦ inr is ],
        λ e. (covers_next old.ticks entry.time old.path dot makes.time).1 (elim e [ inl known ↦ inl ((stands.known dot).1 known) | inr is ↦ inr is ]),
      ))) in
      net_of_one (operation ∷ history) operation (is_next, lawful) (inl refl) entry (ap (λ (e : EntryValue). e.range) makes.carries)
      (subst (λ (pairs : List Tagged). IsAscending tagged_cmp pairs) (sym (ap (λ (e : EntryValue). e.deletes) makes.carries)) makes.ordered.deletes)
      (subst (λ (ticked : List (Triple × ℕ)). IsAscending insert_cmp ticked) (sym (ap (λ (e : EntryValue). e.inserts) makes.carries))
      (ticks_ascend (next_dot old).tick effect.inserts makes.ordered.inserts)) ends

  -- the clone that made the operation stands for what it knows then
  pub maker_stands : ((range : Range) → Has journal range → IsDoneRange history range) → ((range : Range) → Has held range → IsDoneRange history range)
      → LocalStandsFor (made_by old base journal effect ∷ history) new (with_range (kept_by old base journal) (range_of (next_dot old))) held
  maker_stands journal_done held_done =
      let operation : Operation = made_by old base journal effect in
      let still : LocalStandsFor (operation ∷ history) old (kept_by old base journal) held =
      local_still_stands history operation old (kept_by old base journal) held is_next unknown_yet journal_done held_done stands in
      record {
        kept = record {
          path = makes.same.path;
          base = λ dot. subst (λ (ticks : List (List ℕ × ℕ)). Covers ticks dot ↔ Knows base dot) (sym makes.same.base) (still.kept.base dot);
          base_pairs = subst (λ (pairs : List Tagged). IsMeaning (operation ∷ history) base pairs) (sym makes.same.base_pairs) still.kept.base_pairs;
          entries = subst (λ (entries : List EntryValue). AllZip (EntryStandsFor (operation ∷ history)) entries (journal ++ range_of (next_dot old) ∷ [])) (sym makes.entries)
              (pairs_more (EntryStandsFor (operation ∷ history)) old.entries journal entry (range_of (next_dot old)) still.kept.entries made_entry);
        };
        held = subst (λ (entries : List EntryValue). AllZip (EntryStandsFor (operation ∷ history)) entries held) (sym makes.held) still.held;
        known = λ dot. (
          λ c. elim ((covers_next old.ticks new.ticks old.path dot makes.clock).0 c) [
            | inl before ↦ known_with-old (kept_by old base journal) (range_of (next_dot old)) dot ((stands.known dot).0 before)
            | inr is ↦ known_with-new (kept_by old base journal) (range_of (next_dot old)) dot (record { path = ap (λ (d : Dot). d.path) is; above = omega (arith, ap (λ (d : Dot). d.tick) is); below = omega (arith, ap (λ (d : Dot). d.tick) is) })
          ],
          λ k. (covers_next old.ticks new.ticks old.path dot makes.clock).1 (elim (known_with-split (kept_by old base journal) (range_of (next_dot old)) dot k) [
            | inl before ↦ inl ((stands.known dot).1 before)
            | inr at ↦ inr (same_dot dot (next_dot old) at.path (omega (arith, at.above, at.below)))
          ]),
        );
        pairs =
            let P : List Range → Type 0 = λ k. IsMeaning (operation ∷ history) k new.pairs in
            subst P (sym (known_with (kept_by old base journal) (range_of (next_dot old))))
            (meaning_of_taken (operation ∷ history) (known_of (kept_by old base journal)) operation old.pairs new.pairs
            (is_next, lawful) (closed_with_unknown history (known_of (kept_by old base journal)) operation closed unknown_yet) (inl refl) unknown_yet
            still.pairs makes.ascending makes.pairs);
      }

-- ---- taking an entry

module _ (history : List Operation) (ticks : List (List ℕ × ℕ)) (known : List Range) (alike : (dot : Dot) → Covers ticks dot ↔ Knows known dot)
    (range : Range) (entry : EntryValue) (net : IsNet history range entry) where
  -- the range is known to the clock where it is known in the model
  pub known_alike : IsKnownEntry ticks entry ↔ IsKnown known range
  known_alike =
      let P : Range → Type 0 = λ r. Covers ticks (last_dot r) in
      (λ c. (alike (last_dot range)).0 (subst P net.same c), λ k. subst P (sym net.same) ((alike (last_dot range)).1 k))

  -- the range is ready for the clock where it is ready in the model
  pub ready_alike : 1 ≤ range.first → IsReadyEntry ticks entry ↔ IsReady history known range
  ready_alike positive = (
    λ local. record {
      unknown = λ k. local.unknown (known_alike.1 k);
      time = λ dot time outside.
          let P : Range → Type 0 = λ r. ¬ IsIn r dot in
          (alike dot).0 (local.time dot ((net.time dot).1 time) (subst P (sym net.same) outside));
      before = elim (cases_lt 1 range.first) [
        | inl later ↦
            let P : Range → Type 0 = λ r. r.first ≤ ticks_of ticks r.path + 1 in
            let b : range.first ≤ ticks_of ticks range.path + 1 = subst P net.same local.before in
            inr ((alike (dot_at range.path (range.first - 1))).0 (record { positive = omega arith; within = omega (arith, b) }))
        | inr first ↦ inl (omega arith)
      ];
    },
    λ ready. record {
      unknown = λ c. ready.unknown (known_alike.0 c);
      before =
          let P : Range → Type 0 = λ r. r.first ≤ ticks_of ticks r.path + 1 in
          subst P (sym net.same) (elim ready.before [
            | inl first ↦ omega (arith, first)
            | inr knows ↦ let c = (alike (dot_at range.path (range.first - 1))).1 knows in omega (arith, c.within)
          ]);
      time = λ dot covered outside.
          let P : Range → Type 0 = λ r. ¬ IsIn r dot in
          (alike dot).1 (ready.time dot ((net.time dot).0 covered) (subst P net.same outside));
    },
  )

-- a clock and pairs are those of one who knows these dots
abbrev pub KnowsAs : List Operation → List Range → List (List ℕ × ℕ) → List Tagged → Type 0
KnowsAs history dots ticks pairs = SnapshotStandsFor history (record { ticks = ticks; pairs = pairs }) dots

-- the clock raised to the last dot of a ready range has the known dots and those of the range
pub raised_knows : (ticks next : List (List ℕ × ℕ)) (known : List Range) (range : Range) → ((dot : Dot) → Covers ticks dot ↔ Knows known dot)
    → 1 ≤ range.first → range.first ≤ ticks_of ticks range.path + 1 → RaisesTo ticks next (last_dot range)
    → (dot : Dot) → Covers next dot ↔ Knows (known ++ range ∷ []) dot
raised_knows ticks next known range alike positive before clock dot = (
  λ c. (Knows-append known (range ∷ []) dot).1 (elim ((Covers-raised ticks next (last_dot range) dot clock).0 c) [
    | inl had ↦ inl ((alike dot).0 had)
    | inr at ↦ elim (cases_lt dot.tick range.first) [
      | inl early ↦ inl ((alike dot).0 (record { positive = at.1; within = omega (arith, early, before, ap (λ p. ticks_of ticks p) at.0) }))
      | inr from ↦ inr (inl (record { path = at.0; above = from; below = at.2 }))
    ]
  ]),
  λ k. (Covers-raised ticks next (last_dot range) dot clock).1 (elim ((Knows-append known (range ∷ []) dot).0 k) [
    | inl had ↦ inl ((alike dot).1 had)
    | inr at ↦ elim at [ inl inside ↦ inr (inside.path, omega (arith, positive, inside.above), inside.below) | inr none ↦ absurd none ]
  ]),
)

-- what a ready entry leaves of the pairs is the meaning with its range known
pub taker_knows : (history : List Operation) (known : List Range) (ticks : List (List ℕ × ℕ)) (pairs : List Tagged) (range : Range) (entry : EntryValue)
    (next : List (List ℕ × ℕ)) (new : List Tagged)
    → KnowsAs history known ticks pairs → EntryStandsFor history entry range → IsDoneRange history range
    → IsLawful history → IsClosed history known → IsReadyEntry ticks entry → RaisesTo ticks next (last_dot entry.range)
    → IsCutOf entry (ticks_of ticks entry.range.path) pairs new → KnowsAs history (known ++ range ∷ []) next new
taker_knows history known ticks pairs range entry next new knows net done lawful closed ready raises cut =
    let can : MayTake history known ticks range entry = record {
      lawful = lawful;
      closed = closed;
      alike = knows.known;
      first = done.positive;
      last = done.some;
      done = done.done (last_dot range) (record { path = refl; above = done.some; below = omega arith });
      net = net;
      ready = ready;
    } in
    let before : range.first ≤ ticks_of ticks range.path + 1 = subst (λ (r : Range). r.first ≤ ticks_of ticks r.path + 1) net.same ready.before in
    record {
      known = raised_knows ticks next known range knows.known done.positive before (subst (λ (r : Range). RaisesTo ticks next (last_dot r)) net.same raises);
      pairs = taken_is_meaning history known ticks range entry pairs new can knows.pairs
          (subst (λ (r : Range). IsCutOf entry (ticks_of ticks r.path) pairs new) net.same cut);
    }
