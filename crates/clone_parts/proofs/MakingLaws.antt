-- Laws of one clone alone: what taking entries in order leads to, and that a clone's own entry is ready.
use Rattle.std.proofs.Common.{◌≡◌, ◌∙◌, ℕ, ◌+◌, ◌≤◌, List, [], ◌∷◌, ◌++◌, length, ◌↔◌, sym, ap, subst, inl, inr, arith}
use Rattle.std.proofs.lemmas.Bool.{cases_lt}
use Rattle.std.specs.List.{AllByRecursion}
use Rattle.rdf_terms.specs.declared.terms.Triple.{Triple}
use Rattle.tree_clock.specs.declared.dots.Dot.{Dot}
use Rattle.tree_clock.specs.declared.dots.Range.{Range}
use Rattle.tree_clock.specs.Lists.{Has, IsAscending}
use Rattle.tree_clock.specs.Clock.{ticks_of, Covers, RaisesTo}
use Rattle.tree_clock.proofs.ClockLaws.{Covers-raised}
use Rattle.mld_ops.specs.declared.tagged.Tagged.{Tagged}
use Rattle.mld_ops.specs.Tagged.{tagged_cmp}
use Rattle.mld_ops.specs.Cut.{IsCutOf}
use Rattle.mld_ops.specs.Entry.{EntryValue, IsEntry}
use Rattle.mld_ops.specs.Ready.{last_dot, IsReadyEntry}
use Rattle.mld_ops.specs.Held.{held_limit}
use Rattle.mld_model.specs.Local.{LocalClone, LeadsTo, IsLocal}
use Rattle.mld_ops.specs.Effect.{PairsAfter}
use Rattle.mld_ops.specs.Effects.{EffectValue, IsAfterEffect}
use Rattle.mld_ops.proofs.EffectLaws.{has_ticks}
use Rattle.clone_parts.specs.Making.{IsNextEntry, IsEntryOf}

-- ---- taking entries in order

-- what two lists of entries lead to, one behind the other
pub leads_append : (ticks : List (List ℕ × ℕ)) (pairs : List Tagged) (xs ys : List EntryValue)
    (middle : List (List ℕ × ℕ)) (half : List Tagged) (after : List (List ℕ × ℕ)) (new : List Tagged)
    → LeadsTo ticks pairs xs middle half → LeadsTo middle half ys after new → LeadsTo ticks pairs (xs ++ ys) after new
leads_append ticks pairs [] ys middle half after new l m =
    subst (λ (ts : List (List ℕ × ℕ)). LeadsTo ts pairs ys after new) l.0 (subst (λ (ps : List Tagged). LeadsTo middle ps ys after new) l.1 m)
leads_append ticks pairs (x ∷ xs) ys middle half after new l m =
    (l.0, l.1, l.2, l.3, l.4, leads_append l.0 l.1 xs ys middle half after new l.5 m)

-- the pairs still ascend
pub leads_ascends : (ticks : List (List ℕ × ℕ)) (pairs : List Tagged) (entries : List EntryValue) (after : List (List ℕ × ℕ)) (new : List Tagged)
    → LeadsTo ticks pairs entries after new → IsAscending tagged_cmp pairs → IsAscending tagged_cmp new
leads_ascends ticks pairs [] after new l a = subst (λ (ps : List Tagged). IsAscending tagged_cmp ps) (sym l.1) a
leads_ascends ticks pairs (entry ∷ entries) after new l a = leads_ascends l.0 l.1 entries after new l.5 l.4.ascending

-- a clone's pairs ascend
pub local_ascends : (clone : LocalClone) → IsLocal clone → IsAscending tagged_cmp clone.pairs
local_ascends clone local = leads_ascends clone.base clone.base_pairs clone.entries clone.ticks clone.pairs local.leads local.base_pairs

all_member : {X : Type 0} (P : X → Type 0) (xs : List X) (x : X) → AllByRecursion P xs → Has xs x → P x
all_member P [] x a h = absurd h
all_member P (y ∷ xs) x a (inl e) = subst P e a.0
all_member P (y ∷ xs) x a (inr h) = all_member P xs x a.1 h

-- the clock that is raised has the dots of the pairs that an entry leaves
pub cut_covered : (ticks next : List (List ℕ × ℕ)) (entry : EntryValue) (known : ℕ) (old new : List Tagged) → IsEntry entry
    → RaisesTo ticks next (last_dot entry.range) → IsCutOf entry known old new → ((pair : Tagged) → Has old pair → Covers ticks pair.dot)
    → (pair : Tagged) → Has new pair → Covers next pair.dot
cut_covered ticks next entry known old new e r cut covered pair h =
    (Covers-raised ticks next (last_dot entry.range) pair.dot r).1 (elim ((cut.members pair).0 h) [
      | inl k ↦ inl (covered pair k.0)
      | inr a ↦
          let inside = all_member (λ (insert : Triple × ℕ). (entry.range.first ≤ insert.1) × (insert.1 ≤ entry.range.last)) entry.inserts (pair.triple, pair.dot.tick) e.inserts_inside a.inserts in
          inr (a.path, omega (arith, e.first, inside.0), inside.1)
    ])

pub leads_covered : (ticks : List (List ℕ × ℕ)) (pairs : List Tagged) (entries : List EntryValue) (after : List (List ℕ × ℕ)) (new : List Tagged)
    → AllByRecursion IsEntry entries → LeadsTo ticks pairs entries after new → ((pair : Tagged) → Has pairs pair → Covers ticks pair.dot)
    → (pair : Tagged) → Has new pair → Covers after pair.dot
leads_covered ticks pairs [] after new e l c pair h =
    subst (λ (ts : List (List ℕ × ℕ)). Covers ts pair.dot) (sym l.0) (c pair (subst (λ (ps : List Tagged). Has ps pair) l.1 h))
leads_covered ticks pairs (entry ∷ entries) after new e l c pair h =
    leads_covered l.0 l.1 entries after new e.1 l.5 (cut_covered ticks l.0 entry (ticks_of ticks entry.range.path) pairs l.1 e.0 l.3 l.4 c) pair h

-- a clone that has taken more entries
abbrev pub taken_by : LocalClone → List EntryValue → List EntryValue → List (List ℕ × ℕ) → List Tagged → LocalClone
taken_by old entries held ticks pairs = record {
  id = old.id;
  domain = old.domain;
  properties = old.properties;
  path = old.path;
  base = old.base;
  base_pairs = old.base_pairs;
  entries = old.entries ++ entries;
  held = held;
  ticks = ticks;
  pairs = pairs;
}

pub local_taken : (old : LocalClone) (entries held : List EntryValue) (ticks : List (List ℕ × ℕ)) (pairs : List Tagged) → IsLocal old
    → AllByRecursion IsEntry entries → LeadsTo old.ticks old.pairs entries ticks pairs → length held ≤ held_limit → IsLocal (taken_by old entries held ticks pairs)
local_taken old entries held ticks pairs local e l h = record {
  named = local.named;
  base = local.base;
  base_pairs = local.base_pairs;
  base_covered = local.base_covered;
  leads = leads_append old.base old.base_pairs old.entries entries old.ticks old.pairs ticks pairs local.leads l;
  covered = leads_covered old.ticks old.pairs entries ticks pairs e l local.covered;
  held = h;
}

-- ---- a clone's own entries

module _ (ticks : List (List ℕ × ℕ)) (dot : Dot) (entry : EntryValue) (next : IsNextEntry ticks dot entry) where
  pub path_is : entry.range.path ≡ dot.path
  path_is = ap (λ (r : Range). r.path) next.range

  first_is : entry.range.first ≡ dot.tick
  first_is = ap (λ (r : Range). r.first) next.range

  last_is : entry.range.last ≡ dot.tick
  last_is = ap (λ (r : Range). r.last) next.range

  known_is : ticks_of ticks entry.range.path + 1 ≡ dot.tick
  known_is = ap (λ p. ticks_of ticks p + 1) path_is ∙ sym next.tick

  -- it is ready
  pub own_ready : IsReadyEntry ticks entry
  own_ready = record {
    unknown = λ k. let w = k.within in absurd (omega (arith, w, known_is, last_is));
    before = omega (arith, known_is, first_is);
    time = λ other covered outside. elim ((Covers-raised ticks entry.time dot other next.time).0 covered) [
      | inl had ↦ had
      | inr at ↦ elim (cases_lt other.tick dot.tick) [
        | inl low ↦ record { positive = at.1; within = let e = ap (λ p. ticks_of ticks p) at.0 in omega (arith, low, next.tick, e) }
        | inr from ↦ absurd (outside (record { path = at.0 ∙ sym path_is; above = omega (arith, from, first_is); below = omega (arith, at.2, last_is) }))
      ]
    ];
  }

  -- the last dot of its range
  pub own_last : last_dot entry.range ≡ dot
  own_last = λ i. record { path = path_is i; tick = last_is i }

  -- it supersedes nothing, and adds what it inserts: its cut are the pairs behind the operation
  pub own_cut : (deletes : List Tagged) (inserts : List Triple) (old new : List Tagged)
      → ((pair : Tagged) → Has entry.deletes pair ↔ Has deletes pair)
      → ((triple : Triple) (tick : ℕ) → Has entry.inserts (triple, tick) ↔ ((tick ≡ dot.tick) × Has inserts triple))
      → IsCutOf entry (ticks_of ticks entry.range.path) old new
      → PairsAfter old deletes (λ pair. (pair.dot ≡ dot) × Has inserts pair.triple) new
  own_cut deletes inserts old new same into cut pair = (
    λ h. elim ((cut.members pair).0 h) [
      | inl k ↦ inl (k.0, λ d. k.1 ((same pair).1 d))
      | inr a ↦
          let i = (into pair.triple pair.dot.tick).0 a.inserts in
          inr (λ j. record { path = (a.path ∙ path_is) j; tick = i.0 j }, i.1)
    ],
    λ h. (cut.members pair).1 (elim h [
      | inl k ↦ inl (
        k.0,
        λ d. k.1 ((same pair).0 d),
        λ s. let a = s.above in let b = s.below in absurd (omega (arith, a, b, known_is, first_is)),
      )
      | inr k ↦
          let tick = ap (λ (d : Dot). d.tick) k.0 in
          inr (record {
            path = ap (λ (d : Dot). d.path) k.0 ∙ sym path_is;
            above = omega (arith, tick, known_is);
            inserts = (into pair.triple pair.dot.tick).1 (tick, k.1);
          })
    ]),
  )

-- the entry of an effect is one of the next dot
pub next_entry : (ticks : List (List ℕ × ℕ)) (dot : Dot) (effect : EffectValue) (entry : EntryValue) → IsEntryOf ticks dot effect entry → IsNextEntry ticks dot entry
next_entry ticks dot effect entry is = record { tick = is.may.next; range = ap (λ (e : EntryValue). e.range) is.carries; time = is.time }

-- its cut are the pairs behind the effect
pub effect_cut : (ticks : List (List ℕ × ℕ)) (dot : Dot) (effect : EffectValue) (entry : EntryValue) (old new : List Tagged) → IsEntryOf ticks dot effect entry
    → IsCutOf entry (ticks_of ticks entry.range.path) old new → IsAfterEffect effect dot old new
effect_cut ticks dot effect entry old new is =
    own_cut ticks dot entry (next_entry ticks dot effect entry is) effect.deletes effect.inserts old new
    (λ pair. subst (λ (e : EntryValue). Has e.deletes pair ↔ Has effect.deletes pair) (sym is.carries) (λ h. h, λ h. h))
    (λ triple tick. subst (λ (e : EntryValue). Has e.inserts (triple, tick) ↔ ((tick ≡ dot.tick) × Has effect.inserts triple)) (sym is.carries)
    (has_ticks dot.tick effect.inserts triple tick))
