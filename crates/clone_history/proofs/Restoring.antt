-- Where an operation is taken back right behind it, the triples that are present are those from before it.
use Rattle.std.proofs.Common.{◌≡◌, ◌≢◌, ◌∙◌, ℕ, ◌≤◌, List, [], ◌∷◌, ◌⊎◌, true, map, refl, sym, ap, subst, inl, inr, arith}
use Rattle.std.proofs.lemmas.Bool.{cases_Bool, true≢false}
use Rattle.std.proofs.lemmas.Map.Views.{tells_apart}
use Rattle.std.specs.Cmp.{eq_by_cmp_equiv, tied_itself}
use Rattle.std.specs.List.{AllByRecursion, filter}
use Rattle.std.specs.Ordering.{eq_by_cmp}
use Rattle.std.specs.declared.cmp.Ordering.TheVariants.{Less, Equal}
use Rattle.rdf_terms.specs.declared.terms.Triple.{Triple}
use Rattle.rdf_terms.specs.Order.{triple_cmp}
use Rattle.rdf_terms.specs.OrderLaws.{triple_total, triple_exact}
use Rattle.tree_clock.specs.declared.dots.Dot.{Dot}
use Rattle.tree_clock.specs.Clock.{Covers}
use Rattle.tree_clock.specs.Lists.{Has, IsAscending}
use Rattle.tree_clock.proofs.ClockLaws.{Covers-raised}
use Rattle.mld_ops.specs.declared.tagged.Tagged.{Tagged}
use Rattle.mld_ops.specs.Breaches.{IsPresentAfter}
use Rattle.mld_ops.specs.Effects.{EffectValue}
use Rattle.mld_ops.specs.Entry.{EntryValue, IsEntry}
use Rattle.mld_ops.specs.Meaning.{IsPresent}
use Rattle.mld_ops.specs.Ready.{last_dot}
use Rattle.mld_ops.specs.Tagged.{tagged_cmp}
use Rattle.mld_ops.proofs.AscendingLaws.{below_member, has_filter, ascending_filter}
use Rattle.mld_ops.proofs.OperationLaws.{same_dot}
use Rattle.mld_ops.proofs.TaggedLaws.{tagged_total, tagged_exact}
use Rattle.graph_index.specs.Matching.{HasTriple, dots_of, is_of}
use Rattle.mld_model.specs.Local.{LeadsTo}
use Rattle.clone_history.specs.KeptMembers.{KeepsThose}
use Rattle.clone_history.specs.Undoing.{IsTakenOut, IsPutBack, IsJustBehind}
use Rattle.clone_history.proofs.KeptLists.{kept_has}
use Rattle.clone_history.proofs.KeptReady.{later_unknown}
use Rattle.clone_history.proofs.UndoPlans.{DoesJust}

-- ---- triples and pairs, the same or not

same_triple_or_not : (a b : Triple) → (a ≡ b) ⊎ ¬ (a ≡ b)
same_triple_or_not a b = elim (cases_Bool (eq_by_cmp triple_cmp a b)) [
  | inl e ↦ inl (tells_apart triple_exact a b e)
  | inr e ↦ inr (λ same. true≢false (sym (subst (λ (t : Triple). eq_by_cmp triple_cmp a t ≡ true) same ((eq_by_cmp_equiv triple_total).refl a)) ∙ e))
]

same_pair_or_not : (a b : Tagged) → (a ≡ b) ⊎ ¬ (a ≡ b)
same_pair_or_not a b = elim (cases_Bool (eq_by_cmp tagged_cmp a b)) [
  | inl e ↦ inl (tells_apart tagged_exact a b e)
  | inr e ↦ inr (λ same. true≢false (sym (subst (λ (t : Tagged). eq_by_cmp tagged_cmp a t ≡ true) same ((eq_by_cmp_equiv tagged_total).refl a)) ∙ e))
]

has_pair_or_not : (pairs : List Tagged) (pair : Tagged) → Has pairs pair ⊎ ¬ Has pairs pair
has_pair_or_not [] pair = inr (λ h. h)
has_pair_or_not (first ∷ pairs) pair = elim (same_pair_or_not first pair) [
  | inl e ↦ inl (inl e)
  | inr n ↦ elim (has_pair_or_not pairs pair) [
    | inl h ↦ inl (inr h)
    | inr m ↦ inr (λ h. elim h [ inl e ↦ n e | inr k ↦ m k ])
  ]
]

-- a triple has a pair, or it has none
present_or_not : (pairs : List Tagged) (triple : Triple) → IsPresent pairs triple ⊎ ¬ HasTriple pairs triple
present_or_not [] triple = inr (λ h. h.1)
present_or_not (first ∷ pairs) triple = elim (same_triple_or_not first.triple triple) [
  | inl e ↦ inl (record { pair = first; stands = inl refl; is = e })
  | inr n ↦ elim (present_or_not pairs triple) [
    | inl p ↦ inl (record { pair = p.pair; stands = inr p.stands; is = p.is })
    | inr m ↦ inr (λ h. elim h.1 [ inl e ↦ n (ap (λ (t : Tagged). t.triple) e) | inr k ↦ m (h.0, k) ])
  ]
]

-- a pair as its triple and its dot
has_triple_of : (pairs : List Tagged) (pair : Tagged) (triple : Triple) → Has pairs pair → pair.triple ≡ triple → HasTriple pairs triple
has_triple_of pairs pair triple h e = (pair.dot, subst (λ (t : Triple). Has pairs (record { triple = t; dot = pair.dot })) e h)

-- ---- a pair alone, or beside another

-- in an ascending list a member is alone, or there is another one
alone_or_other : (pairs : List Tagged) (pair : Tagged) → IsAscending tagged_cmp pairs → Has pairs pair → (pairs ≡ pair ∷ []) ⊎ ((other : Tagged) × Has pairs other × (other ≢ pair))
alone_or_other [] pair ascending h = absurd h
alone_or_other (first ∷ []) pair ascending (inl e) = inl (ap (λ (t : Tagged). t ∷ []) e)
alone_or_other (first ∷ second ∷ pairs) pair ascending (inl e) =
    inr (second, inr (inl refl), λ same. below_apart first second ascending.0.0 (e ∙ sym same))
  where
    below_apart : (a b : Tagged) → tagged_cmp a b ≡ Less → ¬ (a ≡ b)
    below_apart a b less same =
        let own : tagged_cmp a a ≡ Less = subst (λ (t : Tagged). tagged_cmp a t ≡ Less) (sym same) less in
        let tied : tagged_cmp a a ≡ Equal = tied_itself tagged_total a in
        let no : Equal ≡ Less = sym tied ∙ own in
        cc
alone_or_other (first ∷ pairs) pair ascending (inr h) =
    inr (first, inl refl, λ same. below_apart first pair (below_member tagged_cmp first pairs pair ascending.0 h) same)
  where
    below_apart : (a b : Tagged) → tagged_cmp a b ≡ Less → ¬ (a ≡ b)
    below_apart a b less same =
        let own : tagged_cmp a a ≡ Less = subst (λ (t : Tagged). tagged_cmp a t ≡ Less) (sym same) less in
        let tied : tagged_cmp a a ≡ Equal = tied_itself tagged_total a in
        let no : Equal ≡ Less = sym tied ∙ own in
        cc

-- the dots of a triple's pairs
has_dot : (pairs : List Tagged) (pair : Tagged) → Has pairs pair → Has (map (λ (t : Tagged). t.dot) pairs) pair.dot
has_dot [] pair h = absurd h
has_dot (first ∷ pairs) pair (inl e) = inl (ap (λ (t : Tagged). t.dot) e)
has_dot (first ∷ pairs) pair (inr h) = inr (has_dot pairs pair h)

is_of_own : (pair : Tagged) (triple : Triple) → pair.triple ≡ triple → is_of triple pair ≡ true
is_of_own pair triple e = subst (λ (t : Triple). eq_by_cmp triple_cmp triple t ≡ true) (sym e) ((eq_by_cmp_equiv triple_total).refl triple)

-- ---- what is left of a kept list

keeps_has : {X : Type 0} (P : X → Type 0) (xs kept : List X) (x : X) → KeepsThose P xs kept → Has xs x → P x → Has kept x
keeps_has P [] kept x k h p = absurd h
keeps_has {X} P (y ∷ xs) kept x (inl k) (inl e) p = subst (λ (zs : List X). Has zs x) (sym k.3) (inl e)
keeps_has {X} P (y ∷ xs) kept x (inl k) (inr h) p = subst (λ (zs : List X). Has zs x) (sym k.3) (inr (keeps_has P xs k.1 x k.2 h p))
keeps_has {X} P (y ∷ xs) kept x (inr k) (inl e) p = absurd (k.0 (subst P (sym e) p))
keeps_has {X} P (y ∷ xs) kept x (inr k) (inr h) p = keeps_has P xs kept x k.1 h p

has_image : {X Y : Type 0} (f : X → Y) (xs : List X) (x : X) → Has xs x → Has (map f xs) (f x)
has_image f [] x h = absurd h
has_image f (y ∷ xs) x (inl e) = inl (ap f e)
has_image f (y ∷ xs) x (inr h) = inr (has_image f xs x h)

image_has : {X Y : Type 0} (f : X → Y) (xs : List X) (y : Y) → Has (map f xs) y → (x : X) × Has xs x × (f x ≡ y)
image_has f [] y h = absurd h
image_has f (x ∷ xs) y (inl e) = (x, inl refl, e)
image_has f (x ∷ xs) y (inr h) = let rest = image_has f xs y h in (rest.0, inr rest.1, rest.2)

all_member : {X : Type 0} (P : X → Type 0) (xs : List X) (x : X) → AllByRecursion P xs → Has xs x → P x
all_member P [] x a h = absurd h
all_member P (y ∷ xs) x a (inl e) = subst P e a.0
all_member P (y ∷ xs) x a (inr h) = all_member P xs x a.1 h

-- ---- an entry of one operation, the pairs before and behind it, and what the plan that takes it back does

module _ (entry : EntryValue) (before after : List Tagged) (gone : List Triple) (back : List Tagged) (effect : EffectValue) (is : IsEntry entry)
    (single : entry.range.first ≡ entry.range.last) (right : IsJustBehind entry before after)
    (goes : KeepsThose (IsTakenOut (last_dot entry.range) entry.deletes after) (map (λ insert. insert.0) entry.inserts) gone)
    (comes : KeepsThose (IsPutBack after) entry.deletes back) (does : DoesJust after gone (map (λ (pair : Tagged). pair.triple) back) effect) where
  -- a pair behind it is one from before it, or has its dot and one of its triples
  old_or_own : (pair : Tagged) → Has after pair → Has before pair ⊎ ((pair.dot ≡ last_dot entry.range) × Has (map (λ (insert : Triple × ℕ). insert.0) entry.inserts) pair.triple)
  old_or_own pair h = elim ((right.taken.members pair).0 h) [
    | inl old ↦ inl old.0
    | inr added ↦
        let inside : (entry.range.first ≤ pair.dot.tick) × (pair.dot.tick ≤ entry.range.last) =
        all_member (λ (insert : Triple × ℕ). (entry.range.first ≤ insert.1) × (insert.1 ≤ entry.range.last)) entry.inserts (pair.triple, pair.dot.tick) is.inserts_inside added.inserts in
        let tick : pair.dot.tick ≡ entry.range.last = let a = inside.0 in let b = inside.1 in omega (arith, a, b, single) in
        inr (same_dot pair.dot (last_dot entry.range) added.path tick, has_image (λ (insert : Triple × ℕ). insert.0) entry.inserts (pair.triple, pair.dot.tick) added.inserts)
  ]

  -- a pair from before it that it doesn't delete is there behind it
  stays : (pair : Tagged) → Has before pair → ¬ Has entry.deletes pair → Has after pair
  stays pair h free = (right.taken.members pair).1 (inl (
    h,
    free,
    λ over. let a = over.above in let b = over.below in let f = is.first in absurd (omega (arith, a, b, f, single)),
  ))

  -- a pair behind it of a triple that isn't taken out tells of one from before it
  from_own : (pair : Tagged) → Has after pair → pair.dot ≡ last_dot entry.range → Has (map (λ (insert : Triple × ℕ). insert.0) entry.inserts) pair.triple → ¬ Has gone pair.triple
      → IsPresent before pair.triple
  from_own pair h own inserted left = elim (present_or_not entry.deletes pair.triple) [
    | inl deleted ↦ record { pair = deleted.pair; stands = right.deletes deleted.pair deleted.stands; is = deleted.is }
    | inr other ↦
        let found : List Tagged = filter (is_of pair.triple) after in
        let here : Has found pair = (has_filter (is_of pair.triple) after pair).1 (h, is_of_own pair pair.triple refl) in
        elim (alone_or_other found pair (ascending_filter tagged_cmp (is_of pair.triple) after right.taken.ascending) here) [
          | inl alone ↦
              let dots : dots_of pair.triple after ≡ last_dot entry.range ∷ [] = ap (map (λ (t : Tagged). t.dot)) alone ∙ ap (λ (d : Dot). d ∷ []) own in
              absurd (left (keeps_has (IsTakenOut (last_dot entry.range) entry.deletes after) (map (λ (insert : Triple × ℕ). insert.0) entry.inserts) gone pair.triple goes inserted
              (record { alone = dots; other = other })))
          | inr more ↦
              let f = (has_filter (is_of pair.triple) after more.0).0 more.1 in
              let same : pair.triple ≡ more.0.triple = tells_apart triple_exact pair.triple more.0.triple f.1 in
              elim (old_or_own more.0 f.0) [
                | inl old ↦ record { pair = more.0; stands = old; is = sym same }
                | inr its ↦ absurd (more.2 (λ i. record { triple = sym same i; dot = (its.0 ∙ sym own) i }))
              ]
        ]
  ]

  -- what is present behind taking it back was present before it
  pub restored_old : (triple : Triple) → IsPresentAfter after effect triple → IsPresent before triple
  restored_old triple (inl spared) =
      subst (IsPresent before) spared.is (elim (old_or_own spared.pair spared.stands) [
        | inl old ↦ record { pair = spared.pair; stands = old; is = refl }
        | inr its ↦ from_own spared.pair spared.stands its.0 its.1 (λ h. spared.spared ((does.gone spared.pair).1 (spared.stands, h)))
      ])
  restored_old triple (inr inserted) =
      let of = image_has (λ (pair : Tagged). pair.triple) back triple ((does.come triple).0 inserted) in
      let kept : Has entry.deletes of.0 × IsPutBack after of.0 = kept_has (IsPutBack after) entry.deletes back of.0 comes of.1 in
      record { pair = of.0; stands = right.deletes of.0 kept.0; is = of.2 }

  -- a triple that was present before it isn't taken out where it has a pair behind it
  not_gone : (pair : Tagged) → Has before pair → ¬ Has gone pair.triple
  not_gone pair h left =
      let out : Has (map (λ (insert : Triple × ℕ). insert.0) entry.inserts) pair.triple × IsTakenOut (last_dot entry.range) entry.deletes after pair.triple =
      kept_has (IsTakenOut (last_dot entry.range) entry.deletes after) (map (λ (insert : Triple × ℕ). insert.0) entry.inserts) gone pair.triple goes left in
      let there : Has after pair = stays pair h (λ d. out.1.other (has_triple_of entry.deletes pair pair.triple d refl)) in
      let found : Has (dots_of pair.triple after) pair.dot =
      has_dot (filter (is_of pair.triple) after) pair ((has_filter (is_of pair.triple) after pair).1 (there, is_of_own pair pair.triple refl)) in
      elim (subst (λ (ds : List Dot). Has ds pair.dot) out.1.alone found) [
        | inl e ↦ right.fresh pair h (sym e)
        | inr none ↦ none
      ]

  -- and what was present before it is present behind taking it back
  pub restored_new : (triple : Triple) → IsPresent before triple → IsPresentAfter after effect triple
  restored_new triple was = elim (present_or_not after triple) [
    | inl there ↦ inl (record {
      pair = there.pair;
      stands = there.stands;
      spared = λ d. not_gone was.pair was.stands (subst (Has gone) (there.is ∙ sym was.is) ((does.gone there.pair).0 d).1);
      is = there.is;
    })
    | inr none ↦ elim (has_pair_or_not entry.deletes was.pair) [
      | inl deleted ↦
          let lost : IsPutBack after was.pair = subst (λ (t : Triple). ¬ HasTriple after t) (sym was.is) none in
          let kept : Has back was.pair = keeps_has (IsPutBack after) entry.deletes back was.pair comes deleted lost in
          inr ((does.come triple).1 (subst (Has (map (λ (pair : Tagged). pair.triple) back)) was.is (has_image (λ (pair : Tagged). pair.triple) back was.pair kept)))
      | inr free ↦ absurd (none (has_triple_of after was.pair triple (stays was.pair was.stands free) was.is))
    ]
  ]

-- ---- one entry of a journal for a range

-- entries that lead somewhere are one where they have one range, with ticks of 1 or more
pub one_range : (ticks : List (List ℕ × ℕ)) (pairs : List Tagged) (entries : List EntryValue) (end : List (List ℕ × ℕ)) (new : List Tagged) (a b : EntryValue)
    → LeadsTo ticks pairs entries end new → Has entries a → Has entries b → a.range ≡ b.range → 1 ≤ a.range.last → a ≡ b
one_range ticks pairs [] end new a b leads h k same some = absurd h
one_range ticks pairs (entry ∷ entries) end new a b leads (inl e) (inl f) same some = sym e ∙ f
one_range ticks pairs (entry ∷ entries) end new a b leads (inl e) (inr k) same some =
    let range : entry.range ≡ b.range = ap (λ (x : EntryValue). x.range) e ∙ same in
    absurd (later_unknown leads.0 leads.1 entries end new b leads.5 k (subst (λ r. Covers leads.0 (last_dot r)) range
    ((Covers-raised ticks leads.0 (last_dot entry.range) (last_dot entry.range) leads.3).1 (inr (refl, subst (λ (x : EntryValue). 1 ≤ x.range.last) (sym e) some, omega arith)))))
one_range ticks pairs (entry ∷ entries) end new a b leads (inr h) (inl f) same some =
    let range : entry.range ≡ a.range = ap (λ (x : EntryValue). x.range) f ∙ sym same in
    absurd (later_unknown leads.0 leads.1 entries end new a leads.5 h (subst (λ r. Covers leads.0 (last_dot r)) range
    ((Covers-raised ticks leads.0 (last_dot entry.range) (last_dot entry.range) leads.3).1
    (inr (refl, let last : entry.range.last ≡ a.range.last = ap (λ r. r.last) range in omega (arith, some, last), omega arith)))))
one_range ticks pairs (entry ∷ entries) end new a b leads (inr h) (inr k) same some =
    one_range leads.0 leads.1 entries end new a b leads.5 h k same some
