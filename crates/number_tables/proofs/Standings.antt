-- Where numbers stand, as terms come in one after another.
use Rattle.std.proofs.Common.{◌≡◌, ◌∙◌, ◌⊎◌, ◌↔◌, ℕ, zero, suc, ◌+◌, ◌<◌, List, [], ◌∷◌, ◌++◌, length, map, set, Some, None, refl, sym, subst, ap, inl, inr, arith}
use Rattle.std.proofs.lemmas.Bool.{cases_eq, cases_lt}
use Rattle.std.proofs.lemmas.Cmp.{eq_by_cmp_equiv}
use Rattle.std.proofs.lemmas.List.{get_or-set_same, get_or-set_other, length-append, length-set}
use Rattle.std.proofs.lemmas.Map.Keys.{IsDistinct-push}
use Rattle.std.proofs.lemmas.Option.{get_or_from_slice_get, slice_get-get_or, slice_get_within}
use Rattle.std.specs.List.{IsDistinct, slice_get}
use Rattle.std.specs.Ordering.{eq_by_cmp}
use Rattle.rdf_terms.specs.declared.terms.Term.{Term}
use Rattle.rdf_terms.specs.Order.{term_cmp}
use Rattle.rdf_terms.specs.OrderLaws.{term_total}
use Rattle.tree_clock.specs.Lists.{Has, IsAscending}
use Rattle.number_tables.specs.declared.hashed.HashedNumber.{HashedNumber}
use Rattle.number_tables.specs.HashBuckets.{bucket_of, AreStanding, HasSlot, IsFull, IsTermTable, IsVacancy}
use Rattle.number_tables.specs.HashedTerms.{hashed_cmp, term_hash, IsHashed}
use Rattle.number_tables.specs.TableNumbers.{number_of_term}
use Rattle.number_tables.proofs.Lookups.{ascend_more}
use Rattle.number_tables.proofs.Numbers.{placed_term, term_decides}
use Rattle.number_tables.proofs.Seeking.{absent_any, get_new, get_old, get_push, one_inside}

-- ---- a slot that is written

module _ {X : Type 0} (xs : List X) (i : ℕ) (v : X) where
  get_written : i < length xs → slice_get (set xs i v) i ≡ Some v
  get_written h = let n = length-set xs i v in slice_get-get_or (set xs i v) i v (omega (arith, h, n)) ∙ ap (λ w. Some w) (get_or-set_same xs i v v h)

  get_unwritten : (j : ℕ) (x : X) → ¬ (j ≡ i) → slice_get xs j ≡ Some x → slice_get (set xs i v) j ≡ Some x
  get_unwritten j x away h =
      let n = length-set xs i v in
      let l = slice_get_within xs j x h in
      slice_get-get_or (set xs i v) j x (omega (arith, l, n)) ∙ ap (λ w. Some w) (get_or-set_other xs i j v x away ∙ get_or_from_slice_get xs j x x h)

  get_before : (j : ℕ) (x : X) → ¬ (j ≡ i) → slice_get (set xs i v) j ≡ Some x → slice_get xs j ≡ Some x
  get_before j x away h =
      let n = length-set xs i v in
      let l = slice_get_within (set xs i v) j x h in
      slice_get-get_or xs j x (omega (arith, l, n)) ∙ ap (λ w. Some w) (sym (get_or-set_other xs i j v x away) ∙ get_or_from_slice_get (set xs i v) j x x h)

-- ---- the next number is put where it belongs

pub none_standing : (terms : List Term) (slots : List HashedNumber) (places : List HashedNumber) → places ≡ [] → AreStanding terms 0 slots places
none_standing terms slots places e = subst (λ (ps : List HashedNumber). AreStanding terms 0 slots ps) (sym e) none
  where
    none : AreStanding terms 0 slots []
    none = record { stands = λ number term l h. absurd (omega (arith, l)); hashed = λ place h. absurd h; ascending = tt; full = λ place h. absurd h }

module _ (terms : List Term) (count : ℕ) (slots : List HashedNumber) (places : List HashedNumber) (hash : ℕ) (term : Term) (is : AreStanding terms count slots places)
    (own : slice_get terms count ≡ Some term) (e : hash ≡ term_hash term) where
  -- the hash of whichever term has the next number
  next_hash : (other : Term) (number : ℕ) → number ≡ count → slice_get terms number ≡ Some other → term_hash other ≡ hash
  next_hash other number f h = ap term_hash (one_inside other term (sym h ∙ ap (λ n. slice_get terms n) f ∙ own)) ∙ sym e

  next_or_before : (number : ℕ) → number < count + 1 → (number < count) ⊎ (number ≡ count)
  next_or_before number l = elim (cases_lt number count) [
    | inl k ↦ inl k
    | inr k ↦ let f : number ≡ count = omega (arith, l, k) in inr f
  ]

  module _ (place : ℕ) (few : count < 4294967295) (room : IsVacancy slots hash place) where
    abbrev put : HashedNumber
    put = record { hash = hash; number = count }

    slots_same : length (set slots place put) ≡ length slots
    slots_same = length-set slots place put

    slot_kept : (other number : ℕ) → number < count → HasSlot slots other number → HasSlot (set slots place put) other number
    slot_kept other number l h = (
      h.0,
      record {
        bucket = h.1.bucket ∙ ap (λ n. bucket_of n other) (sym slots_same);
        found = get_unwritten slots place put h.0 (record { hash = other; number = number }) away h.1.found;
      },
    )
      where
        away : ¬ (h.0 ≡ place)
        away f =
            let same = one_inside (record { hash = other; number = number }) room.0 (sym h.1.found ∙ ap (λ n. slice_get slots n) f ∙ room.1.found) in
            let vacant : number ≡ 4294967295 = ap (λ (slot : HashedNumber). slot.number) same ∙ room.2 in
            omega (arith, vacant, l, few)

    full_kept : (other : ℕ) → IsFull slots other → IsFull (set slots place put) other
    full_kept other full at vacancy = elim (cases_eq at place) [
      | inl f ↦ written f
      | inr away ↦ full at (
        vacancy.0,
        record { bucket = vacancy.1.bucket ∙ ap (λ n. bucket_of n other) slots_same; found = get_before slots place put at vacancy.0 away vacancy.1.found },
        vacancy.2,
      )
    ]
      where
        written : at ≡ place → ⊥
        written f =
            let same = one_inside put vacancy.0 (sym (get_written slots place put (slice_get_within slots place room.0 room.1.found)) ∙ ap (λ n. slice_get (set slots place put) n) (sym f) ∙ vacancy.1.found) in
            let vacant : count ≡ 4294967295 = ap (λ (slot : HashedNumber). slot.number) same ∙ vacancy.2 in
            omega (arith, vacant, few)

    put_standing : HasSlot (set slots place put) hash count
    put_standing = (
      place,
      record {
        bucket = room.1.bucket ∙ ap (λ n. bucket_of n hash) (sym slots_same);
        found = get_written slots place put (slice_get_within slots place room.0 room.1.found);
      },
    )

    -- in its bucket
    pub put_in_bucket : AreStanding terms (count + 1) (set slots place put) places
    put_in_bucket = record {
      stands = λ number other l h. stands number other l h;
      hashed = is.hashed;
      ascending = is.ascending;
      full = λ other h. full_kept other.hash (is.full other h);
    }
      where
        stands : (number : ℕ) (other : Term) → number < count + 1 → slice_get terms number ≡ Some other
            → HasSlot (set slots place put) (term_hash other) number ⊎ Has places (record { hash = term_hash other; number = number })
        stands number other l h = elim (next_or_before number l) [
          | inl k ↦ elim (is.stands number other k h) [
            | inl t ↦ inl (slot_kept (term_hash other) number k t)
            | inr t ↦ inr t
          ]
          | inr f ↦ inl (subst (λ (n : ℕ). HasSlot (set slots place put) (term_hash other) n) (sym f)
              (subst (λ (g : ℕ). HasSlot (set slots place put) g count) (sym (next_hash other number f h)) put_standing))
        ]

  -- or in order, where that is full
  pub put_in_order : (more : List HashedNumber) → IsFull slots hash → IsAscending (hashed_cmp terms) more
      → ((other : HashedNumber) → Has more other ↔ (Has places other ⊎ (other ≡ record { hash = hash; number = count }))) → AreStanding terms (count + 1) slots more
  put_in_order more full ascending members = record {
    stands = λ number other l h. stands number other l h;
    hashed = λ place h. elim ((members place).0 h) [
      | inl k ↦ is.hashed place k
      | inr f ↦ subst (λ (w : HashedNumber). IsHashed terms w) (sym f) (term, own, e)
    ];
    ascending = ascending;
    full = λ place h. elim ((members place).0 h) [
      | inl k ↦ is.full place k
      | inr f ↦ subst (λ (w : HashedNumber). IsFull slots w.hash) (sym f) full
    ];
  }
    where
      stands : (number : ℕ) (other : Term) → number < count + 1 → slice_get terms number ≡ Some other
          → HasSlot slots (term_hash other) number ⊎ Has more (record { hash = term_hash other; number = number })
      stands number other l h = elim (next_or_before number l) [
        | inl k ↦ elim (is.stands number other k h) [
          | inl t ↦ inl t
          | inr t ↦ inr ((members (record { hash = term_hash other; number = number })).1 (inl t))
        ]
        | inr f ↦ inr ((members (record { hash = term_hash other; number = number })).1 (inr (λ i. record { hash = next_hash other number f h i; number = f i })))
      ]

-- ---- a term more

pub standing_more : (terms : List Term) (term : Term) (slots : List HashedNumber) (places : List HashedNumber) → AreStanding terms (length terms) slots places
    → AreStanding (terms ++ term ∷ []) (length terms) slots places
standing_more terms term slots places is = record {
  stands = λ number other l h. elim (get_new terms term other number h) [
    | inl k ↦ is.stands number other l k
    | inr k ↦ absurd (let f = k.0 in omega (arith, l, f))
  ];
  hashed = λ place h. let old = is.hashed place h in (old.0, get_old terms term old.0 place.number old.1, old.2);
  ascending = ascend_more terms term places is.hashed is.ascending;
  full = is.full;
}

-- no terms
pub empty_table : (terms : List Term) (hashes : List ℕ) (slots : List HashedNumber) (places : List HashedNumber) → terms ≡ [] → hashes ≡ [] → places ≡ []
    → IsTermTable terms hashes slots places
unfolding IsDistinct
empty_table terms hashes slots places e h f = subst (λ (ts : List Term). IsTermTable ts hashes slots places) (sym e) none
  where
    none : IsTermTable [] hashes slots places
    none = record { apart = tt; few = omega arith; all_hashed = h; standing = none_standing [] slots places f }

-- one of the hashes is that of a term at its place
pub hash_at : (terms : List Term) (hashes : List ℕ) (number hash : ℕ) → hashes ≡ map term_hash terms → slice_get hashes number ≡ Some hash
    → (term : Term) × (slice_get terms number ≡ Some term) × (hash ≡ term_hash term)
hash_at terms hashes number hash e h = at_map terms number hash (ap (λ (l : List ℕ). slice_get l number) (sym e) ∙ h)
  where
    at_map : (terms : List Term) (number hash : ℕ) → slice_get (map term_hash terms) number ≡ Some hash → (term : Term) × (slice_get terms number ≡ Some term) × (hash ≡ term_hash term)
    at_map [] number hash h = cc
    at_map (term ∷ terms) zero hash h = (term, refl, sym (one_inside (term_hash term) hash h))
    at_map (term ∷ terms) (suc number) hash h = at_map terms number hash h

map_push : (terms : List Term) (term : Term) → map term_hash (terms ++ term ∷ []) ≡ map term_hash terms ++ term_hash term ∷ []
map_push [] term = refl
map_push (first ∷ terms) term = ap (λ l. term_hash first ∷ l) (map_push terms term)

-- a term that is pushed, where the lists are told by what they are equal to
module _ (terms pushed : List Term) (term : Term) (slots : List HashedNumber) (places : List HashedNumber) (pushed_is : pushed ≡ terms ++ term ∷ []) where
  pub standing_pushed : (ready : List HashedNumber) (prepared : List HashedNumber) → ready ≡ slots → prepared ≡ places → AreStanding terms (length terms) slots places
      → AreStanding pushed (length terms) ready prepared
  standing_pushed ready prepared f e is =
      subst (λ (ss : List HashedNumber). AreStanding pushed (length terms) ss prepared) (sym f)
      (subst (λ (ps : List HashedNumber). AreStanding pushed (length terms) slots ps) (sym e)
      (subst (λ (ts : List Term). AreStanding ts (length terms) slots places) (sym pushed_is) (standing_more terms term slots places is)))

  -- it has the next number
  pub own_pushed : slice_get pushed (length terms) ≡ Some term
  own_pushed = ap (λ (ts : List Term). slice_get ts (length terms)) pushed_is ∙ get_push terms term

  pub table_pushed : (hashes more : List ℕ) (hash count : ℕ) → hashes ≡ map term_hash terms → hash ≡ term_hash term → more ≡ hashes ++ hash ∷ [] → IsDistinct (eq_by_cmp term_cmp) terms → number_of_term terms term ≡ None → count ≡ length terms → count < 4294967295
      → AreStanding pushed (count + 1) slots places → IsTermTable pushed more slots places
  table_pushed hashes more hash count all own more_is apart absent e few is = record {
    apart = subst (λ (ts : List Term). IsDistinct (eq_by_cmp term_cmp) ts) (sym pushed_is)
        (IsDistinct-push (eq_by_cmp_equiv term_total) terms term apart (absent_any (eq_by_cmp term_cmp term) terms absent));
    few = omega (arith, few, counted);
    all_hashed = more_is ∙ ap (λ l. l ++ hash ∷ []) all ∙ ap (λ h. map term_hash terms ++ h ∷ []) own ∙ sym (map_push terms term)
        ∙ ap (λ (ts : List Term). map term_hash ts) (sym pushed_is);
    standing = subst (λ (n : ℕ). AreStanding pushed n slots places) (sym counted) is;
  }
    where
      counted : length pushed ≡ count + 1
      counted = let l = length-append terms (term ∷ []) in ap length pushed_is ∙ l ∙ ap (λ n. n + 1) (sym e)

  pub number_pushed : (hashes : List ℕ) (count : ℕ) → count ≡ length terms → IsTermTable pushed hashes slots places → number_of_term pushed term ≡ Some count
  number_pushed hashes count e is =
      placed_term pushed count term term is.apart (ap (λ n. slice_get pushed n) e ∙ own_pushed) ((term_decides term term).1 refl)
