-- Where a term's number is among ascending ones.
use Rattle.std.proofs.Common.{◌≡◌, ◌∙◌, ◌↔◌, ℕ, List, [], ◌∷◌, ◌++◌, Bool, true, length, get_or, Option, None, Some, if◌then◌else◌, refl, sym, subst, ap, inl, inr}
use Rattle.std.proofs.lemmas.Cmp.{tied_itself, nat_list_cmp_total}
use Rattle.std.proofs.lemmas.List.Quantifiers.{position-Some}
use Rattle.std.proofs.lemmas.Option.{slice_get-get_or}
use Rattle.std.specs.Cmp.Lexicographic.{slice_cmp}
use Rattle.std.specs.List.{IsDistinct, slice_get}
use Rattle.std.specs.Ordering.{nat_cmp, ordering_then, eq_by_cmp, is_eq}
use Rattle.std.specs.declared.cmp.Ordering.{Ordering}
use Rattle.std.specs.declared.cmp.Ordering.TheVariants.{Less, Equal}
use Rattle.rdf_terms.specs.declared.terms.Term.{Term}
use Rattle.rdf_terms.specs.Order.{term_cmp}
use Rattle.rdf_terms.specs.OrderLaws.{both_equal, term_exact}
use Rattle.rdf_terms.specs.Spelling.{term_text}
use Rattle.number_tables.specs.TableNumbers.{with_new_value}
use Rattle.tree_clock.specs.Lists.{Has, IsAscending}
use Rattle.chunked_list.proofs.of_hinted_chunks.of_mld_ops.AscendingLaws.{below_member, below_from_members}
use Rattle.chunked_list.specs.Parted.{IsParted, IsFirstOf}
use Rattle.number_tables.specs.declared.hashed.HashedNumber.{HashedNumber}
use Rattle.number_tables.specs.HashBuckets.{HasSlot, IsVacancy, AreStanding}
use Rattle.number_tables.specs.HashedTerms.{term_hash, hashed_term_text, term_text_at, sought_cmp, hashed_cmp, is_before_sought, IsHashed}
use Rattle.number_tables.specs.HashedLaws.{cmp_by_key, keyed_total}
use Rattle.number_tables.specs.TableNumbers.{number_of_term}
use Rattle.number_tables.specs.TermFinding.{FindsTerm}
use Rattle.number_tables.proofs.TermTexts.{below_term, terms_by_text}
use Rattle.number_tables.proofs.Numbers.{placed_term, term_decides, told_equal}
use Rattle.number_tables.proofs.Seeking.{absent_any, first_has, found_any, get_old, none_by, one_inside, sought_divides}

-- ---- the number of a term

-- a number's key: its hash, and the text of its term
abbrev key_at : List Term → HashedNumber → ℕ × List ℕ
key_at terms place = (place.hash, term_text_at terms place.number)

pub sought_parts : (terms : List Term) (hash : ℕ) (text : List ℕ) (places : List HashedNumber) → IsAscending (hashed_cmp terms) places → IsParted (is_before_sought terms hash text) places
sought_parts terms hash text places a = sought_divides cmp_by_key keyed_total (key_at terms) (λ (place : HashedNumber). place.number) (hash, text) places a

text_told : (a b : Term) → slice_cmp nat_cmp (term_text a) (term_text b) ≡ Equal → a ≡ b
text_told a b e = term_exact a b (terms_by_text a b ∙ e)

-- what has the text of a term is that term
text_found : (o : Option Term) (term : Term) → slice_cmp nat_cmp (hashed_term_text o) (term_text term) ≡ Equal → o ≡ Some term
text_found None term e = absurd (apart (below_term term ∙ e))
  where
    apart : Less ≡ Equal → ⊥
    apart q = cc
text_found (Some own) term e = ap (λ t. Some t) (text_told own term e)

-- whether a number's term compares as equal tells whether it is that term
pub told_at : (terms : List Term) (number : ℕ) (term : Term) (o : Ordering) (b : Bool) → o ≡ slice_cmp nat_cmp (term_text_at terms number) (term_text term)
    → b ≡ is_eq o → (b ≡ true) ↔ (slice_get terms number ≡ Some term)
told_at terms number term o b e f = (
  λ h. text_found (slice_get terms number) term (told_equal (slice_cmp nat_cmp (term_text_at terms number) (term_text term)) (sym (ap is_eq e) ∙ sym f ∙ h)),
  λ h. f ∙ ap is_eq (e ∙ ap (λ t. slice_cmp nat_cmp (hashed_term_text t) (term_text term)) h ∙ tied_itself nat_list_cmp_total (term_text term)),
)

-- ---- what is looked up in order

equal_parts : (o p : Ordering) → ordering_then o p ≡ Equal → p ≡ Equal
equal_parts o p h = (both_equal o p h).1

module _ (terms : List Term) (places : List HashedNumber) (hash : ℕ) (term : Term) (ascending : IsAscending (hashed_cmp terms) places) where
  -- where the first that isn't before a hash and a text is of another term, no number that stands with that hash is the term's
  absent_in_order : (first : Option HashedNumber) → IsFirstOf (is_before_sought terms hash (term_text term)) places first
      → ((found : HashedNumber) → first ≡ Some found → ¬ (slice_get terms found.number ≡ Some term))
      → (number : ℕ) → Has places (record { hash = hash; number = number }) → ¬ (slice_get terms number ≡ Some term)
  absent_in_order first f other number h g =
      let has =
      first_has cmp_by_key keyed_total (key_at terms) (λ (place : HashedNumber). place.number) (hash, term_text term) places first
      (record { hash = hash; number = number }) ascending f h alike
      in
      let same = equal_parts (nat_cmp has.0.hash hash) (slice_cmp nat_cmp (term_text_at terms has.0.number) (term_text term)) has.2 in
      other has.0 has.1 (text_found (slice_get terms has.0.number) term same)
    where
      alike : sought_cmp terms (record { hash = hash; number = number }) hash (term_text term) ≡ Equal
      alike =
          ap (λ o. ordering_then (nat_cmp hash hash) (slice_cmp nat_cmp (hashed_term_text o) (term_text term))) g
          ∙ tied_itself keyed_total (hash, term_text term)

  pub absent_behind : IsFirstOf (is_before_sought terms hash (term_text term)) places None
      → (number : ℕ) → Has places (record { hash = hash; number = number }) → ¬ (slice_get terms number ≡ Some term)
  absent_behind f = absent_in_order None f (λ found e. none_found found e)
    where
      none_found : (found : HashedNumber) → None ≡ Some found → ¬ (slice_get terms found.number ≡ Some term)
      none_found found e = cc

  pub absent_at : (first : HashedNumber) → IsFirstOf (is_before_sought terms hash (term_text term)) places (Some first) → ¬ (slice_get terms first.number ≡ Some term)
      → (number : ℕ) → Has places (record { hash = hash; number = number }) → ¬ (slice_get terms number ≡ Some term)
  absent_at first f other = absent_in_order (Some first) f (λ found e. other_found found e)
    where
      other_found : (found : HashedNumber) → Some first ≡ Some found → ¬ (slice_get terms found.number ≡ Some term)
      other_found found e = subst (λ (w : HashedNumber). ¬ (slice_get terms w.number ≡ Some term)) (one_inside first found e) other

-- ---- what a look-up says of the term's number

module _ (terms : List Term) (slots : List HashedNumber) (places : List HashedNumber) (hash : ℕ) (term : Term) (apart : IsDistinct (eq_by_cmp term_cmp) terms) (is : AreStanding terms (length terms) slots places) (e : hash ≡ term_hash term)
  where
    pub number_found : (number : ℕ) → slice_get terms number ≡ Some term → Some number ≡ number_of_term terms term
    number_found number h = sym (placed_term terms number term term apart h ((term_decides term term).1 refl))

    -- it has none, where none that stands in its bucket or in order is the term's
    pub number_absent : ((number : ℕ) → HasSlot slots hash number → ¬ (slice_get terms number ≡ Some term))
        → ((number : ℕ) → Has places (record { hash = hash; number = number }) → ¬ (slice_get terms number ≡ Some term)) → None ≡ number_of_term terms term
    number_absent in_bucket in_order = none_by (number_of_term terms term) (λ number h. refuted number h)
      where
        refuted : (number : ℕ) → number_of_term terms term ≡ Some number → ⊥
        refuted number h =
            let at = position-Some (eq_by_cmp term_cmp term) terms number term h in
            let same : term ≡ get_or terms number term = (term_decides term (get_or terms number term)).0 at.1 in
            let own : slice_get terms number ≡ Some term = slice_get-get_or terms number term at.0 ∙ ap (λ t. Some t) (sym same) in
            elim (is.stands number term at.0 own) [
              | inl k ↦ in_bucket number (subst (λ (h : ℕ). HasSlot slots h number) (sym e) k) own
              | inr k ↦ in_order number (subst (λ (h : ℕ). Has places (record { hash = h; number = number })) (sym e) k) own
            ]

    -- where its bucket has room, none stands in order
    pub number_absent_open : ((number : ℕ) → HasSlot slots hash number → ¬ (slice_get terms number ≡ Some term)) → (place : ℕ) × IsVacancy slots hash place
        → None ≡ number_of_term terms term
    number_absent_open in_bucket room = number_absent in_bucket (λ number h own. is.full (record { hash = hash; number = number }) h room.0 room.1)

    pub number_in_order : ((number : ℕ) → HasSlot slots hash number → ¬ (slice_get terms number ≡ Some term)) → (result : Option ℕ)
        → FindsTerm terms term (λ number. Has places (record { hash = hash; number = number })) result → result ≡ number_of_term terms term
    number_in_order in_bucket None h = number_absent in_bucket h
    number_in_order in_bucket (Some number) h = number_found number h

-- ---- a term more

module _ (terms : List Term) (term : Term) where
  -- the texts of numbers that were hashed stay
  text_kept : (place : HashedNumber) → IsHashed terms place → term_text_at terms place.number ≡ term_text_at (terms ++ term ∷ []) place.number
  text_kept place h = ap hashed_term_text h.1 ∙ sym (ap hashed_term_text (get_old terms term h.0 place.number h.1))

  order_kept : (a b : HashedNumber) → IsHashed terms a → IsHashed terms b → hashed_cmp terms a b ≡ hashed_cmp (terms ++ term ∷ []) a b
  order_kept a b h k =
      ap (λ t. ordering_then (ordering_then (nat_cmp a.hash b.hash) (slice_cmp nat_cmp t (term_text_at terms b.number))) (nat_cmp a.number b.number)) (text_kept a h)
      ∙ ap (λ t. ordering_then (ordering_then (nat_cmp a.hash b.hash) (slice_cmp nat_cmp (term_text_at (terms ++ term ∷ []) a.number) t)) (nat_cmp a.number b.number)) (text_kept b k)

  -- so hashed numbers ascend among one term more
  pub ascend_more : (places : List HashedNumber) → ((place : HashedNumber) → Has places place → IsHashed terms place) → IsAscending (hashed_cmp terms) places
      → IsAscending (hashed_cmp (terms ++ term ∷ [])) places
  ascend_more [] h a = tt
  ascend_more (x ∷ places) h a = (
    below_from_members (hashed_cmp (terms ++ term ∷ [])) x places
        (λ y k. sym (order_kept x y (h x (inl refl)) (h y (inr k))) ∙ below_member (hashed_cmp terms) x places y a.0 k),
    ascend_more places (λ y k. h y (inr k)) a.1,
  )

-- an inserted term: it is there, or comes behind all others
pub inserted_old : (terms : List Term) (term : Term) (number : ℕ) → number_of_term terms term ≡ Some number → terms ≡ with_new_value (eq_by_cmp term_cmp) terms term
inserted_old terms term number h = sym (ap (λ b. if b then terms else terms ++ term ∷ []) (found_any (eq_by_cmp term_cmp term) terms number h))

pub inserted_new : (terms : List Term) (term : Term) → number_of_term terms term ≡ None → terms ++ term ∷ [] ≡ with_new_value (eq_by_cmp term_cmp) terms term
inserted_new terms term h = sym (ap (λ b. if b then terms else terms ++ term ∷ []) (absent_any (eq_by_cmp term_cmp term) terms h))
