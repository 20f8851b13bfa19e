-- Inserts are gone over in their order: what those that are passed break, and what the first does that breaks anything.
use Rattle.std.proofs.Common.{◌≢◌, ◌∙◌, ℕ, List, [], ◌∷◌, ◌⊎◌, refl, sym, ap, subst, inl, inr}
use Rattle.std.specs.declared.cmp.Ordering.TheVariants.{Greater}
use Rattle.rdf_terms.specs.declared.terms.Triple.{Triple}
use Rattle.rdf_terms.specs.Order.{triple_cmp}
use Rattle.tree_clock.specs.Lists.{Has, IsAscending}
use Rattle.mld_ops.specs.declared.tagged.Tagged.{Tagged}
use Rattle.mld_ops.specs.Breaches.{IsPresentAfter, Breaks, breach_cmp, BreaksNone, IsFirstBreach}
use Rattle.mld_ops.specs.Effects.{EffectValue}
use Rattle.mld_ops.proofs.AscendingLaws.{below_member}
use Rattle.single_value.specs.OtherValues.{IsOtherValue, HasOtherValue, SparesOther}
use Rattle.single_value.proofs.Neighbours.{not_above_itself, place_not_above, same_or_not}

module _ (properties : List (List ℕ)) (pairs : List Tagged) (effect : EffectValue) where
  -- an inserted triple breaks nothing of the properties
  abbrev pub IsHarmless : Triple → Type 0
  IsHarmless triple = Has properties triple.p → ¬ Breaks pairs effect triple.s triple.p

  -- the inserts are left to be looked at from here on, and those before break nothing
  pub record IsLeft (left : List Triple) : Type 0 where
    pub ascending : IsAscending triple_cmp left
    pub within : (triple : Triple) → Has left triple → Has effect.inserts triple
    pub passed : (triple : Triple) → Has effect.inserts triple → Has left triple ⊎ IsHarmless triple

  -- an inserted triple and another value that is present
  broken_by : (triple other : Triple) → Has effect.inserts triple → IsOtherValue triple other → IsPresentAfter pairs effect other
      → Breaks pairs effect triple.s triple.p
  broken_by triple other h is present = record {
    inserted = triple;
    inserts = h;
    inserted_is = record { subject_is = refl; property_is = refl };
    one = other;
    one_is = is.value;
    one_present = present;
    other = triple;
    other_is = record { subject_is = refl; property_is = refl };
    other_present = inr h;
    differ = is.differs;
  }

  -- of two values that differ one is another one than the triple
  other_present : (triple : Triple) → Breaks pairs effect triple.s triple.p → (other : Triple) × IsOtherValue triple other × IsPresentAfter pairs effect other
  other_present triple b = elim (same_or_not b.one.o triple.o) [
    | inl e ↦ (b.other, record { value = b.other_is; differs = λ f. b.differ (e ∙ sym f) }, b.other_present)
    | inr n ↦ (b.one, record { value = b.one_is; differs = n }, b.one_present)
  ]

  module _ (triple : Triple) (rest : List Triple) (left : IsLeft (triple ∷ rest)) where
    -- what the triple breaks: another value is spared, or is inserted behind it
    breaks_from : HasOtherValue rest triple ⊎ SparesOther pairs effect triple → Breaks pairs effect triple.s triple.p
    breaks_from (inl h) = broken_by triple h.other (left.within triple (inl refl)) h.is (inr (left.within h.other (inr h.there)))
    breaks_from (inr h) = broken_by triple h.other (left.within triple (inl refl)) h.is (inl h.spared)

    -- another value that was passed breaks the same, so there is none
    none_passed : Has properties triple.p → (other : Triple) → IsOtherValue triple other → Has effect.inserts other → IsHarmless other → ⊥
    none_passed single other is h harmless =
        harmless (subst (Has properties) (sym is.value.property_is) single)
        (broken_by other triple h (record {
          value = record { subject_is = sym is.value.subject_is; property_is = sym is.value.property_is };
          differs = λ e. is.differs (sym e);
        }) (inr (left.within triple (inl refl))))

    breaks_to : Has properties triple.p → Breaks pairs effect triple.s triple.p → HasOtherValue rest triple ⊎ SparesOther pairs effect triple
    breaks_to single b =
        let o = other_present triple b in
        elim o.2 [
          | inl spared ↦ inr (record { other = o.0; spared = spared; is = o.1 })
          | inr h ↦ elim (left.passed o.0 h) [
            | inl k ↦ elim k [
              | inl e ↦ absurd (o.1.differs (sym (ap (λ (t : Triple). t.o) e)))
              | inr m ↦ inl (record { other = o.0; there = m; is = o.1 })
            ]
            | inr harmless ↦ absurd (none_passed single o.0 o.1 h harmless)
          ]
        ]

    -- the triple is harmless where its property isn't single, or there is no other value
    pub harmless_by : ¬ (Has properties triple.p × (HasOtherValue rest triple ⊎ SparesOther pairs effect triple)) → IsHarmless triple
    harmless_by none single b = none (single, breaks_to single b)

    -- a harmless triple is passed
    pub left_behind : IsHarmless triple → IsLeft rest
    left_behind harmless = record {
      ascending = left.ascending.1;
      within = λ other h. left.within other (inr h);
      passed = λ other h. elim (left.passed other h) [
        | inl k ↦ elim k [ inl e ↦ inr (subst IsHarmless e harmless) | inr m ↦ inl m ]
        | inr other_harmless ↦ inr other_harmless
      ];
    }

    -- a later breach isn't before the triple's
    not_before : (subject property : List ℕ) → Has properties property → Breaks pairs effect subject property → breach_cmp (triple.s, triple.p) (subject, property) ≢ Greater
    not_before subject property single b =
        let at : (other : Triple) → Has (triple ∷ rest) other → breach_cmp (triple.s, triple.p) (other.s, other.p) ≢ Greater =
        λ other h. elim h [
          | inl e ↦ subst (λ (t : Triple). breach_cmp (triple.s, triple.p) (t.s, t.p) ≢ Greater) e (not_above_itself triple.s triple.p)
          | inr k ↦ place_not_above triple other (below_member triple_cmp triple rest other left.ascending.0 k)
        ] in
        let moved : breach_cmp (triple.s, triple.p) (b.inserted.s, b.inserted.p) ≢ Greater → breach_cmp (triple.s, triple.p) (subject, property) ≢ Greater =
        λ n. subst (λ s. breach_cmp (triple.s, triple.p) (s, property) ≢ Greater) b.inserted_is.subject_is
        (subst (λ p. breach_cmp (triple.s, triple.p) (b.inserted.s, p) ≢ Greater) b.inserted_is.property_is n) in
        elim (left.passed b.inserted b.inserts) [
          | inl h ↦ moved (at b.inserted h)
          | inr harmless ↦ absurd (harmless (subst (Has properties) (sym b.inserted_is.property_is) single)
              (subst (λ s. Breaks pairs effect s b.inserted.p) (sym b.inserted_is.subject_is)
              (subst (λ p. Breaks pairs effect subject p) (sym b.inserted_is.property_is) b)))
        ]

    -- the triple breaks first
    pub first_by : Has properties triple.p × (HasOtherValue rest triple ⊎ SparesOther pairs effect triple) → IsFirstBreach properties pairs effect (triple.s, triple.p)
    first_by h = record { single = h.0; breaks = breaks_from h.1; first = not_before }

  -- at first all are left
  pub all_left : IsAscending triple_cmp effect.inserts → IsLeft effect.inserts
  all_left ascending = record { ascending = ascending; within = λ triple h. h; passed = λ triple h. inl h }

  -- where none is left nothing is broken
  pub none_left : IsLeft [] → BreaksNone properties pairs effect
  none_left left subject property single b = elim (left.passed b.inserted b.inserts) [
    | inl h ↦ absurd h
    | inr harmless ↦ harmless (subst (Has properties) (sym b.inserted_is.property_is) single)
        (subst (λ s. Breaks pairs effect s b.inserted.p) (sym b.inserted_is.subject_is)
        (subst (λ p. Breaks pairs effect subject p) (sym b.inserted_is.property_is) b))
  ]
