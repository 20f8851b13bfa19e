-- A list of pairs that is gone over beside another.
use Rattle.std.proofs.Common.{◌≡◌, ℕ, ◌≤◌, List, [], ◌∷◌, ◌++◌, length, Bool, true, false, IsTrue, ◌⊎◌, ◌↔◌, inl, inr, refl, sym, subst, arith}
use Rattle.std.proofs.lemmas.Bool.{true≢false, false≢true}
use Rattle.std.specs.declared.cmp.Ordering.TheVariants.{Less}
use Rattle.tree_clock.specs.Lists.{Has, IsAscending}
use Rattle.mld_ops.specs.declared.tagged.Tagged.{Tagged}
use Rattle.mld_ops.specs.Tagged.{tagged_cmp}
use Rattle.mld_ops.proofs.AscendingLaws.{has_append, has_left, has_right, below_member, ascending_append}
use Rattle.mld_ops.specs.AscendingPlaces.{AreBelow}
use Rattle.mld_ops.proofs.PlaceLaws.{below_later}
use Rattle.op_fusion.specs.FusionPairs.{IsAsWanted}

-- ---- whether a pair is as wanted

as_wanted : (stands wanted : Bool) (others : List Tagged) (pair : Tagged) → IsTrue stands ↔ Has others pair → stands ≡ wanted → IsAsWanted wanted others pair
as_wanted true true others pair d e = d.0 refl
as_wanted true false others pair d e = absurd (true≢false e)
as_wanted false true others pair d e = absurd (false≢true e)
as_wanted false false others pair d e = λ h. false≢true (d.1 h)

not_as_wanted : (stands wanted : Bool) (others : List Tagged) (pair : Tagged) → IsTrue stands ↔ Has others pair → ¬ (stands ≡ wanted) → ¬ IsAsWanted wanted others pair
not_as_wanted true true others pair d n = absurd (n refl)
not_as_wanted true false others pair d n = λ lacks. lacks (d.0 refl)
not_as_wanted false true others pair d n = λ h. false≢true (d.1 h)
not_as_wanted false false others pair d n = absurd (n refl)

-- ---- the loop

-- pairs were taken from the front of a list, and those that are as wanted were kept; before the place the others are below all that is left
pub record IsSifting (wanted : Bool) (others begun rest kept : List Tagged) (at : ℕ) : Type 0 where
  pub rest_ascends : IsAscending tagged_cmp rest
  pub kept_ascends : IsAscending tagged_cmp kept
  pub within : at ≤ length others
  pub below : (x y : Tagged) → Has kept x → Has rest y → tagged_cmp x y ≡ Less
  pub passed : (y : Tagged) → Has rest y → AreBelow others at y
  pub members : (x : Tagged) → (Has kept x ⊎ (Has rest x × IsAsWanted wanted others x)) ↔ (Has begun x × IsAsWanted wanted others x)

pub sifting_begins : (wanted : Bool) (others begun rest kept : List Tagged) → IsAscending tagged_cmp begun → rest ≡ begun → kept ≡ [] → IsSifting wanted others begun rest kept 0
sifting_begins wanted others begun rest kept a e f = rw (e, f) (record {
  rest_ascends = a;
  kept_ascends = tt;
  within = omega arith;
  below = λ x y h k. absurd h;
  passed = λ y k z h. absurd h;
  members = λ x. (λ h. elim h [ inl k ↦ absurd k | inr k ↦ k ], λ h. inr h);
})

module _ (wanted : Bool) (others begun rest more kept : List Tagged) (at next : ℕ) (pair : Tagged) (first : rest ≡ pair ∷ more)
    (s : IsSifting wanted others begun rest kept at) (within : next ≤ length others) (all : AreBelow others next pair) where
  was : IsSifting wanted others begun (pair ∷ more) kept at
  was = subst (λ (xs : List Tagged). IsSifting wanted others begun xs kept at) first s

  later : (y : Tagged) → Has more y → AreBelow others next y
  later y h = below_later others next pair y (below_member tagged_cmp pair more y was.rest_ascends.0 h) all

  sifting_keeps : IsAsWanted wanted others pair → IsSifting wanted others begun more (kept ++ pair ∷ []) next
  sifting_keeps w = record {
    rest_ascends = was.rest_ascends.1;
    kept_ascends = ascending_append tagged_cmp kept (pair ∷ []) was.kept_ascends (tt, tt) (λ x y h k. elim k [
      | inl e ↦ subst (λ (v : Tagged). tagged_cmp x v ≡ Less) e (was.below x pair h (inl refl))
      | inr none ↦ absurd none
    ]);
    within = within;
    below = λ x y h k. elim (has_append kept (pair ∷ []) x h) [
      | inl m ↦ was.below x y m (inr k)
      | inr m ↦ elim m [
        | inl e ↦ subst (λ (v : Tagged). tagged_cmp v y ≡ Less) e (below_member tagged_cmp pair more y was.rest_ascends.0 k)
        | inr none ↦ absurd none
      ]
    ];
    passed = later;
    members = λ x. (
      λ h. (was.members x).0 (elim h [
        | inl k ↦ elim (has_append kept (pair ∷ []) x k) [
          | inl m ↦ inl m
          | inr m ↦ elim m [ inl e ↦ inr (inl e, subst (λ (v : Tagged). IsAsWanted wanted others v) e w) | inr none ↦ absurd none ]
        ]
        | inr k ↦ inr (inr k.0, k.1)
      ]),
      λ h. elim ((was.members x).1 h) [
        | inl m ↦ inl (has_left kept (pair ∷ []) x m)
        | inr m ↦ elim m.0 [ inl e ↦ inl (has_right kept (pair ∷ []) x (inl e)) | inr k ↦ inr (k, m.1) ]
      ],
    );
  }

  sifting_skips : ¬ IsAsWanted wanted others pair → IsSifting wanted others begun more kept next
  sifting_skips n = record {
    rest_ascends = was.rest_ascends.1;
    kept_ascends = was.kept_ascends;
    within = within;
    below = λ x y h k. was.below x y h (inr k);
    passed = later;
    members = λ x. (
      λ h. (was.members x).0 (elim h [ inl m ↦ inl m | inr k ↦ inr (inr k.0, k.1) ]),
      λ h. elim ((was.members x).1 h) [
        | inl m ↦ inl m
        | inr m ↦ elim m.0 [ inl e ↦ absurd (n (subst (λ (v : Tagged). IsAsWanted wanted others v) (sym e) m.1)) | inr k ↦ inr (k, m.1) ]
      ],
    );
  }

-- before the place the others are below the pair that comes next
pub sifting_passed : (wanted : Bool) (others begun rest more kept : List Tagged) (at : ℕ) (pair : Tagged) → rest ≡ pair ∷ more → IsSifting wanted others begun rest kept at
    → AreBelow others at pair
sifting_passed wanted others begun rest more kept at pair first s = s.passed pair (subst (λ (xs : List Tagged). Has xs pair) (sym first) (inl refl))

-- a pair is kept or not, as it is wanted
bool_cases : (a b : Bool) → (a ≡ b) ⊎ (¬ (a ≡ b))
bool_cases true true = inl refl
bool_cases true false = inr true≢false
bool_cases false true = inr false≢true
bool_cases false false = inl refl

pub sifting_next : (wanted : Bool) (others begun rest more kept after : List Tagged) (at next : ℕ) (pair : Tagged) (stands : Bool) → rest ≡ pair ∷ more
    → IsSifting wanted others begun rest kept at → next ≤ length others → AreBelow others next pair → IsTrue stands ↔ Has others pair
    → (stands ≡ wanted → after ≡ kept ++ pair ∷ []) → (¬ (stands ≡ wanted) → after ≡ kept) → IsSifting wanted others begun more after next
sifting_next wanted others begun rest more kept after at next pair stands first s within all d same other =
    elim (bool_cases stands wanted) [
      | inl e ↦
          subst (λ (xs : List Tagged). IsSifting wanted others begun more xs next) (sym (same e))
          (sifting_keeps wanted others begun rest more kept at next pair first s within all (as_wanted stands wanted others pair d e))
      | inr n ↦
          subst (λ (xs : List Tagged). IsSifting wanted others begun more xs next) (sym (other n))
          (sifting_skips wanted others begun rest more kept at next pair first s within all (not_as_wanted stands wanted others pair d n))
    ]

-- nothing is left
pub sifting_ends : (wanted : Bool) (others given begun rest kept : List Tagged) (at : ℕ) → begun ≡ given → rest ≡ [] → IsSifting wanted others begun rest kept at
    → (x : Tagged) → Has kept x ↔ (Has given x × IsAsWanted wanted others x)
sifting_ends wanted others given begun rest kept at b e s x =
    let P : List Tagged → Type 0 = λ xs. IsSifting wanted others begun xs kept at in
    let Q : List Tagged → Type 0 = λ xs. IsSifting wanted others xs [] kept at in
    let was : IsSifting wanted others given [] kept at = subst Q b (subst P e s) in (
      λ h. (was.members x).0 (inl h),
      λ h. elim ((was.members x).1 h) [ inl k ↦ k | inr k ↦ absurd k.0 ],
    )
