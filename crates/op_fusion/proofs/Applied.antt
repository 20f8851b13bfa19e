-- Applied changes: there are pairs to which each one leads.
use Rattle.std.proofs.Common.{◌≡◌, List, [], ◌∷◌, ◌⊎◌, ◌↔◌, ◌∙◌, inl, inr, refl, sym, subst}
use Rattle.std.specs.Cmp.{IsTotalOrder}
use Rattle.std.specs.declared.cmp.Ordering.{Ordering}
use Rattle.std.specs.declared.cmp.Ordering.TheVariants.{Less, Equal, Greater}
use Rattle.tree_clock.specs.Lists.{Has, IsAscending}
use Rattle.mld_ops.specs.Applies.{Applies}
use Rattle.mld_ops.specs.Tagged.{tagged_cmp}
use Rattle.mld_ops.specs.declared.tagged.Tagged.{Tagged}
use Rattle.mld_ops.proofs.AscendingLaws.{below_member, below_from_members, below_all_after, not_below_itself}
use Rattle.mld_ops.proofs.TaggedLaws.{tagged_total, tagged_exact}

-- what is above another value has it below
turned : {X : Type 0} (R : X → X → Ordering) → IsTotalOrder R → (x y : X) → R x y ≡ Greater → R y x ≡ Less
turned R total x y h = let e = total.antisymm y x in cc

-- two pairs are the same or not
same_or_not : (x y : Tagged) (o : Ordering) → tagged_cmp x y ≡ o → (x ≡ y) ⊎ ¬ (x ≡ y)
same_or_not x y Equal h = inl (tagged_exact x y h)
same_or_not x y Less h = inr (λ e. not_below_itself tagged_cmp tagged_total x (subst (λ w. tagged_cmp x w ≡ Less) (sym e) h))
same_or_not x y Greater h =
    inr (λ e. not_below_itself tagged_cmp tagged_total x (subst (λ w. tagged_cmp w x ≡ Less) (sym e) (turned tagged_cmp tagged_total x y h)))

-- a list has a pair or not
has_or_not : (xs : List Tagged) (x : Tagged) → Has xs x ⊎ ¬ Has xs x
has_or_not [] x = inr (λ h. h)
has_or_not (y ∷ xs) x = elim (same_or_not y x (tagged_cmp y x) refl) [
  | inl e ↦ inl (inl e)
  | inr n ↦ elim (has_or_not xs x) [
    | inl h ↦ inl (inr h)
    | inr m ↦ inr (λ h. elim h [ inl e ↦ n e | inr k ↦ m k ])
  ]
]

-- pairs without those of a list
record Without (drops xs ys : List Tagged) : Type 0 where
  ascending : IsAscending tagged_cmp ys
  members : (pair : Tagged) → Has ys pair ↔ (Has xs pair × ¬ Has drops pair)

without : (drops xs : List Tagged) → IsAscending tagged_cmp xs → (ys : List Tagged) × Without drops xs ys
without drops [] a = ([], record { ascending = tt; members = λ pair. (λ h. absurd h, λ h. absurd h.0) })
without drops (x ∷ xs) a =
    let rest = without drops xs a.1 in
    let is : Without drops xs rest.0 = rest.1 in
    elim (has_or_not drops x) [
      | inl gone ↦ (
        rest.0,
        record {
          ascending = is.ascending;
          members = λ pair. (
            λ h. let k = (is.members pair).0 h in (inr k.0, k.1),
            λ h. (is.members pair).1 (elim h.0 [ inl e ↦ absurd (h.1 (subst (λ w. Has drops w) e gone)) | inr k ↦ k ], h.1),
          );
        },
      )
      | inr stays ↦ (
        x ∷ rest.0,
        record {
          ascending = (below_from_members tagged_cmp x rest.0 (λ y h. below_member tagged_cmp x xs y a.0 ((is.members y).0 h).0), is.ascending);
          members = λ pair. (
            λ h. elim h [
              | inl e ↦ (inl e, subst (λ w. ¬ Has drops w) e stays)
              | inr k ↦ let m = (is.members pair).0 k in (inr m.0, m.1)
            ],
            λ h. elim h.0 [ inl e ↦ inl e | inr k ↦ inr ((is.members pair).1 (k, h.1)) ],
          );
        },
      )
    ]

-- pairs with one more
record WithOne (x : Tagged) (xs ys : List Tagged) : Type 0 where
  ascending : IsAscending tagged_cmp ys
  members : (pair : Tagged) → Has ys pair ↔ (Has xs pair ⊎ (pair ≡ x))

put_at : (x y : Tagged) (xs : List Tagged) (o : Ordering) → tagged_cmp x y ≡ o → IsAscending tagged_cmp (y ∷ xs)
    → (rest : List Tagged) → WithOne x xs rest → (ys : List Tagged) × WithOne x (y ∷ xs) ys
put_at x y xs Less h a rest is = (
  x ∷ y ∷ xs,
  record {
    ascending = ((h, below_all_after tagged_cmp tagged_total x y xs h a.0), a);
    members = λ pair. (
      λ k. elim k [ inl e ↦ inr (sym e) | inr m ↦ inl m ],
      λ k. elim k [ inl m ↦ inr m | inr e ↦ inl (sym e) ],
    );
  },
)
put_at x y xs Equal h a rest is =
    let same : x ≡ y = tagged_exact x y h in (
      y ∷ xs,
      record {
        ascending = a;
        members = λ pair. (
          λ k. inl k,
          λ k. elim k [ inl m ↦ m | inr e ↦ inl (sym (e ∙ same)) ],
        );
      },
    )
put_at x y xs Greater h a rest is =
    let before : tagged_cmp y x ≡ Less = turned tagged_cmp tagged_total x y h in (
      y ∷ rest,
      record {
        ascending = (
          below_from_members tagged_cmp y rest (λ z k. elim ((is.members z).0 k) [
            | inl m ↦ below_member tagged_cmp y xs z a.0 m
            | inr e ↦ subst (λ w. tagged_cmp y w ≡ Less) (sym e) before
          ]),
          is.ascending,
        );
        members = λ pair. (
          λ k. elim k [
            | inl e ↦ inl (inl e)
            | inr m ↦ elim ((is.members pair).0 m) [ inl n ↦ inl (inr n) | inr e ↦ inr e ]
          ],
          λ k. elim k [
            | inl m ↦ elim m [ inl e ↦ inl e | inr n ↦ inr ((is.members pair).1 (inl n)) ]
            | inr e ↦ inr ((is.members pair).1 (inr e))
          ],
        );
      },
    )

with_one : (x : Tagged) (xs : List Tagged) → IsAscending tagged_cmp xs → (ys : List Tagged) × WithOne x xs ys
with_one x [] a = (
  x ∷ [],
  record {
    ascending = (tt, tt);
    members = λ pair. (
      λ k. elim k [ inl e ↦ inr (sym e) | inr m ↦ absurd m ],
      λ k. elim k [ inl m ↦ absurd m | inr e ↦ inl (sym e) ],
    );
  },
)
with_one x (y ∷ xs) a = let rest = with_one x xs a.1 in put_at x y xs (tagged_cmp x y) refl a rest.0 rest.1

-- pairs with those of a list
record WithAll (adds xs ys : List Tagged) : Type 0 where
  ascending : IsAscending tagged_cmp ys
  members : (pair : Tagged) → Has ys pair ↔ (Has xs pair ⊎ Has adds pair)

with_all : (adds xs : List Tagged) → IsAscending tagged_cmp xs → (ys : List Tagged) × WithAll adds xs ys
with_all [] xs a = (xs, record { ascending = a; members = λ pair. (λ h. inl h, λ h. elim h [ inl k ↦ k | inr k ↦ absurd k ]) })
with_all (x ∷ adds) xs a =
    let one = with_one x xs a in
    let is : WithOne x xs one.0 = one.1 in
    let all = with_all adds one.0 is.ascending in
    let are : WithAll adds one.0 all.0 = all.1 in (
      all.0,
      record {
        ascending = are.ascending;
        members = λ pair. (
          λ h. elim ((are.members pair).0 h) [
            | inl k ↦ elim ((is.members pair).0 k) [ inl m ↦ inl m | inr e ↦ inr (inl (sym e)) ]
            | inr k ↦ inr (inr k)
          ],
          λ h. (are.members pair).1 (elim h [
            | inl k ↦ inl ((is.members pair).1 (inl k))
            | inr k ↦ elim k [ inl e ↦ inl ((is.members pair).1 (inr (sym e))) | inr m ↦ inr m ]
          ]),
        );
      },
    )

-- what a change leaves of ascending pairs
pub applied : (drops adds old : List Tagged) → IsAscending tagged_cmp old → (new : List Tagged) × Applies drops adds old new
applied drops adds old a =
    let kept = without drops old a in
    let is : Without drops old kept.0 = kept.1 in
    let all = with_all adds kept.0 is.ascending in
    let are : WithAll adds kept.0 all.0 = all.1 in (
      all.0,
      record {
        ascending = are.ascending;
        members = λ pair. (
          λ h. elim ((are.members pair).0 h) [ inl k ↦ inl ((is.members pair).0 k) | inr k ↦ inr k ],
          λ h. (are.members pair).1 (elim h [ inl k ↦ inl ((is.members pair).1 k) | inr k ↦ inr k ]),
        );
      },
    )
