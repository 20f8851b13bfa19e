-- Two ascending lists of pairs that become one.
use Rattle.std.proofs.Common.{◌≡◌, List, [], ◌∷◌, ◌++◌, Option, Some, None, IfSome, ◌⊎◌, ◌↔◌, inl, inr, refl, sym, ◌∙◌, subst}
use Rattle.std.specs.Option.{option_to_list}
use Rattle.std.specs.declared.cmp.Ordering.TheVariants.{Less, Equal, Greater}
use Rattle.tree_clock.specs.Lists.{Has, IsAscending}
use Rattle.mld_ops.specs.declared.tagged.Tagged.{Tagged}
use Rattle.mld_ops.specs.Tagged.{tagged_cmp}
use Rattle.mld_ops.proofs.TaggedLaws.{tagged_total, tagged_exact}
use Rattle.mld_ops.proofs.AscendingLaws.{has_append, has_left, has_right, below_member, ascending_append}
use Rattle.op_fusion.specs.FusionPairs.{first_cmp, TakesLeast}

turned : (a b : Tagged) → tagged_cmp a b ≡ Greater → tagged_cmp b a ≡ Less
turned a b h = let e = tagged_total.antisymm b a in cc

-- ---- the least pair

-- the first list begins with the lesser pair
least_left : (pair : Tagged) (more right : List Tagged) → IsAscending tagged_cmp (pair ∷ more) → IsAscending tagged_cmp right → first_cmp (pair ∷ more) right ≡ Less
    → TakesLeast (pair ∷ more) right pair more right
least_left pair more right a b h = record {
  left_ascends = a.1;
  right_ascends = b;
  below = λ other k. elim k [ inl m ↦ below_member tagged_cmp pair more other a.0 m | inr m ↦ across right b h other m ];
  members = λ other. (
    λ k. elim k [ inl m ↦ elim m [ inl e ↦ inl (sym e) | inr n ↦ inr (inl n) ] | inr m ↦ inr (inr m) ],
    λ k. elim k [ inl e ↦ inl (inl (sym e)) | inr m ↦ elim m [ inl n ↦ inl (inr n) | inr n ↦ inr n ] ],
  );
}
  where
    across : (right : List Tagged) → IsAscending tagged_cmp right → first_cmp (pair ∷ more) right ≡ Less → (other : Tagged) → Has right other → tagged_cmp pair other ≡ Less
    across [] b h other k = absurd k
    across (first ∷ right) b h other (inl e) = subst (λ (w : Tagged). tagged_cmp pair w ≡ Less) e h
    across (first ∷ right) b h other (inr k) = tagged_total.trans pair first other h (below_member tagged_cmp first right other b.0 k)

-- the second list does
least_right : (left : List Tagged) (pair : Tagged) (more : List Tagged) → IsAscending tagged_cmp left → IsAscending tagged_cmp (pair ∷ more) → first_cmp left (pair ∷ more) ≡ Greater
    → TakesLeast left (pair ∷ more) pair left more
least_right left pair more a b h = record {
  left_ascends = a;
  right_ascends = b.1;
  below = λ other k. elim k [ inl m ↦ across left a h other m | inr m ↦ below_member tagged_cmp pair more other b.0 m ];
  members = λ other. (
    λ k. elim k [ inl m ↦ inr (inl m) | inr m ↦ elim m [ inl e ↦ inl (sym e) | inr n ↦ inr (inr n) ] ],
    λ k. elim k [ inl e ↦ inr (inl (sym e)) | inr m ↦ elim m [ inl n ↦ inl n | inr n ↦ inr (inr n) ] ],
  );
}
  where
    across : (left : List Tagged) → IsAscending tagged_cmp left → first_cmp left (pair ∷ more) ≡ Greater → (other : Tagged) → Has left other → tagged_cmp pair other ≡ Less
    across [] a h other k = absurd k
    across (first ∷ left) a h other (inl e) = subst (λ (w : Tagged). tagged_cmp pair w ≡ Less) e (turned first pair h)
    across (first ∷ left) a h other (inr k) = tagged_total.trans pair first other (turned first pair h) (below_member tagged_cmp first left other a.0 k)

-- both begin with the same pair
least_both : (pair : Tagged) (left : List Tagged) (other : Tagged) (right : List Tagged) → IsAscending tagged_cmp (pair ∷ left) → IsAscending tagged_cmp (other ∷ right)
    → first_cmp (pair ∷ left) (other ∷ right) ≡ Equal → TakesLeast (pair ∷ left) (other ∷ right) pair left right
least_both pair left other right a b h =
    let same : pair ≡ other = tagged_exact pair other h in
    record {
      left_ascends = a.1;
      right_ascends = b.1;
      below = λ x k. elim k [
        | inl m ↦ below_member tagged_cmp pair left x a.0 m
        | inr m ↦ subst (λ (w : Tagged). tagged_cmp w x ≡ Less) (sym same) (below_member tagged_cmp other right x b.0 m)
      ];
      members = λ x. (
        λ k. elim k [
          | inl m ↦ elim m [ inl e ↦ inl (sym e) | inr n ↦ inr (inl n) ]
          | inr m ↦ elim m [ inl e ↦ inl (sym e ∙ sym same) | inr n ↦ inr (inr n) ]
        ],
        λ k. elim k [ inl e ↦ inl (inl (sym e)) | inr m ↦ elim m [ inl n ↦ inl (inr n) | inr n ↦ inr (inr n) ] ],
      );
    }

-- the first pair of a list, where it has one
pub some_left : (left right more : List Tagged) (r : Option Tagged) → left ≡ option_to_list r ++ more → IsAscending tagged_cmp left → IsAscending tagged_cmp right
    → first_cmp left right ≡ Less → IfSome r (λ pair. TakesLeast left right pair more right)
some_left left right more None e a b h = tt
some_left left right more (Some pair) e a b h =
    subst (λ (xs : List Tagged). TakesLeast xs right pair more right) (sym e)
    (least_left pair more right (subst (λ (xs : List Tagged). IsAscending tagged_cmp xs) e a) b (subst (λ (xs : List Tagged). first_cmp xs right ≡ Less) e h))

pub some_right : (left right more : List Tagged) (r : Option Tagged) → right ≡ option_to_list r ++ more → IsAscending tagged_cmp left → IsAscending tagged_cmp right
    → first_cmp left right ≡ Greater → IfSome r (λ pair. TakesLeast left right pair left more)
some_right left right more None e a b h = tt
some_right left right more (Some pair) e a b h =
    subst (λ (xs : List Tagged). TakesLeast left xs pair left more) (sym e)
    (least_right left pair more a (subst (λ (xs : List Tagged). IsAscending tagged_cmp xs) e b) (subst (λ (xs : List Tagged). first_cmp left xs ≡ Greater) e h))

pub some_both : (left right more rest : List Tagged) (r s : Option Tagged) → left ≡ option_to_list r ++ more → right ≡ option_to_list s ++ rest
    → IsAscending tagged_cmp left → IsAscending tagged_cmp right → first_cmp left right ≡ Equal → (s ≡ None → right ≡ []) → IfSome r (λ pair. TakesLeast left right pair more rest)
some_both left right more rest None s e f a b h n = tt
some_both left right more rest (Some pair) None e f a b h n =
    let g : first_cmp left [] ≡ Equal = subst (λ (xs : List Tagged). first_cmp left xs ≡ Equal) (n refl) h in
    let k : first_cmp (pair ∷ more) [] ≡ Equal = subst (λ (xs : List Tagged). first_cmp xs [] ≡ Equal) e g in
    cc
some_both left right more rest (Some pair) (Some other) e f a b h n =
    let P : List Tagged → Type 0 = λ xs. TakesLeast xs right pair more rest in
    let Q : List Tagged → Type 0 = λ xs. TakesLeast (pair ∷ more) xs pair more rest in
    subst P (sym e) (subst Q (sym f)
    (least_both pair more other rest (subst (λ (xs : List Tagged). IsAscending tagged_cmp xs) e a) (subst (λ (xs : List Tagged). IsAscending tagged_cmp xs) f b)
    (subst (λ (xs : List Tagged). first_cmp (pair ∷ more) xs ≡ Equal) f (subst (λ (xs : List Tagged). first_cmp xs right ≡ Equal) e h))))

-- ---- the loop

-- least pairs were taken from two lists, one after another
pub record IsMerging (begun_left begun_right left right merged : List Tagged) : Type 0 where
  pub left_ascends : IsAscending tagged_cmp left
  pub right_ascends : IsAscending tagged_cmp right
  pub merged_ascends : IsAscending tagged_cmp merged
  pub below : (x y : Tagged) → Has merged x → (Has left y ⊎ Has right y) → tagged_cmp x y ≡ Less
  pub members : (x : Tagged) → (Has merged x ⊎ Has left x ⊎ Has right x) ↔ (Has begun_left x ⊎ Has begun_right x)

pub merging_begins : (begun_left begun_right left right merged : List Tagged) → IsAscending tagged_cmp begun_left → IsAscending tagged_cmp begun_right
    → left ≡ begun_left → right ≡ begun_right → merged ≡ [] → IsMerging begun_left begun_right left right merged
merging_begins begun_left begun_right left right merged a b e f g = rw (e, f, g) (record {
  left_ascends = a;
  right_ascends = b;
  merged_ascends = tt;
  below = λ x y h k. absurd h;
  members = λ x. (λ h. elim h [ inl k ↦ absurd k | inr k ↦ k ], λ h. inr h);
})

pub merging_more : (begun_left begun_right left right merged more_left more_right : List Tagged) (pair : Tagged) → IsMerging begun_left begun_right left right merged
    → TakesLeast left right pair more_left more_right → IsMerging begun_left begun_right more_left more_right (merged ++ pair ∷ [])
merging_more begun_left begun_right left right merged more_left more_right pair m t = record {
  left_ascends = t.left_ascends;
  right_ascends = t.right_ascends;
  merged_ascends = ascending_append tagged_cmp merged (pair ∷ []) m.merged_ascends (tt, tt) (λ x y h k. elim k [
    | inl e ↦ subst (λ (v : Tagged). tagged_cmp x v ≡ Less) e (m.below x pair h ((t.members pair).1 (inl refl)))
    | inr none ↦ absurd none
  ]);
  below = λ x y h k. elim (has_append merged (pair ∷ []) x h) [
    | inl n ↦ m.below x y n ((t.members y).1 (inr k))
    | inr n ↦ elim n [ inl e ↦ subst (λ (v : Tagged). tagged_cmp v y ≡ Less) e (t.below y k) | inr none ↦ absurd none ]
  ];
  members = λ x. (
    λ h. (m.members x).0 (elim h [
      | inl k ↦ elim (has_append merged (pair ∷ []) x k) [
        | inl n ↦ inl n
        | inr n ↦ elim n [ inl e ↦ inr ((t.members x).1 (inl (sym e))) | inr none ↦ absurd none ]
      ]
      | inr k ↦ inr ((t.members x).1 (inr k))
    ]),
    λ h. elim ((m.members x).1 h) [
      | inl n ↦ inl (has_left merged (pair ∷ []) x n)
      | inr n ↦ elim ((t.members x).0 n) [ inl e ↦ inl (has_right merged (pair ∷ []) x (inl (sym e))) | inr k ↦ inr k ]
    ],
  );
}

pub merging_ends : (given_left given_right begun_left begun_right left right merged : List Tagged) → begun_left ≡ given_left → begun_right ≡ given_right → left ≡ [] → right ≡ []
    → IsMerging begun_left begun_right left right merged → (x : Tagged) → Has merged x ↔ (Has given_left x ⊎ Has given_right x)
merging_ends given_left given_right begun_left begun_right left right merged b d e f m x =
    let P : List Tagged → Type 0 = λ xs. IsMerging begun_left begun_right xs right merged in
    let Q : List Tagged → Type 0 = λ xs. IsMerging begun_left begun_right [] xs merged in
    let R : List Tagged → Type 0 = λ xs. IsMerging xs begun_right [] [] merged in
    let S : List Tagged → Type 0 = λ xs. IsMerging given_left xs [] [] merged in
    let was : IsMerging given_left given_right [] [] merged = subst S d (subst R b (subst Q f (subst P e m))) in (
      λ h. (was.members x).0 (inl h),
      λ h. elim ((was.members x).1 h) [ inl k ↦ k | inr k ↦ elim k [ inl n ↦ absurd n | inr n ↦ absurd n ] ],
    )
