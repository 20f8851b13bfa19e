-- Two ascending lists of pairs that are gone over side by side, and of which some pairs are kept.
use Rattle.std.proofs.Common.{◌≡◌, List, [], ◌∷◌, ◌++◌, ◌⊎◌, ◌↔◌, inl, inr, sym, subst}
use Rattle.std.specs.declared.cmp.Ordering.TheVariants.{Less}
use Rattle.tree_clock.specs.Lists.{Has, IsAscending}
use Rattle.mld_ops.specs.declared.tagged.Tagged.{Tagged}
use Rattle.mld_ops.specs.Tagged.{tagged_cmp}
use Rattle.mld_ops.proofs.TaggedLaws.{tagged_total}
use Rattle.mld_ops.proofs.AscendingLaws.{has_append, has_left, has_right, ascending_append, not_below_itself}
use Rattle.suset.specs.Walks.{IsLeastOf}

-- what is left of a list: of the pairs that are still to come, it has those that the list has
pub record IsLeft (coming : Tagged → Type 0) (pairs left : List Tagged) : Type 0 where
  pub ascending : IsAscending tagged_cmp left
  pub part : (pair : Tagged) → Has left pair → Has pairs pair
  pub whole : (pair : Tagged) → coming pair → Has pairs pair → Has left pair

-- the pair is still to come
abbrev pub Comes : List Tagged → List Tagged → Tagged → Type 0
Comes left right pair = Has left pair ⊎ Has right pair

-- so far the least pairs of two lists were taken, and those that are to be kept were kept
pub record IsWalking (Keep : Tagged → Type 0) (first second left right kept : List Tagged) : Type 0 where
  pub of_first : IsLeft (Comes left right) first left
  pub of_second : IsLeft (Comes left right) second right
  pub ascending : IsAscending tagged_cmp kept
  pub below : (x y : Tagged) → Has kept x → Comes left right y → tagged_cmp x y ≡ Less
  pub members : (x : Tagged) → (Has kept x ⊎ (Comes left right x × Keep x)) ↔ (Comes first second x × Keep x)

pub walking_begins : (Keep : Tagged → Type 0) (first second left right kept : List Tagged) → IsAscending tagged_cmp first → IsAscending tagged_cmp second
    → left ≡ first → right ≡ second → kept ≡ [] → IsWalking Keep first second left right kept
walking_begins Keep first second left right kept a b e f g = rw (e, f, g) (record {
  of_first = record { ascending = a; part = λ pair h. h; whole = λ pair c h. h };
  of_second = record { ascending = b; part = λ pair h. h; whole = λ pair c h. h };
  ascending = tt;
  below = λ x y h k. absurd h;
  members = λ x. (λ h. elim h [ inl k ↦ absurd k | inr k ↦ k ], λ h. inr h);
})

module _ (Keep : Tagged → Type 0) (first second left right kept : List Tagged) (w : IsWalking Keep first second left right kept)
    (pair : Tagged) (more rest : List Tagged) (t : IsLeastOf left right pair more rest) where
  -- what comes behind the step came before it
  came : (x : Tagged) → Comes more rest x → Comes left right x
  came x h = elim h [ inl k ↦ inl (t.of_left.part x k) | inr k ↦ inr (t.of_right.part x k) ]

  coming : (x : Tagged) → Comes left right x → (x ≡ pair) ⊎ Comes more rest x
  coming x h = elim h [
    | inl k ↦ elim (t.of_left.whole x k) [ inl e ↦ inl e | inr m ↦ inr (inl m) ]
    | inr k ↦ elim (t.of_right.whole x k) [ inl e ↦ inl e | inr m ↦ inr (inr m) ]
  ]

  not_again : (x : Tagged) → Comes more rest x → ¬ (x ≡ pair)
  not_again x h e = not_below_itself tagged_cmp tagged_total pair (t.below pair (subst (λ (v : Tagged). Comes more rest v) e h))

  left_of_first : IsLeft (Comes more rest) first more
  left_of_first = record {
    ascending = t.of_left.ascending;
    part = λ x h. w.of_first.part x (t.of_left.part x h);
    whole = λ x c h. elim (t.of_left.whole x (w.of_first.whole x (came x c) h)) [ inl e ↦ absurd (not_again x c e) | inr m ↦ m ];
  }

  left_of_second : IsLeft (Comes more rest) second rest
  left_of_second = record {
    ascending = t.of_right.ascending;
    part = λ x h. w.of_second.part x (t.of_right.part x h);
    whole = λ x c h. elim (t.of_right.whole x (w.of_second.whole x (came x c) h)) [ inl e ↦ absurd (not_again x c e) | inr m ↦ m ];
  }

  -- the pair is kept
  pub walking_keeps : Keep pair → IsWalking Keep first second more rest (kept ++ pair ∷ [])
  walking_keeps stays = record {
    of_first = left_of_first;
    of_second = left_of_second;
    ascending = ascending_append tagged_cmp kept (pair ∷ []) w.ascending (tt, tt) (λ x y h k. elim k [
      | inl e ↦ subst (λ (v : Tagged). tagged_cmp x v ≡ Less) e (w.below x pair h t.stands)
      | inr none ↦ absurd none
    ]);
    below = λ x y h k. elim (has_append kept (pair ∷ []) x h) [
      | inl n ↦ w.below x y n (came y k)
      | inr n ↦ elim n [ inl e ↦ subst (λ (v : Tagged). tagged_cmp v y ≡ Less) e (t.below y k) | inr none ↦ absurd none ]
    ];
    members = λ x. (
      λ h. (w.members x).0 (elim h [
        | inl k ↦ elim (has_append kept (pair ∷ []) x k) [
          | inl n ↦ inl n
          | inr n ↦ elim n [
            | inl e ↦ inr (subst (λ (v : Tagged). Comes left right v) e t.stands, subst Keep e stays)
            | inr none ↦ absurd none
          ]
        ]
        | inr k ↦ inr (came x k.0, k.1)
      ]),
      λ h. elim ((w.members x).1 h) [
        | inl n ↦ inl (has_left kept (pair ∷ []) x n)
        | inr n ↦ elim (coming x n.0) [ inl e ↦ inl (has_right kept (pair ∷ []) x (inl (sym e))) | inr k ↦ inr (k, n.1) ]
      ],
    );
  }

  -- the pair isn't kept
  pub walking_skips : ¬ Keep pair → IsWalking Keep first second more rest kept
  walking_skips goes = record {
    of_first = left_of_first;
    of_second = left_of_second;
    ascending = w.ascending;
    below = λ x y h k. w.below x y h (came y k);
    members = λ x. (
      λ h. (w.members x).0 (elim h [ inl k ↦ inl k | inr k ↦ inr (came x k.0, k.1) ]),
      λ h. elim ((w.members x).1 h) [
        | inl n ↦ inl n
        | inr n ↦ elim (coming x n.0) [ inl e ↦ absurd (goes (subst Keep e n.1)) | inr k ↦ inr (k, n.1) ]
      ],
    );
  }

-- both lists have ended
pub walking_ends : (Keep : Tagged → Type 0) (first second left right kept : List Tagged) → left ≡ [] → right ≡ [] → IsWalking Keep first second left right kept
    → (x : Tagged) → Has kept x ↔ (Comes first second x × Keep x)
walking_ends Keep first second left right kept e f w x = (
  λ h. (w.members x).0 (inl h),
  λ h. elim ((w.members x).1 h) [
    | inl k ↦ k
    | inr k ↦ elim k.0 [
      | inl m ↦ absurd (subst (λ (xs : List Tagged). Has xs x) e m)
      | inr m ↦ absurd (subst (λ (xs : List Tagged). Has xs x) f m)
    ]
  ],
)
